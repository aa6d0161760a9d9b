-- Effect records: those of a list of commands, their places, and a loop that writes them one by one. Assumes nothing.
use Prim.Native.Nat.{ℕ, zero, suc, ◌+◌, ◌*◌, ◌≤◌, ◌<◌}
use mathlib.Core.Path.{◌≡◌, refl, sym, ap, ap₂, ◌∙◌}
use mathlib.Core.Bool.{Bool, false, ◌||◌, or-false}
use mathlib.Core.List.{List, [], ◌∷◌, ◌++◌, append_assoc, append-nil}
use native.Mathlib.Nat.{suc-mul, le_antisymm}
use native.Mathlib.Omega.{arith}
use lib.ListN.{length, set, drop, length-append, length-drop, drop_of_length-le}
use lib.Seq.{drop_at}
use borrow.Rule.Slice.PartMut.{put_mid}
use Rattle.table_rows.specs.Rows.{row, put, rows_of, over}
use Rattle.table_rows.specs.Lists.{up_to, any_of}
use Rattle.table_rows.proofs.ListLaws.{up_to_next, any_last}
use Rattle.table_rows.proofs.RunLaws.{over_length, run_next, run_row}
use Rattle.confidential_hart_remote_command.specs.declared.ConfidentialHartRemoteCommand.{ConfidentialHartRemoteCommand}
use Rattle.confidential_hart_remote_command.specs.Command.{command_words}
use Rattle.remote_commands.specs.Queue.{count, command_at, commands}
use Rattle.remote_commands.proofs.QueueLaws.{part_push}
use Rattle.effects.specs.Effects.{effect_words, effect_of, effects_of, is_shutdown, shuts_down}

-- ---- no command, and one

-- no command leaves the room as it was
pub no_effects : (hart : ℕ) (e : List ℕ) → over (effects_of hart []) e ≡ e
unfolding effects_of
no_effects hart e = refl

-- and powers nothing off
pub shuts_down_none : shuts_down [] ≡ false
unfolding shuts_down any_of
shuts_down_none = refl

-- a lone command puts its record in the first place
pub one_effect : (hart : ℕ) (c : ConfidentialHartRemoteCommand) (e : List ℕ)
    → put effect_words e 0 (effect_of hart c) ≡ over (effects_of hart (c ∷ [])) e
unfolding effects_of put
one_effect hart c e = refl

-- and powers the hart off when it is a shutdown request
pub shuts_down_one : (c : ConfidentialHartRemoteCommand) → shuts_down (c ∷ []) ≡ is_shutdown c
unfolding shuts_down any_of
shuts_down_one c = or-false (is_shutdown c)

-- ---- the records of commands

module _ (hart : ℕ) where
  -- a command that is done last has the last record
  pub effects_last : (cs : List ConfidentialHartRemoteCommand) (c : ConfidentialHartRemoteCommand)
      → effects_of hart (cs ++ (c ∷ [])) ≡ effects_of hart cs ++ effect_of hart c
  unfolding effects_of
  effects_last [] c = refl
  effects_last (d ∷ cs) c =
      ap (λ (l : List ℕ). effect_of hart d ++ l) (effects_last cs c) ∙ sym (append_assoc (effect_of hart d) (effects_of hart cs) (effect_of hart c))

  -- as many records as commands
  pub effects_length : (cs : List ConfidentialHartRemoteCommand) → length (effects_of hart cs) ≡ length cs * effect_words
  unfolding effects_of
  effects_length [] = refl
  effects_length (c ∷ cs) = simp length-append (omega (arith, effects_length cs, suc-mul (length cs) effect_words))

  -- room that is long enough stays as long
  pub over_as_long : (cs : List ConfidentialHartRemoteCommand) (e : List ℕ) → length cs * effect_words ≤ length e
      → length (over (effects_of hart cs) e) ≡ length e
  over_as_long cs e fits = over_length (effects_of hart cs) e (omega (arith, effects_length cs))

  -- the room past the records is as it was
  pub over_kept : (cs : List ConfidentialHartRemoteCommand) (e : List ℕ)
      → drop (length cs * effect_words) (over (effects_of hart cs) e) ≡ drop (length cs * effect_words) e
  over_kept cs e =
      let r = effects_of hart cs in
      drop_at r (drop (length r) e) (length cs * effect_words) (effects_length cs) ∙ ap (λ (n : ℕ). drop n e) (effects_length cs)

  module _ (f : ℕ → ConfidentialHartRemoteCommand) where
    -- the records of commands that f gives are rows
    effects_rows : (n : ℕ) → effects_of hart (up_to f n) ≡ rows_of (λ i. effect_of hart (f i)) n
    unfolding effects_of up_to rows_of
    effects_rows zero = refl
    effects_rows (suc n) = effects_last (up_to f n) (f n) ∙ ap (λ (l : List ℕ). l ++ effect_of hart (f n)) (effects_rows n)

    -- record i is that of command i
    pub effect_of_lem : (e : List ℕ) (i n : ℕ) → i < n → row effect_words (over (effects_of hart (up_to f n)) e) i ≡ effect_of hart (f i)
    effect_of_lem e i n l =
        let r = effects_of hart (up_to f n) in
        ap (λ (l : List ℕ). row effect_words (l ++ drop (length r) e) i) (effects_rows n)
        ∙ run_row effect_words (λ j. effect_of hart (f j)) (λ j. refl) n (drop (length r) e) i l

    -- one more record put in its place
    effects_put : (e : List ℕ) (i : ℕ)
        → put effect_words (over (effects_of hart (up_to f i)) e) i (effect_of hart (f i)) ≡ over (effects_of hart (up_to f (i + 1))) e
    effects_put e i =
        ap (λ (l : List ℕ). put effect_words (over l e) i (effect_of hart (f i))) (effects_rows i)
        ∙ run_next effect_words (λ j. effect_of hart (f j)) (λ j. refl) e i
        ∙ ap (λ (l : List ℕ). over l e) (sym (effects_rows (i + 1)))

    -- the first i commands that f gives are done in the room e: off says whether one shuts the hart down, and s is the room with their records
    abbrev pub Did : List ℕ → ℕ → Bool → List ℕ → Type 0
    Did e i off s = (off ≡ shuts_down (up_to f i)) × (s ≡ over (effects_of hart (up_to f i)) e)

    -- a loop that does them: none yet, one more, and all
    pub did_none : (e : List ℕ) → Did e 0 false e
    unfolding effects_of shuts_down any_of up_to
    did_none e = (refl, refl)

    pub did_next : (e : List ℕ) {i : ℕ} {off r : Bool} {s s' : List ℕ} {c : ConfidentialHartRemoteCommand} → Did e i off s → c ≡ f i
        → (r ≡ is_shutdown c) × (s' ≡ put effect_words s i (effect_of hart c)) → Did e (i + 1) (off || r) s'
    unfolding shuts_down
    did_next e {i} {off} {r} {s} {s'} {c} d read done = (
      ap₂ ◌||◌ d.0 (done.0 ∙ ap is_shutdown read)
          ∙ sym (any_last is_shutdown (f i) (up_to f i))
          ∙ ap (any_of is_shutdown) (sym (up_to_next f i)),
      done.1
          ∙ ap₂ (λ (l : List ℕ) (x : ConfidentialHartRemoteCommand). put effect_words l i (effect_of hart x)) d.1 read
          ∙ effects_put e i,
    )

    pub did_all : (e : List ℕ) {i n : ℕ} {off : Bool} {s : List ℕ} → Did e i off s → i ≤ n → n ≤ i → Did e n off s
    did_all e {i} {n} {off} {s} d l g = rw (le_antisymm l g) at d

  -- the same of the commands of a queue
  pub effect_at : (q e : List ℕ) (i : ℕ) → i < count q
      → row effect_words (over (effects_of hart (commands q)) e) i ≡ effect_of hart (command_at q i)
  unfolding commands
  effect_at q e i l = effect_of_lem (command_at q) e i (count q) l

-- ---- a record written to its words: the command's lent as a part, and then the hart's number

pub record_written : (hart : ℕ) (ws : List ℕ) {ys zs : List ℕ} → length ws ≡ effect_words → ys ≡ zs
    → set (put_mid 1 command_words ws ys) 0 hart ≡ hart ∷ zs
unfolding put
record_written hart ws {ys} {zs} long e =
    part_push command_words ws 0 ys hart (omega arith)
    ∙ ap (λ (l : List ℕ). hart ∷ (ys ++ l)) (drop_of_length-le (drop 1 ws) {i = command_words} (simp length-drop (omega arith)))
    ∙ ap (λ (l : List ℕ). hart ∷ l) (append-nil ys ∙ e)
