-- What the functions of `held_hart` leave, over plain lists: the rows after commands were done, and a queue that is a part of its table; and that
-- sound tables have what they ask for. Assumes nothing.
use Prim.Native.Nat.{ℕ, ◌+◌, ◌-◌, ◌*◌, ◌≤◌, ◌<◌}
use mathlib.Core.Path.{◌≡◌, refl, sym, ap, ◌∙◌}
use mathlib.Core.Bool.{Bool, true, false}
use mathlib.Core.List.{List, [], ◌∷◌}
use native.Mathlib.Omega.{arith}
use lib.ListN.{length, take, drop, get_or}
use Rattle.table_rows.specs.Rows.{row, put, over}
use Rattle.table_rows.specs.Choice.{pick}
use Rattle.table_rows.proofs.PickLaws.{yes, no}
use Rattle.table_rows.proofs.RowLaws.{row_word}
use Rattle.table_rows.proofs.PartLaws.{part_row}
use Rattle.confidential_hart_remote_command.specs.declared.ConfidentialHartRemoteCommand.{ConfidentialHartRemoteCommand}
use Rattle.confidential_hart_remote_command.specs.Selection.{selects}
use Rattle.remote_commands.specs.Queue.{max_commands, queue_words, count, commands}
use Rattle.remote_commands.proofs.OfferLaws.{commands_length, well_formed_count}
use Rattle.effects.specs.Effects.{effect_words, effect_of, effects_of, is_shutdown, shuts_down}
use Rattle.effects.proofs.EffectLaws.{no_effects, one_effect, shuts_down_none, shuts_down_one}
use Rattle.confidential_hart.specs.Hart.{is_dummy}
use Rattle.confidential_hart.specs.Transition.{after_off}
use Rattle.hart_rows.specs.HartRows.{hart_words, hart_at, to_words}
use Rattle.monitor_requests.specs.Tables.{Tables, harts, hardware_harts, hardware_hart, queue, sound}
use Rattle.monitor_requests.proofs.SoundLaws.{sound_facts, sound_sized, held_names}
use Rattle.monitor_requests.proofs.MoveLaws.{hardware_fits}
use Rattle.monitor_requests.specs.Requests.{did_rows, own_commands, held_id}
use Rattle.monitor_requests.proofs.DoingLaws.{queue_fits}

-- the rows once row k is powered off or not, as commands say
pub did_rows_lem : (cs : List ConfidentialHartRemoteCommand) (rows : List ℕ) (k : ℕ) {off : Bool} {after : List ℕ} → off ≡ shuts_down cs
    → after ≡ pick off (put hart_words rows k (to_words (after_off (hart_at rows k)).hart)) rows
    → after ≡ did_rows cs rows k
unfolding did_rows
did_rows_lem cs rows k told e = e ∙ ap (λ (b : Bool). pick b (put hart_words rows k (to_words (after_off (hart_at rows k)).hart)) rows) told

-- ---- a command that its sender does

module _ (c : ConfidentialHartRemoteCommand) (h : ℕ) where
  -- none, if it is not selected
  own_passed : selects c h ≡ false → own_commands c h ≡ []
  unfolding own_commands
  own_passed e = sym (no _ e refl)

  -- else the command alone
  own_selected : selects c h ≡ true → own_commands c h ≡ c ∷ []
  unfolding own_commands
  own_selected e = sym (yes _ e refl)

  module _ (rows : List ℕ) (k : ℕ) (room : List ℕ) where
    -- a count, rows and a room as they are once hart h has done its own commands
    abbrev pub DidOwn : ℕ → List ℕ → List ℕ → Type 0
    DidOwn n after written =
        (n ≡ length (own_commands c h)) × (after ≡ did_rows (own_commands c h) rows k) × (written ≡ over (effects_of h (own_commands c h)) room)

    -- a sender that is not selected leaves all as it was
    pub own_none : selects c h ≡ false → DidOwn 0 rows room
    own_none e = rw (own_passed e) (refl, did_rows_lem [] rows k (sym shuts_down_none) (no _ refl refl), sym (no_effects h room))

    -- one that is selected does the command
    pub own_one : selects c h ≡ true → {off : Bool} {after written : List ℕ} → off ≡ is_shutdown c
        → after ≡ pick off (put hart_words rows k (to_words (after_off (hart_at rows k)).hart)) rows
        → written ≡ put effect_words room 0 (effect_of h c)
        → DidOwn 1 after written
    own_one e told done wrote =
        rw (own_selected e) (refl, did_rows_lem (c ∷ []) rows k (told ∙ sym (shuts_down_one c)) done, wrote ∙ one_effect h c room)

-- ---- a queue that is a part of its table

module _ (queues : List ℕ) (h : ℕ) where
  -- the part's count
  pub part_count : count (take (h * queue_words + queue_words - h * queue_words) (drop (h * queue_words) queues)) ≡ count (row queue_words queues h)
  part_count = ap count (part_row queue_words queues h)

  -- the word that is read for it
  pub count_word : get_or queues (h * queue_words) 0 ≡ length (commands (row queue_words queues h))
  count_word =
      let first : h * queue_words + 0 ≡ h * queue_words = omega arith in
      sym (commands_length (row queue_words queues h) ∙ row_word queue_words queues h 0 (omega arith) ∙ ap (λ (i : ℕ). get_or queues i 0) first)

-- ---- a hart that is held in sound tables, and the room for its effects

-- what `execute_queued` asks for
pub held_fits : (t : Tables) → sound t ≡ true → (k : ℕ) → k < hardware_harts t → is_dummy (hardware_hart t k) ≡ false → {h : ℕ} → h ≡ held_id t k
    → (room : List ℕ) → max_commands * effect_words ≤ length room
    → (k * hart_words + hart_words ≤ length t.hardware) × (h * queue_words + queue_words ≤ length t.queues) × (count (queue t h) ≤ max_commands) × (max_commands * effect_words ≤ length room)
held_fits t s k there real {h} named room enough =
    let below : h < harts t = omega (arith, (held_names t s k there real).there) in (
      hardware_fits t (sound_sized t s) k there,
      queue_fits t s h below h below,
      well_formed_count (queue t h) ((sound_facts t s).queue_formed h below),
      enough,
    )
