-- What a queue holds after an offer, and after it was emptied. Assumes nothing.
use borrow.Author.Rules.{rules}
use mathlib.Core.Path.{◌≡◌, refl, sym, ap, ap₂, ◌∙◌}
use mathlib.Core.Bool.{true, false, not}
use mathlib.Core.Logic.{inr, ⊎_elim}
use mathlib.Core.List.Memᴰ
use mathlib.Core.List.{List, [], ◌∷◌, ◌++◌, Memᴰ}
use Prim.Native.Nat.{ℕ, zero, suc, ◌+◌, ◌*◌, ◌≤◌, ◌<◌}
use native.Mathlib.Nat.{le_refl, eq-or-lt_of_le, le_of_suc-le-suc}
use native.Mathlib.Numerals.{add-one}
use native.Mathlib.Omega.{arith}
use lib.ListN.{length, get_or, drop, replicate, length-drop, length-replicate, get_or-eq_default}
use lib.Seq.{get_or-drop}
use lib.Dec.{leb, eqb}
use borrow.Author.Tests.{le-leb, lt-leb, leb-true, leb-false, eq-eqb, eqb-true, not-true}
use Rattle.std.proofs.Common.{Ok, Err}
use Rattle.error.specs.declared.Error.TheVariants.{ReachedMaxNumberOfRemoteCommands}
use Rattle.table_rows.specs.Choice.{pick, every, all_zero, exists}
use Rattle.table_rows.specs.Lists.{up_to, any_of}
use Rattle.table_rows.proofs.PickLaws.{yes, no, by_pick, by_test, and_left, and_right, and_both, not_yes}
use Rattle.table_rows.proofs.EveryLaws.{every_at, every_of, every_more}
use Rattle.table_rows.proofs.ListLaws.{up_to_length, up_to_same, any_up_to}
use Rattle.table_rows.proofs.RowLaws.{put_length, row_put_same, row_put_other, put_elsewhere}
use Rattle.table_rows.proofs.ZeroLaws.{zeros_all_zero, all_zero_zeros}
use Rattle.confidential_hart_remote_command.specs.declared.ConfidentialHartRemoteCommand.{ConfidentialHartRemoteCommand}
use Rattle.confidential_hart_remote_command.specs.Command.{well_formed, same, command_words, from_words, to_words}
use Rattle.remote_commands.specs.Queue.{max_commands, queue_words, count, places, command_at, commands, queued, distinct, queue_well_formed, pushed, emptied, with_offered, Offer, offer, offered}
use Rattle.table_rows.proofs.ExistsLaws.{exists_of, none_of, exists_none, exists_at}
use Rattle.confidential_hart_remote_command.proofs.CommandLaws.{same_refl, same_eq}

-- ---- words that are all 0

zero_at : (s : List ℕ) → all_zero s ≡ true → (i : ℕ) → get_or s i 0 ≡ 0
unfolding all_zero
zero_at s e i =
    by_test (leb (length s) i) (λ p. get_or-eq_default s 0 (leb-true _ _ p))
    (λ p. eqb-true _ _ (every_at (λ j. eqb (get_or s j 0) 0) i (length s) e (leb-false _ _ p)))

zero_of : (s : List ℕ) → ((i : ℕ) → get_or s i 0 ≡ 0) → all_zero s ≡ true
unfolding all_zero
zero_of s h = every_of (λ j. eqb (get_or s j 0) 0) (length s) (λ i l. eq-eqb _ _ (h i))

-- ---- the list of commands

module _ (f : ℕ → ConfidentialHartRemoteCommand) where
  up_to_has : (i n : ℕ) → i < n → Memᴰ (f i) (up_to f n)
  unfolding up_to
  up_to_has i zero l = absurd (omega arith)
  up_to_has i (suc n) l =
      ⊎_elim (λ e. Memᴰ.append_right (up_to f n) (Memᴰ.head (ap f e)))
      (λ b. Memᴰ.append_left (f n ∷ []) (up_to_has i n b))
      (eq-or-lt_of_le (le_of_suc-le-suc l))

  up_to_at : (x : ConfidentialHartRemoteCommand) (n : ℕ) → Memᴰ x (up_to f n) → (i : ℕ) × (i < n) × (x ≡ f i)
  unfolding up_to
  up_to_at x zero m = absurd (Memᴰ.not-nil m)
  up_to_at x (suc n) m =
      ⊎_elim (λ a. let w = up_to_at x n a in (w.0, omega arith, w.2))
      (λ b. (n, le_refl (suc n), Memᴰ.eq_of_singleton b))
      (Memᴰ.append_cases (up_to f n) m)

-- there are as many as the count says
pub commands_length : (q : List ℕ) → length (commands q) ≡ count q
unfolding commands
commands_length q = up_to_length (command_at q) (count q)

-- c is queued exactly when one of them equals it
pub queued_any : (q : List ℕ) (c : ConfidentialHartRemoteCommand) → queued q c ≡ any_of (λ d. same d c) (commands q)
unfolding queued commands
queued_any q c = sym (any_up_to (λ d. same d c) (command_at q) (count q))

-- a command is queued exactly when it is one of them
pub queued_member : (q : List ℕ) (c : ConfidentialHartRemoteCommand) → queued q c ≡ true → Memᴰ c (commands q)
unfolding queued commands
queued_member q c e =
    let w = exists_at (λ i. same (command_at q i) c) (count q) e in
    rw (same_eq (command_at q w.0) c w.2) at (up_to_has (command_at q) w.0 (count q) w.1)

pub member_queued : (q : List ℕ) (c : ConfidentialHartRemoteCommand) → Memᴰ c (commands q) → queued q c ≡ true
unfolding queued commands
member_queued q c m =
    let w = up_to_at (command_at q) c (count q) m in
    exists_of (λ i. same (command_at q i) c) w.0 (count q) w.1 (rw (← w.2) (same_refl c))

-- ---- what well formed tells

pub well_formed_count : (q : List ℕ) → queue_well_formed q ≡ true → count q ≤ max_commands
unfolding queue_well_formed
well_formed_count q e = leb-true _ _ (and_left (leb (count q) max_commands) _ e)

pub well_formed_at : (q : List ℕ) → queue_well_formed q ≡ true → (i : ℕ) → i < count q → well_formed (command_at q i) ≡ true
unfolding queue_well_formed
well_formed_at q e i l =
    every_at (λ j. well_formed (command_at q j)) i (count q)
    (and_left (every (λ j. well_formed (command_at q j)) (count q)) _ (and_right (leb (count q) max_commands) _ e)) l

well_formed_rest : (q : List ℕ) → queue_well_formed q ≡ true → all_zero (drop (count q * command_words) (places q)) ≡ true
unfolding queue_well_formed
well_formed_rest q e =
    and_right (every (λ j. well_formed (command_at q j)) (count q)) _ (and_right (leb (count q) max_commands) _ e)

-- ---- the command that goes last

module _ (q : List ℕ) (c : ConfidentialHartRemoteCommand) (long : length q ≡ queue_words) (room : count q < max_commands) where
  places_long : length (places q) ≡ max_commands * command_words
  places_long = length-drop 1 q ∙ omega arith

  fits : (i : ℕ) → i < max_commands → i * command_words + command_words ≤ length (places q)
  fits i l = omega (arith, places_long)

  pub push_length : length (pushed q c) ≡ queue_words
  unfolding pushed
  push_length = omega (arith, put_length command_words (places q) (count q) (fits (count q) room) (to_words c) refl, places_long)

  pub push_count : count (pushed q c) ≡ count q + 1
  unfolding pushed
  push_count = refl

  pub push_new : command_at (pushed q c) (count q) ≡ c
  unfolding pushed command_at
  push_new = ap from_words (row_put_same command_words (places q) (count q) (fits (count q) room) (to_words c) refl)

  pub push_old : (i : ℕ) → i < count q → command_at (pushed q c) i ≡ command_at q i
  unfolding pushed command_at
  push_old i l =
      ap from_words (row_put_other command_words (places q) (count q) (fits (count q) room) (to_words c) refl i (λ e. omega arith) (fits i (omega arith)))

  pub push_commands : commands (pushed q c) ≡ commands q ++ (c ∷ [])
  unfolding commands up_to
  push_commands =
      ap (up_to (command_at (pushed q c))) (push_count ∙ add-one (count q))
      ∙ ap₂ (λ (xs : List ConfidentialHartRemoteCommand) (x : ConfidentialHartRemoteCommand). xs ++ (x ∷ []))
      (up_to_same (command_at (pushed q c)) (command_at q) (count q) push_old) push_new

  push_rest : all_zero (drop (count q * command_words) (places q)) ≡ true → all_zero (drop ((count q + 1) * command_words) (places (pushed q c))) ≡ true
  unfolding pushed
  push_rest z =
      zero_of _
      (λ i.
      let at : ℕ = (count q + 1) * command_words + i in
      let e : at ≡ count q * command_words + (command_words + i) = omega arith in
      get_or-drop ((count q + 1) * command_words) _ i 0
      ∙ put_elsewhere command_words (places q) (count q) (fits (count q) room) (to_words c) refl at (inr (omega arith))
      ∙ ap (λ (n : ℕ). get_or (places q) n 0) e
      ∙ sym (get_or-drop (count q * command_words) (places q) (command_words + i) 0)
      ∙ zero_at (drop (count q * command_words) (places q)) z (command_words + i))

  pub push_well_formed : well_formed c ≡ true → queue_well_formed q ≡ true → queue_well_formed (pushed q c) ≡ true
  unfolding queue_well_formed
  push_well_formed w e =
      rw push_count
      (and_both {a = leb (count q + 1) max_commands} (le-leb (count q + 1) max_commands (omega arith))
      (and_both {a = every (λ i. well_formed (command_at (pushed q c) i)) (count q + 1)}
      (every_more (λ i. well_formed (command_at (pushed q c) i)) (count q)
      (every_of _ (count q) (λ i l. rw (push_old i l) (well_formed_at q e i l)))
      (rw push_new w))
      (push_rest (well_formed_rest q e))))

  push_none : (i j : ℕ) → i < j → j < count q → same (command_at q i) (command_at q j) ≡ false
      → same (command_at (pushed q c) i) (command_at (pushed q c) j) ≡ false
  push_none i j b l e = rw (push_old i (omega arith), push_old j l) e

  pub push_distinct : queued q c ≡ false → distinct q ≡ true → distinct (pushed q c) ≡ true
  unfolding queued distinct
  push_distinct n e =
      rw push_count
      (every_more (λ j. not (exists (λ i. same (command_at (pushed q c) i) (command_at (pushed q c) j)) j)) (count q)
      (every_of _ (count q)
      (λ j l. not_yes _ (none_of (λ i. same (command_at (pushed q c) i) (command_at (pushed q c) j)) j
      (λ i b. push_none i j b l (exists_none (λ k. same (command_at q k) (command_at q j)) i j b
      (not-true _ (every_at (λ m. not (exists (λ k. same (command_at q k) (command_at q m)) m)) j (count q) e l)))))))
      (not_yes _ (none_of (λ i. same (command_at (pushed q c) i) (command_at (pushed q c) (count q))) (count q)
      (λ i b. rw (push_old i b, push_new) (exists_none (λ k. same (command_at q k) c) i (count q) b n)))))

-- ---- an offer, by its three cases

module _ (q : List ℕ) (c : ConfidentialHartRemoteCommand) where
  pub offer_full : max_commands ≤ count q → offered q c ≡ offer (Err ReachedMaxNumberOfRemoteCommands) q
  unfolding offered
  offer_full l = sym (yes _ (le-leb _ _ l) refl)

  pub offer_duplicate : count q < max_commands → queued q c ≡ true → offered q c ≡ offer (Ok tt) q
  unfolding offered
  offer_duplicate l e = sym (no _ (lt-leb _ _ l) (yes _ e refl))

  pub offer_new : count q < max_commands → queued q c ≡ false → offered q c ≡ offer (Ok tt) (pushed q c)
  unfolding offered
  offer_new l e = sym (no _ (lt-leb _ _ l) (no _ e refl))

  pub by_offer : (P : Offer → Type 0)
      → (max_commands ≤ count q → P (offer (Err ReachedMaxNumberOfRemoteCommands) q))
      → (count q < max_commands → queued q c ≡ true → P (offer (Ok tt) q))
      → (count q < max_commands → queued q c ≡ false → P (offer (Ok tt) (pushed q c)))
      → P (offered q c)
  unfolding offered
  by_offer P full twice new =
      by_pick P _ _ _ (λ e. full (leb-true _ _ e)) (λ e. by_pick P _ _ _ (twice (leb-false _ _ e)) (new (leb-false _ _ e)))

  module _ (long : length q ≡ queue_words) where
    pub offer_length : length (offered q c).queue ≡ queue_words
    offer_length = by_offer (λ o. length o.queue ≡ queue_words) (λ l. long) (λ l e. long) (λ l e. push_length q c long l)

    -- the commands stay as they are, or c is last
    pub offer_commands : commands (offered q c).queue ≡ with_offered c (commands q)
    unfolding with_offered
    offer_commands =
        rw (commands_length q, ← (queued_any q c))
        (by_offer (λ o. commands o.queue ≡ pick (leb max_commands (count q)) (commands q) (pick (queued q c) (commands q) (commands q ++ (c ∷ []))))
        (λ l. yes _ (le-leb _ _ l) refl)
        (λ l e. no _ (lt-leb _ _ l) (yes _ e refl))
        (λ l e. no _ (lt-leb _ _ l) (no _ e (push_commands q c long l))))

    -- where it is done, c waits afterwards
    pub offer_queued : (offered q c).given ≡ Ok tt → queued (offered q c).queue c ≡ true
    offer_queued =
        by_offer (λ o. o.given ≡ Ok tt → queued o.queue c ≡ true) (λ l e. search rules) (λ l e d. e)
        (λ l e d. member_queued (pushed q c) c (rw (push_commands q c long l) (Memᴰ.append_right (commands q) (Memᴰ.head refl))))

    pub offer_well_formed : well_formed c ≡ true → queue_well_formed q ≡ true → queue_well_formed (offered q c).queue ≡ true
    offer_well_formed w f =
        by_offer (λ o. queue_well_formed o.queue ≡ true) (λ l. f) (λ l e. f) (λ l e. push_well_formed q c long l w f)

    pub offer_distinct : distinct q ≡ true → distinct (offered q c).queue ≡ true
    offer_distinct f = by_offer (λ o. distinct o.queue ≡ true) (λ l. f) (λ l e. f) (λ l e. push_distinct q c long l e f)

-- ---- the queue with no command

pub emptied_length : length emptied ≡ queue_words
unfolding emptied
emptied_length = length-replicate {A = ℕ} queue_words 0

pub emptied_commands : commands emptied ≡ []
unfolding emptied commands up_to
emptied_commands = refl

pub emptied_well_formed : queue_well_formed emptied ≡ true
unfolding emptied queue_well_formed every
emptied_well_formed = zeros_all_zero (max_commands * command_words)

pub emptied_distinct : distinct emptied ≡ true
unfolding emptied distinct every
emptied_distinct = refl

-- a queue row of zeros is that queue
pub zeros_emptied : (q : List ℕ) → length q ≡ queue_words → all_zero q ≡ true → q ≡ emptied
unfolding emptied
zeros_emptied q long z = all_zero_zeros q z ∙ ap (λ (n : ℕ). replicate n 0) long
