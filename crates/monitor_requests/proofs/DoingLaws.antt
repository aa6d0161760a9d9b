-- What doing commands, emptying a queue and going on leave of sound tables. Assumes nothing.
use Rattle.std.proofs.Common.{Ok}
use Prim.Native.Nat.{ℕ, ◌+◌, ◌*◌, ◌≤◌, ◌<◌}
use mathlib.Core.Path.{◌≡◌, refl, sym, ap, ◌∙◌}
use mathlib.Core.Bool.{true, false}
use mathlib.Core.List.{List, []}
use native.Mathlib.Omega.{arith}
use lib.ListN.{length}
use lib.Dec.{eqb}
use borrow.Author.Tests.{eqb-true, eqb-false}
use Rattle.table_rows.specs.Rows.{row, put}
use Rattle.table_rows.specs.Choice.{pick}
use Rattle.table_rows.proofs.PickLaws.{yes, no, by_pick, by_test, not_yes, not_no}
use Rattle.table_rows.proofs.RowLaws as rows
use Rattle.table_rows.proofs.RowLaws.{put_length, row_put_same, row_put_other}
use Rattle.confidential_hart_remote_command.specs.declared.ConfidentialHartRemoteCommand.{ConfidentialHartRemoteCommand}
use Rattle.remote_commands.specs.Queue.{queue_words, emptied}
use Rattle.remote_commands.proofs.OfferLaws.{emptied_length, emptied_well_formed}
use Rattle.effects.specs.Effects.{shuts_down}
use Rattle.hart_lifecycle_state.specs.Lifecycle.{powered_off, off}
use Rattle.error.specs.Error.{hardware_hart_idle}
use Rattle.confidential_hart.specs.declared.ConfidentialHart.{ConfidentialHart}
use Rattle.confidential_hart.specs.Hart.{register_count, is_dummy, with_operation, no_operation}
use Rattle.confidential_hart.specs.Transition.{Transition, moved, after_off}
use Rattle.confidential_hart.proofs.TransitionLaws.{moves_is, transition_length}
use Rattle.hart_rows.specs.HartRows.{hart_words, hart_at, to_words}
use Rattle.hart_rows.proofs.HartRowLaws.{to_length, load_store}
use Rattle.monitor_requests.specs.declared.Answer.TheVariants.{Run, PoweredOff, Operation}
use Rattle.monitor_requests.specs.Tables.{Tables, harts, hardware_harts, hardware_hart, queue, sound}
use Rattle.monitor_requests.proofs.SoundLaws.{sound_facts, sound_sized, queues_sound, hardware_formed}
use Rattle.monitor_requests.proofs.MoveLaws.{hardware_fits, off_held_sound, operation_held_sound}
use Rattle.monitor_requests.specs.Requests.{with_hardware, with_queues, did_rows, doing, processed, Going, going, goes_on, resumed}

-- ---- going on, by its three cases

module _ (hardware : List ℕ) (k : ℕ) where
  abbrev hart : ConfidentialHart
  hart = hart_at hardware k

  -- a hart that is PoweredOff answers off, and keeps its operation
  pub goes_off : eqb hart.lifecycle powered_off ≡ true → goes_on hardware k ≡ going (Ok PoweredOff) hardware
  unfolding goes_on
  goes_off e = sym (yes _ e refl)

  -- else an operation is answered, and taken
  pub goes_operation : eqb hart.lifecycle powered_off ≡ false → eqb hart.operation no_operation ≡ false
      → goes_on hardware k
      ≡ going (Ok (Operation hart.operation hart.x hart.y)) (put hart_words hardware k (to_words (with_operation no_operation 0 0 hart)))
  unfolding goes_on
  goes_operation e d = sym (no _ e (yes _ (not_yes _ d) refl))

  -- and else it runs
  pub goes_run : eqb hart.lifecycle powered_off ≡ false → eqb hart.operation no_operation ≡ true → goes_on hardware k ≡ going (Ok Run) hardware
  unfolding goes_on
  goes_run e d = sym (no _ e (no _ (not_no _ d) refl))

  -- what holds of each case holds of going on
  pub by_going : (P : Going → Type 0)
      → (eqb hart.lifecycle powered_off ≡ true → P (going (Ok PoweredOff) hardware))
      → (eqb hart.lifecycle powered_off ≡ false → eqb hart.operation no_operation ≡ false
      → P (going (Ok (Operation hart.operation hart.x hart.y)) (put hart_words hardware k (to_words (with_operation no_operation 0 0 hart)))))
      → (eqb hart.lifecycle powered_off ≡ false → eqb hart.operation no_operation ≡ true → P (going (Ok Run) hardware))
      → P (goes_on hardware k)
  by_going P is-off waits runs =
      by_test (eqb hart.lifecycle powered_off) (λ e. rw (goes_off e) (is-off e))
      (λ e.
      by_test (eqb hart.operation no_operation) (λ d. rw (goes_run e d) (runs e d)) (λ d. rw (goes_operation e d) (waits e d)))

-- ---- a held hart that did commands

module _ (t : Tables) (s : sound t ≡ true) (k : ℕ) (l : k < hardware_harts t) (cs : List ConfidentialHartRemoteCommand) where
  -- the tables stay sound
  pub did_sound : sound (doing cs k t) ≡ true
  unfolding did_rows
  did_sound = by_pick (λ (rows : List ℕ). sound (with_hardware rows t) ≡ true) _ _ _ (λ _. off_held_sound t s k l) (λ _. s)

  -- there are as many words
  pub did_length : length (did_rows cs t.hardware k) ≡ length t.hardware
  unfolding did_rows
  did_length =
      by_pick (λ (rows : List ℕ). length rows ≡ length t.hardware) _ _ _
      (λ _. put_length hart_words t.hardware k (hardware_fits t (sound_sized t s) k l) _ (to_length (after_off (hardware_hart t k)).hart))
      (λ _. refl)

  six : length (hardware_hart t k).registers ≡ register_count
  unfolding hart_at
  six = refl

  -- a real hart is powered off exactly when one of the commands shuts down, and nothing else of its record changes
  pub did_hart : is_dummy (hardware_hart t k) ≡ false
      → hardware_hart (doing cs k t) k
      ≡ moved (pick (shuts_down cs) powered_off (hardware_hart t k).lifecycle) (hardware_hart t k).registers (hardware_hart t k)
  unfolding did_rows pick
  did_hart real =
      by_test (shuts_down cs)
      (λ e.
      rw e
      (load_store t.hardware k (hardware_fits t (sound_sized t s) k l) (after_off (hardware_hart t k)).hart
      (transition_length off hardware_hart_idle (hardware_hart t k) (hardware_hart t k).registers refl ∙ six)
      ∙ ap (λ (x : Transition). x.hart) (moves_is off hardware_hart_idle (hardware_hart t k).registers (hardware_hart t k) (hardware_formed t s k l) real powered_off refl)))
      (λ e. rw e refl)

-- ---- a queue that is emptied

module _ (t : Tables) (s : sound t ≡ true) (h : ℕ) (l : h < harts t) where
  -- a queue lies within its table
  pub queue_fits : (i : ℕ) → i < harts t → i * queue_words + queue_words ≤ length t.queues
  queue_fits i b = omega (arith, rows.within queue_words i (harts t) b, (sound_sized t s).long.queues_long)

  -- there are as many words
  pub emptied_long : length (put queue_words t.queues h emptied) ≡ length t.queues
  emptied_long = put_length queue_words t.queues h (queue_fits h l) emptied emptied_length

  -- the queue of hart h is empty
  pub emptied_same : row queue_words (put queue_words t.queues h emptied) h ≡ emptied
  emptied_same = row_put_same queue_words t.queues h (queue_fits h l) emptied emptied_length

  -- that is so once the hart's commands are done
  pub processed_empty : (cs : List ConfidentialHartRemoteCommand) (k : ℕ) → queue (processed cs k h t) h ≡ emptied
  processed_empty cs k = emptied_same

  -- the others are as they were
  pub emptied_other : (i : ℕ) → i < harts t → eqb i h ≡ false → row queue_words (put queue_words t.queues h emptied) i ≡ queue t i
  emptied_other i b e = row_put_other queue_words t.queues h (queue_fits h l) emptied emptied_length i (eqb-false i h e) (queue_fits i b)

  -- the tables stay sound
  pub emptied_sound : sound (with_queues (put queue_words t.queues h emptied) t) ≡ true
  emptied_sound =
      queues_sound t s (put queue_words t.queues h emptied) emptied_long
      (λ i b.
      by_test (eqb i h)
      (λ e. rw (eqb-true i h e, emptied_same) emptied_well_formed)
      (λ e. rw (emptied_other i b e) ((sound_facts t s).queue_formed i b)))

-- ---- going on

module _ (t : Tables) (s : sound t ≡ true) (k : ℕ) (l : k < hardware_harts t) where
  -- there are as many words
  pub goes_length : length (goes_on t.hardware k).hardware ≡ length t.hardware
  goes_length =
      by_going t.hardware k (λ (g : Going). length g.hardware ≡ length t.hardware) (λ _. refl)
      (λ _ _.
      put_length hart_words t.hardware k (hardware_fits t (sound_sized t s) k l) _ (to_length (with_operation no_operation 0 0 (hardware_hart t k))))
      (λ _ _. refl)

  -- the tables stay sound
  pub goes_sound : is_dummy (hardware_hart t k) ≡ false → sound (resumed k t []).after ≡ true
  goes_sound real =
      by_going t.hardware k (λ (g : Going). sound (with_hardware g.hardware t) ≡ true) (λ _. s)
      (λ _ _. operation_held_sound t s k l real no_operation 0 0 (omega arith) (λ _. refl) (λ _. refl))
      (λ _ _. s)
