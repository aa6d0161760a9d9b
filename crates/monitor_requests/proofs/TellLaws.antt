-- What an answer of a request that does commands tells: no count, mask, effect or operation can be made up. Assumes nothing.
use Rattle.std.proofs.Common.{Ok, Err}
use Prim.Native.Nat.{ℕ, ◌+◌, ◌*◌, ◌≤◌, ◌<◌}
use mathlib.Core.Path.{◌≡◌, refl, sym, ap, ◌∙◌, subst}
use mathlib.Core.Logic.{◌≢◌}
use mathlib.Core.Bool.{Bool, false, not, false≢true}
use mathlib.Core.List.{List, [], ◌∷◌}
use lib.ListN.{length}
use lib.Dec.{eqb}
use borrow.Author.Tests.{eqb-true, eqb-false}
use Rattle.error.specs.declared.Error.{Error}
use Rattle.error.specs.declared.Error.TheVariants.{ReachedMaxNumberOfRemoteCommands}
use Rattle.error.specs.Error.{number_of, reached_max_number_of_remote_commands}
use Rattle.table_rows.specs.Choice.{pick}
use Rattle.table_rows.specs.Lists.{all_of}
use Rattle.table_rows.specs.Rows.{row, over}
use Rattle.table_rows.proofs.PickLaws.{by_test}
use Rattle.confidential_hart_remote_command.specs.declared.ConfidentialHartRemoteCommand.{ConfidentialHartRemoteCommand}
use Rattle.confidential_hart_remote_command.specs.Selection.{selects}
use Rattle.remote_commands.specs.Queue.{queue_words, count, command_at, emptied, offered}
use Rattle.remote_commands.proofs.OfferLaws.{commands_length}
use Rattle.effects.specs.Effects.{effect_words, effect_of, effects_of, shuts_down}
use Rattle.effects.proofs.EffectLaws.{effect_at}
use Rattle.hart_lifecycle_state.specs.Lifecycle.{powered_off}
use Rattle.confidential_hart.specs.declared.ConfidentialHart.{ConfidentialHart}
use Rattle.confidential_hart.specs.declared.HardwareHartId.{HardwareHartId}
use Rattle.confidential_hart.specs.Hart.{no_operation, with_operation}
use Rattle.confidential_hart.specs.Transition.{moved}
use Rattle.hart_rows.specs.HartRows.{hart_words, hart_at}
use Rattle.hart_rows.proofs.HartRowLaws.{load_store}
use Rattle.monitor_requests.specs.declared.Answer.TheVariants.{Mask, Count, Run, PoweredOff, Operation}
use Rattle.monitor_requests.specs.Tables.{Tables, harts, hardware_hart, queue}
use Rattle.monitor_requests.specs.Answers.{Answered, given}
use Rattle.monitor_requests.proofs.AnswerLaws.{is_refused, is_mask, is_count, first_in}
use Rattle.monitor_requests.proofs.JudgedLaws.{Passed, by_errors, by_performed, judged_map}
use Rattle.monitor_requests.proofs.SoundLaws.{sound_sized}
use Rattle.monitor_requests.proofs.MoveLaws.{hardware_fits, six_registers}
use Rattle.monitor_requests.proofs.BroadcastLaws.{refuser, Masked, RefusedAt, send_mask, send_queues, send_eight}
use Rattle.monitor_requests.specs.declared.Request.TheVariants.{Broadcast, Process, Resume}
use Rattle.monitor_requests.specs.Requests.{
  Outcome,
  unsound,
  with_hardware,
  receives,
  outcome,
  refused_on,
  tests,
  doing,
  own_commands,
  processed,
  Going,
  goes_on,
  held_id,
  held_commands,
  effect,
  performed,
}
use Rattle.monitor_requests.proofs.DoingLaws.{by_going, did_hart, processed_empty}
use Rattle.monitor_requests.proofs.HeldLaws.{OwnStands, own_stands, by_broadcast, Held, broadcast_held, process_held, resume_tests, processed_sound}

-- the record of a held hart that did commands: PoweredOff where one of them shuts down, and else as it was
abbrev pub after_doing : List ConfidentialHartRemoteCommand → ConfidentialHart → ConfidentialHart
after_doing cs x = moved (pick (shuts_down cs) powered_off x.lifecycle) x.registers x

-- ---- process

-- the held hart k did every command of its queue: as many effects are written as waited, record i is command i, and the queue is empty
pub record AllDone (k : ℕ) (t : Tables) (did : ℕ) (effects queues : List ℕ) : Type 0 where
  pub held_real : Held t k
  pub did_all : did ≡ count (queue t (held_id t k))
  pub record_at : (i : ℕ) → i < did → row effect_words effects i ≡ effect_of (held_id t k) (command_at (queue t (held_id t k)) i)
  pub queue_empty : row queue_words queues (held_id t k) ≡ emptied

all_done : (k : ℕ) (t : Tables) (effects : List ℕ) → Held t k
    → AllDone k t (length (held_commands t k)) (over (effects_of (held_id t k) (held_commands t k)) effects)
    (processed (held_commands t k) k (held_id t k) t).queues
all_done k t effects x =
    let h = held_id t k in
    let long = commands_length (queue t h) in
    record {
      held_real = x;
      did_all = long;
      record_at = λ i l. effect_at h (queue t h) effects i (rw (← long) l);
      queue_empty = processed_empty t x.tables_sound h x.id_below (held_commands t k) k;
    }

-- the count is the queue's length before, and a shutdown request among the commands, and nothing else, powers the hart off
pub record Processed (k : ℕ) (t : Tables) (o : Outcome) (n : ℕ) : Type 0 where
  pub counted : n ≡ count (queue t (held_id t k))
  pub every_done : AllDone k t o.did o.effects o.after.queues
  pub hart_after : hardware_hart o.after k ≡ after_doing (held_commands t k) (hardware_hart t k)

-- the error is not 8
abbrev not_eight : Error → Bool
not_eight e = not (eqb (number_of e) reached_max_number_of_remote_commands)

-- a count that process gives
pub process_count : (on : HardwareHartId) (t : Tables) (effects : List ℕ) (n : ℕ) → (performed (Process on) t effects).answer ≡ Ok (Count n)
    → Processed on.0 t (performed (Process on) t effects) n
unfolding effect
process_count on t effects n =
    by_performed (Process on) t effects (λ (o : Outcome). o.answer ≡ Ok (Count n) → Processed on.0 t o n)
    (λ _ q. absurd (false≢true (ap is_count q)))
    (λ p q.
    let x = process_held on t effects p in
    record {
      counted = sym (ap first_in q) ∙ commands_length (queue t (held_id t on.0));
      every_done = all_done on.0 t effects x;
      hart_after = did_hart t x.tables_sound on.0 x.k_below (held_commands t on.0) x.real;
    })

-- ---- broadcast

-- what the sender did itself: one effect record exactly when the command selects it, over the front of the effects room, and a shutdown request powers it off
pub record OwnDone (c : ConfidentialHartRemoteCommand) (k : ℕ) (t : Tables) (effects : List ℕ) (o : Outcome) : Type 0 where
  pub did_own : o.did ≡ pick (selects c (held_id t k)) 1 0
  pub effects_own : o.effects ≡ over (effects_of (held_id t k) (own_commands c (held_id t k))) effects
  pub hart_after : hardware_hart o.after k ≡ after_doing (own_commands c (held_id t k)) (hardware_hart t k)

own_length : (c : ConfidentialHartRemoteCommand) (h : ℕ) → length (own_commands c h) ≡ pick (selects c h) 1 0
unfolding own_commands pick
own_length c h = by_test (selects c h) (λ e. rw e refl) (λ e. rw e refl)

module _ (on : HardwareHartId) (c : ConfidentialHartRemoteCommand) (t : Tables) (effects : List ℕ) where
  abbrev h : ℕ
  h = held_id t on.0

  abbrev own : Tables
  own = doing (own_commands c h) on.0 t

  own_done_lem : (o : Outcome) → OwnStands c on.0 h t effects o → Passed (unsound t ∷ tests (Broadcast on c) t effects) → OwnDone c on.0 t effects o
  own_done_lem o w p =
      let x = broadcast_held on c t effects p in
      record {
        did_own = w.did_own ∙ own_length c h;
        effects_own = w.effects_own;
        hart_after = ap (λ (rows : List ℕ). hart_at rows on.0) w.rows_own
            ∙ did_hart t x.tables_sound on.0 x.k_below (own_commands c h) x.real;
      }

  -- a mask that a broadcast gives: bit k is 1 exactly when the home row of some hart that receives holds dummy k
  pub broadcast_mask : (mask : ℕ) → (performed (Broadcast on c) t effects).answer ≡ Ok (Mask mask)
      → Masked h c t mask × OwnDone c on.0 t effects (performed (Broadcast on c) t effects)
  broadcast_mask mask =
      by_broadcast on c t effects
      (λ (o : Outcome). o.answer ≡ Ok (Mask mask) → Masked h c t mask × OwnDone c on.0 t effects o)
      (λ _ q. absurd (false≢true (ap is_mask q)))
      (λ o w p q.
      let m = send_mask h c own [] mask (sym w.answer_own ∙ q) in (
        record {
          tables_sound = (broadcast_held on c t effects p).tables_sound;
          command_formed = m.command_formed;
          room = m.room;
          bits = m.bits;
          small = m.small;
        },
        own_done_lem o w p,
      ))

  -- and then each hart that receives has the command offered, and the queue of every other is as it was
  pub broadcast_queues : (mask : ℕ) → (performed (Broadcast on c) t effects).answer ≡ Ok (Mask mask) → (j : ℕ) → j < harts t
      → queue (performed (Broadcast on c) t effects).after j ≡ pick (receives t.home h c j) (offered (queue t j) c).queue (queue t j)
  broadcast_queues mask e j l =
      by_broadcast on c t effects
      (λ (o : Outcome). o.answer ≡ Ok (Mask mask) → queue o.after j ≡ pick (receives t.home h c j) (offered (queue t j) c).queue (queue t j))
      (λ _ q. absurd (false≢true (ap is_mask q)))
      (λ o w p q. rw w.after_own (send_queues h c own [] mask (sym w.answer_own ∙ q) j l))
      e

  -- 8: the first receiver that has 64 refuses, and what the sender did itself stands
  pub broadcast_eight : (performed (Broadcast on c) t effects).answer ≡ Err ReachedMaxNumberOfRemoteCommands
      → RefusedAt h c t (performed (Broadcast on c) t effects).after.queues (refuser h c t)
      × OwnDone c on.0 t effects (performed (Broadcast on c) t effects)
  unfolding performed tests effect all_of
  broadcast_eight =
      by_errors (refused_on t effects) (effect (Broadcast on c) t effects)
      (λ (o : Outcome). o.answer ≡ Err ReachedMaxNumberOfRemoteCommands → RefusedAt h c t o.after.queues (refuser h c t) × OwnDone c on.0 t effects o)
      not_eight
      (λ e other q. absurd (false≢true (sym (ap (λ (a : Answered). not (eqb (given a).number reached_max_number_of_remote_commands)) q) ∙ other)))
      (unsound t ∷ tests (Broadcast on c) t effects)
      refl
      (λ p q.
      let w = own_stands on c t effects p in
      let r = send_eight h c own [] (sym w.answer_own ∙ q) in (
        subst (λ (t' : Tables). RefusedAt h c t t'.queues (refuser h c t)) (sym w.after_own)
            (record {
              there = r.there;
              receiving = r.receiving;
              full = r.full;
              room = r.room;
              below = r.below;
              passed = r.passed;
              above = r.above;
            }),
        own_done_lem (effect (Broadcast on c) t effects) w p,
      ))

-- ---- resume

-- what a hart goes on with, by its record y once its commands are done, and the record z that it is left with: off leaves the operation; an operation was
-- there and is taken; run is for a hart that waits for nothing
pub data GoneOn : Answered → ConfidentialHart → ConfidentialHart → Type 0 where
  refused : {e : Error} {y z : ConfidentialHart} → GoneOn (Err e) y z
  off : {y z : ConfidentialHart} → y.lifecycle ≡ powered_off → z ≡ y → GoneOn (Ok PoweredOff) y z
  took : {y z : ConfidentialHart} → y.lifecycle ≢ powered_off → y.operation ≢ no_operation → z ≡ with_operation no_operation 0 0 y
      → GoneOn (Ok (Operation y.operation y.x y.y)) y z
  runs : {y z : ConfidentialHart} → y.lifecycle ≢ powered_off → y.operation ≡ no_operation → z ≡ y → GoneOn (Ok Run) y z

goes_tells : (hardware : List ℕ) (k : ℕ) → k * hart_words + hart_words ≤ length hardware
    → GoneOn (goes_on hardware k).answer (hart_at hardware k) (hart_at (goes_on hardware k).hardware k)
goes_tells hardware k fits =
    by_going hardware k (λ (g : Going). GoneOn g.answer (hart_at hardware k) (hart_at g.hardware k)) (λ e. off (eqb-true _ _ e) refl)
    (λ e d. took (eqb-false _ _ e) (eqb-false _ _ d) (load_store hardware k fits (with_operation no_operation 0 0 (hart_at hardware k)) (six_registers hardware k)))
    (λ e d. runs (eqb-false _ _ e) (eqb-true _ _ d) refl)

-- a resume goes on so, unless it is refused
pub resume_tells : (on : HardwareHartId) (t : Tables) (effects : List ℕ)
    → GoneOn (performed (Resume on) t effects).answer (after_doing (held_commands t on.0) (hardware_hart t on.0))
    (hardware_hart (performed (Resume on) t effects).after on.0)
unfolding effect
resume_tells on t effects =
    by_performed (Resume on) t effects
    (λ (o : Outcome). GoneOn o.answer (after_doing (held_commands t on.0) (hardware_hart t on.0)) (hardware_hart o.after on.0))
    (λ _. refused)
    (λ p.
    let x = process_held on t effects (resume_tests on t effects p) in
    let cs = held_commands t on.0 in
    let t' = processed cs on.0 (held_id t on.0) t in
    rw (← (did_hart t x.tables_sound on.0 x.k_below cs x.real))
    (goes_tells t'.hardware on.0 (hardware_fits t' (sound_sized t' (processed_sound t on.0 x cs)) on.0 x.k_below)))

-- what a resume makes of a process: one that is done goes on, and a refusal stays
abbrev pub continued : ℕ → Outcome → Outcome
continued k o =
    pick (is_count o.answer)
    (outcome (goes_on o.after.hardware k).answer o.did (with_hardware (goes_on o.after.hardware k).hardware o.after) o.effects)
    o

module _ (on : HardwareHartId) (t : Tables) (effects : List ℕ) where
  -- a resume is a process that goes on
  pub resume_is : performed (Resume on) t effects ≡ continued on.0 (performed (Process on) t effects)
  unfolding performed tests effect pick
  resume_is = sym (judged_map (continued on.0) (refused_on t effects) (effect (Process on) t effects) (unsound t ∷ tests (Process on) t effects))

  -- one that is not refused did every command of the queue, as a process does
  pub resume_done : is_refused (performed (Resume on) t effects).answer ≡ false
      → AllDone on.0 t (performed (Resume on) t effects).did (performed (Resume on) t effects).effects
      (performed (Resume on) t effects).after.queues
  unfolding effect
  resume_done =
      by_performed (Resume on) t effects
      (λ (o : Outcome). is_refused o.answer ≡ false → AllDone on.0 t o.did o.effects o.after.queues)
      (λ _ q. absurd (false≢true (sym q)))
      (λ p _. all_done on.0 t effects (process_held on t effects (resume_tests on t effects p)))
