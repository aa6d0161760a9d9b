-- What a request does to the tables is what its entry of the log says, request by request. Every list of the requests that the theorem needs
-- stands here. Assumes nothing.
use Rattle.std.proofs.Common.{Ok, Err}
use Prim.Native.Nat.{ℕ, ◌+◌, ◌<◌}
use mathlib.Core.Path.{◌≡◌, refl, sym, ap, ◌∙◌}
use mathlib.Core.Bool.{Bool, true, ◌&&◌, ◌||◌, not, false≢true}
use mathlib.Core.List.{List, [], ◌∷◌, ◌++◌, append-nil}
use mathlib.Core.Option.{none, some}
use native.Mathlib.Omega.{arith}
use lib.Bits.{bit_or}
use lib.Dec.{eqb}
use Rattle.error.specs.declared.Error.{Error}
use Rattle.error.specs.declared.Error.TheVariants.{ReachedMaxNumberOfRemoteCommands}
use Rattle.error.specs.Error.{done}
use Rattle.table_rows.specs.Choice.{pick}
use Rattle.table_rows.proofs.PickLaws.{by_test}
use Rattle.confidential_hart_remote_command.specs.declared.ConfidentialHartRemoteCommand.{ConfidentialHartRemoteCommand}
use Rattle.confidential_hart_remote_command.specs.Selection.{selects}
use Rattle.hart_lifecycle_state.specs.Lifecycle.{started, stopped, suspended, powered_off}
use Rattle.confidential_hart.specs.Hart.{is_dummy, is_executable}
use Rattle.confidential_hart.specs.HartStart.{start_registers, wake_registers}
use Rattle.monitor_requests.specs.declared.Request.TheVariants.{Steal, Return, Start, Suspend, Stop, Wake, Off, Await, Status, Home, Send, Allow, Add, Remove, Defined, Broadcast, Process, Resume}
use Rattle.monitor_requests.specs.declared.Answer.TheVariants.{Done}
use Rattle.monitor_requests.specs.Answers.{Answered, given}
use Rattle.monitor_requests.specs.Tables.{Tables, harts, hardware_harts, allowed, home_hart, regions_of, sound}
use Rattle.confidential_vm_mmio_region.specs.Region.{region_from}
use Rattle.monitor_requests.specs.Requests as requests
use Rattle.monitor_requests.specs.Requests.{unsound, effect, tests, held_id, own_commands, held_commands, processed, Going, does_no_command}
use Rattle.monitor_requests.proofs.AnswerLaws.{by_refusal}
use Rattle.monitor_requests.proofs.JudgedLaws.{Passed}
use Rattle.monitor_requests.proofs.DoingLaws.{by_going}
use Rattle.monitor_requests.proofs.RequestLaws.{effect_refusal}
use Rattle.monitor_requests.specs.declared.Request.{Request}
use Rattle.monitor_requests.proofs.HeldLaws.{broadcast_held}
use Rattle.hart_standing.specs.Standing.{Standing, at_home, on_hardware, is_on}
use Rattle.hart_standing.proofs.ChangedLaws.{standing, hart_now, view_of, Holds}
use Rattle.hart_standing.proofs.StandLaws.{away_executable, held_stands}
use Rattle.hart_standing.proofs.MoveLaws.{steal_holds, return_holds, start_holds, suspend_holds, stop_holds, wake_holds, off_holds, await_holds}
use Rattle.hart_standing.proofs.SentLaws.{delivers_now, allow_holds, add_holds, remove_holds, send_holds, process_holds, resume_holds, broadcast_holds}
use Rattle.ledger.specs.Log.{stays, steals, returns, Who, hart_numbered, held_by, says, entry, accepted, refused_with8, is_heard}
use Rattle.ledger.specs.WorkedOut.{is_who, reachable, receives, done_by}
use Rattle.ledger.proofs.ReadLaws.{next_standing, reaches, unremoved_none, unremoved_one}
use Rattle.ledger.proofs.NextLaws.{holds_same, same_then, next_view, every_same, same_regions, saying_next, moving_next, nothing_next, changing_next, waiting_next, emptying_next, resuming_next, broadcasting_next, sending_next}

-- ---- who gets a command

-- a hart's home row may run exactly when a broadcast reaches the hart
runs : (t : Tables) → sound t ≡ true → (g : ℕ) → g < harts t → is_executable (home_hart t g) ≡ reachable (standing t g) (hart_now t g).lifecycle
unfolding pick
runs t s g l = by_test (is_dummy (home_hart t g)) (λ e. rw e (away_executable t s g l e)) (λ e. rw e refl)

module _ (t : Tables) (s : sound t ≡ true) (sender : ℕ) (who : Who) (c : ConfidentialHartRemoteCommand)
    (is : (g : ℕ) → g < harts t → eqb g sender ≡ is_who who (standing t g) g) where
  -- a hart receives by its home row exactly when it does by where it stands and its lifecycle
  pub receives_now : (g : ℕ) → g < harts t
      → requests.receives t.home sender c g ≡ receives c (is_who who (standing t g) g) (standing t g) (hart_now t g).lifecycle g
  unfolding requests.receives
  receives_now g l =
      ap (λ (b : Bool). selects c g && not b && is_executable (home_hart t g)) (is g l)
      ∙ ap (λ (b : Bool). selects c g && not (is_who who (standing t g) g) && b) (runs t s g l)

  -- and so it gets the command exactly when the log says so
  delivers_now_lem : (a : Answered) (h : ℕ) → h < harts t → delivers_now a t sender c h ≡ reaches a who c (view_of t) h
  delivers_now_lem a h l =
      rw (receives_now h l)
      (ap
      (λ (b : Bool).
      receives c (is_who who (standing t h) h) (standing t h) (hart_now t h).lifecycle h && (eqb (given a).number done || b))
      (every_same _ _ (h + 1) (λ g b. rw (receives_now g (omega arith)) refl)))

-- ---- the requests

-- the hart that stands on k goes home
goes_home : (h k : ℕ) (at : Standing) → pick (is_on k at) at_home at ≡ next_standing (returns k) h at
unfolding pick
goes_home h k at_home = refl
goes_home h k (on_hardware j) = refl

-- tables hold what they hold
as_it_is : (t : Tables) → Holds t (harts t) (hardware_harts t) (view_of t)
as_it_is t =
    record {
      harts_are = refl;
      hardware_are = refl;
      stands_at = λ h l. refl;
      hart_is = λ h l. refl;
      waits_are = λ h l. refl;
      regions_are = refl;
      allowed_is = refl;
    }

-- what a request that passes its tests does is what it says
pub said_holds : (r : Request) (t : Tables) (effects : List ℕ) → sound t ≡ true → Passed (unsound t ∷ tests r t effects)
    → Holds (effect r t effects).after (harts t) (hardware_harts t)
    (next_view (effect r t effects).answer (says r (effect r t effects).answer) (view_of t))
unfolding tests effect says own_commands
said_holds (Steal h k) t effects s p = holds_same (steal_holds h k t effects p) (moving_next (harts t) (effect (Steal h k) t effects).answer (steals h.0 k.0) (view_of t))
said_holds (Return k) t effects s p =
    holds_same (return_holds k t effects p)
    (same_then
    (record {
      stands_same = λ h l. goes_home h k.0 (standing t h);
      hart_same = λ h l. refl;
      waits_same = λ h l. refl;
      regions_same = refl;
      allowed_same = refl;
    })
    (moving_next (harts t) (Ok Done) (returns k.0) (view_of t)))
said_holds (Start h address opaque) t effects s p =
    holds_same (start_holds h address opaque t effects p) (changing_next (harts t) (Ok Done) (hart_numbered h.0) (view_of t) started (start_registers h.0 address opaque))
said_holds (Suspend k) t effects s p =
    holds_same (suspend_holds k t effects p) (changing_next (harts t) (Ok Done) (held_by k.0) (view_of t) suspended (λ g. g))
said_holds (Stop k) t effects s p = holds_same (stop_holds k t effects p) (changing_next (harts t) (Ok Done) (held_by k.0) (view_of t) stopped (λ g. g))
said_holds (Wake k address opaque) t effects s p =
    holds_same (wake_holds k address opaque t effects p) (changing_next (harts t) (Ok Done) (held_by k.0) (view_of t) started (wake_registers address opaque))
said_holds (Off k) t effects s p = holds_same (off_holds k t effects p) (changing_next (harts t) (Ok Done) (held_by k.0) (view_of t) powered_off (λ g. g))
said_holds (Await k kind x y) t effects s p =
    holds_same (await_holds k kind x y t effects p) (waiting_next (harts t) (Ok Done) (held_by k.0) (view_of t) kind x y)
said_holds (Status h) t effects s p = holds_same (as_it_is t) (nothing_next (harts t) (effect (Status h) t effects).answer (view_of t))
said_holds Home t effects s p = holds_same (as_it_is t) (nothing_next (harts t) (effect Home t effects).answer (view_of t))
said_holds (Send sender c) t effects s p =
    let a = (effect (Send sender c) t effects).answer in
    holds_same (send_holds sender c t effects p)
    (same_then
    (record {
      stands_same = λ h l. refl;
      hart_same = λ h l. refl;
      waits_same = λ h l. rw (delivers_now_lem t s sender (hart_numbered sender) c (λ g b. refl) a h l) refl;
      regions_same = refl;
      allowed_same = refl;
    })
    (sending_next (harts t) a (hart_numbered sender) (view_of t) c))
said_holds (Allow bits) t effects s p =
    holds_same (allow_holds bits t effects p)
    (saying_next (harts t) (Ok Done) stays [] [] (some bits) (view_of t) (regions_of t) (bit_or (allowed t) bits) (same_regions (regions_of t)) refl)
said_holds (Add base size) t effects s p =
    holds_same (add_holds base size t effects p)
    (saying_next (harts t) (Ok Done) stays (region_from base size ∷ []) [] none (view_of t) _ (allowed t)
    (ap (λ rs. rs ++ (region_from base size ∷ [])) (sym (unremoved_none (regions_of t)))) refl)
said_holds (Remove base size) t effects s p =
    holds_same (remove_holds base size t effects p)
    (saying_next (harts t) (Ok Done) stays [] (region_from base size ∷ []) none (view_of t) _ (allowed t)
    (sym (append-nil _ ∙ unremoved_one (region_from base size) (regions_of t))) refl)
said_holds (Defined base size) t effects s p = holds_same (as_it_is t) (nothing_next (harts t) (effect (Defined base size) t effects).answer (view_of t))
said_holds (Broadcast k c) t effects s p =
    let a = (effect (Broadcast k c) t effects).answer in
    let x = broadcast_held k c t effects p in
    let sender = held_id t k.0 in
    holds_same (broadcast_holds k c t effects p)
    (same_then
    (record {
      stands_same = λ h l. refl;
      hart_same = λ h l. refl;
      waits_same = λ h l.
          rw
          (delivers_now_lem t s sender (held_by k.0) c (λ g b. sym (held_stands t s k.0 x.k_below x.real g b)) a h l)
          refl;
      regions_same = refl;
      allowed_same = refl;
    })
    (broadcasting_next (harts t) a (held_by k.0) (view_of t) c))
said_holds (Process k) t effects s p = holds_same (process_holds k t effects p) (emptying_next (harts t) (effect (Process k) t effects).answer (held_by k.0) (view_of t))
said_holds (Resume k) t effects s p =
    holds_same (resume_holds k t effects p) (resuming_next (harts t) (effect (Resume k) t effects).answer (held_by k.0) (view_of t))

-- ---- what is heard of them

-- an answer of a broadcast is heard where it refuses by 8 alone
sent_heard : (a : Answered) → ((e : Error) → a ≡ Err e → e ≡ ReachedMaxNumberOfRemoteCommands) → accepted a || refused_with8 a && true ≡ true
sent_heard =
    by_refusal (λ a. ((e : Error) → a ≡ Err e → e ≡ ReachedMaxNumberOfRemoteCommands) → accepted a || refused_with8 a && true ≡ true)
    (λ e only. rw (only e refl) refl)
    (λ a d only. rw d)

-- a request that passes its tests is heard
pub effect_heard : (r : Request) (t : Tables) (effects : List ℕ) → Passed (unsound t ∷ tests r t effects) → is_heard (entry r (effect r t effects).answer) ≡ true
unfolding effect says
effect_heard (Steal h k) t effects p = refl
effect_heard (Return k) t effects p = refl
effect_heard (Start h address opaque) t effects p = refl
effect_heard (Suspend k) t effects p = refl
effect_heard (Stop k) t effects p = refl
effect_heard (Wake k address opaque) t effects p = refl
effect_heard (Off k) t effects p = refl
effect_heard (Await k kind x y) t effects p = refl
effect_heard (Status h) t effects p = refl
effect_heard Home t effects p = refl
effect_heard (Send sender c) t effects p =
    sent_heard (effect (Send sender c) t effects).answer (λ e q. effect_refusal (Send sender c) t effects e q)
effect_heard (Allow bits) t effects p = refl
effect_heard (Add base size) t effects p = refl
effect_heard (Remove base size) t effects p = refl
effect_heard (Defined base size) t effects p = refl
effect_heard (Broadcast k c) t effects p =
    sent_heard (effect (Broadcast k c) t effects).answer (λ e q. effect_refusal (Broadcast k c) t effects e q)
effect_heard (Process k) t effects p = refl
effect_heard (Resume k) t effects p =
    by_going (processed (held_commands t k.0) k.0 (held_id t k.0) t).hardware k.0 (λ (g : Going). is_heard (entry (Resume k) g.answer) ≡ true)
    (λ _. refl)
    (λ _ _. refl)
    (λ _ _. refl)

-- by a request that does no command no hart does one
pub plain_says : (r : Request) (a : Answered) → does_no_command r ≡ true → (waiting : List ConfidentialHartRemoteCommand) (h : ℕ) → done_by (says r a) waiting h ≡ []
unfolding says pick
plain_says (Steal hart on) a e waiting h = refl
plain_says (Return on) a e waiting h = refl
plain_says (Start hart address opaque) a e waiting h = refl
plain_says (Suspend on) a e waiting h = refl
plain_says (Stop on) a e waiting h = refl
plain_says (Wake on address opaque) a e waiting h = refl
plain_says (Off on) a e waiting h = refl
plain_says (Await on kind x y) a e waiting h = refl
plain_says (Status hart) a e waiting h = refl
plain_says Home a e waiting h = refl
plain_says (Send sender c) a e waiting h = refl
plain_says (Allow bits) a e waiting h = refl
plain_says (Add base size) a e waiting h = refl
plain_says (Remove base size) a e waiting h = refl
plain_says (Defined base size) a e waiting h = refl
plain_says (Broadcast on c) a e waiting h = absurd (false≢true e)
plain_says (Process on) a e waiting h = absurd (false≢true e)
plain_says (Resume on) a e waiting h = absurd (false≢true e)
