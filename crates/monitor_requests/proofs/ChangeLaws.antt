-- The lifecycle's table as a test, the number that a transition gives, and the number by which each change refuses. Assumes nothing.
use Prim.Native.Nat.{ℕ}
use mathlib.Core.Path.{◌≡◌, refl, sym, ap, ◌∙◌}
use mathlib.Core.Bool.{true, false, not, false≢true}
use mathlib.Core.List.{List}
use native.Mathlib.Omega.{arith}
use lib.Dec.{eqb}
use borrow.Author.Tests.{ne_eqb}
use Rattle.std.specs.Prelude.{Result, Ok, Err, MatchResult}
use Rattle.error.specs.declared.Error.{Error}
use Rattle.error.specs.declared.Error.TheVariants.{
  CannotStartNotStoppedHart,
  CannotSuspedNotStartedHart,
  CannotStopNotStartedHart,
  CannotStartNotSuspendedHart,
}
use Rattle.error.specs.Error.{done, number_of}
use Rattle.error.proofs.NumberLaws.{number_once, number_refuses}
use Rattle.table_rows.specs.Choice.{pick}
use Rattle.table_rows.proofs.PickLaws.{by_pick, not_yes, not_no}
use Rattle.hart_lifecycle_state.specs.declared.LifecycleChange.{LifecycleChange}
use Rattle.hart_lifecycle_state.specs.Lifecycle.{Entry, becomes, refused, only, start, suspend, stop, wake, off, change_of, entry_number}
use Rattle.hart_lifecycle_state.proofs.LifecycleLaws.{Told, told}
use Rattle.confidential_hart.specs.declared.ConfidentialHart.{ConfidentialHart}
use Rattle.confidential_hart.specs.Hart.{is_dummy, well_formed}
use Rattle.confidential_hart.specs.Transition.{Transition, stepped, applied, transition}
use Rattle.confidential_hart.proofs.TransitionLaws.{refused_is}
use Rattle.monitor_requests.specs.Requests.{refuses}

entry_refuses : (e : Entry) (g : List ℕ) (h : ConfidentialHart) → Told e → refuses e ≡ not (eqb (applied e g h).number done)
unfolding refuses applied
entry_refuses (becomes state) g h t = refl
entry_refuses (refused number) g h t = sym (not_yes _ (ne_eqb number done (λ z. omega arith)))

-- of a real hart the table refuses exactly when the transition's number is not 0
pub change_refuses : (c : LifecycleChange) (idle : ℕ) (g : List ℕ) (h : ConfidentialHart) → well_formed h ≡ true → is_dummy h ≡ false
    → refuses (change_of c h.lifecycle) ≡ not (eqb (transition (change_of c) idle g h).number done)
unfolding transition pick
change_refuses c idle g h w d = rw (w, d) (entry_refuses (change_of c h.lifecycle) g h (told c h.lifecycle))

refusing : (e : Entry) → refuses e ≡ true → (n : ℕ) × (e ≡ refused n)
unfolding refuses
refusing (becomes state) q = absurd (false≢true q)
refusing (refused number) q = (number, refl)

-- what the step of a real hart gives, where its change refuses by one error alone: the record that the transition leaves where the table doesn't
-- refuse, and else that error
pub step_table : (c : LifecycleChange) (idle : ℕ) (g : List ℕ) (h : ConfidentialHart) → well_formed h ≡ true → is_dummy h ≡ false
    → (error : Error) → ((l n : ℕ) → change_of c l ≡ refused n → n ≡ number_of error)
    → (step : Result ConfidentialHart Error) → stepped h step ≡ transition (change_of c) idle g h
    → MatchResult step (λ after. (refuses (change_of c h.lifecycle) ≡ false) × (after ≡ (transition (change_of c) idle g h).hart))
    (λ e. (refuses (change_of c h.lifecycle) ≡ true) × (e ≡ error))
step_table c idle g h w d error alone (Ok after) p = (
  change_refuses c idle g h w d ∙ not_no _ (ap (λ (t : Transition). eqb t.number done) (sym p)),
  ap (λ (t : Transition). t.hart) p,
)
step_table c idle g h w d error alone (Err e) p =
    let r = change_refuses c idle g h w d ∙ not_yes _ (ap (λ (t : Transition). eqb t.number done) (sym p) ∙ number_refuses e) in
    let by = refusing _ r in
    let n : number_of e ≡ by.0 = ap (λ (t : Transition). t.number) (p ∙ refused_is (change_of c) idle g h w d by.0 by.1) in
    (r, number_once e error (n ∙ alone _ _ by.1))

-- a change from one state alone refuses by its own number
pub only_error : (from to number state x : ℕ) → only from to number state ≡ refused x → x ≡ number
unfolding only refuses
only_error from to number state x =
    by_pick (λ (e : Entry). e ≡ refused x → x ≡ number) (eqb state from) (becomes to) (refused number)
    (λ _ p. absurd (false≢true (ap refuses p)))
    (λ _ p. sym (ap entry_number p))

-- so the lifecycle's table refuses a start by 4
pub start_error : (l x : ℕ) → start l ≡ refused x → x ≡ number_of CannotStartNotStoppedHart
start_error = only_error _ _ _

-- a suspend by 5
pub suspend_error : (l x : ℕ) → suspend l ≡ refused x → x ≡ number_of CannotSuspedNotStartedHart
suspend_error = only_error _ _ _

-- a stop by 6
pub stop_error : (l x : ℕ) → stop l ≡ refused x → x ≡ number_of CannotStopNotStartedHart
stop_error = only_error _ _ _

-- a wake by 7
pub wake_error : (l x : ℕ) → wake l ≡ refused x → x ≡ number_of CannotStartNotSuspendedHart
wake_error = only_error _ _ _

-- and an off by none, so by any that is named
pub off_error : (error : Error) (l x : ℕ) → off l ≡ refused x → x ≡ number_of error
unfolding refuses
off_error error l x p = absurd (false≢true (ap refuses p))
