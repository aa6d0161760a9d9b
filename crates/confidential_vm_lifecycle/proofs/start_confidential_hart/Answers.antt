-- `confidential_vm_lifecycle::start_confidential_hart` meets its contract: the table refuses exactly when the transition does. Assumes nothing.
use Rattle.std.proofs.lemmas.Result.{err_from_is_err_and}
use native.Mathlib.Omega.{arith}
use mathlib.Core.List.{[]}
use mathlib.Core.Path.{◌≡◌, refl, sym, ◌∙◌}
use mathlib.Core.Bool.{false}
use borrow.Author.Tests.{le-leb, lt-leb}
use Rattle.std.specs.Prelude.{Ok, Err}
use Rattle.error.specs.declared.Error.TheVariants.{CannotStartNotStoppedHart}
use Rattle.table_rows.proofs.PickLaws.{yes, no, not_no}
use Rattle.hart_lifecycle_state.specs.declared.LifecycleChange.TheVariants as changes
use Rattle.confidential_hart.specs.Hart.{is_dummy}
use Rattle.hart_rows.specs.HartRows.{hart_at}
use Rattle.monitor_requests.specs.declared.Request.TheVariants.{Start}
use Rattle.monitor_requests.specs.Requests.{performed, tests, effect}
use Rattle.monitor_requests.proofs.SoundLaws.{sound_sized, home_formed}
use Rattle.monitor_requests.proofs.ChangeLaws.{step_table, start_error}
use Rattle.monitor_requests.proofs.JudgedLaws.{judge_refuses, judge_passes}
use Rattle.confidential_vm_lifecycle.proofs.start_confidential_hart.Goals as goal

pub returns-in_err-judge : goal.returns-in_err-judge
returns-in_err-judge c =
    let p = err_from_is_err_and c.from_residual.result c.from_residual.ensures.1 in
    rw (p.1, p.2) (sym (judge_refuses _ c.judge.ensures (Start _ _ _) [] c.in_err-judge.was))

pub bounds-head-0 : goal.bounds-head-0
bounds-head-0 c = let z = sound_sized _ (judge_passes _ c.judge.ensures c.in_ok-judge.was) in omega (arith, z.long.head_long)

pub returns-then-head-hart : goal.returns-then-head-hart
unfolding performed tests
returns-then-head-hart c =
    no _ (not_no _ (judge_passes _ c.judge.ensures c.in_ok-judge.was)) (yes _ (le-leb _ _ c.if-head-hart.true) refl)

pub is_dummy-requires : goal.is_dummy-requires
is_dummy-requires c =
    let z = sound_sized _ (judge_passes _ c.judge.ensures c.in_ok-judge.was) in omega (arith, c.if-head-hart.false, z.long.home_long)

pub returns-then-is_dummy : goal.returns-then-is_dummy
unfolding performed tests
returns-then-is_dummy c =
    no _ (not_no _ (judge_passes _ c.judge.ensures c.in_ok-judge.was))
    (no _ (lt-leb _ _ c.if-head-hart.false) (yes _ (sym c.is_dummy.ensures ∙ c.if-is_dummy.true) refl))

pub load-requires : goal.load-requires
load-requires c =
    let z = sound_sized _ (judge_passes _ c.judge.ensures c.in_ok-judge.was) in omega (arith, c.if-head-hart.false, z.long.home_long)

pub returns-in_err-started : goal.returns-in_err-started
unfolding performed tests
returns-in_err-started c =
    let s = judge_passes _ c.judge.ensures c.in_ok-judge.was in
    let real : is_dummy (hart_at c.args.home.now c.args.hart.0) ≡ false = sym c.is_dummy.ensures ∙ c.if-is_dummy.false in
    let p = err_from_is_err_and c.from_residual-in_err-started.result c.from_residual-in_err-started.ensures.1 in
    let table = step_table changes.Start _ _ _ (home_formed _ s _ c.if-head-hart.false) real CannotStartNotStoppedHart start_error
    (Err c.in_err-started.field-0.0)
    (rw c.load.ensures at c.in_err-started.ensures) in
    rw (p.1, p.2)
    (no _ (not_no _ s)
    (no _ (lt-leb _ _ c.if-head-hart.false)
    (no _ real
    (yes _ table.0 (rw table.1 refl)))))

pub store-requires : goal.store-requires
store-requires c =
    let z = sound_sized _ (judge_passes _ c.judge.ensures c.in_ok-judge.was) in omega (arith, c.if-head-hart.false, z.long.home_long)

pub returns : goal.returns
unfolding performed tests effect
returns c =
    let s = judge_passes _ c.judge.ensures c.in_ok-judge.was in
    let real : is_dummy (hart_at c.args.home.now c.args.hart.0) ≡ false = sym c.is_dummy.ensures ∙ c.if-is_dummy.false in
    let table = step_table changes.Start _ _ _ (home_formed _ s _ c.if-head-hart.false) real CannotStartNotStoppedHart start_error
    (Ok c.in_ok-started.started)
    (rw c.load.ensures at c.in_ok-started.ensures) in
    no _ (not_no _ s)
    (no _ (lt-leb _ _ c.if-head-hart.false)
    (no _ real
    (no _ table.0 (rw (c.store.ensures, table.1) refl))))
