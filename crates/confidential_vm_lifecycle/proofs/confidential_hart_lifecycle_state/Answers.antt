-- `confidential_vm_lifecycle::confidential_hart_lifecycle_state` meets its contract: the tests, and then the state. Assumes nothing.
use Rattle.std.proofs.lemmas.Result.{err_from_is_err_and}
use native.Mathlib.Omega.{arith}
use mathlib.Core.List.{[]}
use mathlib.Core.Path.{refl, sym}
use borrow.Author.Tests.{le-leb, lt-leb}
use Rattle.table_rows.proofs.PickLaws.{yes, no, not_no}
use Rattle.monitor_requests.specs.declared.Request.TheVariants.{Status}
use Rattle.monitor_requests.specs.Requests.{performed, tests, effect}
use Rattle.monitor_requests.proofs.SoundLaws.{sound_sized}
use Rattle.monitor_requests.proofs.JudgedLaws.{judge_refuses, judge_passes}
use Rattle.confidential_vm_lifecycle.proofs.confidential_hart_lifecycle_state.Goals as goal

pub returns-in_err-judge : goal.returns-in_err-judge
returns-in_err-judge c =
    let p = err_from_is_err_and c.from_residual.result c.from_residual.ensures.1 in
    rw (p.1, p.2) (sym (judge_refuses _ c.judge.ensures (Status _) [] c.in_err-judge.was))

pub bounds-head-0 : goal.bounds-head-0
bounds-head-0 c = let z = sound_sized _ (judge_passes _ c.judge.ensures c.in_ok-judge.was) in omega (arith, z.long.head_long)

pub returns-then-head-hart : goal.returns-then-head-hart
unfolding performed tests
returns-then-head-hart c =
    no _ (not_no _ (judge_passes _ c.judge.ensures c.in_ok-judge.was)) (yes _ (le-leb _ _ c.if-head-hart.true) refl)

pub lifecycle-requires : goal.lifecycle-requires
lifecycle-requires c =
    let z = sound_sized _ (judge_passes _ c.judge.ensures c.in_ok-judge.was) in omega (arith, c.if-head-hart.false, z.long.home_long)

pub returns : goal.returns
unfolding performed tests effect
returns c =
    no _ (not_no _ (judge_passes _ c.judge.ensures c.in_ok-judge.was)) (no _ (lt-leb _ _ c.if-head-hart.false) (rw c.lifecycle.ensures refl))
