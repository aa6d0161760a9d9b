-- `confidential_vm_lifecycle::is_vm_executing` meets its contract: 12 first, and then every home row is asked. Assumes nothing.
use Rattle.std.proofs.lemmas.Result.{err_from_is_err_and}
use native.Mathlib.Omega.{arith}
use mathlib.Core.List.{[]}
use mathlib.Core.Path.{refl, sym}
use Rattle.table_rows.proofs.PickLaws.{no, not_no}
use Rattle.monitor_requests.specs.declared.Request.TheVariants.{Home}
use Rattle.monitor_requests.specs.Requests.{performed, tests, effect}
use Rattle.monitor_requests.proofs.SoundLaws.{sound_sized}
use Rattle.monitor_requests.proofs.JudgedLaws.{judge_refuses, judge_passes}
use Rattle.confidential_vm_lifecycle.proofs.is_vm_executing.Goals as goal

pub returns-in_err-judge : goal.returns-in_err-judge
returns-in_err-judge c =
    let p = err_from_is_err_and c.from_residual.result c.from_residual.ensures.1 in
    rw (p.1, p.2) (sym (judge_refuses _ c.judge.ensures (Home) [] c.in_err-judge.was))

pub bounds-head-0 : goal.bounds-head-0
bounds-head-0 c = let z = sound_sized _ (judge_passes _ c.judge.ensures c.in_ok-judge.was) in omega (arith, z.long.head_long)

pub are_all_home-requires : goal.are_all_home-requires
are_all_home-requires c = (sound_sized _ (judge_passes _ c.judge.ensures c.in_ok-judge.was)).long.home_long

pub returns : goal.returns
unfolding performed tests effect
returns c = no _ (not_no _ (judge_passes _ c.judge.ensures c.in_ok-judge.was)) (rw c.are_all_home.ensures refl)
