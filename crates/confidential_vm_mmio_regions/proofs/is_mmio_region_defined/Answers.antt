-- `confidential_vm_mmio_regions::is_mmio_region_defined` meets its contract: 12 first, then the region, and then its table decide. Assumes nothing.
use native.Mathlib.Omega.{arith}
use mathlib.Core.List.{[]}
use mathlib.Core.Path.{refl, sym, ap, ◌∙◌}
use Rattle.std.proofs.lemmas.Result.{err_from_is_err_and}
use Rattle.table_rows.proofs.PickLaws.{yes, no, not_no}
use Rattle.monitor_requests.specs.declared.Request.TheVariants.{Defined}
use Rattle.monitor_requests.specs.Requests.{tests, effect, performed}
use Rattle.monitor_requests.proofs.SoundLaws.{sound_sized}
use Rattle.monitor_requests.proofs.JudgedLaws.{judge_refuses, judge_passes}
use Rattle.confidential_vm_mmio_regions.proofs.EntryLaws.{too_large_lem, made, defined_answer_lem}
use Rattle.confidential_vm_mmio_regions.proofs.is_mmio_region_defined.Goals as goal

pub returns-in_err-judge : goal.returns-in_err-judge
returns-in_err-judge c =
    let p = err_from_is_err_and c.from_residual.result c.from_residual.ensures.1 in
    rw (p.1, p.2) (sym (judge_refuses _ c.judge.ensures (Defined _ _) [] c.in_err-judge.was))

pub returns-in_err-asked : goal.returns-in_err-asked
unfolding tests effect performed
returns-in_err-asked c =
    let p = err_from_is_err_and c.from_residual-in_err-asked.result c.from_residual-in_err-asked.ensures.1 in
    let large = too_large_lem _ _ c.in_err-asked.ensures in
    rw (p.1, p.2, large.1) (no _ (not_no _ (judge_passes _ c.judge.ensures c.in_ok-judge.was)) (yes _ large.0 refl))

pub bounds-head-3 : goal.bounds-head-3
bounds-head-3 c = let z = sound_sized _ (judge_passes _ c.judge.ensures c.in_ok-judge.was) in omega (arith, z.long.head_long)

pub is_mmio_region_defined-defined-requires : goal.is_mmio_region_defined-defined-requires
is_mmio_region_defined-defined-requires c =
    let z = sound_sized _ (judge_passes _ c.judge.ensures c.in_ok-judge.was) in omega (arith, z.few_regions, z.long.regions_long)

pub returns : goal.returns
returns c =
    let region = made _ _ c.in_ok-asked.ensures in
    defined_answer_lem _ _ _ (judge_passes _ c.judge.ensures c.in_ok-judge.was) region.0 region.1 c.is_mmio_region_defined-defined.ensures
