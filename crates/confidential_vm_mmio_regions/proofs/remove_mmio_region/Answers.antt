-- `confidential_vm_mmio_regions::remove_mmio_region` meets its contract: 12 first, then the region, and then its table decide. Assumes nothing.
use native.Mathlib.Omega.{arith}
use mathlib.Core.List.{[]}
use mathlib.Core.Path.{refl, sym, ap, ◌∙◌}
use Rattle.std.proofs.lemmas.Result.{err_from_is_err_and}
use Rattle.mmio_regions.specs.Table.{removed}
use Rattle.table_rows.proofs.PickLaws.{yes, no, not_no}
use Rattle.monitor_requests.specs.declared.Request.TheVariants.{Remove}
use Rattle.monitor_requests.specs.Requests.{tests, effect, performed}
use Rattle.monitor_requests.proofs.SoundLaws.{sound_sized}
use Rattle.monitor_requests.proofs.JudgedLaws.{judge_refuses, judge_passes}
use Rattle.confidential_vm_mmio_regions.proofs.EntryLaws.{too_large_lem, made, removed_answer}
use Rattle.confidential_vm_mmio_regions.proofs.remove_mmio_region.Goals as goal

pub returns-in_err-judge : goal.returns-in_err-judge
returns-in_err-judge c =
    let p = err_from_is_err_and c.from_residual.result c.from_residual.ensures.1 in
    rw (p.1, p.2) (sym (judge_refuses _ c.judge.ensures (Remove _ _) [] c.in_err-judge.was))

pub returns-in_err-removed : goal.returns-in_err-removed
unfolding tests effect performed
returns-in_err-removed c =
    let p = err_from_is_err_and c.from_residual-in_err-removed.result c.from_residual-in_err-removed.ensures.1 in
    let large = too_large_lem _ _ c.in_err-removed.ensures in
    rw (p.1, p.2, large.1) (no _ (not_no _ (judge_passes _ c.judge.ensures c.in_ok-judge.was)) (yes _ large.0 refl))

pub bounds-head-3 : goal.bounds-head-3
bounds-head-3 c = let z = sound_sized _ (judge_passes _ c.judge.ensures c.in_ok-judge.was) in omega (arith, z.long.head_long)

pub remove-requires : goal.remove-requires
remove-requires c =
    let z = sound_sized _ (judge_passes _ c.judge.ensures c.in_ok-judge.was) in record { room = z.long.regions_long; few = z.few_regions }

pub returns : goal.returns
returns c =
    let region = made _ _ c.in_ok-removed.ensures in
    removed_answer _ _ _ (judge_passes _ c.judge.ensures c.in_ok-judge.was) region.0 (c.remove.ensures ∙ ap (removed _ _) region.1)

pub bounds-head-3-2 : goal.bounds-head-3-2
bounds-head-3-2 c = let z = sound_sized _ (judge_passes _ c.judge.ensures c.in_ok-judge.was) in omega (arith, z.long.head_long)
