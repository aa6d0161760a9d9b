-- `confidential_vm_mmio_regions::add_mmio_region` meets its contract: 12 first, then the region, and then its table decide. Assumes nothing.
use native.Mathlib.Omega.{arith}
use mathlib.Core.List.{[]}
use mathlib.Core.Path.{refl, sym, ap, ◌∙◌}
use Rattle.std.proofs.lemmas.Result.{err_from_is_err_and}
use Rattle.mmio_regions.specs.Table.{added}
use Rattle.table_rows.proofs.PickLaws.{yes, no, not_no}
use Rattle.monitor_requests.specs.declared.Request.TheVariants.{Add}
use Rattle.monitor_requests.specs.Requests.{tests, effect, performed}
use Rattle.monitor_requests.proofs.SoundLaws.{sound_sized}
use Rattle.monitor_requests.proofs.JudgedLaws.{judge_refuses, judge_passes}
use Rattle.confidential_vm_mmio_regions.proofs.EntryLaws.{too_large_lem, made, refused_answer, added_answer}
use Rattle.confidential_vm_mmio_regions.proofs.add_mmio_region.Goals as goal

pub returns-in_err-judge : goal.returns-in_err-judge
returns-in_err-judge c =
    let p = err_from_is_err_and c.from_residual.result c.from_residual.ensures.1 in
    rw (p.1, p.2) (sym (judge_refuses _ c.judge.ensures (Add _ _) [] c.in_err-judge.was))

pub returns-in_err-region : goal.returns-in_err-region
unfolding tests effect performed
returns-in_err-region c =
    let p = err_from_is_err_and c.from_residual-in_err-region.result c.from_residual-in_err-region.ensures.1 in
    let large = too_large_lem _ _ c.in_err-region.ensures in
    rw (p.1, p.2, large.1) (no _ (not_no _ (judge_passes _ c.judge.ensures c.in_ok-judge.was)) (yes _ large.0 refl))

pub bounds-head-3 : goal.bounds-head-3
bounds-head-3 c = let z = sound_sized _ (judge_passes _ c.judge.ensures c.in_ok-judge.was) in omega (arith, z.long.head_long)

pub add-requires : goal.add-requires
add-requires c =
    let z = sound_sized _ (judge_passes _ c.judge.ensures c.in_ok-judge.was) in record { room = z.long.regions_long; few = z.few_regions }

pub returns-in_err-head : goal.returns-in_err-head
returns-in_err-head c =
    let s = judge_passes _ c.judge.ensures c.in_ok-judge.was in
    let region = made _ _ c.in_ok-region.ensures in
    let p = err_from_is_err_and c.from_residual-in_err-head.result c.from_residual-in_err-head.ensures.1 in
    rw (p.1, p.2) (refused_answer _ _ _ s region.0 (sound_sized _ s) (c.in_err-head.ensures ∙ ap (added _ _) region.1))

pub returns : goal.returns
returns c =
    let region = made _ _ c.in_ok-region.ensures in
    added_answer _ _ _ (judge_passes _ c.judge.ensures c.in_ok-judge.was) region.0 (c.in_ok-head.ensures ∙ ap (added _ _) region.1)

pub bounds-head-3-2 : goal.bounds-head-3-2
bounds-head-3-2 c = let z = sound_sized _ (judge_passes _ c.judge.ensures c.in_ok-judge.was) in omega (arith, z.long.head_long)
