-- `confidential_flow_lifecycle::held` meets its contract: 12, then 14 and 16, and then the hart in the row. Assumes nothing.
use Rattle.std.proofs.Common.{Ok, Err}
use Rattle.std.proofs.lemmas.Result.{err_from_is_err_and}
use native.Mathlib.Omega.{arith}
use Prim.Native.Nat.{ℕ}
use mathlib.Core.List.{[], ◌∷◌}
use mathlib.Core.Path.{sym, ap, ◌∙◌}
use Rattle.table_rows.proofs.PickLaws.{no, not_no}
use Rattle.monitor_requests.specs.Tables.{tables, hardware_hart}
use Rattle.monitor_requests.specs.Requests.{no_hardware_hart, idle}
use Rattle.monitor_requests.proofs.SoundLaws.{sound_sized}
use Rattle.monitor_requests.proofs.JudgedLaws.{judge_tried, judge_passes, held_refuses, held_decides, held_row, held_below}
use Rattle.confidential_flow_lifecycle.proofs.held.Goals as goal

pub returns-in_err-judge : goal.returns-in_err-judge
returns-in_err-judge c =
    let t = tables c.args.head.now c.args.home.now c.args.hardware.now c.args.queues.now c.args.regions.now in
    let k = c.args.on.0 in
    let p = err_from_is_err_and c.from_residual.result c.from_residual.ensures.1 in
    rw (p.1, p.2) (sym (judge_tried t c.judge.ensures (no_hardware_hart k t ∷ idle k t ∷ []) (hardware_hart t k) c.in_err-judge.was))

pub held-requires : goal.held-requires
held-requires c =
    let z = sound_sized _ (judge_passes _ c.judge.ensures c.in_ok-judge.was) in (z.long.head_long, z.long.hardware_long)

pub returns-in_err-k : goal.returns-in_err-k
returns-in_err-k c =
    let t = tables c.args.head.now c.args.home.now c.args.hardware.now c.args.queues.now c.args.regions.now in
    let p = err_from_is_err_and c.from_residual-in_err-k.result c.from_residual-in_err-k.ensures.1 in
    rw (p.1, p.2)
    (no _ (not_no _ (judge_passes t c.judge.ensures c.in_ok-judge.was))
    (sym (held_refuses Err _ [] t c.args.on.0 c.held.ensures c.in_err-k.was)))

pub load-requires : goal.load-requires
load-requires c =
    let t = tables c.args.head.now c.args.home.now c.args.hardware.now c.args.queues.now c.args.regions.now in
    let k = c.args.on.0 in
    let z = sound_sized t (judge_passes t c.judge.ensures c.in_ok-judge.was) in
    omega (arith, held_row t k c.held.ensures c.in_ok-k.was, held_below t k c.held.ensures c.in_ok-k.was, z.long.hardware_long)

pub returns : goal.returns
returns c =
    let t = tables c.args.head.now c.args.home.now c.args.hardware.now c.args.queues.now c.args.regions.now in
    let k = c.args.on.0 in
    no _ (not_no _ (judge_passes t c.judge.ensures c.in_ok-judge.was))
    (ap Ok (c.load.ensures ∙ ap (λ (i : ℕ). hardware_hart t i) (held_row t k c.held.ensures c.in_ok-k.was))
    ∙ sym (held_decides Err _ [] t k c.held.ensures c.in_ok-k.was))
