-- `confidential_vm::return_confidential_hart` meets its contract: a real hart on hardware names its home row. Assumes nothing.
use Rattle.std.proofs.lemmas.Result.{err_from_is_err_and}
use native.Mathlib.Omega.{arith}
use mathlib.Core.List.{[]}
use mathlib.Core.Path.{sym, ap, ◌∙◌}
use Prim.Native.Nat.{ℕ}
use Rattle.hart_rows.specs.HartRows.{hart_at}
use Rattle.monitor_requests.specs.Tables.{tables}
use Rattle.monitor_requests.specs.declared.Request.TheVariants.{Return}
use Rattle.monitor_requests.specs.Requests.{refused_on, tests, effect}
use Rattle.monitor_requests.proofs.SoundLaws.{sound_sized, held_names}
use Rattle.monitor_requests.proofs.JudgedLaws.{judge_refuses, judge_passes, sound_judged, held_refuses, held_decides, held_row, held_below, held_real}
use Rattle.confidential_vm.proofs.return_confidential_hart.Goals as goal

pub returns-in_err-judge : goal.returns-in_err-judge
returns-in_err-judge c =
    let p = err_from_is_err_and c.from_residual.result c.from_residual.ensures.1 in
    rw (p.1, p.2) (sym (judge_refuses _ c.judge.ensures (Return _) [] c.in_err-judge.was))

pub held-requires : goal.held-requires
held-requires c =
    let z = sound_sized _ (judge_passes _ c.judge.ensures c.in_ok-judge.was) in (z.long.head_long, z.long.hardware_long)

pub returns-in_err-k : goal.returns-in_err-k
unfolding tests
returns-in_err-k c =
    let t = tables c.args.head.now c.args.home.now c.args.hardware.now c.args.queues.now c.args.regions.now in
    let p = err_from_is_err_and c.from_residual-in_err-k.result c.from_residual-in_err-k.ensures.1 in
    rw (p.1, p.2)
    (sym (sound_judged (Return _) t [] (judge_passes t c.judge.ensures c.in_ok-judge.was)
    ∙ held_refuses (refused_on t []) _ [] t c.args.on.0 c.held.ensures c.in_err-k.was))

pub id-h-requires : goal.id-h-requires
id-h-requires c =
    let t = tables c.args.head.now c.args.home.now c.args.hardware.now c.args.queues.now c.args.regions.now in
    let k = c.args.on.0 in
    let z = sound_sized t (judge_passes t c.judge.ensures c.in_ok-judge.was) in
    omega (arith, held_row t k c.held.ensures c.in_ok-k.was, held_below t k c.held.ensures c.in_ok-k.was, z.long.hardware_long)

pub exchange-requires : goal.exchange-requires
exchange-requires c =
    let t = tables c.args.head.now c.args.home.now c.args.hardware.now c.args.queues.now c.args.regions.now in
    let k = c.args.on.0 in
    let s = judge_passes t c.judge.ensures c.in_ok-judge.was in
    let z = sound_sized t s in
    let row = held_row t k c.held.ensures c.in_ok-k.was in
    let below = held_below t k c.held.ensures c.in_ok-k.was in
    let names = held_names t s k below (held_real t k c.held.ensures c.in_ok-k.was) in (
      omega (arith, names.there, c.id-h.ensures, ap (λ (i : ℕ). (hart_at c.args.hardware.now i).id) row, z.long.home_long),
      omega (arith, row, below, z.long.hardware_long),
    )

pub returns : goal.returns
unfolding tests effect
returns c =
    let t = tables c.args.head.now c.args.home.now c.args.hardware.now c.args.queues.now c.args.regions.now in
    let k = c.args.on.0 in
    rw (c.exchange.ensures.0, c.exchange.ensures.1, c.id-h.ensures, held_row t k c.held.ensures c.in_ok-k.was)
    (sym (sound_judged (Return _) t [] (judge_passes t c.judge.ensures c.in_ok-judge.was)
    ∙ held_decides (refused_on t []) _ [] t k c.held.ensures c.in_ok-k.was))
