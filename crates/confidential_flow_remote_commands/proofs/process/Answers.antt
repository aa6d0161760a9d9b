-- `confidential_flow_remote_commands::process` meets its contract: the tests, and then what the held hart does. Assumes nothing.
use Rattle.std.proofs.lemmas.Result.{err_from_is_err_and}
use native.Mathlib.Omega.{arith}
use mathlib.Core.List.{[]}
use mathlib.Core.Path.{refl, sym, ap, ◌∙◌}
use borrow.Author.Tests.{lt-ltb, le-ltb}
use Rattle.table_rows.proofs.PickLaws.{yes, no, not_no}
use Prim.Native.Nat.{ℕ}
use Rattle.confidential_hart.specs.Hart.{is_dummy}
use Rattle.monitor_requests.specs.Tables.{tables, hardware_hart}
use Rattle.monitor_requests.specs.Requests.{refused_on, tests, effect, performed}
use Rattle.monitor_requests.proofs.SoundLaws.{sound_sized}
use Rattle.monitor_requests.proofs.JudgedLaws.{held_refuses, held_decides, held_row, held_below, held_real}
use Rattle.held_hart.proofs.HeldLaws.{held_fits}
use Rattle.confidential_flow_remote_commands.proofs.process.Goals as goal

pub returns-then-effects : goal.returns-then-effects
unfolding performed tests
returns-then-effects c =
    no _ (not_no _ c.requires.1) (yes _ (lt-ltb _ _ c.if-effects.true) refl)

pub held-requires : goal.held-requires
held-requires c =
    let z = sound_sized _ c.requires.1 in (z.long.head_long, z.long.hardware_long)

pub returns-in_err-k : goal.returns-in_err-k
unfolding performed tests
returns-in_err-k c =
    let t = tables c.args.head.now c.args.home.now c.args.hardware.now c.args.queues.now c.args.regions.now in
    let p = err_from_is_err_and c.from_residual.result c.from_residual.ensures.1 in
    rw (p.1, p.2)
    (no _ (not_no _ c.requires.1)
    (no _ (le-ltb _ _ c.if-effects.false)
    (sym (held_refuses (refused_on t c.args.effects.now) _ [] t c.args.on.0 c.held.ensures c.in_err-k.was))))

pub id-hart-requires : goal.id-hart-requires
id-hart-requires c =
    let t = tables c.args.head.now c.args.home.now c.args.hardware.now c.args.queues.now c.args.regions.now in
    let k = c.args.on.0 in
    let z = sound_sized t c.requires.1 in
    omega (arith, held_row t k c.held.ensures c.in_ok-k.was, held_below t k c.held.ensures c.in_ok-k.was, z.long.hardware_long)

pub execute_queued-requires : goal.execute_queued-requires
execute_queued-requires c =
    let t = tables c.args.head.now c.args.home.now c.args.hardware.now c.args.queues.now c.args.regions.now in
    let k = c.args.on.0 in
    let row = held_row t k c.held.ensures c.in_ok-k.was in
    held_fits t c.requires.1 c.in_ok-k.k
    (omega (arith, row, held_below t k c.held.ensures c.in_ok-k.was))
    (ap (λ (i : ℕ). is_dummy (hardware_hart t i)) row ∙ held_real t k c.held.ensures c.in_ok-k.was)
    c.id-hart.ensures
    c.args.effects.now
    c.if-effects.false

pub returns : goal.returns
unfolding performed tests effect
returns c =
    let t = tables c.args.head.now c.args.home.now c.args.hardware.now c.args.queues.now c.args.regions.now in
    let k = c.args.on.0 in
    no _ (not_no _ c.requires.1)
    (no _ (le-ltb _ _ c.if-effects.false)
    (rw (
      c.execute_queued.ensures.0,
      c.execute_queued.ensures.1,
      c.execute_queued.ensures.2,
      c.execute_queued.ensures.3,
      c.id-hart.ensures,
      held_row t k c.held.ensures c.in_ok-k.was,
    )
    (sym (held_decides (refused_on t c.args.effects.now) _ [] t k c.held.ensures c.in_ok-k.was))))
