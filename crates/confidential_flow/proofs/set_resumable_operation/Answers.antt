-- `confidential_flow::set_resumable_operation` meets its contract: the tests in their order, and then the record. Assumes nothing.
use Rattle.std.proofs.lemmas.Result.{err_from_is_err_and}
use native.Mathlib.Omega.{arith}
use Prim.Native.Nat.{ℕ}
use mathlib.Core.List.{[], ◌∷◌}
use mathlib.Core.Path.{refl, sym, ap, ◌∙◌}
use mathlib.Core.Bool.{Bool, not}
use lib.Dec.{eqb}
use borrow.Author.Tests.{eq-eqb, ne_eqb}
use Rattle.table_rows.proofs.PickLaws.{yes, no, not_no, not_yes}
use Rattle.confidential_hart.specs.Hart.{no_operation}
use Rattle.monitor_requests.specs.declared.Request.TheVariants.{Await}
use Rattle.monitor_requests.specs.Tables.{tables, hardware_hart}
use Rattle.monitor_requests.specs.Requests.{refused_on, tests, effect, performed}
use Rattle.monitor_requests.proofs.SoundLaws.{sound_sized}
use Rattle.monitor_requests.proofs.JudgedLaws.{judge_refuses, judge_passes, held_refuses, held_decides, held_row, held_below}
use Rattle.confidential_flow.proofs.set_resumable_operation.Goals as goal

-- an operation of this kind is pending
abbrev is_pending : ℕ → Bool
is_pending operation = not (eqb operation no_operation)

pub returns-in_err-judge : goal.returns-in_err-judge
returns-in_err-judge c =
    let p = err_from_is_err_and c.from_residual.result c.from_residual.ensures.1 in
    rw (p.1, p.2) (sym (judge_refuses _ c.judge.ensures (Await _ _ _ _) [] c.in_err-judge.was))

pub returns-then-not-is_operation : goal.returns-then-not-is_operation
unfolding performed tests
returns-then-not-is_operation c =
    no _ (not_no _ (judge_passes _ c.judge.ensures c.in_ok-judge.was))
    (yes _ (not_yes _ (sym c.is_operation.ensures ∙ c.if-not-is_operation.true)) refl)

pub held-requires : goal.held-requires
held-requires c =
    let z = sound_sized _ (judge_passes _ c.judge.ensures c.in_ok-judge.was) in (z.long.head_long, z.long.hardware_long)

pub returns-in_err-k : goal.returns-in_err-k
unfolding performed tests
returns-in_err-k c =
    let t = tables c.args.head.now c.args.home.now c.args.hardware.now c.args.queues.now c.args.regions.now in
    let p = err_from_is_err_and c.from_residual-in_err-k.result c.from_residual-in_err-k.ensures.1 in
    rw (p.1, p.2)
    (no _ (not_no _ (judge_passes t c.judge.ensures c.in_ok-judge.was))
    (no _ (not_no _ (sym c.is_operation.ensures ∙ c.if-not-is_operation.false))
    (sym (held_refuses (refused_on t []) _ (_ ∷ []) t c.args.on.0 c.held.ensures c.in_err-k.was))))

pub operation-requires : goal.operation-requires
operation-requires c =
    let t = tables c.args.head.now c.args.home.now c.args.hardware.now c.args.queues.now c.args.regions.now in
    let k = c.args.on.0 in
    let z = sound_sized t (judge_passes t c.judge.ensures c.in_ok-judge.was) in
    omega (arith, held_row t k c.held.ensures c.in_ok-k.was, held_below t k c.held.ensures c.in_ok-k.was, z.long.hardware_long)

pub returns-then-operation-ne-NO_OPERATION : goal.returns-then-operation-ne-NO_OPERATION
unfolding performed tests
returns-then-operation-ne-NO_OPERATION c =
    let t = tables c.args.head.now c.args.home.now c.args.hardware.now c.args.queues.now c.args.regions.now in
    let k = c.args.on.0 in
    let row = held_row t k c.held.ensures c.in_ok-k.was in
    no _ (not_no _ (judge_passes t c.judge.ensures c.in_ok-judge.was))
    (no _ (not_no _ (sym c.is_operation.ensures ∙ c.if-not-is_operation.false))
    (yes _
    (ap (λ (i : ℕ). is_pending (hardware_hart t i).operation) (sym row) ∙ ap is_pending (sym c.operation.ensures)
    ∙ ap not (ne_eqb _ _ c.if-operation-ne-NO_OPERATION.true))
    refl
    ∙ sym (held_decides (refused_on t []) _ (_ ∷ []) t k c.held.ensures c.in_ok-k.was)))

pub load-requires : goal.load-requires
load-requires c =
    let t = tables c.args.head.now c.args.home.now c.args.hardware.now c.args.queues.now c.args.regions.now in
    let k = c.args.on.0 in
    let z = sound_sized t (judge_passes t c.judge.ensures c.in_ok-judge.was) in
    omega (arith, held_row t k c.held.ensures c.in_ok-k.was, held_below t k c.held.ensures c.in_ok-k.was, z.long.hardware_long)

pub store-requires : goal.store-requires
store-requires c =
    let t = tables c.args.head.now c.args.home.now c.args.hardware.now c.args.queues.now c.args.regions.now in
    let k = c.args.on.0 in
    let z = sound_sized t (judge_passes t c.judge.ensures c.in_ok-judge.was) in
    omega (arith, held_row t k c.held.ensures c.in_ok-k.was, held_below t k c.held.ensures c.in_ok-k.was, z.long.hardware_long)

pub returns : goal.returns
unfolding performed tests effect
returns c =
    let t = tables c.args.head.now c.args.home.now c.args.hardware.now c.args.queues.now c.args.regions.now in
    let k = c.args.on.0 in
    let row = held_row t k c.held.ensures c.in_ok-k.was in
    no _ (not_no _ (judge_passes t c.judge.ensures c.in_ok-judge.was))
    (no _ (not_no _ (sym c.is_operation.ensures ∙ c.if-not-is_operation.false))
    (no _
    (ap (λ (i : ℕ). is_pending (hardware_hart t i).operation) (sym row) ∙ ap is_pending (sym c.operation.ensures)
    ∙ ap not (eq-eqb _ _ c.if-operation-ne-NO_OPERATION.false))
    (rw (c.store.ensures, c.set_resumable_operation-waiting.ensures, c.load.ensures, row) refl)
    ∙ sym (held_decides (refused_on t []) _ (_ ∷ []) t k c.held.ensures c.in_ok-k.was)))
