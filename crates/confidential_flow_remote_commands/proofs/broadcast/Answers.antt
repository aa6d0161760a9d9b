-- `confidential_flow_remote_commands::broadcast` meets its contract: the tests, then what the sender does, then the tables' broadcast. Assumes nothing.
use Rattle.std.proofs.lemmas.Result.{err_from_is_err_and}
use native.Mathlib.Omega.{arith}
use mathlib.Core.List.{[]}
use mathlib.Core.Path.{refl, sym, ap, ◌∙◌}
use borrow.Author.Tests.{lt-ltb, le-ltb}
use Prim.Native.Nat.{ℕ}
use Rattle.table_rows.proofs.PickLaws.{yes, no, not_no, not_yes}
use Rattle.monitor_requests.specs.declared.Request.TheVariants.{Broadcast}
use Rattle.monitor_requests.specs.Tables.{tables}
use Rattle.monitor_requests.specs.Requests.{refused_on, held_id, broadcasts, tests, effect, performed}
use Rattle.monitor_requests.proofs.SoundLaws.{sound_sized}
use Rattle.monitor_requests.proofs.JudgedLaws.{judge_refuses, judge_passes, held_refuses, held_decides, held_row, held_below}
use Rattle.confidential_flow_remote_commands.proofs.SentLaws.{sent_sound, sent_is}
use Rattle.confidential_flow_remote_commands.proofs.broadcast.Goals as goal

pub returns-in_err-judge : goal.returns-in_err-judge
returns-in_err-judge c =
    let p = err_from_is_err_and c.from_residual.result c.from_residual.ensures.1 in
    rw (p.1, p.2) (sym (judge_refuses _ c.judge.ensures (Broadcast _ _) c.args.effects.now c.in_err-judge.was))

pub returns-then-effects-lt-EFFECT_WORDS : goal.returns-then-effects-lt-EFFECT_WORDS
unfolding performed tests
returns-then-effects-lt-EFFECT_WORDS c =
    no _ (not_no _ (judge_passes _ c.judge.ensures c.in_ok-judge.was)) (yes _ (lt-ltb _ _ c.if-effects-lt-EFFECT_WORDS.true) refl)

pub returns-then-not-is_well_formed : goal.returns-then-not-is_well_formed
unfolding performed tests
returns-then-not-is_well_formed c =
    no _ (not_no _ (judge_passes _ c.judge.ensures c.in_ok-judge.was))
    (no _ (le-ltb _ _ c.if-effects-lt-EFFECT_WORDS.false)
    (yes _ (not_yes _ (sym c.is_well_formed.ensures ∙ c.if-not-is_well_formed.true)) refl))

pub held-requires : goal.held-requires
held-requires c =
    let z = sound_sized _ (judge_passes _ c.judge.ensures c.in_ok-judge.was) in (z.long.head_long, z.long.hardware_long)

pub returns-in_err-k : goal.returns-in_err-k
unfolding performed tests
returns-in_err-k c =
    let t = tables c.args.head.now c.args.home.now c.args.hardware.now c.args.queues.now c.args.regions.now in
    let p = err_from_is_err_and c.from_residual-in_err-k.result c.from_residual-in_err-k.ensures.1 in
    rw (p.1, p.2)
    (no _ (not_no _ (judge_passes t c.judge.ensures c.in_ok-judge.was))
    (no _ (le-ltb _ _ c.if-effects-lt-EFFECT_WORDS.false)
    (no _ (not_no _ (sym c.is_well_formed.ensures ∙ c.if-not-is_well_formed.false))
    (sym (held_refuses (refused_on t c.args.effects.now) _ [] t c.args.on.0 c.held.ensures c.in_err-k.was)))))

pub id-hart-requires : goal.id-hart-requires
id-hart-requires c =
    let t = tables c.args.head.now c.args.home.now c.args.hardware.now c.args.queues.now c.args.regions.now in
    let k = c.args.on.0 in
    let z = sound_sized t (judge_passes t c.judge.ensures c.in_ok-judge.was) in
    omega (arith, held_row t k c.held.ensures c.in_ok-k.was, held_below t k c.held.ensures c.in_ok-k.was, z.long.hardware_long)

pub execute_own-did-requires : goal.execute_own-did-requires
execute_own-did-requires c =
    let t = tables c.args.head.now c.args.home.now c.args.hardware.now c.args.queues.now c.args.regions.now in
    let k = c.args.on.0 in
    let z = sound_sized t (judge_passes t c.judge.ensures c.in_ok-judge.was) in (
      omega (arith, held_row t k c.held.ensures c.in_ok-k.was, held_below t k c.held.ensures c.in_ok-k.was, z.long.hardware_long),
      omega (arith, c.if-effects-lt-EFFECT_WORDS.false),
    )

pub broadcast-answer-requires : goal.broadcast-answer-requires
broadcast-answer-requires c =
    let t = tables c.args.head.now c.args.home.now c.args.hardware.now c.args.queues.now c.args.regions.now in
    let k = c.args.on.0 in
    let below = held_below t k c.held.ensures c.in_ok-k.was in
    let row = held_row t k c.held.ensures c.in_ok-k.was in
    sent_sound t c.in_ok-k.k _ _ _ c.execute_own-did.ensures (judge_passes t c.judge.ensures c.in_ok-judge.was) (omega (arith, row, below))

pub returns : goal.returns
unfolding performed tests effect
returns c =
    let t = tables c.args.head.now c.args.home.now c.args.hardware.now c.args.queues.now c.args.regions.now in
    let k = c.args.on.0 in
    let j = c.in_ok-k.k in
    let room = c.args.effects.now in
    let s = judge_passes t c.judge.ensures c.in_ok-judge.was in
    let formed = sym c.is_well_formed.ensures ∙ c.if-not-is_well_formed.false in
    let row = held_row t k c.held.ensures c.in_ok-k.was in
    no _ (not_no _ s)
    (no _ (le-ltb _ _ c.if-effects-lt-EFFECT_WORDS.false)
    (no _ (not_no _ formed)
    (sent_is t j _ _ _ c.execute_own-did.ensures s (omega (arith, row, held_below t k c.held.ensures c.in_ok-k.was)) formed c.id-hart.ensures
    c.broadcast-answer.ensures
    ∙ ap (λ (i : ℕ). broadcasts c.args.c i (held_id t i) t room) row
    ∙ sym (held_decides (refused_on t room) _ [] t k c.held.ensures c.in_ok-k.was))))
