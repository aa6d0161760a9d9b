-- `confidential_vm::steal_confidential_hart` meets its contract: one `no` for each test passed, and then the one that holds, or the exchange.
-- Assumes nothing.
use Rattle.std.proofs.lemmas.Result.{err_from_is_err_and}
use native.Mathlib.Omega.{arith}
use mathlib.Core.List.{[]}
use mathlib.Core.Path.{refl, sym, ◌∙◌}
use borrow.Author.Tests.{le-leb, lt-leb}
use Rattle.table_rows.proofs.PickLaws.{yes, no, not_no, not_yes}
use Rattle.monitor_requests.specs.declared.Request.TheVariants.{Steal}
use Rattle.monitor_requests.specs.Requests.{performed, tests, effect}
use Rattle.monitor_requests.proofs.SoundLaws.{sound_sized}
use Rattle.monitor_requests.proofs.JudgedLaws.{judge_refuses, judge_passes}
use Rattle.confidential_vm.proofs.steal_confidential_hart.Goals as goal

pub returns-in_err-judge : goal.returns-in_err-judge
returns-in_err-judge c =
    let p = err_from_is_err_and c.from_residual.result c.from_residual.ensures.1 in
    rw (p.1, p.2) (sym (judge_refuses _ c.judge.ensures (Steal _ _) [] c.in_err-judge.was))

pub bounds-head-1 : goal.bounds-head-1
bounds-head-1 c = let z = sound_sized _ (judge_passes _ c.judge.ensures c.in_ok-judge.was) in omega (arith, z.long.head_long)

pub returns-then-head-on : goal.returns-then-head-on
unfolding performed tests effect
returns-then-head-on c =
    no _ (not_no _ (judge_passes _ c.judge.ensures c.in_ok-judge.was)) (yes _ (le-leb _ _ c.if-head-on.true) refl)

pub is_dummy-busy-requires : goal.is_dummy-busy-requires
is_dummy-busy-requires c =
    let z = sound_sized _ (judge_passes _ c.judge.ensures c.in_ok-judge.was) in omega (arith, c.if-head-on.false, z.long.hardware_long)

pub returns-then-busy : goal.returns-then-busy
unfolding performed tests effect
returns-then-busy c =
    no _ (not_no _ (judge_passes _ c.judge.ensures c.in_ok-judge.was))
    (no _ (lt-leb _ _ c.if-head-on.false)
    (yes _ (cc) refl))

pub bounds-head-0 : goal.bounds-head-0
bounds-head-0 c = let z = sound_sized _ (judge_passes _ c.judge.ensures c.in_ok-judge.was) in omega (arith, z.long.head_long)

pub returns-then-head-hart : goal.returns-then-head-hart
unfolding performed tests effect
returns-then-head-hart c =
    no _ (not_no _ (judge_passes _ c.judge.ensures c.in_ok-judge.was))
    (no _ (lt-leb _ _ c.if-head-on.false)
    (no _ (cc)
    (yes _ (le-leb _ _ c.if-head-hart.true) refl)))

pub is_dummy-requires : goal.is_dummy-requires
is_dummy-requires c =
    let z = sound_sized _ (judge_passes _ c.judge.ensures c.in_ok-judge.was) in omega (arith, c.if-head-hart.false, z.long.home_long)

pub returns-then-is_dummy : goal.returns-then-is_dummy
unfolding performed tests effect
returns-then-is_dummy c =
    no _ (not_no _ (judge_passes _ c.judge.ensures c.in_ok-judge.was))
    (no _ (lt-leb _ _ c.if-head-on.false)
    (no _ (cc)
    (no _ (lt-leb _ _ c.if-head-hart.false)
    (yes _ (sym c.is_dummy.ensures ∙ c.if-is_dummy.true) refl))))

pub is_executable-requires : goal.is_executable-requires
is_executable-requires c =
    let z = sound_sized _ (judge_passes _ c.judge.ensures c.in_ok-judge.was) in omega (arith, c.if-head-hart.false, z.long.home_long)

pub returns-then-not-is_executable : goal.returns-then-not-is_executable
unfolding performed tests effect
returns-then-not-is_executable c =
    no _ (not_no _ (judge_passes _ c.judge.ensures c.in_ok-judge.was))
    (no _ (lt-leb _ _ c.if-head-on.false)
    (no _ (cc)
    (no _ (lt-leb _ _ c.if-head-hart.false)
    (no _ (sym c.is_dummy.ensures ∙ c.if-is_dummy.false)
    (yes _ (not_yes _ (sym c.is_executable.ensures ∙ c.if-not-is_executable.true)) refl)))))

pub exchange-requires : goal.exchange-requires
exchange-requires c =
    let z = sound_sized _ (judge_passes _ c.judge.ensures c.in_ok-judge.was) in
    (omega (arith, c.if-head-hart.false, z.long.home_long), omega (arith, c.if-head-on.false, z.long.hardware_long))

pub bounds-head-2 : goal.bounds-head-2
bounds-head-2 c = let z = sound_sized _ (judge_passes _ c.judge.ensures c.in_ok-judge.was) in omega (arith, z.long.head_long)

pub returns : goal.returns
unfolding performed tests effect
returns c =
    no _ (not_no _ (judge_passes _ c.judge.ensures c.in_ok-judge.was))
    (no _ (lt-leb _ _ c.if-head-on.false)
    (no _ (cc)
    (no _ (lt-leb _ _ c.if-head-hart.false)
    (no _ (sym c.is_dummy.ensures ∙ c.if-is_dummy.false)
    (no _ (not_no _ (sym c.is_executable.ensures ∙ c.if-not-is_executable.false))
    (rw (c.exchange.ensures.0, c.exchange.ensures.1)))))))
