-- `monitor::Trace::answer` keeps what waits within the buffer. Assumes nothing.
use native.Mathlib.Omega.{arith}
use lib.ListN.{length-take}
use Rattle.monitor_trace.proofs.TurnLaws.{answered_within}
use Rattle.monitor.proofs.Trace.answer.Goals as goal

pub overflow_add-self : goal.overflow_add-self
overflow_add-self g c =
    omega (arith, c.unwrap_or.ensures, simp length-take at (answered_within _ _ _ _ _ c.answer_line-turn.ensures))

pub invariant_of-self : goal.invariant_of-self
invariant_of-self g c =
    record { within = omega (arith, c.unwrap_or.ensures, simp length-take at (answered_within _ _ _ _ _ c.answer_line-turn.ensures)) }
