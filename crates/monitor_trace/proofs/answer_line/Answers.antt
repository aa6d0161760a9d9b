-- `monitor_trace::answer_line` meets its contract: the line is performed, and its answer printed. Assumes nothing.
use mathlib.Core.Path.{refl}
use borrow.Author.Tests.{lt-ltb}
use Rattle.table_rows.proofs.PickLaws.{yes}
use Rattle.monitor_trace.specs.Trace.{turn}
use Rattle.monitor_trace.proofs.TurnLaws.{turn_is}
use Rattle.monitor_trace.proofs.answer_line.Goals as goal

pub returns-then-out-lt-MOST_PRINTED : goal.returns-then-out-lt-MOST_PRINTED
unfolding turn
returns-then-out-lt-MOST_PRINTED c = yes _ (lt-ltb _ _ c.if-out-lt-MOST_PRINTED.true) refl

pub returns : goal.returns
returns c =
    turn_is _ _ _ _ _ _ _ _ _ _ _ c.if-out-lt-MOST_PRINTED.false c.perform_line-reply.ensures c.is_ok.ensures.value c.print.ensures
