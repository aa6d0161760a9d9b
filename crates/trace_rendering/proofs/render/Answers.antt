-- `trace_rendering::render` meets its contract: the line is put at the front, or nothing. Assumes nothing.
use native.Mathlib.Omega.{arith}
use Rattle.trace_rendering.proofs.RenderedLaws.{line_put, nothing_put}
use Rattle.trace_rendering.proofs.render.Goals as goal

pub returns-then-out-lt-MOST_RENDERED : goal.returns-then-out-lt-MOST_RENDERED
returns-then-out-lt-MOST_RENDERED c = nothing_put _ _ c.if-out-lt-MOST_RENDERED.true

pub returns : goal.returns
returns c = line_put _ _ (omega arith) c.put_trace_line.ensures
