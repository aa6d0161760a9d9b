-- `trace_rendering::put_trace_line` meets its contract: a setup or a request. Assumes nothing.
use mathlib.Core.Path.{sym, ap}
use Rattle.trace_text.proofs.WriteLaws.{put_as}
use Rattle.trace_requests.specs.Lines.{spelling, line_of}
use Rattle.trace_rendering.proofs.RenderedLaws.{in_case}
use Rattle.trace_rendering.proofs.put_trace_line.Goals as goal

pub returns-in-SetUp : goal.returns-in-SetUp
unfolding spelling
returns-in-SetUp c = in_case c.in-SetUp.is c.put_line.ensures

pub returns-in-Ask : goal.returns-in-Ask
returns-in-Ask c = put_as (sym (ap line_of c.in-Ask.is)) c.put_request.ensures
