-- `trace_requests::parse` meets its contract: the line is read from the start on, in room for the most fields. Assumes nothing.
use borrow.Author.Rules.{rules}
use Rattle.trace_requests.proofs.LineLaws.{reads_read}
use Rattle.trace_requests.proofs.parse.Goals as goal

pub returns : goal.returns
returns c =
    reads_read _ (search rules) _ c.start.ensures c.read-line.ensures c.request.ensures.0
