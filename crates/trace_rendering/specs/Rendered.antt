-- A request as a line, written to a buffer.
use Rattle.std.specs.Prelude.{ℕ, List, length, leb}
use Rattle.trace_text.specs.Text.{Printing, printed_in}
use Rattle.trace_requests.specs.declared.TraceLine.{TraceLine}
use Rattle.trace_requests.specs.Lines.{line_of}

-- the most bytes of a line without its end: broadcast, and seven numbers of twenty digits with their tabs
abbrev pub most_rendered : ℕ
most_rendered = 156

-- the line of a request is written over the front of the buffer; nothing is where the room is too short
unfoldable pub rendered_over : TraceLine → List ℕ → Printing
rendered_over r out = printed_in (leb most_rendered (length out)) (line_of r) out
