-- `trace_requests::request` meets its contract: the fields stand at the front of the room. Assumes nothing.
use mathlib.Core.Path.{sym, ◌∙◌}
use lib.Seq.{length-take-le}
use Rattle.trace_fields.specs.Fields.{Reading, reading}
use Rattle.trace_fields.proofs.SoundLaws.{count_placed}
use Rattle.trace_requests.proofs.FieldRequestLaws.{tells_none, tells_part}
use Rattle.trace_requests.proofs.request.Goals as goal

pub returns-in_err-count : goal.returns-in_err-count
returns-in_err-count c =
    let x : Reading = reading c.args.line c.args.fields.now in
    rw c.from_residual.ensures (tells_none x (sym c.in_err-count.was ∙ c.end.ensures.0), c.end.ensures.1)

pub slice_bounds-request_of-end : goal.slice_bounds-request_of-end
slice_bounds-request_of-end c =
    count_placed (reading c.args.line c.args.fields.now) (sym c.in_ok-count.was ∙ c.end.ensures.0) c.end.ensures.1

pub slice_bounds-request_of-end-2 : goal.slice_bounds-request_of-end-2
slice_bounds-request_of-end-2 c =
    sym
    (length-take-le _ _
    (count_placed (reading c.args.line c.args.fields.now) (sym c.in_ok-count.was ∙ c.end.ensures.0) c.end.ensures.1))

pub returns : goal.returns
returns c =
    let x : Reading = reading c.args.line c.args.fields.now in
    (tells_part x (sym c.in_ok-count.was ∙ c.end.ensures.0) c.end.ensures.1 c.request_of.ensures, c.end.ensures.1)
