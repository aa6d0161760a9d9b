-- `trace_text::put_field` meets its contract: the decimal is put after the tab. Assumes nothing.
use native.Mathlib.Omega.{arith}
use Rattle.trace_text.proofs.WriteLaws.{put_then}
use Rattle.trace_text.proofs.put_field.Goals as goal

pub returns : goal.returns
returns c =
    put_then (omega arith) c.put_byte-place.ensures c.put_number.ensures
