-- `trace_answers::put_said` meets its contract: the word is put after a tab. Assumes nothing.
use native.Mathlib.Omega.{arith}
use Rattle.trace_text.proofs.WriteLaws.{put_then}
use Rattle.trace_answers.proofs.put_said.Goals as goal

pub returns : goal.returns
returns c = put_then (omega arith) c.put_byte-place.ensures c.put_word.ensures
