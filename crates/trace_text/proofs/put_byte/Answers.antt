-- `trace_text::put_byte` meets its contract: a store is one byte written. Assumes nothing.
use mathlib.Core.Path.{refl}
use Rattle.trace_text.proofs.WriteLaws.{written_one}
use Rattle.trace_text.proofs.put_byte.Goals as goal

pub returns : goal.returns
returns c = record { ends = refl; leaves = written_one c.args.at c.args.byte c.args.out.now c.requires }
