-- `trace_answers::put_all_did` meets its contract: the lines of the records passed are put, one after the other. Assumes nothing.
use mathlib.Core.Path.{◌≡◌}
use lib.ListN.{length}
use Rattle.table_rows.specs.Rows.{rows_of}
use Rattle.trace_text.specs.Text.{Put}
use Rattle.trace_answers.specs.Printed.{did_line}
use Rattle.trace_answers.proofs.put_all_did.Given as goal

abbrev pub invariant-loop-i : goal.invariant-loop-i
invariant-loop-i l = (length l.out ≡ length l.initial.out) × Put 0 (rows_of (did_line l.effects) l.i) l.initial.out l.place l.out
