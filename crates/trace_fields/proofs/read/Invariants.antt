-- `trace_fields::read` meets its contract: reading the rest from here is reading the whole from the start. Assumes nothing.
use Prim.Native.Nat.{◌≤◌}
use mathlib.Core.Path.{◌≡◌}
use lib.ListN.{length, drop}
use Rattle.trace_fields.specs.Fields.{reading, read_on}
use Rattle.trace_fields.proofs.read.Given as goal

abbrev pub invariant-loop-byte : goal.invariant-loop-byte
invariant-loop-byte l =
    (l.byte-index ≤ length l.text)
    × (length l.fields ≡ length l.initial.fields)
    × (read_on (reading l.so_far l.fields) (drop l.byte-index l.text) ≡ read_on (reading l.initial.so_far l.initial.fields) l.text)
