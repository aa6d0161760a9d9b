-- `trace_answers::put_did` meets its contract: the record is lent as a part, and the line's end is put after its numbers. Assumes nothing.
use Prim.Native.Nat.{ℕ}
use mathlib.Core.Path.{ap}
use mathlib.Core.List.{List}
use native.Mathlib.Omega.{arith}
use lib.ListN.{length}
use Rattle.trace_text.specs.Text.{numbers}
use Rattle.trace_text.proofs.WriteLaws.{put_as, put_then}
use Rattle.trace_answers.proofs.PrintedLaws.{word_did, record_most}
use Rattle.trace_answers.proofs.put_did.Goals as goal

pub put_word-place-requires : goal.put_word-place-requires
put_word-place-requires c = omega (arith, ap length word_did)

pub put_numbers-end-requires : goal.put_numbers-end-requires
put_numbers-end-requires c =
    omega (arith, ap length word_did, ap (λ (ws : List ℕ). length (numbers ws)) c.row-record.ensures.words, record_most c.args.effects.now c.args.i)

pub put_byte-requires : goal.put_byte-requires
put_byte-requires c =
    omega (arith, ap length word_did, ap (λ (ws : List ℕ). length (numbers ws)) c.row-record.ensures.words, record_most c.args.effects.now c.args.i)

pub returns : goal.returns
returns c =
    put_then (omega arith) (put_as word_did c.put_word-place.ensures)
    (put_then (omega (arith, ap length word_did)) (put_as (ap numbers c.row-record.ensures.words) c.put_numbers-end.ensures) c.put_byte.ensures)
