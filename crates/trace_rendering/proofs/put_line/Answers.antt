-- `trace_rendering::put_line` meets its contract: the numbers are put after the word. Assumes nothing.
use native.Mathlib.Omega.{arith}
use Rattle.trace_text.proofs.WriteLaws.{put_then}
use Rattle.trace_rendering.proofs.RenderedLaws.{word_most, line_most}
use Rattle.trace_rendering.proofs.put_line.Goals as goal

pub put_word-place-requires : goal.put_word-place-requires
put_word-place-requires c = omega (arith, word_most c.args.key c.requires.0)

pub put_numbers-requires : goal.put_numbers-requires
put_numbers-requires c =
    omega (arith, line_most c.args.key c.args.numbers.now c.requires.0 c.requires.1)

pub returns : goal.returns
returns c =
    put_then (omega arith) c.put_word-place.ensures c.put_numbers.ensures
