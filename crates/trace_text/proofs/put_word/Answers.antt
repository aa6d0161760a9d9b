-- `trace_text::put_word` meets its contract: at its base and its digit 0. Assumes nothing.
use Rattle.trace_text.proofs.put_word.Goals as goal

pub returns : goal.returns
returns c = c.put_spelled.ensures
