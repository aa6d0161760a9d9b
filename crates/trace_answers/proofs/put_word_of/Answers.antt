-- `trace_answers::put_word_of` meets its contract: no word is no text. Assumes nothing.
use mathlib.Core.Path.{sym, ap, ◌∙◌}
use native.Mathlib.Omega.{arith}
use lib.ListN.{length}
use Rattle.trace_text.proofs.WriteLaws.{put_none, put_as}
use Rattle.trace_answers.specs.Printed.{word_text}
use Rattle.trace_answers.proofs.put_word_of.Goals as goal

pub returns-in-None : goal.returns-in-None
returns-in-None c = put_as (sym (ap word_text c.in-None.is)) (put_none _ _)

pub put_said-requires : goal.put_said-requires
put_said-requires c = omega (arith, ap length (c.key_of.ensures ∙ sym (ap word_text c.in-Some.is)))

pub returns-in-Some : goal.returns-in-Some
returns-in-Some c = put_as (c.key_of.ensures ∙ sym (ap word_text c.in-Some.is)) c.put_said.ensures
