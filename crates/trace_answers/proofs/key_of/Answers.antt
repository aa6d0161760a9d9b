-- `trace_answers::key_of` meets its contract: word by word. Assumes nothing.
use Rattle.std.proofs.Common.{Some}
use mathlib.Core.Path.{sym, ap, ◌∙◌}
use Rattle.monitor_requests.specs.declared.Word.{Word}
use Rattle.trace_answers.specs.Printed.{word_text}
use Rattle.trace_answers.proofs.PrintedLaws.{word_run, word_off, word_op}
use Rattle.trace_answers.proofs.key_of.Goals as goal

pub returns-in-Run : goal.returns-in-Run
returns-in-Run c = word_run ∙ sym (ap (λ (w : Word). word_text (Some w)) c.in-Run.is)

pub returns-in-Off : goal.returns-in-Off
returns-in-Off c = word_off ∙ sym (ap (λ (w : Word). word_text (Some w)) c.in-Off.is)

pub returns-in-Op : goal.returns-in-Op
returns-in-Op c = word_op ∙ sym (ap (λ (w : Word). word_text (Some w)) c.in-Op.is)
