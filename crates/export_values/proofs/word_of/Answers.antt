-- `export_values::word_of` meets its contract: one choice. Assumes nothing.
use Rattle.std.proofs.Common.{rules}
use Rattle.monitor_requests.proofs.AnswerLaws.{flag_value}
use Rattle.export_values.proofs.word_of.Goals as goal

pub returns : goal.returns
returns c = search (rules, flag_value)
