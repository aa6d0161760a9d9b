-- `monitor_requests::Told::new` meets its contract: only the flag's number needs a law. Assumes nothing.
use Rattle.std.proofs.Common.{rules}
use Rattle.table_rows.specs.Choice.{pick}
use Rattle.monitor_requests.proofs.AnswerLaws.{flag_value}
use Rattle.monitor_requests.proofs.Told.new.Goals as goal

pub returns-in-Ok-Flag : goal.returns-in-Ok-Flag
unfolding pick
returns-in-Ok-Flag c = search (rules, flag_value)
