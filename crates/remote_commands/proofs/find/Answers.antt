-- `remote_commands::find` meets its contract: it stops at the first command that equals c. Assumes nothing.
use Rattle.std.proofs.Common.{rules, ◌≡◌, refl}
use Rattle.std.proofs.iter.runs.Sources.{ranges}
use lib.ListN.{get_or}
use Rattle.table_rows.proofs.ExistsLaws.{exists_found}
use Rattle.confidential_hart_remote_command.specs.Command.{same}
use Rattle.remote_commands.specs.Queue.{queued}
use Rattle.remote_commands.proofs.find.Goals as goal

pub returns : goal.returns
unfolding queued same
returns c =
    exists_found _ _ _
    (λ e. search (rules, ranges))
    (λ e i l. let read : get_or c.args.queue.now i 0 ≡ get_or c.args.queue.now i 0 = refl in search (rules, ranges))
