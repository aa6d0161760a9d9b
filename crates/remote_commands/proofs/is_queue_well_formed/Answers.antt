-- `remote_commands::is_queue_well_formed` meets its contract: what lies past the last command is lent as a part. Assumes nothing.
use borrow.Author.Tests.{le-leb, lt-leb}
use lib.Seq.{drop-drop}
use Rattle.table_rows.proofs.PartLaws.{rest_part}
use Rattle.remote_commands.specs.Queue.{queue_well_formed}
use Rattle.remote_commands.proofs.is_queue_well_formed.Goals as goal

pub returns-then-n-gt-MAX_NUMBER_OF_COMMANDS : goal.returns-then-n-gt-MAX_NUMBER_OF_COMMANDS
unfolding queue_well_formed
returns-then-n-gt-MAX_NUMBER_OF_COMMANDS c = rw (lt-leb _ _ c.if-n-gt-MAX_NUMBER_OF_COMMANDS.true)

pub returns : goal.returns
unfolding queue_well_formed
returns c =
    rw (le-leb _ _ c.if-n-gt-MAX_NUMBER_OF_COMMANDS.false, c.are_commands_well_formed.ensures, c.all_zero.ensures, rest_part, drop-drop)
