-- `sound_tables::is_queue_sound` meets its contract: the row that is looked at is queue i. Assumes nothing.
use mathlib.Core.Path.{ap, ◌∙◌}
use Rattle.remote_commands.specs.Queue.{queue_well_formed}
use Rattle.sound_tables.proofs.is_queue_sound.Goals as goal

pub returns : goal.returns
returns c = c.is_queue_well_formed.ensures ∙ ap queue_well_formed c.row.ensures.words
