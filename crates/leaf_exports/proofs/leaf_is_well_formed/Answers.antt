-- `leaf_exports::leaf_is_well_formed` meets its contract: it asks about the command that the words hold. Assumes nothing.
use mathlib.Core.Path.{ap, ◌∙◌}
use Rattle.confidential_hart_remote_command.specs.Command.{well_formed}
use Rattle.leaf_exports.proofs.leaf_is_well_formed.Goals as goal

pub returns : goal.returns
returns c = c.is_well_formed.ensures ∙ ap well_formed c.from_words.ensures
