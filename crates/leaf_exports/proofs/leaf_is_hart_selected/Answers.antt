-- `leaf_exports::leaf_is_hart_selected` meets its contract: it asks about the command that the words hold. Assumes nothing.
use mathlib.Core.Path.{ap, ◌∙◌}
use Rattle.confidential_hart_remote_command.specs.declared.ConfidentialHartRemoteCommand.{ConfidentialHartRemoteCommand}
use Rattle.confidential_hart_remote_command.specs.Selection.{selects}
use Rattle.leaf_exports.proofs.leaf_is_hart_selected.Goals as goal

pub returns : goal.returns
returns c = c.is_hart_selected.ensures ∙ ap (λ (d : ConfidentialHartRemoteCommand). selects d c.args.hart) c.from_words.ensures
