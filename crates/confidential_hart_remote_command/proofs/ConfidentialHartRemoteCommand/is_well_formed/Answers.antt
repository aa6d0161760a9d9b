-- `confidential_hart_remote_command::ConfidentialHartRemoteCommand::is_well_formed` meets its contract. Assumes nothing.
use Rattle.confidential_hart_remote_command.proofs.CommandLaws.{joined_form}
use Rattle.confidential_hart_remote_command.proofs.ConfidentialHartRemoteCommand.is_well_formed.Goals as goal

pub returns : goal.returns
returns c =
    simp (c.only.ensures, c.only-2.ensures, c.only-3.ensures) (joined_form c.args.self)
