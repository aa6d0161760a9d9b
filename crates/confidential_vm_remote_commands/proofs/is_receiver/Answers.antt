-- `confidential_vm_remote_commands::is_receiver` meets its contract: the three tests in order. Assumes nothing.
use Rattle.monitor_requests.specs.Requests.{receives}
use Rattle.confidential_vm_remote_commands.proofs.is_receiver.Goals as goal

pub returns : goal.returns
unfolding receives
returns c = rw (c.is_hart_selected.ensures, c.is_executable.ensures)
