-- `confidential_hart::ConfidentialHart::transition_from_stopped_to_started` meets its contract: the change, with the registers of a start. Assumes nothing.
use Rattle.confidential_hart.specs.HartStart.{start_registers}
use Rattle.confidential_hart.proofs.ConfidentialHart.transition_from_stopped_to_started.Goals as goal

pub returns : goal.returns
unfolding start_registers
returns c = rw (c.into.ensures, c.disable_bit.ensures, c.disable_bit-2.ensures, c.disable_bit-mstatus.ensures) (c.in_ok-change.ensures _)
