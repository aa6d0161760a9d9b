-- `confidential_hart::ConfidentialHart::transition_from_suspended_to_started` meets its contract: the change, with the registers of a wake. Assumes nothing.
use Rattle.confidential_hart.specs.HartStart.{wake_registers}
use Rattle.confidential_hart.proofs.ConfidentialHart.transition_from_suspended_to_started.Goals as goal

pub returns : goal.returns
unfolding wake_registers
returns c = rw c.into.ensures (c.in_ok-change.ensures _)
