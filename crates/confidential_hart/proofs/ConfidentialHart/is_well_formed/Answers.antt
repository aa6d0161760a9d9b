-- `confidential_hart::ConfidentialHart::is_well_formed` meets its contract: the record's number is not looked at. Assumes nothing.
use Rattle.confidential_hart.specs.Hart.{well_formed}
use Rattle.confidential_hart.proofs.ConfidentialHart.is_well_formed.Goals as goal

pub returns : goal.returns
unfolding well_formed
returns c = c.are_parts_well_formed.ensures
