-- `confidential_hart::are_parts_well_formed` meets its contract: it computes the definition. Assumes nothing.
use Rattle.confidential_hart.specs.Hart.{well_formed}
use Rattle.confidential_hart.proofs.are_parts_well_formed.Goals as goal

pub returns : goal.returns
unfolding well_formed
returns c = rw c.all_zero-blank.ensures
