-- `confidential_vm_setup::clear_front` meets its contract: the front is lent as a part and comes back as zeros. Assumes nothing.
use Rattle.confidential_vm_setup.proofs.WriteLaws.{front_cleared}
use Rattle.confidential_vm_setup.proofs.clear_front.Goals as goal

pub returns : goal.returns
returns c =
    front_cleared c.args.n c.args.words.now c.requires c.clear.ensures
