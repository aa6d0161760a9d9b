-- `mmio_regions::remove` meets its contract: the places passed are swept. Assumes nothing.
use Rattle.mmio_regions.proofs.RemoveLaws.{Swept}
use Rattle.mmio_regions.proofs.remove.Given as goal

abbrev pub invariant-loop-i : goal.invariant-loop-i
invariant-loop-i l = Swept l.query l.initial.regions l.i l.kept l.regions
