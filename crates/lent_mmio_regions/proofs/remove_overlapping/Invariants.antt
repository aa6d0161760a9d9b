-- `lent_mmio_regions::remove_overlapping` meets its contract: the records passed are dealt with, those kept stand first. Assumes nothing.
use Rattle.lent_mmio_regions.proofs.RemoveLaws.{Left}
use Rattle.lent_mmio_regions.proofs.remove_overlapping.Given as goal

abbrev pub invariant-loop-i : goal.invariant-loop-i
invariant-loop-i l = Left l.initial.regions l.query l.i l.next l.regions
