-- `mmio_regions::region` meets its contract. Assumes nothing.
use Rattle.mmio_regions.proofs.region.Goals as goal

pub returns : goal.returns
returns c i = record { base = c.word.ensures i; end = c.word-2.ensures i }
