-- `mmio_regions::is_mmio_region_defined` meets its contract. Assumes nothing.
use Rattle.mmio_regions.proofs.TableLaws.{first_any}
use Rattle.mmio_regions.proofs.is_mmio_region_defined.Goals as goal

pub returns : goal.returns
returns c = first_any _ _ c.find_containing.ensures
