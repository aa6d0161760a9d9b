-- `mmio_regions::set_region` meets its contract. Assumes nothing.
use Rattle.mmio_regions.proofs.TableLaws.{put_place}
use Rattle.mmio_regions.proofs.set_region.Goals as goal

pub returns : goal.returns
returns c = put_place c.args.regions.now c.args.i c.args.region c.requires
