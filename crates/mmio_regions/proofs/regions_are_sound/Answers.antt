-- `mmio_regions::regions_are_sound` meets its contract. Assumes nothing.
use mathlib.Core.Path.{ap, ap₂, ◌∙◌}
use mathlib.Core.Bool.{◌&&◌}
use Prim.Native.Nat.{◌*◌}
use lib.ListN.{length}
use borrow.Author.Rules.{rules}
use borrow.Author.Tests.{lt-leb, le-leb}
use Rattle.table_rows.specs.Choice.{all_zero}
use Rattle.mmio_regions.specs.Regions.{max_regions}
use Rattle.mmio_regions.specs.Table.{region_words, regions_sound}
use Rattle.mmio_regions.proofs.SoundLaws.{unused_part}
use Rattle.mmio_regions.proofs.regions_are_sound.Goals as goal

pub returns-then-regions-lt-TABLE_WORDS : goal.returns-then-regions-lt-TABLE_WORDS
unfolding regions_sound
returns-then-regions-lt-TABLE_WORDS c =
    let args = c.args in
    rw (lt-leb (max_regions * region_words) (length args.regions.now) (search rules))

pub returns-then-count : goal.returns-then-count
unfolding regions_sound
returns-then-count c =
    let args = c.args in
    rw (le-leb (max_regions * region_words) (length args.regions.now) (search rules), lt-leb args.count max_regions (search rules))

pub returns : goal.returns
unfolding regions_sound
returns c =
    let args = c.args in
    rw (le-leb (max_regions * region_words) (length args.regions.now) (search rules), le-leb args.count max_regions (search rules))
    (ap₂ ◌&&◌ c.all_ordered.ensures (c.all_zero.ensures ∙ ap all_zero (unused_part args.regions.now args.count)))
