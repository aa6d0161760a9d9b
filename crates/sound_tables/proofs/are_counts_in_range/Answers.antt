-- `sound_tables::are_counts_in_range` meets its contract: it computes the definition. Assumes nothing.
use mathlib.Core.Path.{refl}
use Rattle.sound_tables.proofs.are_counts_in_range.Goals as goal

pub returns : goal.returns
returns c = refl
