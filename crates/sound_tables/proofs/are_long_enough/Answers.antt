-- `sound_tables::are_long_enough` meets its contract: it computes the definition. Assumes nothing.
use mathlib.Core.Path.{refl}
use Rattle.monitor_requests.specs.Tables.{long_enough}
use Rattle.sound_tables.proofs.are_long_enough.Goals as goal

pub returns : goal.returns
unfolding long_enough
returns c = refl
