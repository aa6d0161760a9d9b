-- The home rows of sound tables are as a broadcast needs them. Assumes nothing.
use mathlib.Core.Path.{◌≡◌}
use mathlib.Core.Bool.{true}
use Rattle.monitor_requests.specs.Tables.{Tables, harts, sound}
use Rattle.monitor_requests.proofs.SoundLaws.{sound_sized}
use Rattle.monitor_requests.proofs.BroadcastLaws.{dummy_number}
use Rattle.confidential_vm_remote_commands.specs.Homes.{Homes}

pub sound_homes : (t : Tables) → sound t ≡ true → Homes (harts t) t.home
sound_homes t s = record { long = (sound_sized t s).long.home_long; numbered = dummy_number t s }
