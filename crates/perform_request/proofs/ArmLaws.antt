-- A request that is none of the three that do commands does none. Assumes nothing.
use mathlib.Core.Path.{◌≡◌, refl}
use mathlib.Core.Logic.{◌≢◌}
use mathlib.Core.Bool.{true}
use Rattle.confidential_hart.specs.declared.HardwareHartId.{HardwareHartId}
use Rattle.confidential_hart_remote_command.specs.declared.ConfidentialHartRemoteCommand.{ConfidentialHartRemoteCommand}
use Rattle.monitor_requests.specs.declared.Request.{Request}
use Rattle.monitor_requests.specs.declared.Request.TheVariants.{
  Steal,
  Return,
  Start,
  Suspend,
  Stop,
  Wake,
  Off,
  Await,
  Status,
  Home,
  Send,
  Allow,
  Add,
  Remove,
  Defined,
  Broadcast,
  Process,
  Resume,
}
use Rattle.monitor_requests.specs.Requests.{does_no_command}

pub plain : (r : Request) → ((on : HardwareHartId) (c : ConfidentialHartRemoteCommand) → r ≢ Broadcast on c)
    → ((on : HardwareHartId) → r ≢ Process on)
    → ((on : HardwareHartId) → r ≢ Resume on)
    → does_no_command r ≡ true
plain (Steal hart on) b p r = refl
plain (Return on) b p r = refl
plain (Start hart address opaque) b p r = refl
plain (Suspend on) b p r = refl
plain (Stop on) b p r = refl
plain (Wake on address opaque) b p r = refl
plain (Off on) b p r = refl
plain (Await on kind x y) b p r = refl
plain (Status hart) b p r = refl
plain Home b p r = refl
plain (Send sender c) b p r = refl
plain (Allow bits) b p r = refl
plain (Add base size) b p r = refl
plain (Remove base size) b p r = refl
plain (Defined base size) b p r = refl
plain (Broadcast on c) b p r = absurd (b on c refl)
plain (Process on) b p r = absurd (p on refl)
plain (Resume on) b p r = absurd (r on refl)
