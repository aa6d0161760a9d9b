-- Which requests write no table but the hardware rows.
use Rattle.std.specs.Prelude.{Bool, true, false}
use Rattle.monitor_requests.specs.declared.Request.{Request}
use Rattle.monitor_requests.specs.declared.Request.TheVariants.{
  Steal,
  Return,
  Start,
  Suspend,
  Stop,
  Wake,
  Off,
  Await,
  Status,
  Home,
  Send,
  Allow,
  Add,
  Remove,
  Defined,
  Broadcast,
  Process,
  Resume,
}

-- it writes no table but the hardware rows
abbrev pub hardware_alone : Request → Bool
hardware_alone (Steal hart on) = false
hardware_alone (Return on) = false
hardware_alone (Start hart address opaque) = false
hardware_alone (Suspend on) = true
hardware_alone (Stop on) = true
hardware_alone (Wake on address opaque) = true
hardware_alone (Off on) = true
hardware_alone (Await on kind x y) = true
hardware_alone (Status hart) = true
hardware_alone Home = true
hardware_alone (Send sender c) = false
hardware_alone (Allow bits) = false
hardware_alone (Add base size) = false
hardware_alone (Remove base size) = false
hardware_alone (Defined base size) = true
hardware_alone (Broadcast on c) = false
hardware_alone (Process on) = false
hardware_alone (Resume on) = false
