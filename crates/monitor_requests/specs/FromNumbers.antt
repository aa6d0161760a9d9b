-- Plain numbers as what a setup and a request take.
use Rattle.std.specs.Prelude.{ℕ}
use Rattle.confidential_hart_remote_command.specs.declared.ConfidentialHartRemoteCommand.{ConfidentialHartRemoteCommand}
use Rattle.confidential_hart.specs.declared.ConfidentialHartId.{ConfidentialHartId}
use Rattle.confidential_hart.specs.declared.HardwareHartId.{HardwareHartId}
use Rattle.monitor_requests.specs.declared.Setup.{Setup}

-- a confidential hart's number
abbrev pub hart_id : ℕ → ConfidentialHartId
hart_id h = record { 0 = h }

-- a hardware hart's number
abbrev pub hardware_hart_id : ℕ → HardwareHartId
hardware_hart_id k = record { 0 = k }

-- what setup takes
abbrev pub setup_of : ℕ → ℕ → ℕ → ℕ → ℕ → ℕ → ℕ → Setup
setup_of n m boot a1 mepc vsatp vsstatus =
    record { harts = n; hardware = m; boot = boot; a1 = a1; mepc = mepc; vsatp = vsatp; vsstatus = vsstatus }

-- a command by its six numbers
abbrev pub command_of : ℕ → ℕ → ℕ → ℕ → ℕ → ℕ → ConfidentialHartRemoteCommand
command_of kind mask base start size tag = record { kind = kind; mask = mask; base = base; start = start; size = size; tag = tag }
