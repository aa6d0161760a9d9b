-- The numbers given back.
use Rattle.std.specs.Prelude.{ℕ, Result, Ok, Err}
use Rattle.error.specs.declared.Error.{Error}
use Rattle.error.specs.declared.Error.TheVariants.{InvalidHartId, HartAlreadyRunning, HartNotExecutable, CannotStartNotStoppedHart, CannotSuspedNotStartedHart, CannotStopNotStartedHart, CannotStartNotSuspendedHart, ReachedMaxNumberOfRemoteCommands, ReachedMaxNumberOfMmioRegions, OverlappingMmioRegion, EndTooLarge, TablesNotSound, RoomTooShort, NoSuchHardwareHart, HardwareHartBusy, HardwareHartIdle, OperationPending, SetupOutOfRange, UnknownKind, BadLine}

-- done
abbrev pub done : ℕ
done = 0

-- the hart's number is n or above
abbrev pub invalid_hart_id : ℕ
invalid_hart_id = 1

-- the home row holds a dummy
abbrev pub hart_already_running : ℕ
hart_already_running = 2

-- the lifecycle is neither Started nor Suspended
abbrev pub hart_not_executable : ℕ
hart_not_executable = 3

-- by the lifecycle table: start
abbrev pub cannot_start_not_stopped_hart : ℕ
cannot_start_not_stopped_hart = 4

-- by the lifecycle table: suspend (the Rust spells it so)
abbrev pub cannot_susped_not_started_hart : ℕ
cannot_susped_not_started_hart = 5

-- by the lifecycle table: stop
abbrev pub cannot_stop_not_started_hart : ℕ
cannot_stop_not_started_hart = 6

-- by the lifecycle table: wake
abbrev pub cannot_start_not_suspended_hart : ℕ
cannot_start_not_suspended_hart = 7

-- a receiver already has 64 commands
abbrev pub reached_max_number_of_remote_commands : ℕ
reached_max_number_of_remote_commands = 8

-- 1,024 regions stand
abbrev pub reached_max_number_of_mmio_regions : ℕ
reached_max_number_of_mmio_regions = 9

-- a region overlaps
abbrev pub overlapping_mmio_region : ℕ
overlapping_mmio_region = 10

-- base + size is above 2^64 − 1
abbrev pub end_too_large : ℕ
end_too_large = 11

-- the tables, or the record, are not as they must be
abbrev pub tables_not_sound : ℕ
tables_not_sound = 12

-- setup's tables or the effects have too little room
abbrev pub room_too_short : ℕ
room_too_short = 13

-- the hardware hart's number is m or above
abbrev pub no_such_hardware_hart : ℕ
no_such_hardware_hart = 14

-- the hardware hart holds a real hart
abbrev pub hardware_hart_busy : ℕ
hardware_hart_busy = 15

-- the hardware hart holds its dummy
abbrev pub hardware_hart_idle : ℕ
hardware_hart_idle = 16

-- an operation is set
abbrev pub operation_pending : ℕ
operation_pending = 17

-- n, m or the boot hart is out of range
abbrev pub setup_out_of_range : ℕ
setup_out_of_range = 18

-- no such kind, or an unused number of a command is not 0
abbrev pub unknown_kind : ℕ
unknown_kind = 19

-- a line in no form
abbrev pub bad_line : ℕ
bad_line = 20

-- the number of each error
abbrev pub number_of : Error → ℕ
number_of InvalidHartId = invalid_hart_id
number_of HartAlreadyRunning = hart_already_running
number_of HartNotExecutable = hart_not_executable
number_of CannotStartNotStoppedHart = cannot_start_not_stopped_hart
number_of CannotSuspedNotStartedHart = cannot_susped_not_started_hart
number_of CannotStopNotStartedHart = cannot_stop_not_started_hart
number_of CannotStartNotSuspendedHart = cannot_start_not_suspended_hart
number_of ReachedMaxNumberOfRemoteCommands = reached_max_number_of_remote_commands
number_of ReachedMaxNumberOfMmioRegions = reached_max_number_of_mmio_regions
number_of OverlappingMmioRegion = overlapping_mmio_region
number_of EndTooLarge = end_too_large
number_of TablesNotSound = tables_not_sound
number_of RoomTooShort = room_too_short
number_of NoSuchHardwareHart = no_such_hardware_hart
number_of HardwareHartBusy = hardware_hart_busy
number_of HardwareHartIdle = hardware_hart_idle
number_of OperationPending = operation_pending
number_of SetupOutOfRange = setup_out_of_range
number_of UnknownKind = unknown_kind
number_of BadLine = bad_line

-- the number of an answer: done, or the error's
abbrev pub number_in : {A : Type 0} → Result A Error → ℕ
number_in (Ok x) = done
number_in (Err e) = number_of e
