-- The lifecycle of a hart: RISC-V SBI 2.0, chapter 9 "Hart State Management Extension", without its pending states, and with PoweredOff, a last state
-- that the chapter lacks.
use Rattle.std.specs.Prelude.{◌≡◌, ℕ, ◌<◌, Result, Ok, Err, MatchResult, eqb}
use Rattle.error.specs.declared.Error.{Error}
use Rattle.error.specs.declared.Error.TheVariants.{TablesNotSound}
use Rattle.error.specs.Error.{number_of, cannot_start_not_stopped_hart, cannot_susped_not_started_hart, cannot_stop_not_started_hart, cannot_start_not_suspended_hart}
use Rattle.table_rows.specs.Choice.{pick}
use Rattle.hart_lifecycle_state.specs.declared.HartLifecycleState.{HartLifecycleState}
use Rattle.hart_lifecycle_state.specs.declared.HartLifecycleState.TheVariants.{Started, Stopped, Suspended, PoweredOff}
use Rattle.hart_lifecycle_state.specs.declared.LifecycleChange.{LifecycleChange}
use Rattle.hart_lifecycle_state.specs.declared.LifecycleChange.TheVariants.{Start, Suspend, Stop, Wake, Off}

-- the states
abbrev pub started : ℕ
started = 0

abbrev pub stopped : ℕ
stopped = 1

abbrev pub suspended : ℕ
suspended = 2

abbrev pub powered_off : ℕ
powered_off = 3

-- what a change does to a state: a new state, or a refusal by a number
pub data Entry : Type 0 where
  becomes : ℕ → Entry
  refused : ℕ → Entry

-- a change that leads from one state alone to another, and refuses every other state
unfoldable pub only : ℕ → ℕ → ℕ → ℕ → Entry
only from to refusal state = pick (eqb state from) (becomes to) (refused refusal)

-- start leads from Stopped to Started
abbrev pub start : ℕ → Entry
start = only stopped started cannot_start_not_stopped_hart

-- suspend leads from Started to Suspended
abbrev pub suspend : ℕ → Entry
suspend = only started suspended cannot_susped_not_started_hart

-- stop leads from Started to Stopped
abbrev pub stop : ℕ → Entry
stop = only started stopped cannot_stop_not_started_hart

-- wake leads from Suspended to Started
abbrev pub wake : ℕ → Entry
wake = only suspended started cannot_start_not_suspended_hart

-- off leads from any state to PoweredOff
abbrev pub off : ℕ → Entry
off state = becomes powered_off

-- the change of each name
abbrev pub change_of : LifecycleChange → ℕ → Entry
change_of Start = start
change_of Suspend = suspend
change_of Stop = stop
change_of Wake = wake
change_of Off = off

-- the number of a state
abbrev pub state_number : HartLifecycleState → ℕ
state_number Started = started
state_number Stopped = stopped
state_number Suspended = suspended
state_number PoweredOff = powered_off

-- the state of a number, or 12 for a number past them
abbrev pub StateOf : ℕ → Result HartLifecycleState Error → Type 0
StateOf number r = MatchResult r (λ state. number ≡ state_number state) (λ e. (e ≡ TablesNotSound) × (powered_off < number))

-- a change as the code tells it
abbrev pub entry_of : Result HartLifecycleState Error → Entry
entry_of (Ok state) = becomes (state_number state)
entry_of (Err e) = refused (number_of e)

-- the number of an entry: the new state, or what refuses
abbrev pub entry_number : Entry → ℕ
entry_number (becomes state) = state
entry_number (refused number) = number
