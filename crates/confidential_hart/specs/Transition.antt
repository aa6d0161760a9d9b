-- What the five changes of a lifecycle give: a number, and the record.
use Rattle.std.specs.Prelude.{ℕ, not, List, Result, Ok, Err}
use Rattle.error.specs.declared.Error.{Error}
use Rattle.error.specs.Error.{number_of, done, hart_already_running, tables_not_sound, hardware_hart_idle}
use Rattle.table_rows.specs.Choice.{pick}
use Rattle.confidential_hart.specs.declared.ConfidentialHart.{ConfidentialHart}
use Rattle.confidential_hart.specs.Hart.{hart_of, is_dummy, well_formed}
use Rattle.hart_lifecycle_state.specs.declared.HartLifecycleState.{HartLifecycleState}
use Rattle.hart_lifecycle_state.specs.Lifecycle.{state_number, Entry, becomes, refused, start, suspend, stop, wake, off}
use Rattle.confidential_hart.specs.HartStart.{start_registers, wake_registers}

-- a number, and the record
pub record Transition : Type 0 where
  pub number : ℕ
  pub hart : ConfidentialHart

-- a refusal gives the record back as it came
abbrev pub refusal : ℕ → ConfidentialHart → Transition
refusal number h = record { number = number; hart = h }

-- the record with a new state and new registers
abbrev pub moved : ℕ → List ℕ → ConfidentialHart → ConfidentialHart
moved state registers h = hart_of h.vm h.id state h.operation h.x h.y registers

-- a change that is done
abbrev pub moves : ℕ → List ℕ → ConfidentialHart → Transition
moves state registers h = record { number = done; hart = moved state registers h }

-- a change of the record as the code tells it: done with another record, or refused with the record as it came
abbrev pub stepped : ConfidentialHart → Result ConfidentialHart Error → Transition
stepped h (Ok after) = record { number = done; hart = after }
stepped h (Err e) = refusal (number_of e) h

-- the state that a change leads to as the code tells it, in the record with new registers; or refused as above
abbrev pub turned : List ℕ → ConfidentialHart → Result HartLifecycleState Error → Transition
turned registers h (Ok state) = moves (state_number state) registers h
turned registers h (Err e) = refusal (number_of e) h

-- what the table says is done, with the registers that the change leaves
unfoldable pub applied : Entry → List ℕ → ConfidentialHart → Transition
applied (becomes state) registers h = moves state registers h
applied (refused number) registers h = refusal number h

-- a change: the checks in their order, with the number for a dummy, and then the table
unfoldable pub transition : (ℕ → Entry) → ℕ → List ℕ → ConfidentialHart → Transition
transition change idle registers h =
    pick (not (well_formed h)) (refusal tables_not_sound h)
    (pick (is_dummy h) (refusal idle h)
    (applied (change h.lifecycle) registers h))

-- start: a dummy is 2
abbrev pub after_start : ℕ → ℕ → ConfidentialHart → Transition
after_start address opaque h = transition start hart_already_running (start_registers h.id address opaque h.registers) h

-- suspend: a dummy is 16 here and in the three below
abbrev pub after_suspend : ConfidentialHart → Transition
after_suspend h = transition suspend hardware_hart_idle h.registers h

-- stop
abbrev pub after_stop : ConfidentialHart → Transition
after_stop h = transition stop hardware_hart_idle h.registers h

-- wake
abbrev pub after_wake : ℕ → ℕ → ConfidentialHart → Transition
after_wake address opaque h = transition wake hardware_hart_idle (wake_registers address opaque h.registers) h

-- off
abbrev pub after_off : ConfidentialHart → Transition
after_off h = transition off hardware_hart_idle h.registers h
