-- The fields of the status registers that setup, start and wake know, by the names of RISC-V Privileged (20211203).
use Rattle.std.specs.Prelude.{ℕ, ◌+◌, ◌*◌, ◌/◌, ◌%◌, ◌^◌, ◌≡◌, ◌≢◌, List, [], ◌∷◌}
use Rattle.bits.specs.Bit.{bit}

-- chapter "Supervisor-Level ISA", "Supervisor Status Register (sstatus)": SIE is bit 1, in mstatus too. Chapter "Hypervisor Extension", "Virtual
-- Supervisor Status Register (vsstatus)": its bits are those of sstatus
abbrev pub sie : ℕ
sie = 1

-- chapter "Machine-Level ISA", "Machine Status Registers (mstatus and mstatush)": SPIE is bit 5, MPIE is bit 7
abbrev pub spie : ℕ
spie = 5

abbrev pub mpie : ℕ
mpie = 7

-- the same: MPP, the privilege mode before a trap, is bits 11 and 12
abbrev pub mpp : ℕ
mpp = 11

-- chapter "Introduction", "Privilege Levels": supervisor mode is 1
abbrev pub supervisor : ℕ
supervisor = 1

-- chapter "Hypervisor Extension", "Machine Status Registers (mstatus and mstatush)": MPV, the virtualization mode before a trap, is bit 39
abbrev pub mpv : ℕ
mpv = 39

-- a status register with these fields, each a place and its value; every other bit is 0
abbrev pub status_of : List (ℕ × ℕ) → ℕ
status_of [] = 0
status_of (field ∷ fields) = field.1 * 2 ^ field.0 + status_of fields

-- every mstatus at setup: a trap return goes to virtual supervisor mode, with interrupts on before and after
abbrev pub initial_mstatus : ℕ
initial_mstatus = status_of ((mpv, 1) ∷ (mpp, supervisor) ∷ (spie, 1) ∷ (sie, 1) ∷ [])

-- the facts of an mstatus at setup, field by field
pub record MstatusAtSetup (status : ℕ) : Type 0 where
  pub mpv_set : bit mpv status ≡ 1
  pub mpp_supervisor : status / 2 ^ mpp % 4 ≡ supervisor
  pub spie_set : bit spie status ≡ 1
  pub sie_set : bit sie status ≡ 1
  pub others_clear : (j : ℕ) → j ≢ mpv → j ≢ mpp → j ≢ spie → j ≢ sie → bit j status ≡ 0
