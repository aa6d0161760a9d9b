-- The registers of a hart that starts and of one that wakes.
use Rattle.std.specs.Prelude.{ℕ, ◌≡◌, ◌≢◌, List, [], ◌∷◌, length, get_or, set}
use Rattle.bits.specs.Bit.{bit, clear_bit}
use Rattle.confidential_hart.specs.Status.{sie, spie, mpie}

-- the places of the saved registers
abbrev pub a0 : ℕ
a0 = 0

abbrev pub a1 : ℕ
a1 = 1

abbrev pub mepc : ℕ
mepc = 2

abbrev pub vsatp : ℕ
vsatp = 3

abbrev pub mstatus : ℕ
mstatus = 4

abbrev pub vsstatus : ℕ
vsstatus = 5

-- registers after writes to some of them, each a place and its new value; the others are as they were
abbrev pub written : List (ℕ × ℕ) → List ℕ → List ℕ
written [] registers = registers
written (w ∷ ws) registers = written ws (set registers w.0 w.1)

-- start: vsatp 0, mstatus bits 5 and 7 to 0, vsstatus bit 1 to 0, a0 the hart's number, a1 opaque, mepc address
unfoldable pub start_registers : ℕ → ℕ → ℕ → List ℕ → List ℕ
start_registers id address opaque registers =
    written
    ((vsatp, 0)
    ∷ (mstatus, clear_bit mpie (clear_bit spie (get_or registers mstatus 0)))
    ∷ (vsstatus, clear_bit sie (get_or registers vsstatus 0))
    ∷ (a0, id)
    ∷ (a1, opaque)
    ∷ (mepc, address)
    ∷ [])
    registers

-- wake: a1 and mepc only
unfoldable pub wake_registers : ℕ → ℕ → List ℕ → List ℕ
wake_registers address opaque registers = written ((a1, opaque) ∷ (mepc, address) ∷ []) registers

-- the facts of a start. RISC-V SBI 2.0, chapter 9 "Hart State Management Extension", on hart start, asks for satp 0, sstatus.SIE 0, a0 the hartid,
-- a1 the opaque number, and execution at start_addr; a virtual hart's satp and sstatus are vsatp and vsstatus. SPIE and MPIE of mstatus are
-- cleared as in the Rust. What SBI leaves undefined is as it was.
pub record HartStarted (id address opaque : ℕ) (before after : List ℕ) : Type 0 where
  pub as_many : length after ≡ length before
  pub satp_zero : get_or after vsatp 0 ≡ 0
  pub sie_clear : bit sie (get_or after vsstatus 0) ≡ 0
  pub vsstatus_kept : (j : ℕ) → j ≢ sie → bit j (get_or after vsstatus 0) ≡ bit j (get_or before vsstatus 0)
  pub spie_clear : bit spie (get_or after mstatus 0) ≡ 0
  pub mpie_clear : bit mpie (get_or after mstatus 0) ≡ 0
  pub mstatus_kept : (j : ℕ) → j ≢ spie → j ≢ mpie → bit j (get_or after mstatus 0) ≡ bit j (get_or before mstatus 0)
  pub a0_hartid : get_or after a0 0 ≡ id
  pub a1_opaque : get_or after a1 0 ≡ opaque
  pub at_address : get_or after mepc 0 ≡ address

-- the facts of a wake. RISC-V SBI 2.0, the same chapter, on a non-retentive hart suspend, asks for a1 the opaque number and execution at
-- resume_addr, and for satp 0, sstatus.SIE 0 and a0 the hartid too; as in the Rust all other registers are as they were.
pub record HartWoken (address opaque : ℕ) (before after : List ℕ) : Type 0 where
  pub as_many : length after ≡ length before
  pub a1_opaque : get_or after a1 0 ≡ opaque
  pub at_address : get_or after mepc 0 ≡ address
  pub others_kept : (j : ℕ) → j ≢ a1 → j ≢ mepc → get_or after j 0 ≡ get_or before j 0
