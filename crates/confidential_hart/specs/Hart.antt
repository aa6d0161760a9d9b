-- The hart record: when it is as it must be, and how setup makes it.
use Rattle.std.specs.Prelude.{ℕ, Bool, ◌&&◌, ◌||◌, not, List, [], ◌∷◌, replicate, eqb, leb}
use Rattle.table_rows.specs.Choice.{all_zero}
use Rattle.confidential_hart.specs.declared.ConfidentialHart.{ConfidentialHart}
use Rattle.confidential_hart.specs.Status.{initial_mstatus}
use Rattle.hart_lifecycle_state.specs.Lifecycle.{started, stopped, suspended, powered_off}

-- how many registers are saved
abbrev pub register_count : ℕ
register_count = 6

-- no VM, which makes a dummy, and the one VM
abbrev pub no_vm : ℕ
no_vm = 0

abbrev pub the_vm : ℕ
the_vm = 1

-- no operation, and the last of the kinds there are: SharePage
abbrev pub no_operation : ℕ
no_operation = 0

abbrev pub last_operation : ℕ
last_operation = 5

-- a record by its parts
abbrev pub hart_of : ℕ → ℕ → ℕ → ℕ → ℕ → ℕ → List ℕ → ConfidentialHart
hart_of vm id lifecycle operation x y registers =
    record { vm = vm; id = id; lifecycle = lifecycle; operation = operation; x = x; y = y; registers = registers }

-- a dummy stands for a hardware hart, and belongs to no VM
abbrev pub is_dummy : ConfidentialHart → Bool
is_dummy h = eqb h.vm no_vm

-- a hart may run when it is Started or Suspended. A dummy is Started
abbrev pub is_executable : ConfidentialHart → Bool
is_executable h = eqb h.lifecycle started || eqb h.lifecycle suspended

-- the kinds of operations that a hart can wait for
abbrev pub is_operation : ℕ → Bool
is_operation kind = not (eqb kind no_operation) && leb kind last_operation

-- the record with another operation and its two numbers
abbrev pub with_operation : ℕ → ℕ → ℕ → ConfidentialHart → ConfidentialHart
with_operation operation x y h = hart_of h.vm h.id h.lifecycle operation x y h.registers

-- an absent operation has two zeros
abbrev pub operation_sound : ConfidentialHart → Bool
operation_sound h = not (eqb h.operation no_operation) || (eqb h.x 0 && eqb h.y 0)

-- a dummy is Started, has no operation, and zero registers
abbrev pub dummy_sound : ConfidentialHart → Bool
dummy_sound h = not (is_dummy h) || (eqb h.lifecycle started && eqb h.operation no_operation && all_zero h.registers)

-- the record is of the one VM or of none, its lifecycle and its operation are among those there are, and the two rules above hold
unfoldable pub well_formed : ConfidentialHart → Bool
well_formed h =
    leb h.vm the_vm && leb h.lifecycle powered_off && leb h.operation last_operation && operation_sound h && dummy_sound h

-- ---- as setup makes it

-- a record with no operation
abbrev pub idle_hart : ℕ → ℕ → ℕ → List ℕ → ConfidentialHart
idle_hart vm id lifecycle registers = hart_of vm id lifecycle no_operation 0 0 registers

-- the dummy of hardware hart k
abbrev pub dummy : ℕ → ConfidentialHart
dummy k = idle_hart no_vm k started (replicate register_count 0)

-- a real hart after a reset: a0, a1, mepc, vsatp and vsstatus are 0
abbrev pub reset_hart : ℕ → ConfidentialHart
reset_hart id = idle_hart the_vm id stopped (0 ∷ 0 ∷ 0 ∷ 0 ∷ initial_mstatus ∷ 0 ∷ [])

-- the boot hart: a0 is its number
abbrev pub boot_hart : ℕ → ℕ → ℕ → ℕ → ℕ → ConfidentialHart
boot_hart id pc fdt vsatp vsstatus = idle_hart the_vm id started (id ∷ fdt ∷ pc ∷ vsatp ∷ initial_mstatus ∷ vsstatus ∷ [])
