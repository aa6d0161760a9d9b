-- The example P7 of document 01, about the definitions. Assumes nothing.
use Prim.Native.Nat.{ℕ}
use mathlib.Core.Path.{◌≡◌, refl}
use mathlib.Core.List.{[], ◌∷◌}
use Rattle.error.specs.Error.{done}
use Rattle.bits.specs.Bit.{clear_bit}
use Rattle.table_rows.specs.Choice.{pick}
use Rattle.hart_lifecycle_state.specs.Lifecycle.{started, stopped, only}
use Rattle.confidential_hart.specs.Hart.{the_vm, idle_hart, well_formed}
use Rattle.confidential_hart.specs.Status.{initial_mstatus}
use Rattle.confidential_hart.specs.HartStart.{start_registers}
use Rattle.confidential_hart.specs.Transition.{applied, transition, after_start}

-- P7: a start on vsstatus 7 leaves 5, and on the mstatus of setup 549755815938
pub start_status : (id address opaque a b c d : ℕ)
    → after_start address opaque (idle_hart the_vm id stopped (a ∷ b ∷ c ∷ d ∷ initial_mstatus ∷ 7 ∷ []))
    ≡ record { number = done; hart = idle_hart the_vm id started (id ∷ opaque ∷ address ∷ 0 ∷ 549755815938 ∷ 5 ∷ []) }
unfolding transition well_formed pick only applied start_registers clear_bit
start_status id address opaque a b c d = refl
