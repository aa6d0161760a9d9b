-- A lent record is as it was where the number given is not 0: each of the five contracts says so. Assumes nothing.
use Prim.Native.Nat.{ℕ}
use mathlib.Core.Path.{◌≡◌, ap, ◌∙◌}
use mathlib.Core.Logic.{◌≢◌}
use mathlib.Core.List.{List}
use Rattle.error.specs.Error.{done, hart_already_running, hardware_hart_idle}
use Rattle.hart_lifecycle_state.specs.Lifecycle.{Entry, start, suspend, stop, wake, off}
use Rattle.confidential_hart.specs.declared.ConfidentialHart.{ConfidentialHart}
use Rattle.confidential_hart.specs.HartStart.{start_registers, wake_registers}
use Rattle.confidential_hart.specs.Transition.{Transition, transition, after_start, after_suspend, after_stop, after_wake, after_off}
use Rattle.confidential_hart.proofs.TransitionLaws.{refusal_keeps}
use Rattle.lent_hart.specs.Lent.{left}

module _ (number : ℕ) (h after : ConfidentialHart) (refused : number ≢ done) where
  -- of any change, whatever registers it would have left
  pub refusal_leaves : (change : ℕ → Entry) (idle : ℕ) (registers : List ℕ) → left number after ≡ transition change idle registers h
      → after ≡ h
  refusal_leaves change idle registers e =
      ap (λ (t : Transition). t.hart) e
      ∙ refusal_keeps change idle h registers (rw (ap (λ (t : Transition). t.number) e) at refused)

  module _ (address opaque : ℕ) where
    pub refused_start : left number after ≡ after_start address opaque h → after ≡ h
    refused_start = refusal_leaves start hart_already_running (start_registers h.id address opaque h.registers)

    pub refused_wake : left number after ≡ after_wake address opaque h → after ≡ h
    refused_wake = refusal_leaves wake hardware_hart_idle (wake_registers address opaque h.registers)

  pub refused_suspend : left number after ≡ after_suspend h → after ≡ h
  refused_suspend = refusal_leaves suspend hardware_hart_idle h.registers

  pub refused_stop : left number after ≡ after_stop h → after ≡ h
  refused_stop = refusal_leaves stop hardware_hart_idle h.registers

  pub refused_off : left number after ≡ after_off h → after ≡ h
  refused_off = refusal_leaves off hardware_hart_idle h.registers
