-- What a change of a lent record leaves.
use Rattle.std.specs.Prelude.{ℕ}
use Rattle.confidential_hart.specs.declared.ConfidentialHart.{ConfidentialHart}
use Rattle.confidential_hart.specs.Transition.{Transition}

-- the number given and the record at exit, as a transition
abbrev pub left : ℕ → ConfidentialHart → Transition
left number hart = record { number = number; hart = hart }
