-- The example P6 of document 01, about the definitions. Assumes nothing.
use mathlib.Core.Path.{◌≡◌}
use Prim.Native.Nat.{ℕ, ◌^◌}
use native.Mathlib.Omega.{arith}
use lib.Dec.{eqb}
use Rattle.confidential_hart_remote_command.specs.Selection.{in_hart_list}
use Rattle.confidential_hart_remote_command.proofs.SelectionLaws.{one_bit}

-- P6: mask 1 base 63 selects 63 only, mask 2^63 base 1 selects 64 only
pub p6_first : (h : ℕ) → in_hart_list 1 63 h ≡ eqb h 63
p6_first h = one_bit 0 63 h (omega arith) (λ e. omega arith)

pub p6_last : (h : ℕ) → in_hart_list (2 ^ 63) 1 h ≡ eqb h 64
p6_last h = one_bit 63 1 h (omega arith) (λ e. omega arith)
