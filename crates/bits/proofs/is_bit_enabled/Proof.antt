-- `bits::is_bit_enabled` meets its contract. Assumes nothing.
use mathlib.Core.Path.{ap}
use Prim.Native.Nat.{ℕ}
use lib.Dec.{eqb}
use borrow.Author.Rules.{rules}
use Rattle.bits.proofs.BitLaws.{shr_and}
use Rattle.bits.proofs.is_bit_enabled.Statement.{statement}
use Rattle.bits.proofs.is_bit_enabled.Tie as tie

returns : tie.Need-returns
returns c = ap (λ (b : ℕ). eqb b 1) (shr_and c.args.register c.args.index)

pub is_bit_enabled_spec : {M : Type 1} → statement M
is_bit_enabled_spec = tie.close (tie.spec (λ c. search rules) returns)
