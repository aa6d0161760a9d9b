-- `bits::disable_bit` meets its contract. Assumes nothing.
use borrow.Author.Rules.{rules}
use Rattle.bits.proofs.BitLaws.{and_clear}
use Rattle.bits.proofs.disable_bit.Statement.{statement}
use Rattle.bits.proofs.disable_bit.Tie as tie

returns : tie.Need-returns
returns c = and_clear 64 c.args.register c.args.index c.ranges.register.fits c.requires

pub disable_bit_spec : {M : Type 1} → statement M
disable_bit_spec = tie.close (tie.spec (λ c. search rules) returns)
