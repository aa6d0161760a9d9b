-- `bits::enable_bit` meets its contract. Assumes nothing.
use borrow.Author.Rules.{rules}
use Rattle.bits.proofs.BitLaws.{or_set}
use Rattle.bits.proofs.enable_bit.Statement.{statement}
use Rattle.bits.proofs.enable_bit.Tie as tie

returns : tie.Need-returns
returns c = or_set 64 c.args.register c.args.index c.requires

pub enable_bit_spec : {M : Type 1} → statement M
enable_bit_spec = tie.close (tie.spec (λ c. search rules) returns)
