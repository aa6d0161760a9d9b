-- A run of zeros, and what `all_zero` finds. Assumes nothing.
use mathlib.Core.Path.{◌≡◌, sym, ◌∙◌}
use mathlib.Core.Bool.{true, ◌&&◌, and-true}
use Rattle.std.proofs.Math.Bool.{and_assoc}
use Rattle.bits.proofs.BitLaws.{or_none}
use mathlib.Core.List.{List, [], ◌∷◌}
use Prim.Native.Nat.{ℕ}
use Rattle.std.specs.List.{fold}
use lib.Bits.{bit_or}
use lib.Dec.{eqb}
use lib.ListN.{length, get_or, replicate, length-replicate, get_or-replicate}
use lib.Seq.{ext_get_or}
use borrow.Author.Tests.{eq-eqb, eqb-true}
use Rattle.table_rows.specs.Choice.{every, all_zero}
use Rattle.table_rows.proofs.EveryLaws.{every_at, every_of, every_first}

-- words joined by `|` are 0 exactly when each of them is
pub joined_zero : (s : List ℕ) (seen : ℕ) → eqb (fold bit_or seen s) 0 ≡ eqb seen 0 && all_zero s
unfolding all_zero every
joined_zero [] seen = sym (and-true (eqb seen 0))
joined_zero (x ∷ s) seen =
    rw (joined_zero s (bit_or seen x), or_none seen x, every_first (λ i. eqb (get_or (x ∷ s) i 0) 0) (length s))
    (and_assoc (eqb seen 0) (eqb x 0) (all_zero s))

-- a run of zeros is all zero, and what is all zero is a run of zeros
pub zeros_all_zero : (n : ℕ) → all_zero (replicate n 0) ≡ true
unfolding all_zero
zeros_all_zero n =
    every_of _ (length (replicate n 0)) (λ i l. eq-eqb _ _ (get_or-replicate n i 0 0 (rw length-replicate at l)))

pub all_zero_zeros : (s : List ℕ) → all_zero s ≡ true → s ≡ replicate (length s) 0
unfolding all_zero
all_zero_zeros s e =
    ext_get_or 0 s (replicate (length s) 0) (sym (length-replicate (length s) 0))
    (λ i l. eqb-true _ _ (every_at _ i (length s) e l) ∙ sym (get_or-replicate (length s) i 0 0 l))
