-- What setup writes over the front of a table: hart records row by row, and zeros. Assumes nothing.
use Prim.Native.Nat.{ℕ, ◌+◌, ◌-◌, ◌≤◌}
use mathlib.Core.Path.{◌≡◌, refl, ap, ◌∙◌}
use mathlib.Core.List.{List}
use native.Mathlib.Nat.{le_antisymm, sub-zero}
use lib.ListN.{length, take, drop, replicate, length-replicate}
use lib.Seq.{length-take-le}
use borrow.Rule.Slice.PartMut.{put_mid}
use Rattle.table_rows.specs.Rows.{put, rows_of, over}
use Rattle.table_rows.proofs.RunLaws.{run_next}
use Rattle.confidential_hart.specs.declared.ConfidentialHart.{ConfidentialHart}
use Rattle.hart_rows.specs.HartRows.{hart_words, to_words}
use Rattle.hart_rows.proofs.HartRowLaws.{to_length}

-- the records that f gives, in the first n rows
abbrev pub harts : (ℕ → ConfidentialHart) → ℕ → List ℕ → List ℕ
harts f n xs = over (rows_of (λ h. to_words (f h)) n) xs

module _ (f : ℕ → ConfidentialHart) (xs : List ℕ) where
  -- a loop that writes them: none yet, one more, and all
  pub harts_none : xs ≡ harts f 0 xs
  unfolding rows_of
  harts_none = refl

  pub harts_next : {s s' : List ℕ} {i : ℕ} {hart : ConfidentialHart} → s ≡ harts f i xs → hart ≡ f i → s' ≡ put hart_words s i (to_words hart)
      → s' ≡ harts f (i + 1) xs
  harts_next {s} {s'} {i} {hart} e r p =
      p
      ∙ ap (λ (l : List ℕ). put hart_words l i (to_words hart)) e
      ∙ ap (λ (h : ConfidentialHart). put hart_words (harts f i xs) i (to_words h)) r
      ∙ run_next hart_words (λ h. to_words (f h)) (λ h. to_length (f h)) xs i

  pub harts_done : {s : List ℕ} {i n : ℕ} → s ≡ harts f i xs → i ≤ n → n ≤ i → s ≡ harts f n xs
  harts_done {s} {i} {n} e l g = e ∙ ap (λ (k : ℕ). harts f k xs) (le_antisymm l g)

-- the first n words, lent as a part and made 0
pub front_cleared : (n : ℕ) (xs : List ℕ) {ys : List ℕ} → n ≤ length xs → ys ≡ replicate (length (take (n - 0) (drop 0 xs))) 0
    → put_mid 0 (n - 0) xs ys ≡ over (replicate n 0) xs
front_cleared n xs fits e =
    rw (e, sub-zero n, length-take-le n xs fits, length-replicate {A = ℕ} n 0)
