-- A run of rows, each of w words, that is written over the front of a table row by row. Assumes nothing.
use mathlib.Core.Path.{◌≡◌, sym, ap, ◌∙◌}
use mathlib.Core.Logic.{⊎_elim}
use mathlib.Core.List.{List, ◌++◌, append_assoc}
use Prim.Native.Nat.{ℕ, zero, suc, ◌+◌, ◌*◌, ◌≤◌, ◌<◌}
use native.Mathlib.Nat.{not-suc-le-zero, le_of_suc-le-suc, eq-or-lt_of_le, zero-mul, suc-mul}
use native.Mathlib.Numerals.{add-one}
use native.Mathlib.Omega.{arith}
use lib.ListN.{length, take, drop, length-append, length-drop}
use lib.Seq.{take_at, drop_at, drop-drop}
use Rattle.table_rows.specs.Rows.{row, put, rows_of}

-- words written over the front of as many or more leave the length
pub over_length : (ys xs : List ℕ) → length ys ≤ length xs → length (ys ++ drop (length ys) xs) ≡ length xs
over_length ys xs l = simp (length-append, length-drop) (omega arith)

module _ (w : ℕ) (f : ℕ → List ℕ) (long : (i : ℕ) → length (f i) ≡ w) where
  pub run_length : (n : ℕ) → length (rows_of f n) ≡ n * w
  unfolding rows_of
  run_length zero = sym (zero-mul w)
  run_length (suc n) = length-append (rows_of f n) (f n) ∙ omega (arith, run_length n, long n, suc-mul n w)

  -- the next row put in its place
  pub run_next : (xs : List ℕ) (i : ℕ)
      → put w (rows_of f i ++ drop (length (rows_of f i)) xs) i (f i) ≡ rows_of f (i + 1) ++ drop (length (rows_of f (i + 1))) xs
  unfolding rows_of put
  run_next xs i =
      let r = rows_of f i in
      let front : length r ≡ i * w = run_length i in
      let end : length (r ++ f i) ≡ i * w + w = length-append r (f i) ∙ omega (arith, long i) in
      let next : length r + w ≡ length (r ++ f i) = omega arith in
      let rest : drop (i * w + w) (r ++ drop (length r) xs) ≡ drop (length (r ++ f i)) xs =
      sym (drop-drop w (i * w) (r ++ drop (length r) xs))
      ∙ ap (drop w) (drop_at r (drop (length r) xs) (i * w) front)
      ∙ drop-drop w (length r) xs
      ∙ ap (λ (n : ℕ). drop n xs) next in
      rw (add-one i, take_at r (drop (length r) xs) (i * w) front, rest) (sym (append_assoc r (f i) (drop (length (r ++ f i)) xs)))

  -- row j of the run, whatever follows
  last : (n : ℕ) (ys : List ℕ) → row w (rows_of f n ++ (f n ++ ys)) n ≡ f n
  unfolding row
  last n ys = ap (take w) (drop_at (rows_of f n) (f n ++ ys) (n * w) (run_length n)) ∙ take_at (f n) ys w (long n)

  pub run_row : (n : ℕ) (ys : List ℕ) (j : ℕ) → j < n → row w (rows_of f n ++ ys) j ≡ f j
  unfolding rows_of
  run_row zero ys j l = absurd (not-suc-le-zero l)
  run_row (suc n) ys j l =
      ap (λ (l : List ℕ). row w l j) (append_assoc (rows_of f n) (f n) ys)
      ∙ ⊎_elim (λ q. rw q (last n ys)) (λ lt. run_row n (f n ++ ys) j lt) (eq-or-lt_of_le (le_of_suc-le-suc l))
