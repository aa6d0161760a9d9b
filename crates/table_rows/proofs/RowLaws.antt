-- Rows, their words and rows put in their place: each law once, over the width w. Assumes nothing.
use mathlib.Core.Path.{◌≡◌, refl, sym, ap, ◌∙◌}
use mathlib.Core.Logic.{◌≢◌, ◌⊎◌, inl, inr, ⊎_elim}
use mathlib.Core.List.{List, ◌++◌, append_assoc, append-nil}
use Prim.Native.Nat.{ℕ, zero, suc, ◌+◌, ◌-◌, ◌*◌, ◌≤◌, ◌<◌, suc-le-suc}
use native.Mathlib.Nat.{mul-le-mul_right, suc-mul, add-sub_of_le, zero-lt-suc}
use native.Mathlib.Omega.{arith}
use lib.ListN.{length, take, drop, get_or, set, length-append, length-take, length-drop, take-append-drop, drop_of_length-le, get_or-append}
use lib.Seq.{drop-cons, get_or-take, get_or-drop, get_or-append-add, length-take-le, ext_get_or, take_at, drop_at, drop-drop, sets, sets-eq}
use borrow.Rule.Slice.PartMut.{set_mid_at}
use Rattle.table_rows.specs.Rows.{row, put, words, word_at}

-- two numbers that differ are one below the other
pub apart : (i j : ℕ) → i ≢ j → (i < j) ⊎ (j < i)
apart zero zero ne = absurd (ne refl)
apart zero (suc j) ne = inl (zero-lt-suc j)
apart (suc i) zero ne = inr (zero-lt-suc i)
apart (suc i) (suc j) ne = ⊎_elim (λ l. inl (suc-le-suc l)) (λ l. inr (suc-le-suc l)) (apart i j (λ e. ne (ap suc e)))

-- row i lies within the first n rows
pub within : (w i n : ℕ) → i < n → i * w + w ≤ n * w
within w i n l = omega (arith, mul-le-mul_right w l, suc-mul i w)

-- ---- words written out one by one

words_from : (n : ℕ) (ys : List ℕ) (i : ℕ) → length ys ≡ i + n → words n ys i ≡ drop i ys
words_from zero ys i e = sym (drop_of_length-le ys {i = i} (omega arith))
words_from (suc n) ys i e = rw (words_from n ys (suc i) (omega arith)) (sym (drop-cons ys i 0 (omega arith)))

-- a list of n words is its words
pub words_all : (n : ℕ) (ys : List ℕ) → length ys ≡ n → words n ys 0 ≡ ys
words_all n ys e = words_from n ys 0 (omega arith)

-- stores `s[0] = a; s[1] = b; ..` to as many words as there are leave those words
pub sets_whole : (vs ys : List ℕ) → length ys ≡ length vs → sets ys 0 vs ≡ vs
sets_whole vs ys e =
    sets-eq vs ys 0 (omega arith)
    ∙ rw (drop_of_length-le ys {i = 0 + length vs} (omega arith)) (append-nil vs)

-- ---- a row

pub row_length : (w : ℕ) (xs : List ℕ) (i : ℕ) → i * w + w ≤ length xs → length (row w xs i) ≡ w
unfolding row
row_length w xs i fits = simp (length-take, length-drop) (omega arith)

-- word j of row i, in the flat list
pub row_word : (w : ℕ) (xs : List ℕ) (i j : ℕ) → j < w → get_or (row w xs i) j 0 ≡ get_or xs (i * w + j) 0
unfolding row
row_word w xs i j l = rw (get_or-take, get_or-drop)

-- ---- a row put in its place

module _ (w : ℕ) (xs : List ℕ) (i : ℕ) (fits : i * w + w ≤ length xs) where
  front : length (take (i * w) xs) ≡ i * w
  front = length-take-le (i * w) xs (omega arith)

  -- a row put back where it was
  pub put_row : put w xs i (row w xs i) ≡ xs
  unfolding row put
  put_row =
      rw (← (drop-drop w (i * w) xs)) (rw (take-append-drop w (drop (i * w) xs)) (take-append-drop (i * w) xs))

  -- a store to word j of row i
  pub set_word : (j v : ℕ) → j < w → set xs (i * w + j) v ≡ put w xs i (set (row w xs i) j v)
  unfolding row put
  set_word j v l =
      sym (rw (← (drop-drop w (i * w) xs)) (set_mid_at (i * w) w j xs v (rw (row_length w xs i fits) l)))

  module _ (ys : List ℕ) (long : length ys ≡ w) where
    pub put_length : length (put w xs i ys) ≡ length xs
    unfolding put
    put_length = simp (length-append, length-take, length-drop) (omega arith)

    -- the row itself, and its words
    pub row_put_same : row w (put w xs i ys) i ≡ ys
    unfolding row put
    row_put_same =
        rw (drop_at (take (i * w) xs) (ys ++ drop (i * w + w) xs) (i * w) front) (take_at ys (drop (i * w + w) xs) w long)

    pub word_put_same : (j : ℕ) → word_at w (put w xs i ys) i j ≡ get_or ys j 0
    unfolding word_at
    word_put_same j = rw row_put_same

    -- every word before the row and after it is as it was
    put_before : (k : ℕ) → k < i * w → get_or (put w xs i ys) k 0 ≡ get_or xs k 0
    unfolding put
    put_before k l =
        get_or-append (take (i * w) xs) (ys ++ drop (i * w + w) xs) 0 k (rw front l) ∙ get_or-take (i * w) xs k 0 l

    put_after : (r : ℕ) → get_or (put w xs i ys) (i * w + w + r) 0 ≡ get_or xs (i * w + w + r) 0
    unfolding put
    put_after r =
        rw (← (append_assoc (take (i * w) xs) ys (drop (i * w + w) xs)))
        (let e : length (take (i * w) xs ++ ys) ≡ i * w + w = simp (length-append, front, long) in
        ap (λ (n : ℕ). get_or (take (i * w) xs ++ ys ++ drop (i * w + w) xs) (n + r) 0) (sym e)
        ∙ get_or-append-add (take (i * w) xs ++ ys) (drop (i * w + w) xs) r 0
        ∙ get_or-drop (i * w + w) xs r 0)

    pub put_elsewhere : (k : ℕ) → (k < i * w) ⊎ (i * w + w ≤ k) → get_or (put w xs i ys) k 0 ≡ get_or xs k 0
    put_elsewhere k c =
        ⊎_elim (λ l. put_before k l)
        (λ l. let e : i * w + w + (k - (i * w + w)) ≡ k = add-sub_of_le l in rw e at (put_after (k - (i * w + w))))
        c

    -- so another row is as it was, and so are its words
    pub row_put_other : (j : ℕ) → j ≢ i → j * w + w ≤ length xs → row w (put w xs i ys) j ≡ row w xs j
    row_put_other j ne m =
        let m' : j * w + w ≤ length (put w xs i ys) = rw put_length m in
        ext_get_or 0 (row w (put w xs i ys) j) (row w xs j)
        (row_length w (put w xs i ys) j m' ∙ sym (row_length w xs j m))
        (λ k l.
        let l' : k < w = rw (row_length w (put w xs i ys) j m') at l in
        row_word w (put w xs i ys) j k l'
        ∙ put_elsewhere (j * w + k) (⊎_elim (λ b. inl (omega (arith, within w j i b))) (λ b. inr (omega (arith, within w i j b))) (apart j i ne))
        ∙ sym (row_word w xs j k l'))

    pub word_put_other : (k : ℕ) → k ≢ i → k * w + w ≤ length xs → (j : ℕ) → word_at w (put w xs i ys) k j ≡ word_at w xs k j
    unfolding word_at
    word_put_other k ne m j = rw (row_put_other k ne m)
