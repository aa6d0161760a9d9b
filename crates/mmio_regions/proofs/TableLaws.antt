-- The region table against the list of regions that stand in it. Assumes nothing.
use Rattle.std.specs.List.{range_with_len, list_any}
use Rattle.std.specs.Option.{MatchOption, unwrap_or}
use Rattle.std.specs.Prelude.{Option, Some, None}
use Rattle.std.proofs.lemmas.List.FromFn.{map-range_with_len_more}
use Rattle.std.proofs.lemmas.List.{map-append}
use mathlib.Core.Path.{◌≡◌, refl, sym, ap, ap₂, ◌∙◌}
use mathlib.Core.Bool.{Bool, true, false, ◌&&◌, ◌||◌, or-true}
use mathlib.Core.List.{List, [], ◌∷◌, ◌++◌, append_assoc, map}
use Prim.Native.Nat.{ℕ, zero, suc, ◌+◌, ◌-◌, ◌*◌, ◌≤◌, ◌<◌, max}
use mathlib.Core.Logic.{⊎_elim}
use native.Mathlib.Nat.{suc-mul, not-suc-le-zero, le_of_suc-le-suc, eq-or-lt_of_le, le_antisymm}
use native.Mathlib.Numerals.{add-one}
use native.Mathlib.Omega.{arith}
use lib.ListN.{length, get_or, set, take, drop, replicate, length-append, length-drop, length-replicate, take-append-drop}
use lib.Seq.{sets-eq, take-add, drop-drop, drop_at}
use Rattle.table_rows.specs.Rows.{row, word_at, put}
use Rattle.table_rows.proofs.RowLaws.{row_length, words_all}
use Rattle.table_rows.proofs.PickLaws.{by_test}
use lib.Dec.{ltb}
use borrow.Author.Tests.{ltb-true, ltb-false}
use Rattle.confidential_vm_mmio_region.specs.Region.{region_of}
use Rattle.table_rows.specs.Lists.{up_to, any_of, all_of}
use Rattle.mmio_regions.specs.Table.{region_words, region_at, standing, First, words_of, laid}
use Rattle.confidential_vm_mmio_region.specs.declared.ConfidentialVmMmioRegion.{ConfidentialVmMmioRegion}
use Rattle.table_rows.proofs.ListLaws.{up_to_length, up_to_next, any_last, all_last}

-- ---- the words of regions

pub words_length : (rs : List ConfidentialVmMmioRegion) → length (words_of rs) ≡ length rs * region_words
unfolding words_of
words_length [] = refl
words_length (r ∷ rs) = omega (arith, words_length rs)

pub words_append : (rs ss : List ConfidentialVmMmioRegion) → words_of (rs ++ ss) ≡ words_of rs ++ words_of ss
unfolding words_of
words_append [] ss = refl
words_append (r ∷ rs) ss = rw (words_append rs ss)

-- place i's words are its row
place_words : (xs : List ℕ) (i : ℕ) → i * region_words + region_words ≤ length xs → words_of (region_at xs i ∷ []) ≡ row region_words xs i
unfolding words_of word_at
place_words xs i fits = words_all region_words (row region_words xs i) (row_length region_words xs i fits)

-- the two stores of a region put it into its place
pub put_place : (xs : List ℕ) (i : ℕ) (r : ConfidentialVmMmioRegion) → i * region_words + region_words ≤ length xs
    → set (set xs (i * region_words) r.base) (i * region_words + 1) r.end ≡ put region_words xs i (words_of (r ∷ []))
unfolding words_of put
put_place xs i r fits =
    rw (add-one (i * region_words))
    (sets-eq (r.base ∷ r.end ∷ []) xs (i * region_words) fits ∙ append_assoc (take (i * region_words) xs) (r.base ∷ r.end ∷ []) _)

-- ---- the regions that stand

pub standing_length : (xs : List ℕ) (n : ℕ) → length (standing xs n) ≡ n
unfolding standing
standing_length xs n = up_to_length (region_at xs) n

-- one more place
pub standing_next : (xs : List ℕ) (n : ℕ) → standing xs (n + 1) ≡ standing xs n ++ (region_at xs n ∷ [])
unfolding standing
standing_next xs n = up_to_next (region_at xs) n

-- the first n regions are the first n places, word for word
pub standing_words : (xs : List ℕ) (n : ℕ) → n * region_words ≤ length xs → words_of (standing xs n) ≡ take (n * region_words) xs
unfolding standing up_to words_of row
standing_words xs zero fits = refl
standing_words xs (suc n) fits =
    words_append (standing xs n) (region_at xs n ∷ [])
    ∙ ap₂ (λ (a b : List ℕ). a ++ b) (standing_words xs n (omega arith)) (place_words xs n (omega arith))
    ∙ sym (take-add (n * region_words) region_words xs)
    ∙ ap (λ (k : ℕ). take k xs) (sym (suc-mul n region_words))

-- a place of the rest
rest_place : (xs : List ℕ) (i : ℕ) → region_at xs (suc i) ≡ region_at (drop region_words xs) i
unfolding word_at row
rest_place xs i =
    let n : suc i * region_words ≡ region_words + i * region_words = omega arith in
    let e : drop (suc i * region_words) xs ≡ drop (i * region_words) (drop region_words xs) =
    ap (λ (k : ℕ). drop k xs) n ∙ sym (drop-drop (i * region_words) region_words xs) in
    ap (λ (l : List ℕ). region_of (get_or (take region_words l) 0 0) (get_or (take region_words l) 1 0)) e

first_stands : (xs : List ℕ) (n : ℕ) → standing xs (suc n) ≡ region_at xs 0 ∷ standing (drop region_words xs) n
unfolding standing up_to
first_stands xs zero = refl
first_stands xs (suc n) =
    ap₂ (λ (rs : List ConfidentialVmMmioRegion) (r : ConfidentialVmMmioRegion). rs ++ (r ∷ [])) (first_stands xs n) (rest_place xs n)

-- regions stand where their words are written first
pub standing_of_lem : (rs : List ConfidentialVmMmioRegion) (ys : List ℕ) → standing (words_of rs ++ ys) (length rs) ≡ rs
unfolding standing up_to words_of word_at row
standing_of_lem [] ys = refl
standing_of_lem (r ∷ rs) ys = first_stands (words_of (r ∷ rs) ++ ys) (length rs) ∙ ap (λ (ss : List ConfidentialVmMmioRegion). r ∷ ss) (standing_of_lem rs ys)

-- ---- a test of the regions that stand, by the numbers of their places

-- the regions that stand are those in the first n places
pub standing_map : (xs : List ℕ) (n : ℕ) → standing xs n ≡ map (region_at xs) (range_with_len 0 n)
unfolding standing up_to
standing_map xs zero = refl
standing_map xs (suc n) =
    ap (λ (rs : List ConfidentialVmMmioRegion). rs ++ (region_at xs n ∷ [])) (standing_map xs n)
    ∙ sym (map-range_with_len_more (region_at xs) 0 n n (omega arith))
    ∙ ap (λ (k : ℕ). map (region_at xs) (range_with_len 0 k)) (add-one n)

module _ (f : ConfidentialVmMmioRegion → Bool) (xs : List ℕ) where
  any_map : (is : List ℕ) → list_any (λ i. f (region_at xs i)) is ≡ any_of f (map (region_at xs) is)
  unfolding any_of
  any_map [] = refl
  any_map (i ∷ is) = ap (λ (b : Bool). f (region_at xs i) || b) (any_map is)

  -- one passes
  pub any_standing : (n : ℕ) → list_any (λ i. f (region_at xs i)) (range_with_len 0 n) ≡ any_of f (standing xs n)
  any_standing n = any_map (range_with_len 0 n) ∙ ap (any_of f) (sym (standing_map xs n))

  -- a place that passes settles it
  any_at : (i n : ℕ) → i < n → f (region_at xs i) ≡ true → any_of f (standing xs n) ≡ true
  unfolding standing up_to
  any_at i zero l e = absurd (not-suc-le-zero l)
  any_at i (suc n) l e =
      any_last f (region_at xs n) (standing xs n)
      ∙ ⊎_elim
      (λ q. rw (← q, e) (or-true (any_of f (standing xs i))))
      (λ lt. rw (any_at i n lt e))
      (eq-or-lt_of_le (le_of_suc-le-suc l))

  -- none passes
  none_passes : (n : ℕ) → ((k : ℕ) → k < n → f (region_at xs k) ≡ false) → any_of f (standing xs n) ≡ false
  unfolding any_of standing up_to
  none_passes zero h = refl
  none_passes (suc n) h =
      any_last f (region_at xs n) (standing xs n) ∙ rw (none_passes n (λ k l. h k (omega arith)), h n (omega arith)) refl

  -- a flag carried through them, from ok at the first on
  pub carried : (ys : List ℕ) (ok b : Bool) (i : ℕ) → ok ≡ all_of f (map (region_at xs) ys) → b ≡ f (region_at xs i)
      → ok && b ≡ all_of f (map (region_at xs) (ys ++ (i ∷ [])))
  carried ys ok b i p e = rw (p, e) (sym (ap (all_of f) (map-append (region_at xs) ys (i ∷ [])) ∙ all_last f (region_at xs i) (map (region_at xs) ys)))

  -- the first that passes, as a search gives it
  pub first_found : (n : ℕ) (r : Option ℕ) → MatchOption r ((k : ℕ) → 0 ≤ k → k < n → f (region_at xs k) ≡ false)
      (λ i. (0 ≤ i) × (i < n) × (f (region_at xs i) ≡ true) × ((k : ℕ) → 0 ≤ k → k < i → f (region_at xs k) ≡ false))
      → First f xs n (unwrap_or r n)
  first_found n None h = record {
    within = omega arith;
    before = none_passes n (λ k l. h k (omega arith) l);
    here = λ l. absurd (omega arith);
  }
  first_found n (Some i) h = record {
    within = omega (arith, h.1);
    before = none_passes i (λ k l. h.3 k (omega arith) l);
    here = λ _. h.2;
  }

  -- so one passes exactly when the first is one of the places
  pub first_any : {n i : ℕ} → First f xs n i → ltb i n ≡ any_of f (standing xs n)
  first_any {n} {i} s =
      by_test (ltb i n)
      (λ t. t ∙ sym (any_at i n (ltb-true i n t) (s.here (ltb-true i n t))))
      (λ u. u ∙ sym (rw (le_antisymm s.within (ltb-false i n u)) at s.before))

-- ---- regions laid into the table

module _ (xs : List ℕ) (count : ℕ) where
  -- they stand there
  pub standing_laid : (rs : List ConfidentialVmMmioRegion) → standing (laid xs count rs) (length rs) ≡ rs
  unfolding laid
  standing_laid rs = standing_of_lem rs _

  -- laying what stands changes nothing
  pub laid_same : count * region_words ≤ length xs → laid xs count (standing xs count) ≡ xs
  unfolding laid
  laid_same fits =
      let free : (count - count) * region_words ≡ 0 = omega arith in
      let all : max count count * region_words ≡ count * region_words = omega arith in
      rw (standing_length xs count, standing_words xs count fits, free, all) (take-append-drop (count * region_words) xs)

  -- the table is as long as it was
  pub laid_length : (rs : List ConfidentialVmMmioRegion) → count * region_words ≤ length xs → length rs * region_words ≤ length xs
      → length (laid xs count rs) ≡ length xs
  unfolding laid
  laid_length rs old new = simp (length-append, words_length, length-replicate, length-drop) (omega arith)

  -- what lies past k places is as it was
  pub laid_past : (rs : List ConfidentialVmMmioRegion) (k : ℕ) → count ≤ k → length rs ≤ k → drop (k * region_words) (laid xs count rs) ≡ drop (k * region_words) xs
  unfolding laid
  laid_past rs k old new =
      let most : ℕ = max count (length rs) * region_words in
      let freed : List ℕ = replicate ((count - length rs) * region_words) 0 in
      let n : k * region_words ≡ most + (k * region_words - most) = omega arith in
      let l : length (words_of rs ++ freed) ≡ most = simp (length-append, words_length, length-replicate) (omega arith) in
      rw (n, ← (append_assoc (words_of rs) freed (drop most xs)))
      (sym (drop-drop (k * region_words - most) most (words_of rs ++ freed ++ drop most xs))
      ∙ ap (drop (k * region_words - most)) (drop_at (words_of rs ++ freed) (drop most xs) most l)
      ∙ drop-drop (k * region_words - most) most xs)
