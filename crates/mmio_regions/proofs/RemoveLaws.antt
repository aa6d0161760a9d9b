-- What `remove` has done after i places: the regions kept so far stand first, and from place i on all is as it was. Assumes nothing.
use mathlib.Core.Path.{◌≡◌, refl, sym, ap, ap₂, ◌∙◌}
use mathlib.Core.List.{List, [], ◌∷◌, ◌++◌, append_assoc}
use Prim.Native.Nat.{ℕ, ◌+◌, ◌-◌, ◌*◌, ◌≤◌, max}
use native.Mathlib.Nat.{le_antisymm}
use native.Mathlib.Omega.{arith}
use lib.ListN.{length, get_or, take, drop, replicate, length-append, length-take, length-drop}
use lib.Seq.{take_at, drop_at, drop-drop, length-take-le}
use borrow.Rule.Slice.PartMut.{put_mid}
use Rattle.table_rows.specs.Rows.{row, word_at, put}
use Rattle.table_rows.specs.Choice.{pick}
use Rattle.table_rows.proofs.PickLaws.{by_pick}
use Rattle.table_rows.proofs.RowLaws.{put_length}
use Rattle.confidential_vm_mmio_region.specs.Region.{region_of, overlaps}
use Rattle.mmio_regions.specs.Regions.{with_removed}
use Rattle.mmio_regions.specs.Table.{region_words, region_at, standing, First, words_of, laid, table, removed}
use Rattle.confidential_vm_mmio_region.specs.declared.ConfidentialVmMmioRegion.{ConfidentialVmMmioRegion}
use Rattle.mmio_regions.proofs.RegionLaws.{removed_last, removed_none}
use Rattle.mmio_regions.proofs.TableLaws.{words_append, words_length, standing_length, standing_next, standing_words}

-- xs as they were, s as they are
pub record Swept (q : ConfidentialVmMmioRegion) (xs : List ℕ) (i kept : ℕ) (s : List ℕ) : Type 0 where
  pub behind : kept ≤ i
  pub long : length s ≡ length xs
  pub number : kept ≡ length (with_removed q (standing xs i))
  pub front : take (kept * region_words) s ≡ words_of (with_removed q (standing xs i))
  pub rest : drop (i * region_words) s ≡ drop (i * region_words) xs

module _ (q : ConfidentialVmMmioRegion) (xs : List ℕ) where
  -- the places before the first that overlaps need no move
  pub sweep_start : {count i : ℕ} → First (λ r. overlaps r q) xs count i → count * region_words ≤ length xs → Swept q xs i i xs
  sweep_start {count} {i} first fits =
      let all : with_removed q (standing xs i) ≡ standing xs i = removed_none q (standing xs i) first.before in
      record {
        behind = omega arith;
        long = refl;
        number = sym (standing_length xs i) ∙ ap length (sym all);
        front = sym (standing_words xs i (omega (arith, first.within))) ∙ ap words_of (sym all);
        rest = refl;
      }

  -- the region in place i is still the one that stood there
  same_place : (s : List ℕ) (i : ℕ) → drop (i * region_words) s ≡ drop (i * region_words) xs → region_at s i ≡ region_at xs i
  unfolding word_at row
  same_place s i e = ap (λ (l : List ℕ). region_of (get_or (take region_words l) 0 0) (get_or (take region_words l) 1 0)) e

  same_rest : (s : List ℕ) (i : ℕ) → drop (i * region_words) s ≡ drop (i * region_words) xs → drop ((i + 1) * region_words) s ≡ drop ((i + 1) * region_words) xs
  same_rest s i e =
      let n : (i + 1) * region_words ≡ i * region_words + region_words = omega arith in
      rw (n, ← (drop-drop region_words (i * region_words) s), e, drop-drop region_words (i * region_words) xs)

  -- a region put in place k: the places before it, those up to it, and those behind it
  module _ (s : List ℕ) (k : ℕ) (r : ConfidentialVmMmioRegion) (fits : k * region_words + region_words ≤ length s) where
    abbrev moved : List ℕ
    moved = put region_words s k (words_of (r ∷ []))

    abbrev upto : List ℕ
    upto = take (k * region_words) s ++ words_of (r ∷ [])

    front_length : length (take (k * region_words) s) ≡ k * region_words
    front_length = length-take-le (k * region_words) s (omega arith)

    upto_length : length upto ≡ (k + 1) * region_words
    upto_length = simp (length-append, front_length, words_length) (omega arith)

    moved_split : moved ≡ upto ++ drop ((k + 1) * region_words) s
    unfolding put
    moved_split =
        let n : (k + 1) * region_words ≡ k * region_words + region_words = omega arith in
        rw n (sym (append_assoc (take (k * region_words) s) (words_of (r ∷ [])) (drop (k * region_words + region_words) s)))

    moved_before : take (k * region_words) moved ≡ take (k * region_words) s
    unfolding put
    moved_before = take_at (take (k * region_words) s) _ (k * region_words) front_length

    moved_upto : take ((k + 1) * region_words) moved ≡ upto
    moved_upto = rw moved_split (take_at upto _ ((k + 1) * region_words) upto_length)

    moved_behind : (i : ℕ) → k ≤ i → drop ((i + 1) * region_words) moved ≡ drop ((i + 1) * region_words) s
    moved_behind i l =
        let m : ℕ = (k + 1) * region_words in
        let n : (i + 1) * region_words ≡ m + (i - k) * region_words = omega arith in
        rw (n, moved_split)
        (sym (drop-drop ((i - k) * region_words) m (upto ++ drop m s))
        ∙ ap (drop ((i - k) * region_words)) (drop_at upto (drop m s) m upto_length)
        ∙ drop-drop ((i - k) * region_words) m s)

  -- one more place: its region is moved to the next place that is kept, and counted where it does not overlap
  turn : (s : List ℕ) (i kept : ℕ) → Swept q xs i kept s → i * region_words + region_words ≤ length s
      → Swept q xs (i + 1) (pick (overlaps (region_at s i) q) kept (kept + 1)) (put region_words s kept (words_of (region_at s i ∷ [])))
  unfolding pick
  turn s i kept w fits =
      let r : ConfidentialVmMmioRegion = region_at s i in
      let at : kept * region_words + region_words ≤ length s = omega arith in
      let more : with_removed q (standing xs (i + 1)) ≡ pick (overlaps r q) (with_removed q (standing xs i)) (with_removed q (standing xs i) ++ (r ∷ [])) =
      rw (standing_next xs i, ← (same_place s i w.rest)) (removed_last q r (standing xs i)) in
      let long : length (put region_words s kept (words_of (r ∷ []))) ≡ length xs =
      put_length region_words s kept at (words_of (r ∷ [])) (words_length (r ∷ [])) ∙ w.long in
      let rest : drop ((i + 1) * region_words) (put region_words s kept (words_of (r ∷ []))) ≡ drop ((i + 1) * region_words) xs =
      moved_behind s kept r at i w.behind ∙ same_rest s i w.rest in
      by_pick (λ (k : ℕ). Swept q xs (i + 1) k (put region_words s kept (words_of (r ∷ [])))) (overlaps r q) kept (kept + 1)
      (λ e.
      let same : with_removed q (standing xs (i + 1)) ≡ with_removed q (standing xs i) = rw e at more in record {
        behind = omega arith;
        long = long;
        number = w.number ∙ ap length (sym same);
        front = moved_before s kept r at ∙ w.front ∙ ap words_of (sym same);
        rest = rest;
      })
      (λ e.
      let last : with_removed q (standing xs (i + 1)) ≡ with_removed q (standing xs i) ++ (r ∷ []) = rw e at more in record {
        behind = omega arith;
        long = long;
        number = rw last (simp length-append (omega (arith, w.number)));
        front =
            moved_upto s kept r at
            ∙ ap (λ (l : List ℕ). l ++ words_of (r ∷ [])) w.front
            ∙ sym (words_append (with_removed q (standing xs i)) (r ∷ []))
            ∙ ap words_of (sym last);
        rest = rest;
      })

  -- the same, of the region that was read, the words and the number that it leaves
  pub sweep_next : (s : List ℕ) (i kept : ℕ) → Swept q xs i kept s → i * region_words + region_words ≤ length s
      → {r : ConfidentialVmMmioRegion} → r ≡ region_at s i → {s' : List ℕ} → s' ≡ put region_words s kept (words_of (r ∷ []))
      → {kept' : ℕ} → kept' ≡ pick (overlaps r q) kept (kept + 1) → Swept q xs (i + 1) kept' s'
  sweep_next s i kept w fits er es ek = rw (ek, es, er) (turn s i kept w fits)

  -- all places passed, and the freed ones cleared: t is what came back of them
  module _ (s : List ℕ) (count kept : ℕ) where
    abbrev free : ℕ
    free = count * region_words - kept * region_words

    cleared : Swept q xs count kept s → count * region_words ≤ length xs
        → table kept (put_mid (kept * region_words) free s (replicate (length (take free (drop (kept * region_words) s))) 0)) ≡ removed xs count q
    unfolding removed laid
    cleared w fits =
        let n : length (take free (drop (kept * region_words) s)) ≡ (count - kept) * region_words =
        simp (length-take, length-drop) (omega (arith, w.behind, w.long)) in
        let end : kept * region_words + free ≡ count * region_words = omega (arith, w.behind) in
        let all : max count kept * region_words ≡ count * region_words = omega (arith, w.behind) in
        ap₂ table w.number (rw (n, drop-drop free (kept * region_words) s, end, w.front, w.rest, ← w.number, all))

    pub sweep_done : (i : ℕ) → Swept q xs i kept s → i ≤ count → count ≤ i → count * region_words ≤ length xs
        → {t : List ℕ} → t ≡ replicate (length (take free (drop (kept * region_words) s))) 0
        → table kept (put_mid (kept * region_words) free s t) ≡ removed xs count q
    sweep_done i w l g fits e = rw e (cleared (rw (le_antisymm l g) at w) fits)
