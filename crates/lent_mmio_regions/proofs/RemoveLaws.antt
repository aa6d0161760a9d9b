-- A loop that removes in place: after i records those kept stand first, unused ones follow up to place i, and the rest is as it was.
-- Assumes nothing.
use mathlib.Core.Path.{◌≡◌, refl, sym, ap, ap₂, ◌∙◌}
use mathlib.Core.Bool.{Bool, true, false}
use mathlib.Core.List.{List, [], ◌∷◌, ◌++◌, append_assoc}
use Prim.Native.Nat.{ℕ, zero, suc, ◌+◌, ◌-◌, ◌≤◌, ◌<◌, max}
use native.Mathlib.Numerals.{add-one}
use native.Mathlib.Omega.{arith}
use lib.ListN.{length, get_or, set, take, drop, replicate, length-append, length-take, length-drop, length-replicate}
use lib.Seq.{take-suc, drop-cons, set_at, get_or_at}
use Rattle.table_rows.specs.Choice.{pick}
use Rattle.confidential_vm_mmio_region.specs.declared.ConfidentialVmMmioRegion.{ConfidentialVmMmioRegion}
use Rattle.confidential_vm_mmio_region.specs.Region.{overlaps}
use Rattle.mmio_regions.specs.Regions.{with_removed}
use Rattle.mmio_regions.proofs.RegionLaws.{removed_last, removed_few}
use Rattle.mmio_region_survey.specs.Survey.{kept_of}
use Rattle.lent_mmio_regions.specs.Run.{standing, unused, Run, run, laid, relaid}

-- ---- a list whose first are kept, then a of u, then the rest

module _ {A : Type 0} (u : A) where
  -- a u before a run of them, or after it
  shift : (n : ℕ) (ys : List A) → replicate n u ++ u ∷ ys ≡ u ∷ (replicate n u ++ ys)
  shift zero ys = refl
  shift (suc n) ys = ap (λ (l : List A). u ∷ l) (shift n ys)

  module _ (kept : List A) (a : ℕ) (x : A) (rest : List A) (i : ℕ) (here : length kept + a ≡ i) where
    abbrev whole : List A
    whole = kept ++ (replicate a u ++ x ∷ rest)

    front : length (kept ++ replicate a u) ≡ i
    front = simp (length-append, length-replicate) here

    split : whole ≡ kept ++ replicate a u ++ x ∷ rest
    split = sym (append_assoc kept (replicate a u) (x ∷ rest))

    -- what stands in place i
    read : get_or whole i u ≡ x
    read = ap (λ (l : List A). get_or l i u) split ∙ get_or_at (kept ++ replicate a u) x rest u i front

    -- it is taken out, and v is written after those kept
    moved : (v : A) → set (set whole i u) (length kept) v ≡ kept ++ v ∷ (replicate a u ++ rest)
    moved v =
        ap (λ (l : List A). set l (length kept) v)
        (ap (λ (l : List A). set l i u) split
        ∙ set_at (kept ++ replicate a u) x rest u i front
        ∙ append_assoc kept (replicate a u) (u ∷ rest)
        ∙ ap (λ (l : List A). kept ++ l) (shift a rest))
        ∙ set_at kept u (replicate a u ++ rest) v (length kept) refl

-- ---- the loop

module _ (ys : List ConfidentialVmMmioRegion) (q : ConfidentialVmMmioRegion) where
  -- those kept of the first i
  abbrev kept : ℕ → List ConfidentialVmMmioRegion
  kept i = with_removed q (standing ys i)

  kept_few : (i : ℕ) → length (kept i) ≤ i
  kept_few i = omega (arith, removed_few q (take i ys), length-take i ys)

  -- one more
  kept_next : (i : ℕ) → i < length ys
      → kept (i + 1) ≡ pick (overlaps (get_or ys i unused) q) (kept i) (kept i ++ (get_or ys i unused ∷ []))
  kept_next i l =
      ap (with_removed q) (ap (λ (n : ℕ). take n ys) (add-one i) ∙ take-suc ys i unused l)
      ∙ removed_last q (get_or ys i unused) (take i ys)

  -- where no more are laid than stood
  laid_few : (i : ℕ) (rs : List ConfidentialVmMmioRegion) → length rs ≤ i
      → laid ys i rs ≡ rs ++ (replicate (i - length rs) unused ++ drop i ys)
  unfolding laid
  laid_few i rs l =
      let m : max i (length rs) ≡ i = omega arith in
      ap (λ (n : ℕ). rs ++ (replicate (i - length rs) unused ++ drop n ys)) m

  -- the first i are dealt with, and k are kept
  abbrev pub Left : ℕ → ℕ → List ConfidentialVmMmioRegion → Type 0
  Left i k zs = run k zs ≡ relaid ys i (with_removed q (standing ys i))

  pub left_none : Left 0 0 ys
  unfolding with_removed laid
  left_none = refl

  -- a record that is kept, or one that is not
  turn : (i : ℕ) → i < length ys → (b : Bool) {k : ℕ} → k ≡ length (kept i)
      → run (pick b k (k + 1))
      (kept i ++ pick b unused (get_or ys i unused) ∷ (replicate (i - length (kept i)) unused ++ drop (i + 1) ys))
      ≡ relaid ys (i + 1) (pick b (kept i) (kept i ++ (get_or ys i unused ∷ [])))
  unfolding pick
  turn i l true e =
      let n : i + 1 - length (kept i) ≡ suc (i - length (kept i)) = omega (arith, kept_few i) in
      ap₂ run e (sym (laid_few (i + 1) (kept i) (omega (arith, kept_few i))
      ∙ ap (λ (m : ℕ). kept i ++ (replicate m unused ++ drop (i + 1) ys)) n))
  turn i l false e =
      let r : ConfidentialVmMmioRegion = get_or ys i unused in
      let more : length (kept i ++ (r ∷ [])) ≡ length (kept i) + 1 = length-append (kept i) (r ∷ []) in
      let n : i + 1 - length (kept i ++ (r ∷ [])) ≡ i - length (kept i) = omega (arith, kept_few i) in
      ap₂ run (ap (λ (m : ℕ). m + 1) e ∙ sym more)
      (sym (laid_few (i + 1) (kept i ++ (r ∷ [])) (omega (arith, kept_few i))
      ∙ ap (λ (m : ℕ). kept i ++ (r ∷ []) ++ (replicate m unused ++ drop (i + 1) ys)) n
      ∙ append_assoc (kept i) (r ∷ []) (replicate (i - length (kept i)) unused ++ drop (i + 1) ys)))

  module _ (i k : ℕ) (zs : List ConfidentialVmMmioRegion) where
    -- how many are kept
    number : Left i k zs → k ≡ length (kept i)
    number e = ap (λ (r : Run). r.count) e

    -- the records, in three parts
    records : Left i k zs → zs ≡ kept i ++ (replicate (i - length (kept i)) unused ++ drop i ys)
    records e = ap (λ (r : Run). r.records) e ∙ laid_few i (kept i) (kept_few i)

    pub left_few : i ≤ length ys → Left i k zs → k ≤ i
    left_few l e = omega (arith, number e, kept_few i)

    pub left_length : i ≤ length ys → Left i k zs → length zs ≡ length ys
    left_length l e =
        ap length (records e) ∙ simp (length-append, length-replicate, length-drop) (omega (arith, kept_few i))

    -- the records, with the one in place i by itself
    split_zs : i < length ys → Left i k zs
        → zs ≡ kept i ++ (replicate (i - length (kept i)) unused ++ get_or ys i unused ∷ drop (i + 1) ys)
    split_zs l e =
        records e
        ∙ ap (λ (s : List ConfidentialVmMmioRegion). kept i ++ (replicate (i - length (kept i)) unused ++ s))
        (drop-cons ys i unused l ∙ ap (λ (n : ℕ). get_or ys i unused ∷ drop n ys) (sym (add-one i)))

    -- the record in place i is still the one that stood there
    same : i < length ys → Left i k zs → get_or zs i unused ≡ get_or ys i unused
    same l e =
        ap (λ (s : List ConfidentialVmMmioRegion). get_or s i unused) (split_zs l e)
        ∙ read unused (kept i) (i - length (kept i)) (get_or ys i unused) (drop (i + 1) ys) i (omega (arith, kept_few i))

    -- the two stores of a turn
    stored : i < length ys → Left i k zs → (v : ConfidentialVmMmioRegion)
        → set (set zs i unused) k v ≡ kept i ++ v ∷ (replicate (i - length (kept i)) unused ++ drop (i + 1) ys)
    stored l e v =
        ap₂ (λ (s : List ConfidentialVmMmioRegion) (n : ℕ). set (set s i unused) n v) (split_zs l e) (number e)
        ∙ moved unused (kept i) (i - length (kept i)) (get_or ys i unused) (drop (i + 1) ys) i (omega (arith, kept_few i)) v

    -- what a turn writes and counts, by the test
    kept_parts : (r : ConfidentialVmMmioRegion) (b : Bool) → overlaps r q ≡ b
        → run (kept_of k r q).next (kept i ++ (kept_of k r q).region ∷ (replicate (i - length (kept i)) unused ++ drop (i + 1) ys))
        ≡ run (pick b k (k + 1)) (kept i ++ pick b unused r ∷ (replicate (i - length (kept i)) unused ++ drop (i + 1) ys))
    unfolding kept_of pick
    kept_parts r true e = rw e
    kept_parts r false e = rw e

    pub left_next : i < length ys → Left i k zs
        → Left (i + 1) (kept_of k (get_or zs i unused) q).next (set (set zs i unused) k (kept_of k (get_or zs i unused) q).region)
    left_next l e =
        let r : ConfidentialVmMmioRegion = get_or ys i unused in
        ap (λ (x : ConfidentialVmMmioRegion). run (kept_of k x q).next (set (set zs i unused) k (kept_of k x q).region)) (same l e)
        ∙ ap (run (kept_of k r q).next) (stored l e (kept_of k r q).region)
        ∙ kept_parts r (overlaps r q) refl
        ∙ turn i l (overlaps r q) (number e)
        ∙ ap (relaid ys (i + 1)) (sym (kept_next i l))
