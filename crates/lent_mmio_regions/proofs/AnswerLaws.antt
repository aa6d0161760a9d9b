-- The answers made of one look through a run are those that the requests promise. Assumes nothing.
use mathlib.Core.Path.{◌≡◌, refl, sym, ap, ap₂, subst, ◌∙◌}
use mathlib.Core.Bool.{Bool, true, false, not, ◌&&◌, false≢true}
use mathlib.Core.List.{List, [], ◌∷◌, ◌++◌}
use Prim.Native.Nat.{ℕ, suc, ◌+◌, ◌-◌, ◌≤◌, ◌<◌, max}
use native.Mathlib.Omega.{arith}
use lib.ListN.{length, set, take, drop, length-append, take-append-drop}
use lib.Seq.{length-take-le, append_snoc, set_split}
use lib.Dec.{eqb, leb, ltb}
use borrow.Author.Tests.{eqb-true, leb-false, not-false}
use Rattle.std.specs.Result.{result_unwrap_or}
use Rattle.std.specs.Prelude.{Ok, Err}
use Rattle.error.specs.declared.Error.{Error}
use Rattle.error.proofs.NumberLaws.{number_refuses}
use Rattle.error.specs.Error.{done, number_of, number_in, reached_max_number_of_mmio_regions, overlapping_mmio_region, end_too_large, tables_not_sound}
use Rattle.table_rows.specs.Choice.{pick}
use Rattle.table_rows.proofs.PickLaws.{yes, no, by_test, not_yes, not_no}
use Rattle.confidential_vm_mmio_region.specs.declared.ConfidentialVmMmioRegion.{ConfidentialVmMmioRegion}
use Rattle.confidential_vm_mmio_region.specs.Region.{max_end, new_region, region_of, region_from}
use Rattle.mmio_regions.specs.Regions.{max_regions, any_overlaps, any_contains, add_number, with_added, with_removed}
use Rattle.mmio_region_survey.specs.declared.Changed.{Changed}
use Rattle.mmio_region_survey.specs.declared.Defined.{Defined}
use Rattle.mmio_region_survey.specs.declared.Survey.{Survey}
use Rattle.mmio_region_survey.specs.Survey.{surveyed, refusal, changed, changed_by, add_answer, defined_answer}
use Rattle.lent_mmio_regions.specs.Run.{
  standing,
  run_sound,
  laid,
  Run,
  run,
  relaid,
  RunChange,
  run_change,
  refused,
  checked,
  added,
  removed,
  defined,
}
use Rattle.lent_mmio_regions.proofs.SurveyLaws.{survey_sound, survey_overlapping, survey_containing, sound_room, sound_few}

-- ---- regions laid into a run

module _ (rs : List ConfidentialVmMmioRegion) (count : ℕ) where
  -- laying what stands changes nothing
  pub relaid_same : count ≤ length rs → run count rs ≡ relaid rs count (standing rs count)
  unfolding laid
  relaid_same l =
      let n : length (take count rs) ≡ count = length-take-le count rs l in
      let free : count - count ≡ 0 = omega arith in
      let all : max count count ≡ count = omega arith in
      sym (rw (n, free, all) (ap (run count) (take-append-drop count rs)))

  -- one more is laid after the last
  pub relaid_more : (q : ConfidentialVmMmioRegion) → count < length rs
      → run (count + 1) (set rs count q) ≡ relaid rs count (standing rs count ++ (q ∷ []))
  unfolding laid
  relaid_more q l =
      let n : length (take count rs ++ (q ∷ [])) ≡ count + 1 =
      length-append (take count rs) (q ∷ []) ∙ omega (arith, length-take-le count rs (omega arith)) in
      let free : count - (count + 1) ≡ 0 = omega arith in
      let all : max count (count + 1) ≡ suc count = omega arith in
      sym (rw (n, free, all) (ap (run (count + 1)) (append_snoc (take count rs) q (drop (suc count) rs) ∙ sym (set_split rs count q l))))

-- ---- the checks of every request

-- 12, then 11, then what follows: it follows exactly where the number is 0
by_number : {A : Type 0} (f : ℕ → A) (next : A) (b c : Bool)
    → pick b (f tables_not_sound) (pick c (f end_too_large) next)
    ≡ pick (eqb (pick b tables_not_sound (pick c end_too_large done)) done) next (f (pick b tables_not_sound (pick c end_too_large done)))
unfolding pick
by_number f next true c = refl
by_number f next false true = refl
by_number f next false false = refl

-- the number of a new region
new_number : (base size : ℕ) → number_in (new_region base size) ≡ pick (ltb max_end (base + size)) end_too_large done
unfolding new_region pick
new_number base size =
    by_test (ltb max_end (base + size)) (λ e. rw e) (λ e. rw e)

-- where the number is 0 the region is that of the base and the size
new_region_lem : (base size : ℕ) → eqb (number_in (new_region base size)) done ≡ true → result_unwrap_or (new_region base size) (region_of 0 0) ≡ region_from base size
unfolding new_region pick
new_region_lem base size d =
    by_test (ltb max_end (base + size)) (λ e. absurd (false≢true (rw e at d))) (λ e. rw e)

-- a choice that gives 0 did not give 12
not_twelve : (b : Bool) (n : ℕ) → eqb (pick b tables_not_sound n) done ≡ true → b ≡ false
unfolding pick
not_twelve true n e = sym e
not_twelve false n e = refl

module _ (rs : List ConfidentialVmMmioRegion) (count base size : ℕ) where
  -- what is looked for
  abbrev q : ConfidentialVmMmioRegion
  q = result_unwrap_or (new_region base size) (region_of 0 0)

  -- what the look shows
  abbrev s : Survey
  s = surveyed rs count q

  -- the regions that stand
  abbrev here : List ConfidentialVmMmioRegion
  here = standing rs count

  -- the number of a refusal by the definition's own checks
  refusal_number : refusal s base size ≡ pick (not (run_sound rs count)) tables_not_sound (pick (ltb max_end (base + size)) end_too_large done)
  unfolding refusal
  refusal_number =
      ap₂ (λ (b : Bool) (n : ℕ). pick (not b) tables_not_sound n) (survey_sound rs count q) (new_number base size)

  -- what a request gives is what follows its checks where that number is 0, and else the refusal by it
  by_refusal : {A : Type 0} (f : ℕ → A) (next : A)
      → checked f rs count base size next ≡ pick (eqb (refusal s base size) done) next (f (refusal s base size))
  unfolding checked
  by_refusal f next =
      by_number f next (not (run_sound rs count)) (ltb max_end (base + size))
      ∙ ap (λ (n : ℕ). pick (eqb n done) next (f n)) (sym refusal_number)

  -- where the number is 0: the run is sound, the region is that of the base and the size, and what follows the checks is given
  module _ (e : eqb (refusal s base size) done ≡ true) where
    passed_sound : run_sound rs count ≡ true
    unfolding refusal
    passed_sound = sym (survey_sound rs count q) ∙ not-false s.sound (not_twelve (not s.sound) (number_in (new_region base size)) e)

    passed_region : q ≡ region_from base size
    unfolding refusal pick
    passed_region = new_region_lem base size (rw (survey_sound rs count q, passed_sound) at e)

    follows : {A : Type 0} (f : ℕ → A) (next : A) → next ≡ checked f rs count base size next
    follows f next = yes (f (refusal s base size)) e refl ∙ sym (by_refusal f next)

    passed_room : max_regions ≤ length rs
    passed_room = sound_room rs count passed_sound

    passed_few : count ≤ max_regions
    passed_few = sound_few rs count passed_sound

    passed_length : length here ≡ count
    passed_length = length-take-le count rs (omega (arith, passed_room, passed_few))

  -- where it is not, the refusal by it
  refuses : eqb (refusal s base size) done ≡ false → {A : Type 0} (f : ℕ → A) (next : A)
      → f (refusal s base size) ≡ checked f rs count base size next
  refuses e f next = no next e refl ∙ sym (by_refusal f next)

  -- ---- defined

  abbrev no_answer : ℕ → Defined
  no_answer n = record { number = n; defined = false }

  abbrev found : Defined
  found = record { number = done; defined = any_contains (region_from base size) here }

  pub defined_answer_lem : defined_answer s base size ≡ defined rs count base size
  unfolding defined_answer defined
  defined_answer_lem =
      by_test (eqb (refusal s base size) done)
      (λ e.
      (λ i. record {
        number = eqb-true (refusal s base size) done e i;
        defined = (ap (λ (b : Bool). b && s.containing) e
            ∙ survey_containing rs count q (passed_sound e)
            ∙ ap (λ (r : ConfidentialVmMmioRegion). any_contains r here) (passed_region e)) i;
      })
      ∙ follows e no_answer found)
      (λ e.
      (λ i. record { number = refusal s base size; defined = ap (λ (b : Bool). b && s.containing) e i })
      ∙ refuses e no_answer found)

  -- ---- remove

  room : eqb (refusal s base size) done ≡ true → count ≤ length rs
  room e = omega (arith, passed_room e, passed_few e)

  -- a number that is 0
  zero_passes : done ≡ refusal s base size → eqb (refusal s base size) done ≡ true
  zero_passes n = ap (λ (k : ℕ). eqb k done) (sym n)

  pub remove_room : done ≡ refusal s base size → count ≤ length rs
  remove_room n = room (zero_passes n)

  abbrev fewer : RunChange
  fewer = record { number = done; after = relaid rs count (with_removed (region_from base size) here) }

  pub remove_done : done ≡ refusal s base size → (left : ℕ) (zs : List ConfidentialVmMmioRegion)
      → run left zs ≡ relaid rs count (with_removed q here) → run_change (changed done left) zs ≡ removed rs count base size
  unfolding removed
  remove_done n left zs p =
      ap (λ (r : Run). record { number = done; after = r })
      (p ∙ ap (λ (r : ConfidentialVmMmioRegion). relaid rs count (with_removed r here)) (passed_region (zero_passes n)))
      ∙ follows (zero_passes n) (refused rs count) fewer

  pub remove_refused : (e : Error) → number_of e ≡ refusal s base size → run_change (changed (number_of e) count) rs ≡ removed rs count base size
  unfolding removed
  remove_refused e n =
      ap (refused rs count) n
      ∙ refuses (ap (λ (k : ℕ). eqb k done) (sym n) ∙ number_refuses e) (refused rs count) fewer

  -- ---- add

  abbrev new : RunChange
  new = record {
    number = add_number (region_from base size) here;
    after = relaid rs count (with_added (region_from base size) here);
  }

  -- a region that is not added leaves the run as it was
  pub not_added : (n : ℕ) → count ≤ length rs → n ≡ add_number (region_from base size) here → eqb n done ≡ false → refused rs count n ≡ new
  unfolding with_added
  not_added n l e other =
      let same : here ≡ with_added (region_from base size) here =
      no (here ++ (region_from base size ∷ [])) (ap (λ (k : ℕ). eqb k done) (sym e) ∙ other) refl in
      λ i. record { number = e i; after = (relaid_same rs count l ∙ ap (relaid rs count) same) i }

  -- a region that is added stands last
  is_added : count < length rs → done ≡ add_number (region_from base size) here → q ≡ region_from base size
      → record { number = done; after = run (count + 1) (set rs count q) } ≡ new
  unfolding with_added
  is_added l e same =
      let more : here ++ (region_from base size ∷ []) ≡ with_added (region_from base size) here =
      yes here (ap (λ (k : ℕ). eqb k done) (sym e)) refl in
      λ i. record {
        number = e i;
        after = (ap (λ (r : ConfidentialVmMmioRegion). run (count + 1) (set rs count r)) same
            ∙ relaid_more rs count (region_from base size) l
            ∙ ap (relaid rs count) more) i;
      }

  -- what holds of a refusal with the run as it was, and of a region added last, holds of the answer and what is promised
  module _ (P : Changed → RunChange → Type 0) where
    both : {a b : Changed} {c d : RunChange} → a ≡ b → c ≡ d → P a c → P b d
    both {a} {b} {c} {d} p r x = subst (λ (y : RunChange). P b y) r (subst (λ (y : Changed). P y c) p x)

    by_answer : ((n : ℕ) → eqb n done ≡ false → P (changed n count) (refused rs count n))
        → (count < length rs → P (changed done (count + 1)) (record { number = done; after = run (count + 1) (set rs count q) }))
        → P (add_answer s count base size) (added rs count base size)
    unfolding add_answer added add_number
    by_answer kept stored =
        by_test (eqb (refusal s base size) done)
        (λ e.
        let l : count ≤ length rs = room e in
        let over : s.overlapping ≡ any_overlaps (region_from base size) here =
        survey_overlapping rs count q (passed_sound e) ∙ ap (λ (r : ConfidentialVmMmioRegion). any_overlaps r here) (passed_region e) in
        let size_same : leb max_regions (length here) ≡ leb max_regions count = ap (leb max_regions) (passed_length e) in
        by_test (leb max_regions count)
        (λ full.
        both (no _ (not_no _ e) (yes _ full refl))
        (not_added reached_max_number_of_mmio_regions l (yes _ (size_same ∙ full) refl) refl ∙ follows e (refused rs count) new)
        (kept reached_max_number_of_mmio_regions refl))
        (λ room.
        by_test s.overlapping
        (λ o.
        both (no _ (not_no _ e) (no _ room (yes _ o refl)))
        (not_added overlapping_mmio_region l (no _ (size_same ∙ room) (yes _ (sym over ∙ o) refl)) refl ∙ follows e (refused rs count) new)
        (kept overlapping_mmio_region refl))
        (λ o.
        let free : count < length rs = omega (arith, passed_room e, leb-false max_regions count room) in
        both (no _ (not_no _ e) (no _ room (no _ o refl)))
        (is_added free (no _ (size_same ∙ room) (no _ (sym over ∙ o) refl)) (passed_region e) ∙ follows e (refused rs count) new)
        (stored free))))
        (λ e. both (yes _ (not_yes _ e) refl) (refuses e (refused rs count) new) (kept (refusal s base size) e))

  -- an answer that is done, and one that refuses, by their numbers
  pub add_room : {more : ℕ} → changed_by count (Ok more) ≡ add_answer s count base size → count < length rs
  add_room a =
      by_answer (λ (c : Changed) (o : RunChange). eqb c.number done ≡ true → count < length rs)
      (λ n other d. absurd (false≢true (sym other ∙ d)))
      (λ l _. l)
      (ap (λ (c : Changed). eqb c.number done) (sym a))

  pub add_stored : {more : ℕ} → changed_by count (Ok more) ≡ add_answer s count base size
      → run_change (changed_by count (Ok more)) (set rs count q) ≡ added rs count base size
  add_stored a =
      ap (λ (c : Changed). run_change c (set rs count q)) a
      ∙ by_answer (λ (c : Changed) (o : RunChange). eqb c.number done ≡ true → run_change c (set rs count q) ≡ o)
      (λ n other d. absurd (false≢true (sym other ∙ d)))
      (λ _ _. refl)
      (ap (λ (c : Changed). eqb c.number done) (sym a))

  pub add_kept : (e : Error) → changed_by count (Err e) ≡ add_answer s count base size
      → run_change (changed_by count (Err e)) rs ≡ added rs count base size
  add_kept e a =
      ap (λ (c : Changed). run_change c rs) a
      ∙ by_answer (λ (c : Changed) (o : RunChange). eqb c.number done ≡ false → run_change c rs ≡ o)
      (λ n _ _. refl)
      (λ _ d. absurd (false≢true (sym d)))
      (ap (λ (c : Changed). eqb c.number done) (sym a) ∙ number_refuses e)
