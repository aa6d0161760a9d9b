-- The answers of the entries for regions, from what the region and its table give. Assumes nothing.
use Prim.Native.Nat.{ℕ, ◌+◌}
use mathlib.Core.Path.{◌≡◌, refl, sym, ap, ◌∙◌}
use mathlib.Core.Bool.{Bool, true, false, false≢true}
use mathlib.Core.List.{List, [], ◌∷◌, ◌++◌}
use native.Mathlib.Omega.{arith}
use lib.ListN.{length, set}
use lib.Dec.{eqb, leb, ltb}
use Rattle.std.specs.Prelude.{Result, Ok, Err}
use Rattle.std.specs.Result.{result_unwrap_or}
use Rattle.error.specs.Error.{done, number_of, number_in, reached_max_number_of_mmio_regions, overlapping_mmio_region}
use Rattle.error.specs.declared.Error.{Error}
use Rattle.error.specs.declared.Error.TheVariants.{ReachedMaxNumberOfMmioRegions, OverlappingMmioRegion, EndTooLarge}
use Rattle.error.proofs.NumberLaws.{number_once, number_refuses}
use Rattle.table_rows.proofs.PickLaws.{yes, no, by_test, not_no}
use Rattle.confidential_vm_mmio_region.specs.declared.ConfidentialVmMmioRegion.{ConfidentialVmMmioRegion}
use Rattle.confidential_vm_mmio_region.specs.Region.{max_end, new_region, region_from}
use Rattle.mmio_regions.specs.Regions.{max_regions, any_overlaps, any_contains, add_number, with_added}
use Rattle.mmio_regions.specs.Table as regions
use Rattle.mmio_regions.specs.Table.{Table, table, laid, relaid, added, removed}
use Rattle.mmio_regions.proofs.TableLaws.{laid_same}
use Rattle.monitor_requests.specs.declared.Answer.TheVariants.{Done, Flag}
use Rattle.monitor_requests.specs.declared.Request.TheVariants.{Add, Remove, Defined}
use Rattle.monitor_requests.specs.Tables.{Tables, tables, regions_word, region_count, regions_of, sound, Sized}
use Rattle.monitor_requests.specs.Requests.{answering, tests, effect, performed}

-- ---- the region that is made

module _ (base size : ℕ) where
  abbrev large : Bool
  large = ltb max_end (base + size)

  is_refused_lem : large ≡ true → new_region base size ≡ Err EndTooLarge
  unfolding new_region
  is_refused_lem e = sym (yes _ e refl)

  is_made : large ≡ false → new_region base size ≡ Ok (region_from base size)
  unfolding new_region
  is_made e = sym (no _ e refl)

  -- a refusal is that of an end too large
  pub too_large_lem : {e : Error} → Err e ≡ new_region base size → (large ≡ true) × (e ≡ EndTooLarge)
  too_large_lem {e} p =
      by_test large
      (λ t.
      let same : ◌≡◌ {A = Result ConfidentialVmMmioRegion Error} (Err e) (Err EndTooLarge) = p ∙ is_refused_lem t in
      (t, cc))
      (λ f.
      let other : ◌≡◌ {A = Result ConfidentialVmMmioRegion Error} (Err e) (Ok (region_from base size)) = p ∙ is_made f in
      absurd (cc))

  -- and a region that is made is the one of the base and the size
  pub made : {region : ConfidentialVmMmioRegion} → Ok region ≡ new_region base size → (large ≡ false) × (region ≡ region_from base size)
  made {region} p =
      by_test large
      (λ t.
      let other : ◌≡◌ {A = Result ConfidentialVmMmioRegion Error} (Ok region) (Err EndTooLarge) = p ∙ is_refused_lem t in
      absurd (cc))
      (λ f.
      let same : ◌≡◌ {A = Result ConfidentialVmMmioRegion Error} (Ok region) (Ok (region_from base size)) = p ∙ is_made f in
      (f, cc))

-- ---- what the region table gives

module _ (base size : ℕ) (t : Tables) (s : sound t ≡ true) (fits : ltb max_end (base + size) ≡ false) where
  abbrev query : ConfidentialVmMmioRegion
  query = region_from base size

  abbrev stand : List ConfidentialVmMmioRegion
  stand = regions_of t

  -- ---- defined

  pub defined_answer_lem : {q : ConfidentialVmMmioRegion} {flag : Bool} → q ≡ query → flag ≡ any_contains q stand
      → answering (Ok (Flag flag)) t [] ≡ performed (Defined base size) t []
  unfolding tests effect performed
  defined_answer_lem e f =
      no _ (not_no _ s)
      (no _ fits (ap (λ (b : Bool). answering (Ok (Flag b)) t []) (f ∙ ap (λ (r : ConfidentialVmMmioRegion). any_contains r stand) e)))

  -- ---- remove

  pub removed_answer : {count : ℕ} {words : List ℕ} → table count words ≡ removed t.regions (region_count t) query
      → answering (Ok Done) (tables (set t.head regions_word count) t.home t.hardware t.queues words) [] ≡ performed (Remove base size) t []
  unfolding tests effect performed removed
  removed_answer e =
      no _ (not_no _ s)
      (no _ fits
      (ap (λ (o : Table). answering (Ok Done) (tables (set t.head regions_word o.count) t.home t.hardware t.queues o.words) []) e))

  -- ---- add

  abbrev full : Bool
  full = leb max_regions (length stand)

  abbrev overlapping : Bool
  overlapping = any_overlaps query stand

  is_full : full ≡ true → add_number query stand ≡ reached_max_number_of_mmio_regions
  unfolding add_number
  is_full e = sym (yes _ e refl)

  is_overlapping : full ≡ false → overlapping ≡ true → add_number query stand ≡ overlapping_mmio_region
  unfolding add_number
  is_overlapping f e = sym (no _ f (yes _ e refl))

  is_free : full ≡ false → overlapping ≡ false → add_number query stand ≡ done
  unfolding add_number
  is_free f e = sym (no _ f (no _ e refl))

  module _ (answer : Result ℕ Error) {words : List ℕ}
      (e : regions.addition (region_count t) answer words ≡ added t.regions (region_count t) query) where
    given : number_in answer ≡ add_number query stand
    unfolding added
    given = ap (λ (o : regions.Addition). o.number) e

    left : table (result_unwrap_or answer (region_count t)) words ≡ relaid t.regions (region_count t) (with_added query stand)
    unfolding added
    left = ap (λ (o : regions.Addition). o.after) e

    -- a number other than 0 left the words as they were
    kept : Sized t → eqb (number_in answer) done ≡ false → words ≡ t.regions
    unfolding with_added
    kept z n =
        let same : stand ≡ with_added query stand = no _ (ap (λ (k : ℕ). eqb k done) (sym given) ∙ n) refl in
        ap (λ (o : Table). o.words) left
        ∙ ap (laid t.regions (region_count t)) (sym same)
        ∙ laid_same t.regions (region_count t) (omega arith)

  -- a refusal is the one that the tests give, and leaves the words as they were
  pub refused_answer : {error : Error} {words : List ℕ} → Sized t
      → regions.addition (region_count t) (Err error) words ≡ added t.regions (region_count t) query
      → answering (Err error) (tables t.head t.home t.hardware t.queues words) [] ≡ performed (Add base size) t []
  unfolding tests effect performed
  refused_answer {error} {words} z e =
      let n : number_of error ≡ add_number query stand = given (Err error) e in
      let same : words ≡ t.regions = kept (Err error) e z (number_refuses error) in
      ap (λ (ws : List ℕ). answering (Err error) (tables t.head t.home t.hardware t.queues ws) []) same
      ∙ no _ (not_no _ s)
      (no _ fits
      (by_test full
      (λ f. yes _ f (ap (λ (x : Error). answering (Err x) t []) (number_once error ReachedMaxNumberOfMmioRegions (n ∙ is_full f))))
      (λ f.
      no _ f
      (by_test overlapping
      (λ o. yes _ o (ap (λ (x : Error). answering (Err x) t []) (number_once error OverlappingMmioRegion (n ∙ is_overlapping f o))))
      (λ o. absurd (false≢true (sym (number_refuses error) ∙ ap (λ (k : ℕ). eqb k done) (n ∙ is_free f o))))))))

  -- a region that is added stands last
  pub added_answer : {more : ℕ} {words : List ℕ} → regions.addition (region_count t) (Ok more) words ≡ added t.regions (region_count t) query
      → answering (Ok Done) (tables (set t.head regions_word more) t.home t.hardware t.queues words) [] ≡ performed (Add base size) t []
  unfolding tests effect performed with_added
  added_answer {more} e =
      let n : done ≡ add_number query stand = given (Ok more) e in
      let room : full ≡ false =
      by_test full (λ f. let z : ◌≡◌ {A = ℕ} done reached_max_number_of_mmio_regions = n ∙ is_full f in absurd (omega arith)) (λ f. f) in
      let free : overlapping ≡ false =
      by_test overlapping
      (λ o. let z : ◌≡◌ {A = ℕ} done overlapping_mmio_region = n ∙ is_overlapping room o in absurd (omega arith))
      (λ o. o) in
      let last : stand ++ (query ∷ []) ≡ with_added query stand = yes _ (ap (λ (k : ℕ). eqb k done) (sym n)) refl in
      no _ (not_no _ s)
      (no _ fits
      (no _ room
      (no _ free
      (ap (λ (o : Table). answering (Ok Done) (tables (set t.head regions_word o.count) t.home t.hardware t.queues o.words) [])
      (left (Ok more) e ∙ ap (relaid t.regions (region_count t)) (sym last))))))
