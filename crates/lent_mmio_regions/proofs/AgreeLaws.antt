-- The requests on a lent run and the entries on tables that hold it give the same, whether the run is sound or not,
-- where the rest of the tables makes no difference. Assumes nothing.
use mathlib.Core.Path.{◌≡◌, refl, sym, ap, ap₂, subst, ◌∙◌}
use mathlib.Core.Bool.{Bool, true, false, not, ◌&&◌, and-true, and_assoc, false≢true}
use mathlib.Core.List.{List, [], ◌∷◌, ◌++◌}
use Prim.Native.Nat.{ℕ, zero, suc, ◌+◌, ◌-◌, ◌*◌, ◌≤◌, ◌<◌, max}
use native.Mathlib.Omega.{arith}
use lib.ListN.{length, get_or, take, drop, replicate, take-append-drop}
use lib.Seq.{length-take-le, take-nil, drop-nil, get_or-set_same}
use lib.Dec.{eqb, leb, ltb}
use borrow.Author.Tests.{leb-true, leb-false, le-leb, lt-leb, not-false}
use Rattle.error.specs.declared.Error.{Error}
use Rattle.error.specs.declared.Error.TheVariants.{ReachedMaxNumberOfMmioRegions, OverlappingMmioRegion, EndTooLarge, TablesNotSound}
use Rattle.error.specs.Error.{done, number_of, reached_max_number_of_mmio_regions, overlapping_mmio_region, end_too_large, tables_not_sound}
use Rattle.table_rows.specs.Rows.{over}
use Rattle.table_rows.specs.Choice.{pick, every, all_zero}
use Rattle.table_rows.specs.Lists.{all_of}
use Rattle.table_rows.proofs.PickLaws.{by_test}
use Rattle.confidential_vm_mmio_region.specs.declared.ConfidentialVmMmioRegion.{ConfidentialVmMmioRegion}
use Rattle.confidential_vm_mmio_region.specs.Region.{max_end, ordered, region_from}
use Rattle.mmio_regions.specs.Regions.{max_regions, any_overlaps, add_number, with_added, with_removed}
use Rattle.mmio_regions.specs.Table.{region_words, words_of, regions_sound}
use Rattle.mmio_regions.specs.Table as table
use Rattle.mmio_regions.proofs.TableLaws.{words_length, words_append, standing_of_lem}
use Rattle.monitor_requests.specs.declared.Request.{Request}
use Rattle.monitor_requests.specs.declared.Request.TheVariants.{Add, Remove, Defined}
use Rattle.monitor_requests.specs.declared.Setup.{Setup}
use Rattle.std.proofs.Common.{Ok}
use Rattle.monitor_requests.specs.declared.Answer.TheVariants.{Done}
use Rattle.monitor_requests.specs.Tables.{Tables, regions_word, region_count, regions_of, sound}
use Rattle.monitor_requests.specs.Requests as entry
use Rattle.monitor_requests.specs.Requests.{Test, judged, refused_on, too_large, with_regions, tests, effect, performed, set_up}
use Rattle.monitor_requests.proofs.JudgedLaws.{unsound_refused}
use Rattle.monitor_requests.proofs.SoundLaws.{sound_facts}
use Rattle.monitor_requests.proofs.SetupLaws.{setup_done, setup_sound}
use Rattle.monitor_requests.proofs.RegionLaws.{add_sound, remove_sound}
use Rattle.lent_mmio_regions.specs.Run.{
  standing,
  unused,
  is_unused,
  run_sound,
  laid,
  Run,
  run,
  relaid,
  RunChange,
  refused,
  checked,
  added,
  removed,
  defined,
}
use Rattle.lent_mmio_regions.specs.Agreement.{Holds, OthersSound, Agrees, AgreesOnFlag}
use Rattle.lent_mmio_regions.proofs.SurveyLaws.{sound_room, sound_few}
use Rattle.lent_mmio_regions.proofs.AnswerLaws.{relaid_same}

-- ---- the words of records

-- words are those of one list of records
pub words_once : (rs ss : List ConfidentialVmMmioRegion) → words_of rs ≡ words_of ss → rs ≡ ss
unfolding words_of
words_once [] [] e = refl
words_once [] (s ∷ ss) e = absurd (omega (arith, ap length e))
words_once (r ∷ rs) [] e = absurd (omega (arith, ap length e))
words_once (r ∷ rs) (s ∷ ss) e =
    let base : r.base ≡ s.base = ap (λ (l : List ℕ). get_or l 0 0) e in
    let end : r.end ≡ s.end = ap (λ (l : List ℕ). get_or l 1 0) e in
    let rest : words_of rs ≡ words_of ss = ap (drop 2) e in
    ap₂ (λ (x : ConfidentialVmMmioRegion) (xs : List ConfidentialVmMmioRegion). x ∷ xs) (λ i. record { base = base i; end = end i })
    (words_once rs ss rest)

-- one record more is two words more
two_more : (n : ℕ) → suc n * region_words ≡ suc (suc (n * region_words))
two_more n = omega arith

-- the first n records, the others, and unused ones, in words
words_take : (n : ℕ) (rs : List ConfidentialVmMmioRegion) → take (n * region_words) (words_of rs) ≡ words_of (take n rs)
unfolding words_of
words_take zero rs = refl
words_take (suc n) [] = take-nil (suc n * region_words)
words_take (suc n) (r ∷ rs) =
    ap (λ (k : ℕ). take k (words_of (r ∷ rs))) (two_more n) ∙ ap (λ (l : List ℕ). r.base ∷ r.end ∷ l) (words_take n rs)

pub words_drop : (n : ℕ) (rs : List ConfidentialVmMmioRegion) → drop (n * region_words) (words_of rs) ≡ words_of (drop n rs)
unfolding words_of
words_drop zero rs = refl
words_drop (suc n) [] = drop-nil (suc n * region_words)
words_drop (suc n) (r ∷ rs) = ap (λ (k : ℕ). drop k (words_of (r ∷ rs))) (two_more n) ∙ words_drop n rs

words_unused : (n : ℕ) → replicate (n * region_words) 0 ≡ words_of (replicate n unused)
unfolding words_of
words_unused zero = refl
words_unused (suc n) = ap (λ (k : ℕ). replicate k 0) (two_more n) ∙ ap (λ (l : List ℕ). 0 ∷ 0 ∷ l) (words_unused n)

-- the first of the numbers by itself
every_first : (f : ℕ → Bool) (n : ℕ) → every f (suc n) ≡ f 0 && every (λ i. f (suc i)) n
unfolding every
every_first f zero = sym (and-true (f 0))
every_first f (suc n) =
    ap (λ (b : Bool). b && f (suc n)) (every_first f n) ∙ and_assoc (f 0) (every (λ i. f (suc i)) n) (f (suc n))

-- the first word by itself
zero_first : (x : ℕ) (xs : List ℕ) → all_zero (x ∷ xs) ≡ eqb x 0 && all_zero xs
unfolding all_zero
zero_first x xs = every_first (λ i. eqb (get_or (x ∷ xs) i 0) 0) (length xs)

-- words are all 0 where each record is unused
words_zero : (rs : List ConfidentialVmMmioRegion) → all_zero (words_of rs) ≡ all_of is_unused rs
unfolding words_of all_zero every all_of
words_zero [] = refl
words_zero (r ∷ rs) =
    zero_first r.base (r.end ∷ words_of rs)
    ∙ ap (λ (b : Bool). eqb r.base 0 && b) (zero_first r.end (words_of rs))
    ∙ sym (and_assoc (eqb r.base 0) (eqb r.end 0) (all_zero (words_of rs)))
    ∙ ap (λ (b : Bool). is_unused r && b) (words_zero rs)

-- ---- the table made of a run's words

module _ (rs : List ConfidentialVmMmioRegion) (count : ℕ) where
  -- the same regions stand
  pub standing_agrees : count ≤ length rs → table.standing (words_of rs) count ≡ standing rs count
  standing_agrees l =
      let whole : words_of (take count rs) ++ words_of (drop count rs) ≡ words_of rs =
      sym (words_append (take count rs) (drop count rs)) ∙ ap words_of (take-append-drop count rs) in
      sym (ap₂ table.standing whole (length-take-le count rs l)) ∙ standing_of_lem (take count rs) (words_of (drop count rs))

  -- the same is laid
  pub laid_agrees : (new : List ConfidentialVmMmioRegion) → table.laid (words_of rs) count new ≡ words_of (laid rs count new)
  unfolding table.laid laid
  laid_agrees new =
      let freed : List ConfidentialVmMmioRegion = replicate (count - length new) unused in
      let past : List ConfidentialVmMmioRegion = drop (max count (length new)) rs in
      ap₂ (λ (a b : List ℕ). words_of new ++ (a ++ b)) (words_unused (count - length new)) (words_drop (max count (length new)) rs)
      ∙ ap (λ (l : List ℕ). words_of new ++ l) (sym (words_append freed past))
      ∙ sym (words_append new (freed ++ past))

  -- there is room for 1,024 in both or in neither
  room_agrees : leb (max_regions * region_words) (length (words_of rs)) ≡ leb max_regions (length rs)
  room_agrees =
      by_test (leb max_regions (length rs))
      (λ e.
      le-leb (max_regions * region_words) (length (words_of rs)) (omega (arith, words_length rs, leb-true max_regions (length rs) e)) ∙ sym e)
      (λ e.
      lt-leb (max_regions * region_words) (length (words_of rs)) (omega (arith, words_length rs, leb-false max_regions (length rs) e)) ∙ sym e)

  -- the unused places are 0 in both or in neither
  unused_agrees : all_zero (table.unused (words_of rs) count) ≡ all_of is_unused (take (max_regions - count) (drop count rs))
  unused_agrees =
      ap all_zero (ap (take ((max_regions - count) * region_words)) (words_drop count rs) ∙ words_take (max_regions - count) (drop count rs))
      ∙ words_zero (take (max_regions - count) (drop count rs))

  -- the one is sound exactly when the other is
  pub sound_agrees : regions_sound (words_of rs) count ≡ run_sound rs count
  unfolding regions_sound run_sound
  sound_agrees =
      by_test (leb max_regions (length rs))
      (λ l.
      by_test (leb count max_regions)
      (λ f.
      let within : count ≤ length rs = omega (arith, leb-true max_regions (length rs) l, leb-true count max_regions f) in
      rw (room_agrees, l, f, standing_agrees within) (ap (λ (b : Bool). all_of ordered (standing rs count) && b) unused_agrees))
      (λ f. rw (room_agrees, l, f)))
      (λ l. rw (room_agrees, l))

-- ---- tables that hold a run

-- two choices by one test agree where what may be chosen does
by_picks : {A B : Type 0} (P : A → B → Type 0) (b : Bool) {x y : A} {x' y' : B} → (b ≡ true → P x x') → (b ≡ false → P y y')
    → P (pick b x y) (pick b x' y')
unfolding pick
by_picks P true f g = f refl
by_picks P false f g = g refl

-- what adding gives on a run, by its last two tests
module _ (rs : List ConfidentialVmMmioRegion) (count : ℕ) (q : ConfidentialVmMmioRegion) (l : count ≤ length rs) where
  abbrev more : RunChange
  more = record { number = done; after = relaid rs count (standing rs count ++ (q ∷ [])) }

  by_two_tests : (full over : Bool)
      → pick full (refused rs count reached_max_number_of_mmio_regions) (pick over (refused rs count overlapping_mmio_region) more)
      ≡ record {
        number = pick full reached_max_number_of_mmio_regions (pick over overlapping_mmio_region done);
        after = relaid rs count
            (pick (eqb (pick full reached_max_number_of_mmio_regions (pick over overlapping_mmio_region done)) done)
            (standing rs count ++ (q ∷ [])) (standing rs count));
      }
  unfolding pick
  by_two_tests true over = ap (λ (r : Run). record { number = reached_max_number_of_mmio_regions; after = r }) (relaid_same rs count l)
  by_two_tests false true = ap (λ (r : Run). record { number = overlapping_mmio_region; after = r }) (relaid_same rs count l)
  by_two_tests false false = refl

  add_tests : pick (leb max_regions (length (standing rs count))) (refused rs count reached_max_number_of_mmio_regions)
      (pick (any_overlaps q (standing rs count)) (refused rs count overlapping_mmio_region) more)
      ≡ record { number = add_number q (standing rs count); after = relaid rs count (with_added q (standing rs count)) }
  unfolding add_number with_added
  add_tests = by_two_tests (leb max_regions (length (standing rs count))) (any_overlaps q (standing rs count))

module _ (t : Tables) (rs : List ConfidentialVmMmioRegion) (count : ℕ) (h : Holds t (run count rs)) where
  -- the regions of the tables are sound exactly when the run is
  regions_agree : regions_sound t.regions (region_count t) ≡ run_sound rs count
  regions_agree = ap₂ regions_sound h.words h.counted ∙ sound_agrees rs count

  -- tables that hold a run which is not sound are not sound
  pub not_sound : run_sound rs count ≡ false → sound t ≡ false
  not_sound e =
      by_test (sound t)
      (λ s. absurd (false≢true (sym e ∙ sym regions_agree ∙ (sound_facts t s).regions_sound_lem)))
      (λ s. s)

  -- the same regions stand
  same_regions : run_sound rs count ≡ true → regions_of t ≡ standing rs count
  same_regions s =
      ap₂ table.standing h.words h.counted
      ∙ standing_agrees rs count (omega (arith, sound_room rs count s, sound_few rs count s))

  -- regions laid into the tables and into the run
  laid_holds : sound t ≡ true → (new : List ConfidentialVmMmioRegion) → Holds (with_regions new t) (relaid rs count new)
  laid_holds s new =
      let last : regions_word < length t.head = omega (arith, (sound_facts t s).sized.long.head_long) in
      record {
        words = ap₂ (λ (words : List ℕ) (n : ℕ). table.laid words n new) h.words h.counted ∙ laid_agrees rs count new;
        counted = get_or-set_same t.head regions_word (length new) 0 last;
      }

  -- a refusal by the same number agrees
  refusal_agrees : (e : Error) → Agrees (refused_on t [] e) (refused rs count (number_of e))
  refusal_agrees e = record { same = refl; after = h }

  module _ (others : OthersSound t) (base size : ℕ) where
    soundness : sound t ≡ run_sound rs count
    soundness = others ∙ regions_agree

    -- 12 and 11 are given by both or by neither
    by_checks : {A : Type 0} (P : entry.Outcome → A → Type 0) (r : Request) (more : List Test) (f : ℕ → A) {next : A}
        → tests r t [] ≡ too_large base size ∷ more
        → P (refused_on t [] TablesNotSound) (f tables_not_sound)
        → P (refused_on t [] EndTooLarge) (f end_too_large)
        → (run_sound rs count ≡ true → P (judged (refused_on t []) more (effect r t [])) next)
        → P (performed r t []) (checked f rs count base size next)
    unfolding performed checked
    by_checks P r more f e twelve eleven rest =
        rw (e, soundness)
        (by_picks P (not (run_sound rs count)) (λ _. twelve)
        (λ s. by_picks P (ltb max_end (base + size)) (λ _. eleven) (λ _. rest (not-false (run_sound rs count) s))))

    -- add: the same number, and the tables afterwards hold the run afterwards
    pub add_agrees : Agrees (performed (Add base size) t []) (added rs count base size)
    unfolding added tests effect
    add_agrees =
        by_checks Agrees (Add base size) _ (refused rs count) refl (refusal_agrees TablesNotSound) (refusal_agrees EndTooLarge) (λ s.
        let l : count ≤ length rs = omega (arith, sound_room rs count s, sound_few rs count s) in
        rw (same_regions s, ← (add_tests rs count (region_from base size) l))
        (by_picks Agrees (leb max_regions (length (standing rs count))) (λ _. refusal_agrees ReachedMaxNumberOfMmioRegions)
        (λ _. by_picks Agrees (any_overlaps (region_from base size) (standing rs count)) (λ _. refusal_agrees OverlappingMmioRegion)
        (λ _. record { same = refl; after = laid_holds (soundness ∙ s) (standing rs count ++ (region_from base size ∷ [])) }))))

    -- the same for remove
    pub remove_agrees : Agrees (performed (Remove base size) t []) (removed rs count base size)
    unfolding removed tests effect
    remove_agrees =
        by_checks Agrees (Remove base size) [] (refused rs count) refl (refusal_agrees TablesNotSound) (refusal_agrees EndTooLarge) (λ s.
        rw (same_regions s)
        (record { same = refl; after = laid_holds (soundness ∙ s) (with_removed (region_from base size) (standing rs count)) }))

    -- defined: the same number and flag, and the tables as they were
    pub defined_agrees : AgreesOnFlag t (performed (Defined base size) t []) (defined rs count base size)
    unfolding defined tests effect pick
    defined_agrees =
        by_checks (AgreesOnFlag t) (Defined base size) [] (λ (n : ℕ). record { number = n; defined = false }) refl
        (record { same = refl; after = refl })
        (record { same = refl; after = refl })
        (λ s. rw (same_regions s) (record { same = refl; after = refl }))

-- ---- one request after another

-- of sound tables the rest makes no difference
pub others_sound : (t : Tables) → sound t ≡ true → OthersSound t
others_sound t s = s ∙ sym (sound_facts t s).regions_sound_lem

module _ (t : Tables) (others : OthersSound t) where
  -- nor after a request that keeps sound tables sound
  others_kept : (r : Request) → (sound t ≡ true → sound (performed r t []).after ≡ true)
      → OthersSound (performed r t []).after
  others_kept r keeps =
      by_test (sound t)
      (λ s. others_sound (performed r t []).after (keeps s))
      (λ s. subst (λ (o : entry.Outcome). OthersSound o.after) (sym (unsound_refused r t [] s)) others)

  -- so the next request agrees too
  pub add_others : (base size : ℕ) → OthersSound (performed (Add base size) t []).after
  add_others base size = others_kept (Add base size) (add_sound base size t [])

  pub remove_others : (base size : ℕ) → OthersSound (performed (Remove base size) t []).after
  remove_others base size = others_kept (Remove base size) (remove_sound base size t [])

-- ---- where it begins

-- tables that an accepted setup leaves, with as many words for regions as 1,024 records have, hold the run in which none stands
pub setup_holds : (s : Setup) (t : Tables) → (set_up s t).answer ≡ Ok Done
    → t.regions ≡ replicate (max_regions * region_words) 0
    → Holds (set_up s t).after (run 0 (replicate max_regions unused)) × OthersSound (set_up s t).after
unfolding words_of
setup_holds s t e zeros = (
  record {
    words = ap (λ (u : Tables). u.regions) (setup_done s t e) ∙ ap (over (replicate (max_regions * region_words) 0)) zeros;
    counted = ap region_count (setup_done s t e);
  },
  others_sound (set_up s t).after (setup_sound s t e),
)
