-- Laws of add, remove and defined on any lent run: a refusal changes nothing, when 12 is given, and what add and remove keep of the run.
-- Assumes nothing.
use mathlib.Core.Path.{◌≡◌, refl, sym, ap, ◌∙◌}
use mathlib.Core.Logic.{◌≢◌, ◌↔◌}
use mathlib.Core.Bool.{true, false, not, false≢true}
use mathlib.Core.List.{List}
use Prim.Native.Nat.{ℕ, ◌+◌, ◌*◌, ◌≤◌}
use native.Mathlib.Omega.{arith}
use lib.ListN.{length, drop, length-append, length-drop, length-replicate, length-take}
use lib.Dec.{leb, ltb}
use borrow.Author.Tests.{le-leb, ne_eqb, not-true, not-false}
use Rattle.error.specs.Error.{done, reached_max_number_of_mmio_regions, overlapping_mmio_region, end_too_large, tables_not_sound}
use Rattle.table_rows.specs.Choice.{pick}
use Rattle.table_rows.specs.Lists.{all_of}
use Rattle.table_rows.proofs.PickLaws.{by_pick}
use Rattle.confidential_vm_mmio_region.specs.declared.ConfidentialVmMmioRegion.{ConfidentialVmMmioRegion}
use Rattle.confidential_vm_mmio_region.specs.Region.{max_end, ordered, region_from}
use Rattle.mmio_regions.specs.Regions.{max_regions, any_overlaps, add_number, with_added, with_removed}
use Rattle.mmio_regions.specs.Table.{region_words, words_of, regions_sound}
use Rattle.mmio_regions.proofs.RegionLaws.{added_few, added_ordered, removed_few, removed_ordered}
use Rattle.mmio_regions.proofs.TableLaws as table
use Rattle.mmio_regions.proofs.SoundLaws as table_sound
use Rattle.mmio_region_survey.specs.declared.Defined.{Defined}
use Rattle.lent_mmio_regions.specs.Run.{
  standing,
  run_sound,
  laid,
  Run,
  run,
  relaid,
  RunChange,
  checked,
  added,
  removed,
  defined,
}
use Rattle.lent_mmio_regions.proofs.SurveyLaws.{sound_room, sound_few, sound_upright}
use Rattle.lent_mmio_regions.proofs.AnswerLaws.{not_added}
use Rattle.lent_mmio_regions.proofs.AgreeLaws.{words_once, words_drop, laid_agrees, sound_agrees}

-- adding gives 9, 10 or 0
add_never_twelve : (q : ConfidentialVmMmioRegion) (here : List ConfidentialVmMmioRegion) → add_number q here ≢ tables_not_sound
unfolding add_number
add_never_twelve q here =
    by_pick (λ (n : ℕ). n ≢ tables_not_sound) (leb max_regions (length here)) reached_max_number_of_mmio_regions _
    (λ _ p. omega (arith, p))
    (λ _.
    by_pick (λ (n : ℕ). n ≢ tables_not_sound) (any_overlaps q here) overlapping_mmio_region done
    (λ _ p. omega (arith, p))
    (λ _ p. omega (arith, p)))

module _ (rs : List ConfidentialVmMmioRegion) (count base size : ℕ) where
  -- ---- the checks of every request

  -- what holds of each refusal and of what follows the checks holds of what is given
  by_checked : {A : Type 0} (P : A → Type 0) (refusal : ℕ → A) (next : A)
      → (run_sound rs count ≡ false → P (refusal tables_not_sound))
      → (run_sound rs count ≡ true → P (refusal end_too_large))
      → (run_sound rs count ≡ true → P next)
      → P (checked refusal rs count base size next)
  unfolding checked
  by_checked P refusal next twelve eleven passed =
      by_pick P (not (run_sound rs count)) (refusal tables_not_sound) (pick (ltb max_end (base + size)) (refusal end_too_large) next)
      (λ e. twelve (not-true (run_sound rs count) e))
      (λ e.
      let s : run_sound rs count ≡ true = not-false (run_sound rs count) e in
      by_pick P (ltb max_end (base + size)) (refusal end_too_large) next (λ _. eleven s) (λ _. passed s))

  -- a sound run has a record for each region that stands
  sound_within : run_sound rs count ≡ true → count ≤ length rs
  sound_within s = omega (arith, sound_room rs count s, sound_few rs count s)

  -- ---- a refusal changes nothing, sound or not

  pub add_refusal_alone : (added rs count base size).number ≢ done → (added rs count base size).after ≡ run count rs
  unfolding added
  add_refusal_alone =
      by_checked (λ (o : RunChange). o.number ≢ done → o.after ≡ run count rs) _ _ (λ _ _. refl) (λ _ _. refl)
      (λ s other.
      let n : ℕ = add_number (region_from base size) (standing rs count) in
      sym (ap (λ (o : RunChange). o.after) (not_added rs count base size n (sound_within s) refl (ne_eqb n done other))))

  pub remove_refusal_alone : (removed rs count base size).number ≢ done → (removed rs count base size).after ≡ run count rs
  unfolding removed
  remove_refusal_alone =
      by_checked (λ (o : RunChange). o.number ≢ done → o.after ≡ run count rs) _ _ (λ _ _. refl) (λ _ _. refl)
      (λ _ other. absurd (other refl))

  -- ---- 12 is given exactly when the run is not sound

  -- where what follows the checks gives no 12
  twelve_exactly : {A : Type 0} (number : A → ℕ) (refusal : ℕ → A) (next : A) → ((n : ℕ) → number (refusal n) ≡ n)
      → number next ≢ tables_not_sound
      → (number (checked refusal rs count base size next) ≡ tables_not_sound) ↔ (run_sound rs count ≡ false)
  twelve_exactly {A} number refusal next own other = (
    by_checked (λ (a : A). number a ≡ tables_not_sound → run_sound rs count ≡ false) refusal next (λ e _. e)
        (λ _ p. absurd (omega (arith, own end_too_large, p)))
        (λ _ p. absurd (other p)),
    by_checked (λ (a : A). run_sound rs count ≡ false → number a ≡ tables_not_sound) refusal next (λ _ _. own tables_not_sound)
        (λ s e. absurd (false≢true (sym e ∙ s)))
        (λ s e. absurd (false≢true (sym e ∙ s))),
  )

  pub add_twelve_exactly : ((added rs count base size).number ≡ tables_not_sound) ↔ (run_sound rs count ≡ false)
  unfolding added
  add_twelve_exactly =
      twelve_exactly (λ (o : RunChange). o.number) _ _ (λ _. refl) (add_never_twelve (region_from base size) (standing rs count))

  pub remove_twelve_exactly : ((removed rs count base size).number ≡ tables_not_sound) ↔ (run_sound rs count ≡ false)
  unfolding removed
  remove_twelve_exactly = twelve_exactly (λ (o : RunChange). o.number) _ _ (λ _. refl) (λ p. omega (arith, p))

  pub defined_twelve_exactly : ((defined rs count base size).number ≡ tables_not_sound) ↔ (run_sound rs count ≡ false)
  unfolding defined
  defined_twelve_exactly = twelve_exactly (λ (d : Defined). d.number) _ _ (λ _. refl) (λ p. omega (arith, p))

-- ---- regions laid into a run

-- what a request keeps of a run that it leaves as r
pub record Keeps (rs : List ConfidentialVmMmioRegion) (count : ℕ) (r : Run) : Type 0 where
  -- a sound run stays sound, and no other becomes sound
  pub as_sound : run_sound r.records r.count ≡ run_sound rs count
  -- there are as many records
  pub as_long : length r.records ≡ length rs
  -- those past the 1,024th are as they were
  pub past_kept : drop max_regions r.records ≡ drop max_regions rs

module _ (rs : List ConfidentialVmMmioRegion) (count : ℕ) where
  -- all is kept of a run that is left as it was
  same_keeps : Keeps rs count (run count rs)
  same_keeps = record { as_sound = refl; as_long = refl; past_kept = refl }

  -- ordered regions, at most 1,024, laid into a sound run keep it
  relaid_keeps : run_sound rs count ≡ true → (new : List ConfidentialVmMmioRegion) → length new ≤ max_regions → all_of ordered new ≡ true
      → Keeps rs count (relaid rs count new)
  unfolding laid
  relaid_keeps s new few upright =
      let words : words_of (laid rs count new) ≡ _ = sym (laid_agrees rs count new) in
      record {
        as_sound = sym (sound_agrees (laid rs count new) (length new))
            ∙ ap (λ (xs : List ℕ). regions_sound xs (length new)) words
            ∙ table_sound.laid_sound (words_of rs) count (sound_agrees rs count ∙ s) new few upright
            ∙ sym s;
        as_long = simp (length-append, length-replicate, length-drop) (omega (arith, sound_room rs count s, sound_few rs count s));
        past_kept = words_once (drop max_regions (laid rs count new)) (drop max_regions rs)
            (sym (words_drop max_regions (laid rs count new))
            ∙ ap (drop (max_regions * region_words)) words
            ∙ table.laid_past (words_of rs) count new max_regions (sound_few rs count s) few
            ∙ words_drop max_regions rs);
      }

  -- ---- what add and remove keep of any run, refused or not

  -- at most 1,024 regions stand in a sound run
  few_stand : run_sound rs count ≡ true → length (standing rs count) ≤ max_regions
  few_stand s = omega (arith, length-take count rs, sound_few rs count s)

  pub add_keeps : (base size : ℕ) → Keeps rs count (added rs count base size).after
  unfolding added
  add_keeps base size =
      by_checked rs count base size (λ (o : RunChange). Keeps rs count o.after) _ _ (λ _. same_keeps) (λ _. same_keeps)
      (λ s.
      relaid_keeps s (with_added (region_from base size) (standing rs count))
      (added_few (region_from base size) (standing rs count) (few_stand s))
      (added_ordered (region_from base size) (standing rs count) (le-leb base (base + size) (omega arith)) (sound_upright rs count s)))

  pub remove_keeps : (base size : ℕ) → Keeps rs count (removed rs count base size).after
  unfolding removed
  remove_keeps base size =
      by_checked rs count base size (λ (o : RunChange). Keeps rs count o.after) _ _ (λ _. same_keeps) (λ _. same_keeps)
      (λ s.
      relaid_keeps s (with_removed (region_from base size) (standing rs count))
      (omega (arith, removed_few (region_from base size) (standing rs count), few_stand s))
      (removed_ordered (region_from base size) (standing rs count) (sound_upright rs count s)))
