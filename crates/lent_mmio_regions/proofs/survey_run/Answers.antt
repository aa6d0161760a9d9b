-- `lent_mmio_regions::survey_run` meets its contract: the two looks at the records that are judged. Assumes nothing.
use mathlib.Core.Path.{◌≡◌, refl, sym, ◌∙◌}
use native.Mathlib.Omega.{arith}
use Prim.Native.Nat.{ℕ, ◌≤◌}
use mathlib.Core.List.{List}
use lib.ListN.{length, take}
use Rattle.std.proofs.Common.{take-take}
use lib.Seq.{length-take-le}
use Rattle.confidential_vm_mmio_region.specs.declared.ConfidentialVmMmioRegion.{ConfidentialVmMmioRegion}
use Rattle.mmio_region_survey.specs.Survey.{places_of, surveyed}
use Rattle.lent_mmio_regions.proofs.SurveyLaws.{places_within, standing_within}
use Rattle.lent_mmio_regions.proofs.survey_run.Goals as goal

-- the places that are judged are there
there : (rs : List ConfidentialVmMmioRegion) (count : ℕ) {places : ℕ} → places ≡ places_of (length rs) count → length (take places rs) ≡ places
there rs count {places} e = length-take-le places rs (omega (arith, e, places_within (length rs) count))

pub slice_bounds-split_at-end : goal.slice_bounds-split_at-end
slice_bounds-split_at-end c = sym (there c.args.regions.now c.args.count c.places-places.ensures)

pub split_at-requires : goal.split_at-requires
split_at-requires c =
    omega (
      arith,
      there c.args.regions.now c.args.count c.places-places.ensures,
      c.standing-standing.ensures,
      standing_within c.places-places.result c.args.count,
    )

pub returns : goal.returns
unfolding surveyed
returns c =
    let few : c.standing-standing.result ≤ c.places-places.result =
    omega (arith, c.standing-standing.ensures, standing_within c.places-places.result c.args.count) in
    let front : c.split_at.result.0.now ≡ take c.standing-standing.result c.args.regions.now = c.split_at.ensures.front ∙ take-take _ _ _ few in
    c.judged.ensures
    ∙ rw (c.survey_standing-seen.ensures, c.join_unused.ensures, front, c.split_at.ensures.back, c.standing-standing.ensures, c.places-places.ensures) refl
