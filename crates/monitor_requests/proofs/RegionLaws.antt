-- Adding and removing regions and allowing interrupts keep tables sound. Assumes nothing.
use Prim.Native.Nat.{ℕ, ◌+◌, ◌≤◌, ◌<◌}
use mathlib.Core.Path.{◌≡◌, ap, ◌∙◌}
use mathlib.Core.Bool.{true}
use mathlib.Core.List.{List, [], ◌∷◌, ◌++◌}
use native.Mathlib.Omega.{arith}
use lib.Bits.{bit_or}
use lib.ListN.{length, get_or, set, length-set, length-append}
use lib.Seq.{get_or-set_same, get_or-set_other}
use borrow.Author.Tests.{le-leb, leb-false}
use Rattle.table_rows.specs.Lists.{all_of}
use Rattle.table_rows.proofs.PickLaws.{and_both}
use Rattle.table_rows.proofs.ListLaws.{all_last}
use Rattle.confidential_hart.specs.Hart.{no_vm, the_vm}
use Rattle.confidential_vm_mmio_region.specs.declared.ConfidentialVmMmioRegion.{ConfidentialVmMmioRegion}
use Rattle.confidential_vm_mmio_region.specs.Region.{ordered, region_from}
use Rattle.mmio_regions.specs.Regions.{max_regions, with_removed}
use Rattle.mmio_regions.specs.Table.{regions_sound, laid}
use Rattle.mmio_regions.proofs.RegionLaws.{removed_few, removed_ordered}
use Rattle.mmio_regions.proofs.TableLaws.{standing_length}
use Rattle.mmio_regions.proofs.SoundLaws as regions
use Rattle.monitor_requests.specs.declared.Request.TheVariants.{Allow, Add, Remove}
use Rattle.monitor_requests.specs.Tables.{Tables, tables, harts_word, hardware_word, allowed_word, regions_word, harts, hardware_harts, allowed, region_count, regions_of, row_sound, sound}
use Rattle.monitor_requests.specs.Requests.{with_regions, tests, effect, performed}
use Rattle.monitor_requests.proofs.JudgedLaws.{effect_sound}
use Rattle.monitor_requests.proofs.SoundLaws.{Sound, sound_facts, facts_sound}

-- ---- another head, with the counts as they were, and other regions

module _ (t : Tables) (f : Sound t) (head places : List ℕ) (same_length : length head ≡ length t.head) where
  -- the tables are sound where the new regions are
  pub head_sound : get_or head harts_word 0 ≡ harts t → get_or head hardware_word 0 ≡ hardware_harts t
      → regions_sound places (get_or head regions_word 0) ≡ true
      → sound (tables head t.home t.hardware t.queues places) ≡ true
  head_sound n m r =
      let z = f.sized in
      let table = (regions.sound_parts places (get_or head regions_word 0) r).sized in
      facts_sound (tables head t.home t.hardware t.queues places) (record {
        sized = record {
          some_harts = rw n z.some_harts;
          few_harts = rw n z.few_harts;
          some_hardware = rw m z.some_hardware;
          few_hardware = rw m z.few_hardware;
          few_regions = table.few;
          long = record {
            head_long = rw same_length z.long.head_long;
            home_long = rw n z.long.home_long;
            hardware_long = rw m z.long.hardware_long;
            queues_long = rw n z.long.queues_long;
            regions_long = table.room;
          };
        };
        home_row_lem = λ h l. ap (λ (k : ℕ). row_sound the_vm t.home t.hardware k h) m ∙ f.home_row_lem h (rw n at l);
        hardware_row_lem = λ k l. ap (λ (h : ℕ). row_sound no_vm t.hardware t.home h k) n ∙ f.hardware_row_lem k (rw m at l);
        queue_formed = λ h l. f.queue_formed h (rw n at l);
        regions_sound_lem = r;
      })

-- ---- regions laid into sound tables

module _ (t : Tables) (s : sound t ≡ true) where
  abbrev facts : Sound t
  facts = sound_facts t s

  -- ordered regions, at most 1,024, leave the tables sound
  pub laid_tables_sound : (rs : List ConfidentialVmMmioRegion) → length rs ≤ max_regions → all_of ordered rs ≡ true → sound (with_regions rs t) ≡ true
  laid_tables_sound rs few o =
      let head : List ℕ = set t.head regions_word (length rs) in
      let last : regions_word < length t.head = omega (arith, facts.sized.long.head_long) in
      let count : get_or head regions_word 0 ≡ length rs = get_or-set_same t.head regions_word (length rs) 0 last in
      head_sound t facts head (laid t.regions (region_count t) rs) (length-set t.head regions_word (length rs))
      (get_or-set_other t.head regions_word harts_word (length rs) 0 (λ e. omega arith))
      (get_or-set_other t.head regions_word hardware_word (length rs) 0 (λ e. omega arith))
      (ap (regions_sound (laid t.regions (region_count t) rs)) count
      ∙ regions.laid_sound t.regions (region_count t) facts.regions_sound_lem rs few o)

  upright : all_of ordered (regions_of t) ≡ true
  upright = (regions.sound_parts t.regions (region_count t) facts.regions_sound_lem).upright

-- ---- the requests

-- adding a region leaves sound tables sound
pub add_sound : (base size : ℕ) (t : Tables) (effects : List ℕ) → sound t ≡ true → sound (performed (Add base size) t effects).after ≡ true
unfolding tests effect
add_sound base size t effects s =
    effect_sound (Add base size) t effects s (λ p.
    let l : length (regions_of t) < max_regions = leb-false _ _ p.1.1.0 in
    laid_tables_sound t s (regions_of t ++ (region_from base size ∷ [])) (simp length-append (omega arith))
    (all_last ordered (region_from base size) (regions_of t) ∙ and_both (upright t s) (le-leb base (base + size) (omega arith))))

-- removing regions leaves them sound
pub remove_sound : (base size : ℕ) (t : Tables) (effects : List ℕ) → sound t ≡ true → sound (performed (Remove base size) t effects).after ≡ true
unfolding effect
remove_sound base size t effects s =
    effect_sound (Remove base size) t effects s (λ _.
    laid_tables_sound t s (with_removed (region_from base size) (regions_of t))
    (omega (arith, removed_few (region_from base size) (regions_of t), standing_length t.regions (region_count t), (facts t s).sized.few_regions))
    (removed_ordered (region_from base size) (regions_of t) (upright t s)))

-- allowing interrupts leaves them sound
pub allow_sound : (bits : ℕ) (t : Tables) (effects : List ℕ) → sound t ≡ true → sound (performed (Allow bits) t effects).after ≡ true
unfolding effect
allow_sound bits t effects s =
    effect_sound (Allow bits) t effects s (λ _.
    let mask : ℕ = bit_or (allowed t) bits in
    head_sound t (facts t s) (set t.head allowed_word mask) t.regions (length-set t.head allowed_word mask)
    (get_or-set_other t.head allowed_word harts_word mask 0 (λ e. omega arith))
    (get_or-set_other t.head allowed_word hardware_word mask 0 (λ e. omega arith))
    (ap (regions_sound t.regions) (get_or-set_other t.head allowed_word regions_word mask 0 (λ e. omega arith)) ∙ (facts t s).regions_sound_lem))
