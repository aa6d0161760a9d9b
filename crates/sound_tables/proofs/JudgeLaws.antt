-- What `is_row_sound` answers on each of its ways, and what `are_tables_sound` does. Assumes nothing.
use Prim.Native.Nat.{ℕ, ◌≤◌, ◌<◌}
use mathlib.Core.Path.{◌≡◌, sym, ap, ◌∙◌}
use mathlib.Core.Bool.{Bool, true, false, not, ◌&&◌, and-false}
use mathlib.Core.List.{List}
use lib.ListN.{length, get_or}
use lib.Dec.{eqb}
use borrow.Author.Tests.{not-true, not-false, lt-leb, lt-ltb, le-ltb}
use Rattle.table_rows.specs.Choice.{pick, every}
use Rattle.table_rows.specs.Rows.{row}
use Rattle.confidential_hart.specs.Hart.{well_formed}
use Rattle.hart_rows.specs.HartRows.{vm_word, hart_words, from_words, hart_at}
use Rattle.remote_commands.specs.Queue.{queue_well_formed}
use Rattle.mmio_regions.specs.Table.{regions_sound}
use Rattle.monitor_requests.specs.Tables.{
  Tables,
  head_words,
  harts,
  hardware_harts,
  region_count,
  queue,
  counts_in_range,
  long_enough,
  row_sound,
  home_row_sound,
  hardware_row_sound,
  sound,
}

-- ---- a row

-- the VM of the hart in row i is a word of the row
pub vm_of : (rows : List ℕ) (i : ℕ) {looked : List ℕ} → looked ≡ row hart_words rows i → (hart_at rows i).vm ≡ get_or looked vm_word 0
unfolding hart_at
vm_of rows i e = ap (λ (ws : List ℕ). get_or ws vm_word 0) (sym e)

module _ (own : ℕ) (rows others : List ℕ) (count i : ℕ) {looked : List ℕ} (is-row : looked ≡ row hart_words rows i) (formed : Bool)
    (is-formed : formed ≡ well_formed (from_words looked)) where
  row_formed : formed ≡ well_formed (hart_at rows i)
  unfolding hart_at
  row_formed = is-formed ∙ ap (λ (ws : List ℕ). well_formed (from_words ws)) is-row

  pub row_malformed : not formed ≡ true → false ≡ row_sound own rows others count i
  unfolding row_sound
  row_malformed e = rw (← row_formed, not-true formed e)

  module _ (e : not formed ≡ false) (id vm : ℕ) (is-id : id ≡ (hart_at rows i).id) (is-vm : vm ≡ (hart_at rows i).vm) where
    pub row_own : eqb vm own ≡ true → eqb id i ≡ row_sound own rows others count i
    unfolding row_sound pick
    row_own o = rw (← row_formed, not-false formed e, ← is-vm, o, is-id)

    module _ (o : eqb vm own ≡ false) where
      pub row_far : count ≤ id → false ≡ row_sound own rows others count i
      unfolding row_sound pick
      row_far l = rw (← row_formed, not-false formed e, ← is-vm, o, ← is-id, le-ltb id count l)

      pub row_back : id < count → (other back : ℕ) → other ≡ (hart_at others id).vm → back ≡ (hart_at others id).id
          → eqb other own && eqb back i ≡ row_sound own rows others count i
      unfolding row_sound pick
      row_back l other back is-other is-back =
          rw (← row_formed, not-false formed e, ← is-vm, o, ← is-id, lt-ltb id count l, is-other, is-back)

-- ---- the tables

module _ (t : Tables) where
  -- sound tables have a whole head
  pub short_head : length t.head < head_words → false ≡ sound t
  unfolding sound long_enough
  short_head l = rw (lt-leb head_words (length t.head) l, and-false)

  module _ (ranged : Bool) (is-ranged : ranged ≡ counts_in_range (harts t) (hardware_harts t)) where
    pub out_of_range : not ranged ≡ true → false ≡ sound t
    unfolding sound
    out_of_range e = rw (← is-ranged, not-true ranged e)

    module _ (e : not ranged ≡ false) (long : Bool) (is-long : long ≡ long_enough t (harts t) (hardware_harts t)) where
      pub too_short : not long ≡ true → false ≡ sound t
      unfolding sound
      too_short s = rw (← is-ranged, not-false ranged e, ← is-long, not-true long s)

      -- the four judgments are left
      pub judged : not long ≡ false → (at_home on_hardware_lem waiting lent : Bool) → at_home ≡ every (home_row_sound t) (harts t)
          → on_hardware_lem ≡ every (hardware_row_sound t) (hardware_harts t)
          → waiting ≡ every (λ h. queue_well_formed (queue t h)) (harts t)
          → lent ≡ regions_sound t.regions (region_count t)
          → at_home && on_hardware_lem && waiting && lent ≡ sound t
      unfolding sound
      judged s at_home on_hardware_lem waiting lent is_home is-hardware is-waiting is-lent =
          rw (← is-ranged, not-false ranged e, ← is-long, not-false long s, is_home, is-hardware, is-waiting, is-lent)
