-- What sound tables are, fact by fact, and soundness from the facts; they are sound exactly when every sentence of `Soundness.antt` holds.
-- Assumes nothing.
use Prim.Native.Nat.{ℕ, ◌*◌, ◌≤◌, ◌<◌}
use mathlib.Core.Path.{◌≡◌, refl, sym, ◌∙◌}
use mathlib.Core.Logic.{◌≢◌, ◌↔◌}
use mathlib.Core.Bool.{Bool, true, false, not, ◌&&◌}
use mathlib.Core.List.{List}
use lib.ListN.{length}
use lib.Dec.{eqb, leb, ltb}
use native.Mathlib.Omega.{arith}
use borrow.Author.Tests.{eq-eqb, ne_eqb, eqb-true, eqb-false, le-leb, leb-true, lt-ltb, ltb-true, not-true}
use Rattle.table_rows.specs.Rows.{row}
use Rattle.table_rows.specs.Choice.{pick, every}
use Rattle.table_rows.proofs.PickLaws.{yes, no, by_test, and_left, and_right, and_both, not_yes}
use Rattle.table_rows.proofs.EveryLaws.{every_at, every_of}
use Rattle.confidential_hart.specs.declared.ConfidentialHart.{ConfidentialHart}
use Rattle.confidential_hart.specs.Hart.{no_vm, the_vm, is_dummy, well_formed}
use Rattle.confidential_hart.proofs.HartLaws.{formed_facts}
use Rattle.hart_rows.specs.HartRows.{hart_words, hart_at}
use Rattle.remote_commands.specs.Queue.{queue_words, queue_well_formed}
use Rattle.mmio_regions.specs.Regions.{max_regions}
use Rattle.mmio_regions.specs.Table.{region_words, regions_sound}
use Rattle.mmio_regions.proofs.SoundLaws as regions
use Rattle.monitor_requests.specs.Tables.{
  Tables,
  tables,
  head_words,
  harts,
  hardware_harts,
  region_count,
  home_hart,
  hardware_hart,
  queue,
  max_harts,
  max_hardware_harts,
  counts_in_range,
  long_enough,
  Long,
  row_sound,
  home_row_sound,
  hardware_row_sound,
  sound,
  Sized,
}
use Rattle.monitor_requests.specs.Soundness.{home_holds, hardware_holds, SoundBySentence}

-- ---- a row

-- a row that holds a record of the other table: it names a row there, which holds this row's own
pub record Names (own : ℕ) (rows others : List ℕ) (count i : ℕ) : Type 0 where
  pub there : (hart_at rows i).id < count
  pub held : (hart_at others (hart_at rows i).id).vm ≡ own
  pub back : (hart_at others (hart_at rows i).id).id ≡ i

module _ (own : ℕ) (rows others : List ℕ) (count i : ℕ) where
  abbrev there : Bool
  there = ltb (hart_at rows i).id count

  abbrev held : Bool
  held = eqb (hart_at others (hart_at rows i).id).vm own

  abbrev back : Bool
  back = eqb (hart_at others (hart_at rows i).id).id i

  abbrev tied : Bool
  tied = pick (eqb (hart_at rows i).vm own) (eqb (hart_at rows i).id i) (there && held && back)

  module _ (s : row_sound own rows others count i ≡ true) where
    -- its record is well formed
    pub row_formed : well_formed (hart_at rows i) ≡ true
    unfolding row_sound
    row_formed = and_left (well_formed (hart_at rows i)) tied s

    row_tied : tied ≡ true
    unfolding row_sound
    row_tied = and_right (well_formed (hart_at rows i)) tied s

    -- it holds its own record, which has the row's number
    pub row_own : (hart_at rows i).vm ≡ own → (hart_at rows i).id ≡ i
    row_own p = eqb-true _ _ (yes _ (eq-eqb _ _ p) refl ∙ row_tied)

    -- or one of the other table
    pub row_names : (hart_at rows i).vm ≢ own → Names own rows others count i
    row_names p =
        let e : there && held && back ≡ true = no _ (ne_eqb _ _ p) refl ∙ row_tied in
        let f : there && held ≡ true = and_left (there && held) back e in
        record {
          there = ltb-true _ _ (and_left there held f);
          held = eqb-true _ _ (and_right there held f);
          back = eqb-true _ _ (and_right (there && held) back e);
        }

  -- a well-formed row is sound by the one or by the other
  module _ (w : well_formed (hart_at rows i) ≡ true) where
    -- it holds its own record, which has the row's number
    pub sound_own : (hart_at rows i).vm ≡ own → (hart_at rows i).id ≡ i → row_sound own rows others count i ≡ true
    unfolding row_sound
    sound_own p q = and_both w (sym (yes _ (eq-eqb _ _ p) (sym (eq-eqb _ _ q))))

    -- it names a row of the other table, which holds its own
    pub sound_names : (hart_at rows i).vm ≢ own → Names own rows others count i → row_sound own rows others count i ≡ true
    unfolding row_sound
    sound_names p r =
        and_both w
        (sym (no _ (ne_eqb _ _ p)
        (sym (and_both {a = there && held} (and_both (lt-ltb _ _ r.there) (eq-eqb _ _ r.held)) (eq-eqb _ _ r.back)))))

-- ---- the tables

-- the facts of sound tables
pub record Sound (t : Tables) : Type 0 where
  pub sized : Sized t
  pub home_row_lem : (h : ℕ) → h < harts t → home_row_sound t h ≡ true
  pub hardware_row_lem : (k : ℕ) → k < hardware_harts t → hardware_row_sound t k ≡ true
  pub queue_formed : (h : ℕ) → h < harts t → queue_well_formed (queue t h) ≡ true
  pub regions_sound_lem : regions_sound t.regions (region_count t) ≡ true

-- how many there are
module _ (n m : ℕ) where
  -- counts between the bounds are in range
  pub in_range : 1 ≤ n → n ≤ max_harts → 1 ≤ m → m ≤ max_hardware_harts → counts_in_range n m ≡ true
  in_range a b c d =
      and_both {a = leb 1 n && leb n max_harts && leb 1 m}
      (and_both {a = leb 1 n && leb n max_harts} (and_both (le-leb 1 n a) (le-leb n max_harts b)) (le-leb 1 m c))
      (le-leb m max_hardware_harts d)

  module _ (r : counts_in_range n m ≡ true) where
    three : leb 1 n && leb n max_harts && leb 1 m ≡ true
    three = and_left (leb 1 n && leb n max_harts && leb 1 m) (leb m max_hardware_harts) r

    two : leb 1 n && leb n max_harts ≡ true
    two = and_left (leb 1 n && leb n max_harts) (leb 1 m) three

    -- in range: there is a hart
    pub range_some_harts : 1 ≤ n
    range_some_harts = leb-true _ _ (and_left (leb 1 n) (leb n max_harts) two)

    -- at most 1,024 harts
    pub range_few_harts : n ≤ max_harts
    range_few_harts = leb-true _ _ (and_right (leb 1 n) (leb n max_harts) two)

    -- there is a hardware hart
    pub range_some_hardware : 1 ≤ m
    range_some_hardware = leb-true _ _ (and_right (leb 1 n && leb n max_harts) (leb 1 m) three)

    -- at most 64 hardware harts
    pub range_few_hardware : m ≤ max_hardware_harts
    range_few_hardware = leb-true _ _ (and_right (leb 1 n && leb n max_harts && leb 1 m) (leb m max_hardware_harts) r)

-- how long they are
module _ (t : Tables) (n m : ℕ) where
  abbrev long_head : Bool
  long_head = leb head_words (length t.head)

  abbrev long_home : Bool
  long_home = leb (n * hart_words) (length t.home)

  abbrev long_hardware : Bool
  long_hardware = leb (m * hart_words) (length t.hardware)

  abbrev long_queues : Bool
  long_queues = leb (n * queue_words) (length t.queues)

  abbrev long_regions : Bool
  long_regions = leb (max_regions * region_words) (length t.regions)

  -- tables that are long enough are so length by length
  pub long_facts : long_enough t n m ≡ true → Long t n m
  unfolding long_enough
  long_facts e =
      let four = and_left (long_head && long_home && long_hardware && long_queues) long_regions e in
      let three = and_left (long_head && long_home && long_hardware) long_queues four in
      let two = and_left (long_head && long_home) long_hardware three in
      record {
        head_long = leb-true _ _ (and_left long_head long_home two);
        home_long = leb-true _ _ (and_right long_head long_home two);
        hardware_long = leb-true _ _ (and_right (long_head && long_home) long_hardware three);
        queues_long = leb-true _ _ (and_right (long_head && long_home && long_hardware) long_queues four);
        regions_long = leb-true _ _ (and_right (long_head && long_home && long_hardware && long_queues) long_regions e);
      }

  -- and the other way
  pub facts_long : Long t n m → long_enough t n m ≡ true
  unfolding long_enough
  facts_long l =
      and_both {a = long_head && long_home && long_hardware && long_queues}
      (and_both {a = long_head && long_home && long_hardware}
      (and_both {a = long_head && long_home}
      (and_both {a = long_head} (le-leb _ _ l.head_long) (le-leb _ _ l.home_long))
      (le-leb _ _ l.hardware_long))
      (le-leb _ _ l.queues_long))
      (le-leb _ _ l.regions_long)

module _ (t : Tables) where
  abbrev ranges : Bool
  ranges = counts_in_range (harts t) (hardware_harts t)

  abbrev long : Bool
  long = long_enough t (harts t) (hardware_harts t)

  abbrev at_home_lem : Bool
  at_home_lem = every (home_row_sound t) (harts t)

  abbrev on_hardware_lem : Bool
  on_hardware_lem = every (hardware_row_sound t) (hardware_harts t)

  abbrev queues_formed : Bool
  queues_formed = every (λ h. queue_well_formed (queue t h)) (harts t)

  abbrev regions_fine : Bool
  regions_fine = regions_sound t.regions (region_count t)

  -- sound tables have the facts
  pub sound_facts : sound t ≡ true → Sound t
  unfolding sound
  sound_facts s =
      let five = and_left (ranges && long && at_home_lem && on_hardware_lem && queues_formed) regions_fine s in
      let four = and_left (ranges && long && at_home_lem && on_hardware_lem) queues_formed five in
      let three = and_left (ranges && long && at_home_lem) on_hardware_lem four in
      let two = and_left (ranges && long) at_home_lem three in
      let r = and_left ranges long two in
      let l = long_facts t (harts t) (hardware_harts t) (and_right ranges long two) in
      let z = and_right (ranges && long && at_home_lem && on_hardware_lem && queues_formed) regions_fine s in
      record {
        sized = record {
          some_harts = range_some_harts (harts t) (hardware_harts t) r;
          few_harts = range_few_harts (harts t) (hardware_harts t) r;
          some_hardware = range_some_hardware (harts t) (hardware_harts t) r;
          few_hardware = range_few_hardware (harts t) (hardware_harts t) r;
          few_regions = (regions.sound_sized t.regions (region_count t) z).few;
          long = l;
        };
        home_row_lem = λ h b. every_at (home_row_sound t) h (harts t) (and_right (ranges && long) at_home_lem three) b;
        hardware_row_lem = λ k b. every_at (hardware_row_sound t) k (hardware_harts t) (and_right (ranges && long && at_home_lem) on_hardware_lem four) b;
        queue_formed = λ h b.
            every_at (λ i. queue_well_formed (queue t i)) h (harts t) (and_right (ranges && long && at_home_lem && on_hardware_lem) queues_formed five) b;
        regions_sound_lem = z;
      }

  -- sound tables have these lengths and ranges
  pub sound_sized : sound t ≡ true → Sized t
  sound_sized s = (sound_facts s).sized

  -- tables with the facts are sound
  pub facts_sound : Sound t → sound t ≡ true
  unfolding sound
  facts_sound f =
      let z = f.sized in
      and_both {a = ranges && long && at_home_lem && on_hardware_lem && queues_formed}
      (and_both {a = ranges && long && at_home_lem && on_hardware_lem}
      (and_both {a = ranges && long && at_home_lem}
      (and_both {a = ranges && long}
      (and_both {a = ranges}
      (in_range (harts t) (hardware_harts t) z.some_harts z.few_harts z.some_hardware z.few_hardware)
      (facts_long t (harts t) (hardware_harts t) z.long))
      (every_of (home_row_sound t) (harts t) f.home_row_lem))
      (every_of (hardware_row_sound t) (hardware_harts t) f.hardware_row_lem))
      (every_of (λ h. queue_well_formed (queue t h)) (harts t) f.queue_formed))
      f.regions_sound_lem

-- sound tables with other queues, as many words of them, are sound where each queue is
pub queues_sound : (t : Tables) → sound t ≡ true → (queues : List ℕ) → length queues ≡ length t.queues
    → ((h : ℕ) → h < harts t → queue_well_formed (row queue_words queues h) ≡ true)
    → sound (tables t.head t.home t.hardware queues t.regions) ≡ true
queues_sound t s queues e formed =
    let f = sound_facts t s in
    let z = f.sized in
    facts_sound (tables t.head t.home t.hardware queues t.regions)
    (record {
      sized = record {
        some_harts = z.some_harts;
        few_harts = z.few_harts;
        some_hardware = z.some_hardware;
        few_hardware = z.few_hardware;
        few_regions = z.few_regions;
        long = record {
          head_long = z.long.head_long;
          home_long = z.long.home_long;
          hardware_long = z.long.hardware_long;
          queues_long = rw e z.long.queues_long;
          regions_long = z.long.regions_long;
        };
      };
      home_row_lem = f.home_row_lem;
      hardware_row_lem = f.hardware_row_lem;
      queue_formed = formed;
      regions_sound_lem = f.regions_sound_lem;
    })

-- ---- what a caller asks of a row of sound tables

module _ (t : Tables) (s : sound t ≡ true) where
  -- the record of a home row is well formed
  pub home_formed : (h : ℕ) → h < harts t → well_formed (home_hart t h) ≡ true
  home_formed h l = row_formed the_vm t.home t.hardware (hardware_harts t) h ((sound_facts t s).home_row_lem h l)

  -- so is that of a hardware row
  pub hardware_formed : (k : ℕ) → k < hardware_harts t → well_formed (hardware_hart t k) ≡ true
  hardware_formed k l = row_formed no_vm t.hardware t.home (harts t) k ((sound_facts t s).hardware_row_lem k l)

  -- a dummy at home names a hardware row, which holds the hart of this row
  pub away_names : (h : ℕ) → h < harts t → is_dummy (home_hart t h) ≡ true → Names the_vm t.home t.hardware (hardware_harts t) h
  away_names h l d =
      let none : (home_hart t h).vm ≡ no_vm = eqb-true _ _ d in
      row_names the_vm t.home t.hardware (hardware_harts t) h ((sound_facts t s).home_row_lem h l) (λ e. omega arith)

  -- a real hart on hardware names a home row, which holds the dummy of this row
  pub held_names : (k : ℕ) → k < hardware_harts t → is_dummy (hardware_hart t k) ≡ false → Names no_vm t.hardware t.home (harts t) k
  held_names k l d = row_names no_vm t.hardware t.home (harts t) k ((sound_facts t s).hardware_row_lem k l) (eqb-false _ _ d)

-- ---- home row h holds dummy k exactly when hardware row k holds real hart h

-- a well-formed record that is no dummy is of the one VM
real_vm : (x : ConfidentialHart) → well_formed x ≡ true → is_dummy x ≡ false → x.vm ≡ the_vm
real_vm x w d = let n : x.vm ≢ no_vm = eqb-false _ _ d in omega (arith, (formed_facts x w).vm_known)

both_ways : (a b : Bool) → (a ≡ true → b ≡ true) → (b ≡ true → a ≡ true) → a ≡ b
both_ways true b f g = sym (f refl)
both_ways false true f g = g refl
both_ways false false f g = refl

-- in sound tables a home row and a hardware row name each other, or neither does
pub exactly_when : (t : Tables) → sound t ≡ true → (h k : ℕ) → h < harts t → k < hardware_harts t → home_holds t h k ≡ hardware_holds t h k
exactly_when t s h k lh lk =
    let dummy : Bool = is_dummy (home_hart t h) in
    let real : Bool = not (is_dummy (hardware_hart t k)) in
    both_ways (home_holds t h k) (hardware_holds t h k)
    (λ e.
    let i : (home_hart t h).id ≡ k = eqb-true _ _ (and_right dummy _ e) in
    let n = away_names t s h lh (and_left dummy _ e) in
    let v : (hardware_hart t k).vm ≡ the_vm = rw i at n.held in
    let j : (hardware_hart t k).id ≡ h = rw i at n.back in
    and_both (not_yes _ (ne_eqb (hardware_hart t k).vm no_vm (λ q. omega arith))) (eq-eqb _ _ j))
    (λ e.
    let i : (hardware_hart t k).id ≡ h = eqb-true _ _ (and_right real _ e) in
    let n = held_names t s k lk (not-true _ (and_left real _ e)) in
    let v : (home_hart t h).vm ≡ no_vm = rw i at n.held in
    let j : (home_hart t h).id ≡ k = rw i at n.back in
    and_both (eq-eqb _ _ v) (eq-eqb _ _ j))

-- ---- sound exactly when every sentence holds

-- sound tables are as the sentences say
pub sound_sentences : (t : Tables) → sound t ≡ true → SoundBySentence t
sound_sentences t s =
    let f = sound_facts t s in
    let z = f.sized in
    record {
      some_harts = z.some_harts;
      few_harts = z.few_harts;
      some_hardware = z.some_hardware;
      few_hardware = z.few_hardware;
      tables_long = z.long;
      home_record = home_formed t s;
      home_real = λ h l d.
          row_own the_vm t.home t.hardware (hardware_harts t) h (f.home_row_lem h l) (real_vm (home_hart t h) (home_formed t s h l) d);
      home_dummy = λ h l d. (away_names t s h l d).there;
      hardware_record = hardware_formed t s;
      hardware_dummy = λ k l d. row_own no_vm t.hardware t.home (harts t) k (f.hardware_row_lem k l) (eqb-true _ _ d);
      hardware_real = λ k l d. (held_names t s k l d).there;
      holds_exactly = exactly_when t s;
      queue_record = f.queue_formed;
      regions_record = f.regions_sound_lem;
    }

module _ (t : Tables) (p : SoundBySentence t) where
  -- a dummy at home names the hardware row that holds the hart of this row
  sentence_home : (h : ℕ) → h < harts t → home_row_sound t h ≡ true
  sentence_home h l =
      let w = p.home_record h l in
      by_test (is_dummy (home_hart t h))
      (λ d.
      let none : (home_hart t h).vm ≡ no_vm = eqb-true _ _ d in
      let k : ℕ = (home_hart t h).id in
      let b : k < hardware_harts t = p.home_dummy h l d in
      let e : hardware_holds t h k ≡ true = sym (p.holds_exactly h k l b) ∙ and_both d (eq-eqb k k refl) in
      let r = not-true _ (and_left (not (is_dummy (hardware_hart t k))) _ e) in
      sound_names the_vm t.home t.hardware (hardware_harts t) h w (λ q. omega arith)
      (record {
        there = b;
        held = real_vm (hardware_hart t k) (p.hardware_record k b) r;
        back = eqb-true _ _ (and_right (not (is_dummy (hardware_hart t k))) _ e);
      }))
      (λ d. sound_own the_vm t.home t.hardware (hardware_harts t) h w (real_vm (home_hart t h) w d) (p.home_real h l d))

  -- a real hart on hardware names the home row that holds the dummy of this row
  sentence_hardware : (k : ℕ) → k < hardware_harts t → hardware_row_sound t k ≡ true
  sentence_hardware k l =
      let w = p.hardware_record k l in
      by_test (is_dummy (hardware_hart t k))
      (λ d. sound_own no_vm t.hardware t.home (harts t) k w (eqb-true _ _ d) (p.hardware_dummy k l d))
      (λ d.
      let h : ℕ = (hardware_hart t k).id in
      let b : h < harts t = p.hardware_real k l d in
      let e : home_holds t h k ≡ true = p.holds_exactly h k b l ∙ and_both (not_yes _ d) (eq-eqb h h refl) in
      sound_names no_vm t.hardware t.home (harts t) k w (eqb-false _ _ d)
      (record {
        there = b;
        held = eqb-true _ _ (and_left (is_dummy (home_hart t h)) _ e);
        back = eqb-true _ _ (and_right (is_dummy (home_hart t h)) _ e);
      }))

  -- and tables of which they hold are sound
  pub sentences_sound : sound t ≡ true
  sentences_sound =
      facts_sound t
      (record {
        sized = record {
          some_harts = p.some_harts;
          few_harts = p.few_harts;
          some_hardware = p.some_hardware;
          few_hardware = p.few_hardware;
          few_regions = (regions.sound_sized t.regions (region_count t) p.regions_record).few;
          long = p.tables_long;
        };
        home_row_lem = sentence_home;
        hardware_row_lem = sentence_hardware;
        queue_formed = p.queue_record;
        regions_sound_lem = p.regions_record;
      })

-- tables are sound exactly when every sentence holds of them
pub sound_exactly : (t : Tables) → (sound t ≡ true) ↔ SoundBySentence t
sound_exactly t = (sound_sentences t, sentences_sound t)
