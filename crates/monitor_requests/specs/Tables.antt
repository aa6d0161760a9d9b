-- The tables of one VM as words, and when they are sound.
use Rattle.std.specs.Prelude.{ℕ, ◌*◌, ◌≤◌, Bool, ◌&&◌, List, length, get_or, eqb, leb, ltb}
use Rattle.table_rows.specs.Rows.{row}
use Rattle.table_rows.specs.Choice.{pick, every}
use Rattle.confidential_hart.specs.declared.ConfidentialHart.{ConfidentialHart}
use Rattle.confidential_hart.specs.Hart.{no_vm, the_vm, well_formed}
use Rattle.hart_rows.specs.HartRows.{hart_words, hart_at}
use Rattle.remote_commands.specs.Queue.{queue_words, queue_well_formed}
use Rattle.confidential_vm_mmio_region.specs.declared.ConfidentialVmMmioRegion.{ConfidentialVmMmioRegion}
use Rattle.mmio_regions.specs.Regions.{max_regions}
use Rattle.mmio_regions.specs.Table.{region_words, regions_sound, standing}

-- five runs of words: the head, the home rows, the hardware rows, the queues and the regions
pub record Tables : Type 0 where
  pub head : List ℕ
  pub home : List ℕ
  pub hardware : List ℕ
  pub queues : List ℕ
  pub regions : List ℕ

-- the five together
abbrev pub tables : List ℕ → List ℕ → List ℕ → List ℕ → List ℕ → Tables
tables head home hardware queues regions = record { head = head; home = home; hardware = hardware; queues = queues; regions = regions }

-- the word of the head that says how many harts there are
abbrev pub harts_word : ℕ
harts_word = 0

-- that of the hardware harts
abbrev pub hardware_word : ℕ
hardware_word = 1

-- that of the allowed mask
abbrev pub allowed_word : ℕ
allowed_word = 2

-- that of the regions
abbrev pub regions_word : ℕ
regions_word = 3

-- how many words the head has
abbrev pub head_words : ℕ
head_words = 4

-- n, the number of harts
abbrev pub harts : Tables → ℕ
harts t = get_or t.head harts_word 0

-- m, the number of hardware harts
abbrev pub hardware_harts : Tables → ℕ
hardware_harts t = get_or t.head hardware_word 0

-- the external interrupts that are allowed
abbrev pub allowed : Tables → ℕ
allowed t = get_or t.head allowed_word 0

-- how many regions stand
abbrev pub region_count : Tables → ℕ
region_count t = get_or t.head regions_word 0

-- what home row h holds
abbrev pub home_hart : Tables → ℕ → ConfidentialHart
home_hart t h = hart_at t.home h

-- what hardware row k holds
abbrev pub hardware_hart : Tables → ℕ → ConfidentialHart
hardware_hart t k = hart_at t.hardware k

-- the queue of hart h
abbrev pub queue : Tables → ℕ → List ℕ
queue t h = row queue_words t.queues h

-- the regions that stand, in the order of adding
abbrev pub regions_of : Tables → List ConfidentialVmMmioRegion
regions_of t = standing t.regions (region_count t)

-- ---- soundness

-- how many harts there may be
abbrev pub max_harts : ℕ
max_harts = 1024

-- how many hardware harts there may be
abbrev pub max_hardware_harts : ℕ
max_hardware_harts = 64

-- there are 1 to 1,024 harts and 1 to 64 hardware harts
abbrev pub counts_in_range : ℕ → ℕ → Bool
counts_in_range n m = leb 1 n && leb n max_harts && leb 1 m && leb m max_hardware_harts

-- long enough: n home rows, m hardware rows, n queues of 64, always 1,024 regions
unfoldable pub long_enough : Tables → ℕ → ℕ → Bool
long_enough t n m =
    leb head_words (length t.head)
    && leb (n * hart_words) (length t.home)
    && leb (m * hart_words) (length t.hardware)
    && leb (n * queue_words) (length t.queues)
    && leb (max_regions * region_words) (length t.regions)

-- the same length by length
pub record Long (t : Tables) (n m : ℕ) : Type 0 where
  pub head_long : head_words ≤ length t.head
  pub home_long : n * hart_words ≤ length t.home
  pub hardware_long : m * hart_words ≤ length t.hardware
  pub queues_long : n * queue_words ≤ length t.queues
  pub regions_long : max_regions * region_words ≤ length t.regions

-- record i is as it must be, and the row holds its own, number i of the VM `own`; or it holds one of the other table, whose row of that
-- number, one of the count there, holds this row's own
unfoldable pub row_sound : ℕ → List ℕ → List ℕ → ℕ → ℕ → Bool
row_sound own rows others count i =
    well_formed (hart_at rows i)
    && pick (eqb (hart_at rows i).vm own) (eqb (hart_at rows i).id i)
    (ltb (hart_at rows i).id count
    && eqb (hart_at others (hart_at rows i).id).vm own
    && eqb (hart_at others (hart_at rows i).id).id i)

-- home row h holds real hart h; or dummy k, and then hardware row k holds real hart h
abbrev pub home_row_sound : Tables → ℕ → Bool
home_row_sound t h = row_sound the_vm t.home t.hardware (hardware_harts t) h

-- hardware row k holds dummy k; or real hart h, numbered below n, and then home row h holds dummy k
abbrev pub hardware_row_sound : Tables → ℕ → Bool
hardware_row_sound t k = row_sound no_vm t.hardware t.home (harts t) k

-- the tables are long enough, counts are in range, records are as they must be, unused places are 0, and home row h holds dummy k exactly
-- when hardware row k holds real hart h
unfoldable pub sound : Tables → Bool
sound t =
    counts_in_range (harts t) (hardware_harts t)
    && long_enough t (harts t) (hardware_harts t)
    && every (home_row_sound t) (harts t)
    && every (hardware_row_sound t) (hardware_harts t)
    && every (λ h. queue_well_formed (queue t h)) (harts t)
    && regions_sound t.regions (region_count t)

-- the lengths and ranges of sound tables, one by one
pub record Sized (t : Tables) : Type 0 where
  pub some_harts : 1 ≤ harts t
  pub few_harts : harts t ≤ max_harts
  pub some_hardware : 1 ≤ hardware_harts t
  pub few_hardware : hardware_harts t ≤ max_hardware_harts
  pub few_regions : region_count t ≤ max_regions
  pub long : Long t (harts t) (hardware_harts t)
