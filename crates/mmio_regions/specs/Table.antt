-- The region table: 1,024 places of base and end in a flat list. The first count stand; what lies past the last place belongs to no table.
use Rattle.std.specs.Prelude.{ℕ, ◌-◌, ◌*◌, ◌≤◌, ◌<◌, max, ◌≡◌, Bool, true, false, ◌&&◌, List, [], ◌∷◌, ◌++◌, length, take, drop, replicate, Result, leb}
use Rattle.std.specs.Result.{result_unwrap_or}
use Rattle.error.specs.Error.{number_in}
use Rattle.error.specs.declared.Error.{Error}
use Rattle.table_rows.specs.Rows.{word_at}
use Rattle.table_rows.specs.Choice.{all_zero}
use Rattle.confidential_vm_mmio_region.specs.Region.{region_of, ordered}
use Rattle.table_rows.specs.Lists.{up_to, any_of, all_of}
use Rattle.mmio_regions.specs.Regions.{max_regions, add_number, with_added, with_removed}
use Rattle.confidential_vm_mmio_region.specs.declared.ConfidentialVmMmioRegion.{ConfidentialVmMmioRegion}

-- words in a place
abbrev pub region_words : ℕ
region_words = 2

-- the region in place i
abbrev pub region_at : List ℕ → ℕ → ConfidentialVmMmioRegion
region_at words i = region_of (word_at region_words words i 0) (word_at region_words words i 1)

-- the regions in the first count places, in order
unfoldable pub standing : List ℕ → ℕ → List ConfidentialVmMmioRegion
standing words count = up_to (region_at words) count

-- of the first count places, i is the first whose region passes f, or count where none does
pub record First (f : ConfidentialVmMmioRegion → Bool) (words : List ℕ) (count i : ℕ) : Type 0 where
  pub within : i ≤ count
  pub before : any_of f (standing words i) ≡ false
  pub here : i < count → f (region_at words i) ≡ true

-- the words of regions
unfoldable pub words_of : List ConfidentialVmMmioRegion → List ℕ
words_of [] = []
words_of (r ∷ rs) = r.base ∷ r.end ∷ words_of rs

-- the words of the places in which none stands
abbrev pub unused : List ℕ → ℕ → List ℕ
unused words count = take ((max_regions - count) * region_words) (drop (count * region_words) words)

-- long enough, the count in range, base ≤ end for each that stands, unused places 0
unfoldable pub regions_sound : List ℕ → ℕ → Bool
regions_sound words count =
    leb (max_regions * region_words) (length words)
    && leb count max_regions
    && all_of ordered (standing words count)
    && all_zero (unused words count)

-- what add and remove ask for: room for 1,024, and the count in range
pub record Sized (words : List ℕ) (count : ℕ) : Type 0 where
  pub room : max_regions * region_words ≤ length words
  pub few : count ≤ max_regions

-- the words of a table in which count regions stood, once rs stand instead: rs, the freed places 0, and the rest as it was
unfoldable pub laid : List ℕ → ℕ → List ConfidentialVmMmioRegion → List ℕ
laid words count rs =
    words_of rs
    ++ (replicate ((count - length rs) * region_words) 0
    ++ drop (max count (length rs) * region_words) words)

-- how many regions stand, and the words
pub record Table : Type 0 where
  pub count : ℕ
  pub words : List ℕ

-- the two together
abbrev pub table : ℕ → List ℕ → Table
table count words = record { count = count; words = words }

-- the table with the regions rs instead of those that stand
abbrev pub relaid : List ℕ → ℕ → List ConfidentialVmMmioRegion → Table
relaid words count rs = table (length rs) (laid words count rs)

-- the number given, and the table then standing
pub record Addition : Type 0 where
  pub number : ℕ
  pub after : Table

-- what add answered where count regions stood, and the words it left
abbrev pub addition : ℕ → Result ℕ Error → List ℕ → Addition
addition count answer words = record { number = number_in answer; after = table (result_unwrap_or answer count) words }

-- the region q added
unfoldable pub added : List ℕ → ℕ → ConfidentialVmMmioRegion → Addition
added words count q = record {
  number = add_number q (standing words count);
  after = relaid words count (with_added q (standing words count));
}

-- all that overlap q removed
unfoldable pub removed : List ℕ → ℕ → ConfidentialVmMmioRegion → Table
removed words count q = relaid words count (with_removed q (standing words count))
