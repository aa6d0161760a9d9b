-- A lent run and tables over plain numbers: when tables hold a run, and when an entry on them gives what the function on the run gives.
use Rattle.std.specs.Prelude.{◌≡◌, [], ◌∷◌, eqb, None}
use Rattle.error.specs.Error.{done}
use Rattle.table_rows.specs.Choice.{pick}
use Rattle.mmio_regions.specs.Table.{words_of, regions_sound}
use Rattle.mmio_region_survey.specs.declared.Defined.{Defined}
use Rattle.monitor_requests.specs.Tables.{Tables, region_count, sound}
use Rattle.monitor_requests.specs.Answers.{Given, gives, given}
use Rattle.monitor_requests.specs.Requests as entry
use Rattle.lent_mmio_regions.specs.Run.{Run, RunChange}

-- the tables hold the run
pub record Holds (t : Tables) (r : Run) : Type 0 where
  -- their regions are the words of its records, one record after the other
  pub words : t.regions ≡ words_of r.records
  -- as many stand
  pub counted : region_count t ≡ r.count

-- the tables are sound exactly when their regions are: the rest makes no difference
abbrev pub OthersSound : Tables → Type 0
OthersSound t = sound t ≡ regions_sound t.regions (region_count t)

-- what an entry gives is what add or remove gives on the run
pub record Agrees (o : entry.Outcome) (r : RunChange) : Type 0 where
  -- the same number, and nothing follows it
  pub same : given o.answer ≡ gives r.number None []
  -- the tables afterwards hold the run afterwards
  pub after : Holds o.after r.after

-- the number and the flag of an answer as an entry gives them: a refusal gives its number alone
abbrev pub flag_given : Defined → Given
flag_given d = gives d.number None (pick (eqb d.number done) (pick d.defined 1 0 ∷ []) [])

-- what an entry gives on tables is what asking for a region gives on the run
pub record AgreesOnFlag (t : Tables) (o : entry.Outcome) (d : Defined) : Type 0 where
  -- the same number, and where it is 0 the same flag
  pub same : given o.answer ≡ flag_given d
  -- the tables are as they were
  pub after : o.after ≡ t
