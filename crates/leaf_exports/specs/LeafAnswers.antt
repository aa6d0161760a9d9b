-- What the C functions answer.
use Rattle.std.specs.Prelude.{ℕ, List, [], ◌∷◌, Result}
use Rattle.std.specs.Result.{result_unwrap_or}
use Rattle.error.specs.declared.Error.{Error}
use Rattle.error.specs.Error.{number_in}
use Rattle.confidential_vm_mmio_region.specs.declared.ConfidentialVmMmioRegion.{ConfidentialVmMmioRegion}
use Rattle.confidential_vm_mmio_region.specs.Region.{region_of}
use Rattle.mmio_regions.specs.Table.{words_of, Addition}
use Rattle.remote_commands.specs.Queue.{Offer}
use Rattle.confidential_hart.specs.Transition.{Transition}
use Rattle.hart_rows.specs.HartRows.{to_words}

-- a number given back beside the words that are left
pub record Answer : Type 0 where
  pub number : ℕ
  pub words : List ℕ

-- the two together
abbrev pub answer : ℕ → List ℕ → Answer
answer n ws = record { number = n; words = ws }

-- the queue after an offer
abbrev pub of_offer : Offer → Answer
of_offer o = answer (number_in o.given) o.queue

-- a region that was made, as base and end; 0 and 0 where it is refused
abbrev pub of_region : Result ConfidentialVmMmioRegion Error → Answer
of_region made = answer (number_in made) (words_of (result_unwrap_or made (region_of 0 0) ∷ []))

-- the table after an add
abbrev pub of_addition : Addition → Answer
of_addition o = answer o.number o.after.words

-- the row after a transition
abbrev pub of_transition : Transition → Answer
of_transition t = answer t.number (to_words t.hart)
