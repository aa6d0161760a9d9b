-- What a C function gives, from what its entry gives. Assumes nothing.
use Prim.Native.Nat.{ℕ}
use mathlib.Core.Path.{◌≡◌, ap, ◌∙◌}
use mathlib.Core.List.{List}
use Rattle.monitor_requests.specs.Answers.{given}
use Rattle.monitor_requests.specs.Requests.{Outcome}
use Rattle.export_values.specs.Exports.{numbered, number_in, Written, written, told, exported, value_in}

-- the number of the answer of o, where o is the definition's
pub number_told : {o p : Outcome} {n : ℕ} → o ≡ p → n ≡ (given o.answer).number → numbered n o.after ≡ number_in p
number_told {o} e q = ap (λ (n : ℕ). numbered n o.after) q ∙ ap number_in e

-- its number, and its values in the words
pub value_told : {o p : Outcome} {n : ℕ} {w : List ℕ} (words : List ℕ) → o ≡ p → written n w ≡ told o.answer words → exported n w o.after ≡ value_in p words
value_told {o} words e q =
    ap (λ (x : Written). exported x.number x.value o.after) q ∙ ap (λ (x : Outcome). value_in x words) e
