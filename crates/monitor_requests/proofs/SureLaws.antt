-- Requests on sound tables, without asking soundness: so an outcome can be computed. Assumes nothing.
use Prim.Native.Nat.{ℕ}
use mathlib.Core.Path.{◌≡◌}
use mathlib.Core.Bool.{true}
use mathlib.Core.List.{List}
use Rattle.monitor_requests.specs.declared.Request.{Request}
use Rattle.monitor_requests.specs.Tables.{Tables, sound}
use Rattle.monitor_requests.specs.Requests.{Outcome, judged, refused_on, tests, effect, performed}
use Rattle.monitor_requests.proofs.JudgedLaws.{sound_judged}

-- the outcome of a request: its tests decide
abbrev pub sure : Request → Tables → List ℕ → Outcome
sure r t effects = judged (refused_on t effects) (tests r t effects) (effect r t effects)

-- it is that on sound tables
pub sure_is : (r : Request) (t : Tables) (effects : List ℕ) → sound t ≡ true → performed r t effects ≡ sure r t effects
sure_is r t effects s = sound_judged r t effects s
