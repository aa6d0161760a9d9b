-- An outcome that meets an entry's promise is a step of a run. Assumes nothing.
use Prim.Native.Nat.{ℕ}
use mathlib.Core.Path.{◌≡◌}
use mathlib.Core.List.{List, []}
use Rattle.monitor_requests.specs.declared.Setup.{Setup}
use Rattle.monitor_requests.specs.Answers.{Answered}
use Rattle.monitor_requests.specs.Tables.{Tables}
use Rattle.monitor_requests.specs.Requests.{answering, set_up, replied, performed}
use Rattle.monitor_requests.specs.declared.Reply.{Reply}
use Rattle.monitor_requests.specs.declared.Request.{Request}
use Rattle.ledger.specs.Statement.{begins, asked}
use Rattle.ledger.proofs.Theorem.{kept}
use Rattle.ledger_entries.specs.Steps.{Begun, Asked}

-- the first step
pub begun : (s : Setup) (lent : Tables) (answer : Answered) (after : Tables) → answering answer after [] ≡ set_up s lent
    → Begun s lent answer after
begun s lent answer after p =
    record {
      promised = p;
      left = λ done. begins s lent (answering answer after []) p done;
      kept = λ done. kept _ after (begins s lent (answering answer after []) p done);
    }

-- any later one
pub next_step : (request : Request) (before : Tables) (effects : List ℕ) (a : Reply) (after : Tables) (effects' : List ℕ)
    → replied a after effects' ≡ performed request before effects
    → Asked request before effects a after effects'
next_step request before effects a after effects' p =
    record {
      promised = p;
      next = λ l run. (kept l before run).next request effects (replied a after effects') p;
      left = λ l run. asked l before run request effects (replied a after effects') p;
      kept = λ l run. kept _ after (asked l before run request effects (replied a after effects') p);
    }
