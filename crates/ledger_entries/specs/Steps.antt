-- What the steps of a run give: the outcome that the entry promises, and with it the theorem of `ledger`.
use Rattle.std.specs.Prelude.{Ok, ℕ, ◌≡◌, List, []}
use Rattle.monitor_requests.specs.declared.Setup.{Setup}
use Rattle.monitor_requests.specs.Answers.{Answered}
use Rattle.monitor_requests.specs.declared.Answer.TheVariants.{Done}
use Rattle.monitor_requests.specs.Tables.{Tables}
use Rattle.monitor_requests.specs.Requests.{answering, set_up, replied, performed}
use Rattle.monitor_requests.specs.declared.Reply.{Reply}
use Rattle.monitor_requests.specs.declared.Request.{Request}
use Rattle.ledger.specs.Log.{Log, log, noted}
use Rattle.ledger.specs.Statement.{Left, Next, Kept}

-- a setup on lent tables gave this answer and left these tables: it is what the entry promises, and if it is done, a run left them
pub record Begun (s : Setup) (lent : Tables) (answer : Answered) (after : Tables) : Type 0 where
  pub promised : answering answer after [] ≡ set_up s lent
  pub left : answer ≡ Ok Done → Left (log s []) after
  pub kept : answer ≡ Ok Done → Kept (log s []) after

-- a request gave this answer and left these tables and effects: it is what the entry promises, and if a run left the tables before, one left them
-- now, with the request and its answer in the log
pub record Asked (request : Request) (before : Tables) (effects : List ℕ) (a : Reply) (after : Tables) (effects' : List ℕ) : Type 0 where
  pub promised : replied a after effects' ≡ performed request before effects
  pub next : (l : Log) → Left l before → Next l before request effects (replied a after effects')
  pub left : (l : Log) → Left l before → Left (noted request a.answer l) after
  pub kept : (l : Log) → Left l before → Kept (noted request a.answer l) after
