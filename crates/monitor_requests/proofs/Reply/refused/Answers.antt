-- `monitor_requests::Reply::refused` meets its contract. Assumes nothing.
use mathlib.Core.Path.{refl}
use Rattle.monitor_requests.proofs.Reply.refused.Goals as goal

pub returns : goal.returns
returns c = refl
