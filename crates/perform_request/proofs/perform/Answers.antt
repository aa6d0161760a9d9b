-- `perform_request::perform` meets its contract: a request that does no command keeps the room for effects. Assumes nothing.
use mathlib.Core.Path.{ap}
use Rattle.monitor_requests.specs.Requests.{with_room}
use Rattle.monitor_requests.proofs.RequestLaws.{room_kept}
use Rattle.perform_request.proofs.ArmLaws.{plain}
use Rattle.perform_request.proofs.perform.Goals as goal

pub returns-in_default : goal.returns-in_default
returns-in_default c =
    let none = plain c.args.request c.in_default.not-Broadcast c.in_default.not-Process c.in_default.not-Resume in
    rw (room_kept c.args.request _ c.args.effects.now none) (ap (with_room c.args.effects.now) c.perform_without_effects.ensures)
