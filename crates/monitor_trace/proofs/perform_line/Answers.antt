-- `monitor_trace::perform_line` meets its contract: case by case. Assumes nothing.
use mathlib.Core.Path.{refl, ap}
use Rattle.table_rows.proofs.PickLaws.{yes, no}
use Rattle.monitor_requests.specs.Requests.{with_room}
use Rattle.monitor_trace.specs.Trace.{line_outcome}
use Rattle.monitor_trace.proofs.perform_line.Goals.{in_default-via-in-Some-Ask+else-ready, in_default-via-in_default}
use Rattle.monitor_trace.proofs.perform_line.Goals as goal

pub returns-in-Some-SetUp : goal.returns-in-Some-SetUp
unfolding line_outcome
returns-in-Some-SetUp c =
    let arm = c.in-Some-SetUp in
    rw (arm.is, rw arm.is at arm.field-0-is) (ap (with_room c.args.effects.now) c.new.ensures)

pub returns-in-Some-Ask : goal.returns-in-Some-Ask
unfolding line_outcome
returns-in-Some-Ask c =
    let arm = c.in-Some-Ask in
    rw (arm.is, rw arm.is at arm.field-0-is) (yes _ c.if-ready.true c.perform.ensures)

pub returns-in_default : goal.returns-in_default
unfolding line_outcome
returns-in_default c =
    rw c.refused.ensures
    (elim c.in_default.branch [
      | in_default-via-in-Some-Ask+else-ready w ↦
          let arm = w.in-Some-Ask in
          rw (arm.is, rw arm.is at arm.field-0-is) (no _ w.if-ready.false refl)
      | in_default-via-in_default w ↦ rw w.in_default.is refl
    ])
