-- A trace: what each line does to the tables, and what is printed for it.
use Rattle.std.specs.Prelude.{ℕ, Bool, ◌||◌, Option, None, Some, List, length, eqb, ltb}
use Rattle.error.specs.declared.Error.TheVariants.{BadLine as bad_line}
use Rattle.error.specs.Error.{done}
use Rattle.table_rows.specs.Choice.{pick}
use Rattle.monitor_requests.specs.Answers.{Answered, given}
use Rattle.monitor_requests.specs.Tables.{Tables}
use Rattle.monitor_requests.specs.Requests.{Outcome, reply_in, refused_on, performed, with_room, set_up}
use Rattle.trace_requests.specs.declared.TraceLine.{TraceLine}
use Rattle.trace_requests.specs.declared.TraceLine.TheVariants.{SetUp, Ask}
use Rattle.trace_answers.specs.Printed.{Printing, most_printed, printed_over}
use Rattle.monitor_trace.specs.declared.Turn.{Turn}

-- ---- what a line does

-- a line that is no request's is 20, and so is any line but a setup before the first accepted setup, when the trace is not ready
unfoldable pub line_outcome : Option TraceLine → Bool → Tables → List ℕ → Outcome
line_outcome (Some (SetUp s)) ready t effects = with_room effects (set_up s t)
line_outcome (Some (Ask r)) ready t effects = pick ready (performed r t effects) (refused_on t effects bad_line)
line_outcome None ready t effects = refused_on t effects bad_line

-- the trace is ready from the first accepted line on, which is a setup
abbrev pub ready_after : Bool → Answered → Bool
ready_after ready a = ready || eqb (given a).number done

-- ---- what is printed

-- whether the trace is ready, how many bytes were printed, if any were, and the tables, the effects room and the buffer afterwards
pub record TurnOutcome : Type 0 where
  pub ready : Bool
  pub length : Option ℕ
  pub after : Tables
  pub effects : List ℕ
  pub out : List ℕ

-- a request's outcome, printed
abbrev pub turn_of : Bool → Outcome → Printing → TurnOutcome
turn_of ready o p = record { ready = ready; length = p.length; after = o.after; effects = o.effects; out = p.out }

-- what a turn gives, with the tables, the effects room and the buffer that it leaves
abbrev pub turned : Turn → Tables → List ℕ → List ℕ → TurnOutcome
turned r after effects out = record { ready = r.ready; length = r.length; after = after; effects = effects; out = out }

-- a line: what it does, and then what is printed for it. With less room than any answer may take nothing is done, and nothing printed
unfoldable pub turn : Option TraceLine → Bool → Tables → List ℕ → List ℕ → TurnOutcome
turn p ready t effects out =
    pick (ltb (length out) most_printed) (record { ready = ready; length = None; after = t; effects = effects; out = out })
    (turn_of (ready_after ready (line_outcome p ready t effects).answer) (line_outcome p ready t effects)
    (printed_over (reply_in (line_outcome p ready t effects)) (line_outcome p ready t effects).effects out))
