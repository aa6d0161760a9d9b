-- A line of a trace: what is performed is printed, and where there is room something is. Assumes nothing.
use mathlib.Core.Path.{◌≡◌, ap, ◌∙◌}
use mathlib.Core.Bool.{Bool, ◌||◌}
use mathlib.Core.List.{List}
use Prim.Native.Nat.{ℕ, ◌≤◌}
use native.Mathlib.Omega.{arith}
use lib.ListN.{length}
use borrow.Author.Tests.{le-ltb}
use Rattle.std.specs.Prelude.{Option}
use Rattle.std.specs.Option.{unwrap_or}
use Rattle.table_rows.proofs.PickLaws.{no, by_pick}
use Rattle.std.specs.Result.{is_ok}
use Rattle.monitor_requests.proofs.AnswerLaws.{ok_number}
use Rattle.monitor_requests.specs.Tables.{Tables}
use Rattle.monitor_requests.specs.declared.Reply.{Reply}
use Rattle.monitor_requests.specs.Requests.{replied, reply_in}
use Rattle.trace_requests.specs.declared.TraceLine.{TraceLine}
use Rattle.trace_answers.specs.Printed.{Printing, printing, most_printed, printed_over}
use Rattle.trace_answers.proofs.PrintedLaws.{printable_is, printed_most}
use Rattle.monitor_trace.specs.declared.Turn.{Turn}
use Rattle.monitor_trace.specs.Trace.{line_outcome, TurnOutcome, turn, turned}

-- a line that is performed and printed, where there is room
pub turn_is : (p : Option TraceLine) (ready : Bool) (t : Tables) (effects out : List ℕ) (a : Reply) (t' : Tables) (effects' out' : List ℕ) (accepted : Bool) (printed : Option ℕ)
    → most_printed ≤ length out
    → replied a t' effects' ≡ line_outcome p ready t effects
    → accepted ≡ is_ok a.answer
    → printing printed out' ≡ printed_over a effects' out
    → turned (record { ready = ready || accepted; length = printed }) t' effects' out' ≡ turn p ready t effects out
unfolding turn
turn_is p ready t effects out a t' effects' out' accepted printed l performs numbers prints =
    no _ (le-ltb _ _ l) (rw (← performs, numbers ∙ ok_number a.answer, ← prints))

-- what is printed has room
print_fits : (a : Reply) (effects out : List ℕ) → unwrap_or (printed_over a effects out).length 0 ≤ length out
unfolding printed_over
print_fits a effects out =
    by_pick (λ (p : Printing). unwrap_or p.length 0 ≤ length out) _ _ _
    (λ e. let p = printable_is a effects out e in omega (arith, printed_most a effects out p.few, p.roomy))
    (λ e. omega arith)

-- what a line prints has room
pub turn_fits : (p : Option TraceLine) (ready : Bool) (t : Tables) (effects out : List ℕ) → unwrap_or (turn p ready t effects out).length 0 ≤ length out
unfolding turn
turn_fits p ready t effects out =
    by_pick (λ (o : TurnOutcome). unwrap_or o.length 0 ≤ length out) _ _ _ (λ e. omega arith)
    (λ e. print_fits (reply_in (line_outcome p ready t effects)) (line_outcome p ready t effects).effects out)

-- so a line that is answered into a part of a buffer ends within it
pub answered_within : (p : Option TraceLine) (ready : Bool) (t : Tables) (effects part : List ℕ) {r : Turn} {t' : Tables} {effects' out' : List ℕ}
    → turned r t' effects' out' ≡ turn p ready t effects part → unwrap_or r.length 0 ≤ length part
answered_within p ready t effects part e =
    omega (arith, ap (λ (o : TurnOutcome). unwrap_or o.length 0) e, turn_fits p ready t effects part)
