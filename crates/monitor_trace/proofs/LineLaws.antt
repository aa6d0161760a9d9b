-- Laws over all lines of a trace: one that is not performed is 20 and changes nothing, before the trace is ready nothing but a setup is
-- accepted, a trace that is ready stays so, and something is printed for each line. Assumes nothing.
use Rattle.std.proofs.Common.{Err}
use Prim.Native.Nat.{ℕ, ◌≤◌, ◌<◌}
use mathlib.Core.Path.{◌≡◌, refl, sym, ap}
use mathlib.Core.Logic.{◌≢◌, ◌↔◌}
use mathlib.Core.Bool.{Bool, true, false, false≢true}
use mathlib.Core.List.{List}
use native.Mathlib.Omega.{arith}
use lib.ListN.{length}
use borrow.Author.Tests.{ltb-true, eqb-true}
use Rattle.std.specs.Prelude.{Option, None, Some}
use Rattle.std.specs.Option.{unwrap_or}
use Rattle.error.specs.declared.Error.TheVariants.{BadLine as bad_line}
use Rattle.error.specs.Error.{done, number_of}
use Rattle.table_rows.proofs.PickLaws.{by_pick, no}
use Rattle.monitor_requests.specs.declared.Setup as declared
use Rattle.monitor_requests.specs.Answers.{Answered, given}
use Rattle.monitor_requests.specs.Tables.{Tables}
use Rattle.monitor_requests.specs.Requests.{with_room, set_up, Outcome, reply_in, refused_reply, refused_on, performed}
use Rattle.monitor_requests.proofs.AnswerLaws.{is_refused}
use Rattle.monitor_requests.specs.declared.Request as asked
use Rattle.monitor_requests.proofs.RequestLaws.{effect_refusal, other_error, by_outcome, by_set_up}
use Rattle.trace_requests.specs.declared.TraceLine.{TraceLine}
use Rattle.trace_requests.specs.declared.TraceLine.TheVariants.{SetUp, Ask}
use Rattle.trace_answers.specs.Printed.{most_printed, printed_over}
use Rattle.trace_answers.proofs.PrintedLaws.{print_some}
use Rattle.trace_answers.proofs.OutcomeLaws.{outcome_printed}
use Rattle.monitor_trace.specs.Trace.{line_outcome, TurnOutcome, turn}

-- the line is performed: it is a request's, and the trace is ready or the request is a setup
abbrev pub performs : Option TraceLine → Bool → Bool
performs (Some (SetUp s)) ready = true
performs (Some (Ask r)) ready = ready
performs None ready = false

-- the line is that of a setup
pub record SetupLine (p : Option TraceLine) : Type 0 where
  pub asked : declared.Setup
  pub reads : p ≡ Some (SetUp asked)

-- what holds of 20, and of what each request does that is performed, holds of what a line does
pub by_line : (p : Option TraceLine) (ready : Bool) (t : Tables) (effects : List ℕ) (P : Outcome → Type 0)
    → (performs p ready ≡ false → P (refused_on t effects bad_line))
    → ((s : declared.Setup) → p ≡ Some (SetUp s) → P (with_room effects (set_up s t)))
    → ((r : asked.Request) → ready ≡ true → P (performed r t effects))
    → P (line_outcome p ready t effects)
unfolding line_outcome
by_line (Some (SetUp s)) ready t effects P refused begun performed = begun s refl
by_line (Some (Ask r)) ready t effects P refused begun performed = by_pick P ready _ _ (λ e. performed r e) refused
by_line None ready t effects P refused begun performed = refused refl

-- the number of what a line answers
abbrev pub line_number : Option TraceLine → Bool → Tables → List ℕ → ℕ
line_number p ready t effects = (given (line_outcome p ready t effects).answer).number

not_performed : (p : Option TraceLine) (ready : Bool) (t : Tables) (effects : List ℕ) → performs p ready ≡ false
    → line_outcome p ready t effects ≡ refused_on t effects bad_line
unfolding line_outcome
not_performed (Some (SetUp s)) ready t effects e = absurd (false≢true (sym e))
not_performed (Some (Ask r)) ready t effects e = sym (no _ e refl)
not_performed None ready t effects e = refl

module _ (p : Option TraceLine) (t : Tables) (effects : List ℕ) where
  -- a line that is not performed is 20, and no word of tables and effects changes
  pub unperformed : (ready : Bool) → performs p ready ≡ false → line_outcome p ready t effects ≡ refused_on t effects bad_line
  unperformed ready e = not_performed p ready t effects e

  -- what is accepted before the trace is ready is a setup
  pub first_accepted : line_number p false t effects ≡ done → SetupLine p
  first_accepted =
      by_line p false t effects (λ (o : Outcome). (given o.answer).number ≡ done → SetupLine p) (λ _ q. absurd (omega (arith, q)))
      (λ s e _. record { asked = s; reads = e })
      (λ r y. absurd (false≢true y))

  module _ (out : List ℕ) where
    -- so does its turn, which changes neither
    pub turn_unperformed : (ready : Bool) → performs p ready ≡ false
        → ((turn p ready t effects out).after ≡ t) × ((turn p ready t effects out).effects ≡ effects)
    unfolding turn
    turn_unperformed ready e =
        by_pick (λ (o : TurnOutcome). (o.after ≡ t) × (o.effects ≡ effects)) _ _ _ (λ _. (refl, refl))
        (λ _. rw (unperformed ready e) (refl, refl))

    -- a trace that is ready stays ready
    pub ready_stays : (turn p true t effects out).ready ≡ true
    unfolding turn
    ready_stays = by_pick (λ (o : TurnOutcome). o.ready ≡ true) _ _ _ (λ _. refl) (λ _. refl)

    -- and it is made ready by a setup
    pub ready_by_setup : (turn p false t effects out).ready ≡ true → SetupLine p
    unfolding turn
    ready_by_setup =
        by_pick (λ (o : TurnOutcome). o.ready ≡ true → SetupLine p) _ _ _ (λ _ e. absurd (false≢true e))
        (λ _ e. first_accepted (eqb-true _ _ e))

    -- where there is room for the most that is printed, something is printed
    pub turn_prints : (ready : Bool) → most_printed ≤ length out → 0 < unwrap_or (turn p ready t effects out).length 0
    unfolding turn
    turn_prints ready roomy =
        by_pick (λ (o : TurnOutcome). 0 < unwrap_or o.length 0) _ _ _ (λ short. absurd (omega (arith, ltb-true (length out) most_printed short)))
        (λ _.
        by_line p ready t effects (λ (o : Outcome). 0 < unwrap_or (printed_over (reply_in o) o.effects out).length 0)
        (λ _.
        (print_some (refused_reply bad_line) effects out (record { few = omega arith; there = omega arith; roomy = roomy })).0)
        (λ s _.
        (print_some (reply_in (with_room effects (set_up s t))) effects out (record { few = omega arith; there = omega arith; roomy = roomy })).0)
        (λ r _. (outcome_printed t effects r out roomy).0))

-- ---- 20

-- no request gives 20
pub never_twenty : (r : asked.Request) (t : Tables) (effects : List ℕ) → (performed r t effects).answer ≢ Err bad_line
never_twenty r t effects =
    by_outcome r t effects (λ (o : Outcome). o.answer ≢ Err bad_line)
    (λ _ p.
    let z : ◌≡◌ {A = ℕ} 12 20 = ap (λ (a : Answered). (given a).number) p in
    absurd (omega arith))
    (λ e k. other_error k refl)
    (λ _ p.
    let z : ◌≡◌ {A = ℕ} 20 8 = ap number_of (effect_refusal r t effects bad_line p) in
    absurd (omega arith))

-- nor does a setup
pub setup_never_twenty : (s : declared.Setup) (t : Tables) → (set_up s t).answer ≢ Err bad_line
setup_never_twenty s t =
    by_set_up s t (λ (o : Outcome). o.answer ≢ Err bad_line) (λ e k. other_error k refl) (λ _ p. absurd (false≢true (ap is_refused p)))

-- a line gives 20 exactly when it is not performed
pub twenty_exactly : (p : Option TraceLine) (ready : Bool) (t : Tables) (effects : List ℕ)
    → ((line_outcome p ready t effects).answer ≡ Err bad_line) ↔ (performs p ready ≡ false)
twenty_exactly p ready t effects = (
  by_line p ready t effects (λ (o : Outcome). o.answer ≡ Err bad_line → performs p ready ≡ false) (λ e _. e)
      (λ s _ q. absurd (setup_never_twenty s t q))
      (λ r _ q. absurd (never_twenty r t effects q)),
  λ e. ap (λ (o : Outcome). o.answer) (unperformed p t effects ready e),
)
