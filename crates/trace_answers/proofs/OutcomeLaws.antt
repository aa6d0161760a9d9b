-- What any request leaves can be printed. Assumes nothing.
use Prim.Native.Nat.{ℕ, ◌≤◌, ◌<◌}
use mathlib.Core.List.{List}
use native.Mathlib.Omega.{arith}
use lib.ListN.{length}
use Rattle.std.specs.Option.{unwrap_or}
use Rattle.remote_commands.specs.Queue.{max_commands}
use Rattle.monitor_requests.specs.Tables.{Tables}
use Rattle.monitor_requests.specs.declared.Request.{Request}
use Rattle.monitor_requests.specs.declared.Request.TheVariants.{Process, Resume}
use Rattle.monitor_requests.specs.Requests.{Outcome, reply_in, held_id, effect, performed}
use Rattle.monitor_requests.proofs.JudgedLaws.{by_performed}
use Rattle.monitor_requests.proofs.RequestLaws.{by_doing, room_kept}
use Rattle.monitor_requests.proofs.HeldLaws.{by_broadcast, process_held, resume_tests}
use Rattle.monitor_requests.proofs.WriteLaws.{own_few, held_few, effects_length, effects_fit}
use Rattle.trace_answers.specs.Printed.{most_printed, printed_over}
use Rattle.trace_answers.proofs.PrintedLaws.{Printable, print_some}

module _ (t : Tables) (effects : List ℕ) where
  -- a request does no more commands than a queue holds
  pub did_few : (r : Request) → (performed r t effects).did ≤ max_commands
  unfolding effect
  did_few =
      by_doing (λ r. (performed r t effects).did ≤ max_commands) (λ r e. rw (room_kept r t effects e) (omega arith))
      (λ on c.
      by_broadcast on c t effects (λ (o : Outcome). o.did ≤ max_commands) (λ _. omega arith)
      (λ o own p. omega (arith, own.did_own, own_few c (held_id t on.0))))
      (λ on.
      by_performed (Process on) t effects (λ (o : Outcome). o.did ≤ max_commands) (λ _. omega arith)
      (λ p. held_few t on.0 (process_held on t effects p)))
      (λ on.
      by_performed (Resume on) t effects (λ (o : Outcome). o.did ≤ max_commands) (λ _. omega arith)
      (λ p. held_few t on.0 (process_held on t effects (resume_tests on t effects p))))

  module _ (r : Request) (out : List ℕ) (roomy : most_printed ≤ length out) where
    abbrev left : Outcome
    left = performed r t effects

    -- its outcome is printable in any buffer with room for the most that is printed
    pub outcome_printable : Printable (reply_in left) left.effects out
    outcome_printable =
        record {
          few = did_few r;
          there = omega (arith, effects_fit t effects r, effects_length t effects r);
          roomy = roomy;
        }

    -- so there is a line at least, and no more than that room
    pub outcome_printed : (0 < unwrap_or (printed_over (reply_in left) left.effects out).length 0)
        × (unwrap_or (printed_over (reply_in left) left.effects out).length 0 ≤ most_printed)
    outcome_printed = print_some (reply_in left) left.effects out outcome_printable
