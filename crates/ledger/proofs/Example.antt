-- The rows worked out from the logs of `specs/Example.antt` are those worked out by hand, and the runs leave these logs. Assumes nothing.
use Rattle.std.proofs.Common.{Ok}
use mathlib.Core.Path.{◌≡◌, refl, ap, ◌∙◌, subst}
use mathlib.Core.Bool.{true}
use mathlib.Core.List.{List, [], ◌∷◌}
use Rattle.table_rows.specs.Choice.{pick, every}
use Rattle.table_rows.specs.Lists.{up_to, any_of}
use Rattle.table_rows.specs.Rows.{row, word_at, put, rows_of}
use Rattle.bits.specs.Bit.{clear_bit, set_bit}
use Rattle.confidential_hart_remote_command.specs.Command.{well_formed, same}
use Rattle.confidential_hart_remote_command.specs.Selection.{in_hart_list, selects}
use Rattle.remote_commands.specs.Queue.{command_at, commands, queued, pushed, emptied, offered}
use Rattle.mmio_regions.specs.Regions.{with_removed}
use Rattle.mmio_regions.specs.Table as regions
use Rattle.effects.specs.Effects.{shuts_down}
use Rattle.hart_lifecycle_state.specs.Lifecycle.{only}
use Rattle.confidential_hart.specs.Hart as hart
use Rattle.confidential_hart.specs.HartStart.{start_registers}
use Rattle.confidential_hart.specs.Transition.{applied, transition}
use Rattle.hart_rows.specs.HartRows.{to_words, hart_at}
use Rattle.monitor_requests.specs.declared.Setup.{Setup}
use Rattle.monitor_requests.specs.declared.Answer.TheVariants.{Done}
use Rattle.monitor_requests.specs.Tables.{long_enough, sound}
use Rattle.monitor_requests.specs.Requests.{refuses, receives, deliver, tests, effect, set_up, setup_tests, Outcome, did_rows, own_commands, goes_on}
use Rattle.monitor_requests.proofs.SetupLaws.{setup_sound}
use Rattle.monitor_requests.specs.declared.Request.{Request}
use Rattle.monitor_requests.proofs.RequestLaws.{performed_sound}
use Rattle.monitor_requests.proofs.SureLaws.{sure, sure_is}
use Rattle.ledger.specs.Log.{Log, says, heard}
use Rattle.ledger.specs.WorkedOut.{
  latest,
  since,
  place,
  first_copies,
  lifecycle,
  queue,
  registers,
  operation,
  unremoved,
  added_until,
  allowed,
  real_hart,
  standing_on,
}
use Rattle.ledger.specs.Statement.{Reached, reached, reached_by, begun, Kept}
use Rattle.ledger.proofs.Theorem.{kept_after}
use Rattle.ledger.specs.Example.{room, effects_room, asks, reached_from, worked_out, p1_setup, p1_requests, p1_first, p1_before_resume, p1, p1_table_before_resume, p1_table, busy_setup, busy_answered, requests_of, busy, busy_table, p9, waiting}

-- ---- the rows

-- the rows before hart 1 resumes
pub p1_rows_before_resume : worked_out p1_before_resume ≡ p1_table_before_resume
unfolding p1_first pick every up_to any_of clear_bit same in_hart_list selects shuts_down start_registers says heard latest since place first_copies lifecycle queue registers operation unremoved added_until allowed real_hart standing_on
p1_rows_before_resume = refl

-- the rows in the end
pub p1_rows : worked_out p1 ≡ p1_table
unfolding p1_first pick every up_to any_of clear_bit same in_hart_list selects shuts_down start_registers says heard latest since place first_copies lifecycle queue registers operation unremoved added_until allowed real_hart standing_on
p1_rows = refl

-- the rows of the run in which much happens
pub busy_rows : worked_out busy ≡ busy_table
unfolding busy_answered pick every up_to any_of clear_bit same in_hart_list selects shuts_down start_registers says heard latest since place first_copies lifecycle queue registers operation unremoved added_until allowed real_hart standing_on
busy_rows = refl

-- P9: hart 1 has the command, hart 2 has 64, and hart 3 lacks it
pub p9_waiting : waiting p9 ≡ 0 ∷ 1 ∷ 64 ∷ 0 ∷ []
unfolding p9 pick every up_to any_of clear_bit same in_hart_list selects shuts_down start_registers says heard latest since place first_copies lifecycle queue registers operation unremoved added_until allowed real_hart standing_on
p9_waiting = refl

-- ---- the runs leave these logs

-- what stands after requests, without asking soundness at each
abbrev run_sure : Reached → List Request → Reached
run_sure x [] = x
run_sure x (r ∷ rs) = run_sure (reached r (sure r x.standing effects_room) x.written) rs

-- on sound tables it is the same
run_sure_lem : (rs : List Request) (x : Reached) → sound x.standing ≡ true → reached_by (asks rs) x ≡ run_sure x rs
run_sure_lem [] x s = refl
run_sure_lem (r ∷ rs) x s =
    run_sure_lem rs _ (performed_sound r x.standing effects_room s)
    ∙ ap (λ (o : Outcome). run_sure (reached r o x.written) rs) (sure_is r x.standing effects_room s)

-- a run whose log is computed leaves that log, and the words that it leaves are the rows worked out from it
left_so : (s : Setup) (rs : List Request) (l : Log) → (set_up s (room s)).answer ≡ Ok Done
    → (run_sure (begun s (room s)) rs).written ≡ l
    → Kept l (reached_from s rs).standing
left_so s rs l accepts computed =
    subst (λ (written : Log). Kept written (reached_from s rs).standing)
    (ap (λ (x : Reached). x.written) (run_sure_lem rs (begun s (room s)) (setup_sound s (room s) accepts)) ∙ computed)
    (kept_after s (room s) accepts (asks rs))

-- both setups are accepted
p1_accepted : (set_up p1_setup (room p1_setup)).answer ≡ Ok Done
unfolding set_up setup_tests pick long_enough
p1_accepted = refl

busy_accepted : (set_up busy_setup (room busy_setup)).answer ≡ Ok Done
unfolding set_up setup_tests pick long_enough
busy_accepted = refl

-- the logs of the runs, by computation
p1_computed : (run_sure (begun p1_setup (room p1_setup)) p1_requests).written ≡ p1
unfolding p1_first pick every up_to any_of row put rows_of set_bit hart.well_formed well_formed same in_hart_list selects command_at commands queued pushed offered shuts_down only applied transition to_words hart_at long_enough refuses receives deliver tests effect set_up setup_tests did_rows own_commands goes_on says heard
p1_computed = refl

busy_computed : (run_sure (begun busy_setup (room busy_setup)) (requests_of busy_answered)).written ≡ busy
unfolding busy_answered regions.standing regions.words_of regions.laid with_removed word_at emptied pick every up_to any_of row put rows_of set_bit hart.well_formed well_formed same in_hart_list selects command_at commands queued pushed offered shuts_down only applied transition to_words hart_at long_enough refuses receives deliver tests effect set_up setup_tests did_rows own_commands goes_on says heard
busy_computed = refl

-- P1: its run leaves its log, and the words that it leaves are the rows worked out from it
pub p1_kept : Kept p1 (reached_from p1_setup p1_requests).standing
p1_kept = left_so p1_setup p1_requests p1 p1_accepted p1_computed

-- so does the other run
pub busy_kept : Kept busy (reached_from busy_setup (requests_of busy_answered)).standing
busy_kept = left_so busy_setup (requests_of busy_answered) busy busy_accepted busy_computed
