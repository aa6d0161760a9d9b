-- `confidential_flow::resume_confidential_hart_execution` meets its contract: 12 first, and then a process, and if it is done, what the held hart
-- goes on with. Assumes nothing.
use mathlib.Core.Path.{sym, ◌∙◌}
use Rattle.monitor_requests.specs.declared.Request.TheVariants.{Resume}
use Rattle.monitor_requests.proofs.SoundLaws.{sound_sized}
use Rattle.monitor_requests.proofs.JudgedLaws.{unsound_refused}
use Rattle.confidential_flow.proofs.ResumeLaws.{resume_ends, resume_fits, resume_goes_on}
use Rattle.confidential_flow.proofs.resume_confidential_hart_execution.Goals as goal

pub returns-then-not-are_tables_sound : goal.returns-then-not-are_tables_sound
returns-then-not-are_tables_sound c =
    rw c.refused.ensures
    (sym (unsound_refused (Resume _) _ _ (sym c.are_tables_sound.ensures ∙ c.if-not-are_tables_sound.true)))

pub process-done-requires : goal.process-done-requires
process-done-requires c =
    let s = sym c.are_tables_sound.ensures ∙ c.if-not-are_tables_sound.false in (sound_sized _ s, s)

pub go_on-answer-requires : goal.go_on-answer-requires
go_on-answer-requires c =
    resume_fits _ _ _ _ c.process-done.ensures _ c.in-Ok.is

pub returns-in-Ok : goal.returns-in-Ok
returns-in-Ok c =
    resume_goes_on _ _ _ _ c.process-done.ensures _ c.in-Ok.is c.go_on-answer.ensures

pub returns-in-Err : goal.returns-in-Err
returns-in-Err c =
    rw c.refused-in-Err.ensures
    (resume_ends _ _ _ _ c.process-done.ensures _ c.in-Err.is)
