-- `confidential_flow_remote_commands::process_confidential_hart_remote_commands` meets its contract: 12 first, and then what sound tables have. Assumes nothing.
use mathlib.Core.Path.{sym, ◌∙◌}
use Rattle.monitor_requests.specs.declared.Request.TheVariants.{Process}
use Rattle.monitor_requests.proofs.SoundLaws.{sound_sized}
use Rattle.monitor_requests.proofs.JudgedLaws.{unsound_refused}
use Rattle.confidential_flow_remote_commands.proofs.process_confidential_hart_remote_commands.Goals as goal

pub returns-then-not-are_tables_sound : goal.returns-then-not-are_tables_sound
returns-then-not-are_tables_sound c =
    rw c.refused.ensures
    (sym (unsound_refused (Process _) _ _ (sym c.are_tables_sound.ensures ∙ c.if-not-are_tables_sound.true)))

pub process-requires : goal.process-requires
process-requires c =
    let s = sym c.are_tables_sound.ensures ∙ c.if-not-are_tables_sound.false in (sound_sized _ s, s)
