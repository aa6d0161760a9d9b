-- `confidential_vm_remote_commands::broadcast_remote_command` meets its contract: 12, and then the broadcast over sound tables. Assumes nothing.
use Rattle.std.proofs.lemmas.Result.{err_from_is_err_and}
use mathlib.Core.List.{[]}
use mathlib.Core.Path.{sym}
use Rattle.monitor_requests.specs.declared.Request.TheVariants.{Send}
use Rattle.monitor_requests.proofs.SoundLaws.{sound_sized}
use Rattle.monitor_requests.proofs.JudgedLaws.{judge_refuses, judge_passes}
use Rattle.confidential_vm_remote_commands.proofs.broadcast_remote_command.Goals as goal

pub returns-in_err-judge : goal.returns-in_err-judge
returns-in_err-judge c =
    let p = err_from_is_err_and c.from_residual.result c.from_residual.ensures.1 in
    rw (p.1, p.2) (sym (judge_refuses _ c.judge.ensures (Send _ _) [] c.in_err-judge.was))

pub broadcast-requires : goal.broadcast-requires
broadcast-requires c = let s = judge_passes _ c.judge.ensures c.in_ok-judge.was in (sound_sized _ s, s)
