-- `confidential_vm_remote_commands::broadcast` meets its contract: 19, and then the harts in order. Assumes nothing.
use Rattle.std.proofs.Common.{Result}
use Rattle.std.proofs.lemmas.Result.{err_from_is_err_and}
use mathlib.Core.List.{[]}
use mathlib.Core.Path.{sym, ap, ◌∙◌}
use Prim.Native.Nat.{ℕ}
use Rattle.error.specs.declared.Error.{Error}
use Rattle.monitor_requests.specs.Requests.{delivery, masked}
use Rattle.monitor_requests.proofs.BroadcastLaws.{send_unknown, send_is}
use Rattle.confidential_vm_remote_commands.proofs.HomesLaws.{sound_homes}
use Rattle.confidential_vm_remote_commands.proofs.broadcast.Goals as goal

pub returns-then-not-is_well_formed : goal.returns-then-not-is_well_formed
returns-then-not-is_well_formed c =
    sym (send_unknown _ _ _ [] c.requires.1 (sym c.is_well_formed.ensures ∙ c.if-not-is_well_formed.true))

pub deliver-requires : goal.deliver-requires
deliver-requires c =
    (sound_homes _ c.requires.1, c.requires.0.long.queues_long)

pub returns-in_err-mask : goal.returns-in_err-mask
returns-in_err-mask c =
    let p = err_from_is_err_and c.from_residual.result c.from_residual.ensures.1 in
    rw (p.1, p.2)
    (send_is _ _ _ [] c.requires.1 (sym c.is_well_formed.ensures ∙ c.if-not-is_well_formed.false) _ _
    (ap (λ (r : Result ℕ Error). delivery (masked r) c.deliver.new.queues) (sym c.in_err-mask.was) ∙ c.deliver.ensures))

pub returns : goal.returns
returns c =
    send_is _ _ _ [] c.requires.1 (sym c.is_well_formed.ensures ∙ c.if-not-is_well_formed.false) _ _
    (ap (λ (r : Result ℕ Error). delivery (masked r) c.deliver.new.queues) (sym c.in_ok-mask.was) ∙ c.deliver.ensures)
