-- `confidential_vm_remote_commands::visit` meets its contract: its four returns are the ways of a turn. Assumes nothing.
use Rattle.std.proofs.lemmas.Result.{err_from_is_err_and}
use Prim.Native.Nat.{ℕ, ◌<◌}
use mathlib.Core.Path.{refl, sym, ◌∙◌, subst}
use Rattle.table_rows.proofs.PickLaws.{yes, no}
use Rattle.monitor_requests.specs.Tables.{max_hardware_harts}
use Rattle.confidential_vm_remote_commands.proofs.TurnLaws.{passed_over, full_refuses, takes}
use Rattle.confidential_vm_remote_commands.proofs.visit.Goals as goal

pub returns-then-not-is_receiver : goal.returns-then-not-is_receiver
returns-then-not-is_receiver c = passed_over _ _ _ _ _ _ (sym c.is_receiver.ensures ∙ c.if-not-is_receiver.true)

pub returns-in_err-offer : goal.returns-in_err-offer
returns-in_err-offer c =
    let p = err_from_is_err_and c.from_residual.result c.from_residual.ensures.1 in
    rw (p.1, p.2)
    (full_refuses _ _ _ _ _ _ (sym c.is_receiver.ensures ∙ c.if-not-is_receiver.false) _ _ c.offer.ensures c.requires.2 _ c.in_err-offer.was)

pub enable_bit-requires : goal.enable_bit-requires
enable_bit-requires c =
    subst (λ (k : ℕ). k < max_hardware_harts) (sym c.id-on.ensures)
    (c.requires.1 (sym c.is_dummy.ensures ∙ c.if-is_dummy.true))

pub returns-then-is_dummy : goal.returns-then-is_dummy
returns-then-is_dummy c =
    takes _ _ _ _ _ _ (sym c.is_receiver.ensures ∙ c.if-not-is_receiver.false) _ _ c.offer.ensures c.in_ok-offer.was _
    (yes _ (sym c.is_dummy.ensures ∙ c.if-is_dummy.true) (rw (← c.id-on.ensures) c.enable_bit.ensures))

pub returns : goal.returns
returns c =
    takes _ _ _ _ _ _ (sym c.is_receiver.ensures ∙ c.if-not-is_receiver.false) _ _ c.offer.ensures c.in_ok-offer.was _
    (no _ (sym c.is_dummy.ensures ∙ c.if-is_dummy.false) refl)
