-- `confidential_vm_remote_commands::deliver` meets its contract: what is left from here is what was left from the start. Assumes nothing.
use mathlib.Core.Path.{refl, sym, ◌∙◌}
use borrow.Author.Rules.{rules}
use native.Mathlib.Omega.{arith}
use Rattle.table_rows.proofs.RowLaws.{within}
use Rattle.hart_rows.specs.HartRows.{hart_words}
use Rattle.remote_commands.specs.Queue.{queue_words}
use Rattle.confidential_vm_remote_commands.proofs.TurnLaws.{turns_start, turns_done, turn_taken, turn_ends}
use Rattle.confidential_vm_remote_commands.proofs.deliver.Goals as goal

pub loop-i-init : goal.loop-i-init
loop-i-init c = (refl, turns_start _ _ _ _ _ _)

pub visit-requires : goal.visit-requires
visit-requires c =
    let p = c.requires in
    let t = c.loop-i-test.true in (
      omega (arith, within hart_words _ _ t, p.0.long),
      p.0.numbered _ t,
      omega (arith, within queue_words _ _ t, p.1, c.loop-i.invariant.0),
    )

pub returns-in-Err : goal.returns-in-Err
returns-in-Err c =
    sym (turn_ends _ _ _ _ _ _ _ c.loop-i-test.true _ _ c.visit.ensures _ c.in-Err.is) ∙ c.loop-i.invariant.1

pub loop-i-preserved : goal.loop-i-preserved
loop-i-preserved c = (
  search rules,
  sym (turn_taken _ _ _ _ _ _ _ c.loop-i-test.true _ _ c.visit.ensures _ c.in-Ok.is) ∙ c.loop-i.invariant.1,
)

pub returns : goal.returns
returns c = sym (turns_done _ _ _ _ _ _ _ c.loop-i-test.false) ∙ c.loop-i.invariant.1
