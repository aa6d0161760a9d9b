-- `trace_answers::put_all_did` meets its contract: the lines of the records passed are put, one after the other. Assumes nothing.
use borrow.Author.Rules.{rules}
use mathlib.Core.Path.{refl}
use native.Mathlib.Omega.{arith}
use Rattle.trace_answers.proofs.PrintedLaws.{dids_most, dids_none, dids_next}
use Rattle.trace_answers.proofs.put_all_did.Goals as goal

pub loop-i-init : goal.loop-i-init
loop-i-init c = (refl, dids_none _ _)

pub put_did-place-requires : goal.put_did-place-requires
put_did-place-requires c =
    (omega arith, omega (arith, dids_most c.args.effects.now c.loop-i.i, c.loop-i.invariant.1.ends))

pub loop-i-preserved : goal.loop-i-preserved
loop-i-preserved c = (search rules, dids_next _ _ c.loop-i.invariant.1 c.put_did-place.ensures)
