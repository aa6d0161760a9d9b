-- `effects::execute_all` meets its contract: the commands passed are done in their order, the rest of the room is as it was. Assumes nothing.
use mathlib.Core.Path.{refl}
use borrow.Author.Rules.{rules}
use Rattle.remote_commands.specs.Queue.{commands}
use Rattle.effects.proofs.EffectLaws.{did_none, did_next, did_all}
use Rattle.effects.proofs.execute_all.Goals as goal

pub loop-i-init : goal.loop-i-init
loop-i-init c = (refl, did_none _ _ _)

pub loop-i-preserved : goal.loop-i-preserved
loop-i-preserved c =
    (search rules, did_next _ _ _ c.loop-i.invariant.1 c.command.ensures c.execute-off.ensures)

pub returns : goal.returns
unfolding commands
returns c = did_all _ _ _ c.loop-i.invariant.1 (search rules) (search rules)
