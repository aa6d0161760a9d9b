-- `effects::execute_all` meets its contract: the commands passed are done in their order, the rest of the room is as it was. Assumes nothing.
use mathlib.Core.Path.{◌≡◌}
use lib.ListN.{length}
use Rattle.remote_commands.specs.Queue.{command_at}
use Rattle.effects.proofs.EffectLaws.{Did}
use Rattle.effects.proofs.execute_all.Given as goal

abbrev pub invariant-loop-i : goal.invariant-loop-i
invariant-loop-i l =
    (length l.effects ≡ length l.initial.effects) × Did l.hart (command_at l.queue) l.initial.effects l.i l.off l.effects
