-- `remote_commands::empty` meets its contract. Assumes nothing.
use mathlib.Core.Path.{◌∙◌, ap}
use Prim.Native.Nat.{ℕ}
use lib.ListN.{replicate}
use Rattle.remote_commands.specs.Queue.{emptied}
use Rattle.remote_commands.proofs.empty.Goals as goal

pub returns : goal.returns
unfolding emptied
returns c = c.clear.ensures ∙ ap (λ (n : ℕ). replicate n 0) c.requires
