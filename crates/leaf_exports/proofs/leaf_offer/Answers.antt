-- `leaf_exports::leaf_offer` meets its contract: the command is read from its words, and then offered. Assumes nothing.
use mathlib.Core.Path.{ap, ◌∙◌}
use Prim.Native.Nat.{ℕ}
use Rattle.remote_commands.specs.Queue.{offered}
use Rattle.leaf_exports.specs.LeafAnswers.{answer, of_offer}
use Rattle.leaf_exports.proofs.leaf_offer.Goals as goal

pub returns : goal.returns
returns c =
    ap (λ (n : ℕ). answer n c.offer.new.queue) c.number_in.ensures
    ∙ ap of_offer (c.offer.ensures ∙ ap (offered c.args.queue.now) c.from_words-c.ensures)
