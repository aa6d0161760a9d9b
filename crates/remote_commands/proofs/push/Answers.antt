-- `remote_commands::push` meets its contract: the words of a place are lent as a part, and the count is put before. Assumes nothing.
use mathlib.Core.Path.{◌∙◌, ap}
use mathlib.Core.List.{List, ◌∷◌}
use Prim.Native.Nat.{ℕ, ◌+◌}
use native.Mathlib.Omega.{arith}
use Rattle.table_rows.specs.Rows.{put}
use Rattle.confidential_hart_remote_command.specs.Command.{command_words}
use Rattle.remote_commands.specs.Queue.{count, places, pushed}
use Rattle.remote_commands.proofs.QueueLaws.{part_push}
use Rattle.remote_commands.proofs.push.Goals as goal

pub returns : goal.returns
unfolding pushed
returns c =
    let q : List ℕ = c.args.queue.now in
    part_push command_words q (count q) _ (count q + 1) (omega arith)
    ∙ ap (λ (ys : List ℕ). (count q + 1) ∷ put command_words (places q) (count q) ys) c.to_words.ensures
