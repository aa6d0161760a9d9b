-- `remote_commands::command` meets its contract: its words are a row past the count. Assumes nothing.
use mathlib.Core.List.{List}
use mathlib.Core.Path.{◌∙◌, ap}
use Prim.Native.Nat.{ℕ}
use Rattle.table_rows.specs.Rows.{row}
use Rattle.table_rows.proofs.PartLaws.{rest_part}
use Rattle.confidential_hart_remote_command.specs.Command.{from_words, command_words}
use Rattle.remote_commands.specs.Queue.{command_at}
use Rattle.remote_commands.proofs.command.Goals as goal

pub returns : goal.returns
unfolding command_at
returns c =
    c.from_words.ensures
    ∙ ap from_words (c.row.ensures.words ∙ ap (λ (xs : List ℕ). row command_words xs c.args.i) (rest_part 1 c.args.queue.now))
