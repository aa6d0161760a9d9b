-- `held_hart::execute_queued` meets its contract: the queue is lent as a part, to be read and then to be emptied. Assumes nothing.
use Prim.Native.Nat.{ℕ}
use mathlib.Core.Path.{ap, ◌∙◌}
use mathlib.Core.List.{List}
use Rattle.table_rows.specs.Rows.{put, over}
use Rattle.table_rows.proofs.PartLaws.{part_row, part_put}
use Rattle.remote_commands.specs.Queue.{queue_words, commands}
use Rattle.effects.specs.Effects.{effects_of, shuts_down}
use Rattle.held_hart.proofs.HeldLaws.{did_rows_lem, part_count, count_word}
use borrow.Author.Rules.{rules}
use Rattle.held_hart.proofs.execute_queued.Goals as goal

pub execute_all-off-requires : goal.execute_all-off-requires
execute_all-off-requires c = (search rules, rw (part_count _ _) c.requires.2, search rules)

pub returns : goal.returns
returns c =
    let q = part_row queue_words c.args.queues.now c.args.hart in (
      count_word _ _,
      did_rows_lem _ _ _ (c.execute_all-off.ensures.0 ∙ ap (λ (q : List ℕ). shuts_down (commands q)) q) c.power_off_if.ensures,
      part_put queue_words _ _ _ ∙ ap (put queue_words _ _) c.empty.ensures,
      c.execute_all-off.ensures.1 ∙ ap (λ (q : List ℕ). over (effects_of c.args.hart (commands q)) c.args.effects.now) q,
    )
