-- `sound_tables::are_queues_sound` meets its contract: it stops at the first queue that is not well formed. Assumes nothing.
use Rattle.std.proofs.Common.{rules, ◌≡◌, refl}
use Rattle.std.proofs.iter.runs.Sources.{ranges}
use lib.ListN.{get_or}
use Rattle.table_rows.proofs.EveryLaws.{every_is}
use Rattle.sound_tables.proofs.are_queues_sound.Goals as goal

pub returns : goal.returns
returns c =
    every_is _ _ _
    (λ e i l. let read : get_or c.args.queues.now i 0 ≡ get_or c.args.queues.now i 0 = refl in search (rules, ranges))
    (λ e. search (rules, ranges))
