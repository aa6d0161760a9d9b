-- `confidential_vm_lifecycle::are_all_home` meets its contract: it stops at the first hart that is not at home. Assumes nothing.
use Rattle.std.proofs.Common.{rules, ◌≡◌, refl}
use Rattle.std.proofs.iter.runs.Sources.{ranges}
use lib.ListN.{get_or}
use Rattle.table_rows.proofs.EveryLaws.{every_is}
use Rattle.confidential_vm_lifecycle.proofs.are_all_home.Goals as goal

pub returns : goal.returns
returns c =
    every_is _ _ _
    (λ e i l. let read : get_or c.args.home.now i 0 ≡ get_or c.args.home.now i 0 = refl in search (rules, ranges))
    (λ e. search (rules, ranges))
