-- `table_rows::all_zero` meets its contract: the joined words are 0 exactly when each of them is. Assumes nothing.
use Rattle.std.proofs.Common.{rules, ◌≡◌, fold, bit_or}
use Rattle.table_rows.proofs.ZeroLaws.{joined_zero}
use Rattle.table_rows.proofs.all_zero.Goals as goal

pub returns : goal.returns
returns c =
    let joined : c.fold.result ≡ fold bit_or 0 c.args.s.now = search rules in
    rw joined (joined_zero c.args.s.now 0)
