-- `confidential_hart_remote_command::only` meets its contract. Assumes nothing.
use mathlib.Core.Path.{refl}
use Rattle.table_rows.proofs.PickLaws.{yes, no}
use Rattle.confidential_hart_remote_command.proofs.only.Goals as goal

pub returns-then-test : goal.returns-then-test
returns-then-test c = yes _ c.if-test.true refl

pub returns-else-test : goal.returns-else-test
returns-else-test c = no _ c.if-test.false refl
