-- `monitor_exports::oudrameng_confidential_hart_lifecycle_state` meets its contract: 13 where there is no room, and then the entry's answer told. Assumes nothing.
use mathlib.Core.Path.{refl}
use borrow.Author.Tests.{lt-ltb, le-ltb}
use Rattle.table_rows.proofs.PickLaws.{yes, no}
use Rattle.export_values.proofs.ExportLaws.{value_told}
use Rattle.monitor_exports.proofs.oudrameng_confidential_hart_lifecycle_state.Goals as goal

pub returns-then-value-lt-VALUE_WORDS : goal.returns-then-value-lt-VALUE_WORDS
returns-then-value-lt-VALUE_WORDS c = rw c.number.ensures (yes _ (lt-ltb _ _ c.if-value-lt-VALUE_WORDS.true) refl)

pub returns : goal.returns
returns c = no _ (le-ltb _ _ c.if-value-lt-VALUE_WORDS.false) (value_told c.args.value.now c.confidential_hart_lifecycle_state-answer.ensures c.tell.ensures)
