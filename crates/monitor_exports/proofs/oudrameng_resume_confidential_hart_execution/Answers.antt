-- `monitor_exports::oudrameng_resume_confidential_hart_execution` meets its contract: 13 where there is no room, and then the entry's answer told. Assumes nothing.
use mathlib.Core.Path.{refl}
use borrow.Author.Tests.{lt-ltb, le-ltb}
use Rattle.table_rows.proofs.PickLaws.{yes, no}
use Rattle.monitor_exports.proofs.ReplyLaws.{reply_value_told}
use Rattle.monitor_exports.proofs.oudrameng_resume_confidential_hart_execution.Goals as goal

pub returns-then-value-lt-REPLY_VALUE_WORDS : goal.returns-then-value-lt-REPLY_VALUE_WORDS
returns-then-value-lt-REPLY_VALUE_WORDS c = rw c.number.ensures (yes _ (lt-ltb _ _ c.if-value-lt-REPLY_VALUE_WORDS.true) refl)

pub returns : goal.returns
returns c =
    no _ (le-ltb _ _ c.if-value-lt-REPLY_VALUE_WORDS.false)
    (reply_value_told c.args.value.now
    c.resume_confidential_hart_execution-given.ensures c.tell_reply.ensures)
