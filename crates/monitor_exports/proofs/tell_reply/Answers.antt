-- `monitor_exports::tell_reply` meets its contract: the count in the first word, and the answer told in the others. Assumes nothing.
use Rattle.monitor_exports.proofs.ReplyLaws.{count_before}
use Rattle.monitor_exports.proofs.tell_reply.Goals as goal

pub returns : goal.returns
returns c = count_before c.args.given c.args.value.now c.requires c.tell-number.ensures
