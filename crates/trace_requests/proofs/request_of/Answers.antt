-- `trace_requests::request_of` meets its contract: fields of each number are those words. Assumes nothing.
use borrow.Author.Rules.{rules}
use Rattle.trace_requests.specs.FieldRequests.{request_of}
use Rattle.trace_requests.proofs.FieldRequestLaws.{by_count, other_count}
use Rattle.trace_requests.proofs.request_of.Goals as goal

pub returns-in-len1 : goal.returns-in-len1
unfolding request_of
returns-in-len1 c = by_count 1 c.args.fields.now (search rules) c.of_none.ensures

pub returns-in-len2 : goal.returns-in-len2
unfolding request_of
returns-in-len2 c = by_count 2 c.args.fields.now (search rules) c.of_one.ensures

pub returns-in-len3 : goal.returns-in-len3
unfolding request_of
returns-in-len3 c = by_count 3 c.args.fields.now (search rules) c.of_two.ensures

pub returns-in-len4 : goal.returns-in-len4
unfolding request_of
returns-in-len4 c = by_count 4 c.args.fields.now (search rules) c.of_three.ensures

pub returns-in-len5 : goal.returns-in-len5
unfolding request_of
returns-in-len5 c = by_count 5 c.args.fields.now (search rules) c.of_four.ensures

pub returns-in-len8 : goal.returns-in-len8
unfolding request_of
returns-in-len8 c = by_count 8 c.args.fields.now (search rules) c.of_seven.ensures

pub returns-in_default : goal.returns-in_default
returns-in_default c = other_count _ (search rules) (search rules) (search rules) (search rules) (search rules) (search rules)

pub returns-in_default-2 : goal.returns-in_default-2
returns-in_default-2 c = other_count _ (search rules) (search rules) (search rules) (search rules) (search rules) (search rules)

pub returns-in_default-3 : goal.returns-in_default-3
returns-in_default-3 c = other_count _ (search rules) (search rules) (search rules) (search rules) (search rules) (search rules)
