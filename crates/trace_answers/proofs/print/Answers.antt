-- `trace_answers::print` meets its contract: the effects, the answer and its end are put one after the other, or nothing. Assumes nothing.
use mathlib.Core.Path.{sym, ◌∙◌}
use native.Mathlib.Omega.{arith}
use Rattle.trace_text.proofs.WriteLaws.{put_then}
use Rattle.trace_answers.specs.Printed.{printed}
use Rattle.trace_answers.proofs.PrintedLaws.{answer_most, dids_most, printable_is, printed_put, nothing_put}
use Rattle.trace_answers.proofs.print.Goals as goal

pub returns-then-not-is_printable : goal.returns-then-not-is_printable
returns-then-not-is_printable c = nothing_put _ _ _ (sym c.is_printable.ensures ∙ c.if-not-is_printable.true)

pub put_all_did-place-requires : goal.put_all_did-place-requires
put_all_did-place-requires c =
    let p = printable_is _ _ _ (sym c.is_printable.ensures ∙ c.if-not-is_printable.false) in
    (p.there, omega arith)

pub put_answer-end-requires : goal.put_answer-end-requires
put_answer-end-requires c =
    let p = printable_is _ _ _ (sym c.is_printable.ensures ∙ c.if-not-is_printable.false) in
    omega (arith, dids_most c.args.effects.now c.args.answer.did)

pub put_byte-requires : goal.put_byte-requires
put_byte-requires c =
    let p = printable_is _ _ _ (sym c.is_printable.ensures ∙ c.if-not-is_printable.false) in
    omega (arith, dids_most c.args.effects.now c.args.answer.did, answer_most c.args.answer.answer)

pub returns : goal.returns
unfolding printed
returns c =
    let can = sym c.is_printable.ensures ∙ c.if-not-is_printable.false in
    let p = printable_is _ _ _ can in
    printed_put _ _ _ can
    (put_then (omega arith) c.put_all_did-place.ensures
    (put_then (omega (arith, dids_most c.args.effects.now c.args.answer.did)) c.put_answer-end.ensures
    c.put_byte.ensures))
