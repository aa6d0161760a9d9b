-- `trace_fields::feed` meets its contract. Assumes nothing.
use mathlib.Core.Path.{ap}
use Rattle.table_rows.proofs.PickLaws.{yes, no, tests}
use Rattle.trace_fields.specs.declared.Line.{Line}
use Rattle.trace_fields.specs.Fields.{fed, reading}
use Rattle.trace_fields.proofs.feed.Goals as goal

pub returns-then-byte-eq-TAB : goal.returns-then-byte-eq-TAB
unfolding fed
returns-then-byte-eq-TAB c = yes _ (search tests) c.close.ensures

pub returns-then-line-eq0 : goal.returns-then-line-eq0
unfolding fed
returns-then-line-eq0 c =
    let fields = c.args.fields.now in
    no _ (search tests) (yes _ (search tests) (ap (λ (l : Line). reading l fields) c.letter.ensures))

pub returns : goal.returns
unfolding fed
returns c =
    let fields = c.args.fields.now in
    no _ (search tests) (no _ (search tests) (ap (λ (l : Line). reading l fields) c.digit.ensures))
