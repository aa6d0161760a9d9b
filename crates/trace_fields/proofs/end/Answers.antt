-- `trace_fields::end` meets its contract: it is that of `close`. Assumes nothing.
use mathlib.Core.Path.{refl, ap, ◌∙◌}
use Rattle.table_rows.proofs.PickLaws.{yes, no}
use Rattle.trace_fields.specs.Fields.{Reading, counted}
use Rattle.trace_fields.proofs.end.Goals as goal

pub returns-then-ended : goal.returns-then-ended
returns-then-ended c =
    let e = c.close-ended.ensures in
    (yes _ c.if-ended.true refl ∙ ap counted e, ap (λ (x : Reading). x.fields) e)

pub returns : goal.returns
returns c =
    let e = c.close-ended.ensures in
    (no _ c.if-ended.false refl ∙ ap counted e, ap (λ (x : Reading). x.fields) e)
