-- `trace_fields::close` meets its contract. Assumes nothing.
use mathlib.Core.Path.{refl, sym, ap, ◌∙◌}
use Rattle.table_rows.proofs.PickLaws.{yes, no}
use Rattle.trace_fields.specs.declared.Line.{Line}
use Rattle.trace_fields.specs.Fields.{closed, reading}
use Rattle.trace_fields.proofs.close.Goals as goal

pub returns-then-cannot_end : goal.returns-then-cannot_end
unfolding closed
returns-then-cannot_end c =
    let fields = c.args.fields.now in
    yes _ (sym c.cannot_end.ensures ∙ c.if-cannot_end.true) (ap (λ (l : Line). reading l fields) c.spoilt.ensures)

pub returns : goal.returns
unfolding closed
returns c = no _ (sym c.cannot_end.ensures ∙ c.if-cannot_end.false) refl
