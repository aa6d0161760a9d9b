-- `trace_fields::Line::more` meets its contract: what may not follow, or is above the highest value, spoils the line. Assumes nothing.
use mathlib.Core.Path.{refl, ap, sym, ◌∙◌}
use native.Mathlib.Omega.{arith}
use Rattle.std.specs.Prelude.{Option}
use Rattle.std.specs.Option.{unwrap_or}
use Rattle.table_rows.proofs.PickLaws.{yes}
use Rattle.trace_fields.specs.declared.Line.{Line}
use Rattle.trace_fields.specs.Fields.{spoilt, more}
use Rattle.trace_fields.proofs.FieldLaws.{more_high, more_fits}
use Rattle.trace_fields.proofs.Line.more.Goals as goal

pub returns-then-cannot_follow : goal.returns-then-cannot_follow
unfolding more
returns-then-cannot_follow c = yes _ (sym c.cannot_follow.ensures ∙ c.if-cannot_follow.true) refl

pub returns-in_err-checked_mul : goal.returns-in_err-checked_mul
returns-in_err-checked_mul c =
    ap (λ (r : Option Line). unwrap_or r spoilt) c.from_residual.ensures
    ∙ more_high _ _ _ _ c.args.self _ (sym c.cannot_follow.ensures ∙ c.if-cannot_follow.false)
    (omega (arith, c.in_err-checked_mul.ensures))

pub returns-in_err-value : goal.returns-in_err-value
returns-in_err-value c =
    ap (λ (r : Option Line). unwrap_or r spoilt) c.from_residual-in_err-value.ensures
    ∙ more_high _ _ _ _ c.args.self _ (sym c.cannot_follow.ensures ∙ c.if-cannot_follow.false)
    (omega (arith, c.in_err-value.ensures, c.in_ok-checked_mul.ensures, c.from-digit.ensures))

pub returns : goal.returns
returns c =
    more_fits _ _ _ _ c.args.self _ (sym c.cannot_follow.ensures ∙ c.if-cannot_follow.false)
    (omega (arith, c.in_ok-value.ensures))
    (omega (arith, c.in_ok-value.ensures, c.in_ok-checked_mul.ensures, c.from-digit.ensures))
