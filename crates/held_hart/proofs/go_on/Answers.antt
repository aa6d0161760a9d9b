-- `held_hart::go_on` meets its contract: the record that was loaded is that of row k. Assumes nothing.
use mathlib.Core.Path.{refl}
use borrow.Author.Tests.{eq-eqb, ne_eqb}
use Rattle.table_rows.proofs.PickLaws.{yes, no, not_yes, not_no}
use Rattle.monitor_requests.specs.Requests.{goes_on}
use Rattle.held_hart.proofs.go_on.Goals as goal

pub returns-then-hart-eq-POWERED_OFF : goal.returns-then-hart-eq-POWERED_OFF
unfolding goes_on
returns-then-hart-eq-POWERED_OFF c = rw (← c.load-hart.ensures) (yes _ (eq-eqb _ _ c.if-hart-eq-POWERED_OFF.true) refl)

pub returns-then-hart-ne-NO_OPERATION : goal.returns-then-hart-ne-NO_OPERATION
unfolding goes_on
returns-then-hart-ne-NO_OPERATION c =
    rw (← c.load-hart.ensures, c.store.ensures, c.take_resumable_operation.ensures)
    (no _ (ne_eqb _ _ c.if-hart-eq-POWERED_OFF.false) (yes _ (not_yes _ (ne_eqb _ _ c.if-hart-ne-NO_OPERATION.true)) refl))

pub returns : goal.returns
unfolding goes_on
returns c =
    rw (← c.load-hart.ensures) (no _ (ne_eqb _ _ c.if-hart-eq-POWERED_OFF.false) (no _ (not_no _ (eq-eqb _ _ c.if-hart-ne-NO_OPERATION.false)) refl))
