-- `remote_commands::offer` meets its contract. Assumes nothing.
use mathlib.Core.Path.{refl, sym, ◌∙◌, ap}
use borrow.Author.Tests.{le-leb, lt-leb}
use Rattle.std.proofs.Common.{Ok}
use Rattle.table_rows.proofs.PickLaws.{yes, no}
use Rattle.remote_commands.specs.Queue.{offered, offer}
use Rattle.remote_commands.proofs.offer.Goals as goal

pub returns-then-n-ge-MAX_NUMBER_OF_COMMANDS : goal.returns-then-n-ge-MAX_NUMBER_OF_COMMANDS
unfolding offered
returns-then-n-ge-MAX_NUMBER_OF_COMMANDS c = yes _ (le-leb _ _ c.if-n-ge-MAX_NUMBER_OF_COMMANDS.true) refl

pub returns-then-find : goal.returns-then-find
unfolding offered
returns-then-find c =
    no _ (lt-leb _ _ c.if-n-ge-MAX_NUMBER_OF_COMMANDS.false) (yes _ (sym c.find.ensures ∙ c.if-find.true) refl)

pub returns : goal.returns
unfolding offered
returns c =
    no _ (lt-leb _ _ c.if-n-ge-MAX_NUMBER_OF_COMMANDS.false)
    (no _ (sym c.find.ensures ∙ c.if-find.false) (ap (offer (Ok tt)) c.push.ensures))
