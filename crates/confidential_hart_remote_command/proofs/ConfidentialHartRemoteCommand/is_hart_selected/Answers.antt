-- `confidential_hart_remote_command::ConfidentialHartRemoteCommand::is_hart_selected` meets its contract: each return rewrites with the
-- tests that led there, against the one bit that can name the hart. Assumes nothing.
use borrow.Author.Tests.{eq-eqb, ne_eqb, le-leb, lt-leb, lt-ltb, le-ltb}
use Rattle.confidential_hart_remote_command.specs.Selection.{mask_selects}
use Rattle.confidential_hart_remote_command.proofs.SelectionLaws.{selects_by_bit}
use Rattle.confidential_hart_remote_command.proofs.ConfidentialHartRemoteCommand.is_hart_selected.Goals as goal

pub returns-then-self-eq-SHUTDOWN_REQUEST : goal.returns-then-self-eq-SHUTDOWN_REQUEST
unfolding mask_selects
returns-then-self-eq-SHUTDOWN_REQUEST c = rw (selects_by_bit, eq-eqb _ _ c.if-self-eq-SHUTDOWN_REQUEST.true)

pub returns-then-self-eq-ALL_HARTS : goal.returns-then-self-eq-ALL_HARTS
unfolding mask_selects
returns-then-self-eq-ALL_HARTS c = rw selects_by_bit (simp (ne_eqb _ _ c.if-self-eq-SHUTDOWN_REQUEST.false, eq-eqb _ _ c.if-self-eq-ALL_HARTS.true))

pub returns-then-hart-self : goal.returns-then-hart-self
unfolding mask_selects
returns-then-hart-self c =
    rw selects_by_bit (simp (ne_eqb _ _ c.if-self-eq-SHUTDOWN_REQUEST.false, ne_eqb _ _ c.if-self-eq-ALL_HARTS.false, lt-leb _ _ c.if-hart-self.true))

pub returns-then-index-ge-XLEN : goal.returns-then-index-ge-XLEN
unfolding mask_selects
returns-then-index-ge-XLEN c =
    rw selects_by_bit
    (simp (ne_eqb _ _ c.if-self-eq-SHUTDOWN_REQUEST.false, ne_eqb _ _ c.if-self-eq-ALL_HARTS.false, le-leb _ _ c.if-hart-self.false, le-ltb _ _ c.if-index-ge-XLEN.true))

pub returns : goal.returns
unfolding mask_selects
returns c =
    rw selects_by_bit
    (simp
    (c.is_bit_enabled.ensures, ne_eqb _ _ c.if-self-eq-SHUTDOWN_REQUEST.false, ne_eqb _ _ c.if-self-eq-ALL_HARTS.false, le-leb _ _ c.if-hart-self.false, lt-ltb _ _ c.if-index-ge-XLEN.false))
