-- `sound_tables::is_row_sound` meets its contract: one law for each way to its end. Assumes nothing.
use mathlib.Core.Path.{ap, ◌∙◌}
use mathlib.Core.Bool.{not}
use borrow.Author.Tests.{eq-eqb, ne_eqb}
use Rattle.sound_tables.proofs.JudgeLaws.{vm_of, row_malformed, row_own, row_far, row_back}
use Rattle.sound_tables.proofs.is_row_sound.Goals as goal

pub is_row_well_formed-requires : goal.is_row_well_formed-requires
is_row_well_formed-requires c =
    (c.row.ensures.as_many, c.vm-vm.ensures ∙ vm_of _ _ c.row.ensures.words)

pub returns-then-not-is_row_well_formed : goal.returns-then-not-is_row_well_formed
returns-then-not-is_row_well_formed c = row_malformed _ _ _ _ _ c.row.ensures.words _ c.is_row_well_formed.ensures (ap not c.if-not-is_row_well_formed.true)

pub returns-then-vm-own : goal.returns-then-vm-own
returns-then-vm-own c =
    row_own _ _ _ _ _ c.row.ensures.words _ c.is_row_well_formed.ensures (ap not c.if-not-is_row_well_formed.false) _ _ c.id-id.ensures c.vm-vm.ensures
    (eq-eqb _ _ c.if-vm-own.true)

pub returns-then-count-j : goal.returns-then-count-j
returns-then-count-j c =
    row_far _ _ _ _ _ c.row.ensures.words _ c.is_row_well_formed.ensures (ap not c.if-not-is_row_well_formed.false) _ _ c.id-id.ensures c.vm-vm.ensures
    (ne_eqb _ _ c.if-vm-own.false)
    c.if-count-j.true

pub returns : goal.returns
returns c =
    row_back _ _ _ _ _ c.row.ensures.words _ c.is_row_well_formed.ensures (ap not c.if-not-is_row_well_formed.false) _ _ c.id-id.ensures c.vm-vm.ensures
    (ne_eqb _ _ c.if-vm-own.false)
    c.if-count-j.false
    _
    _
    c.vm-other.ensures
    c.id-back.ensures
