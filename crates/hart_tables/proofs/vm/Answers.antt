-- `hart_tables::vm` meets its contract: a word of the row is the part of its record. Assumes nothing.
use mathlib.Core.Path.{◌∙◌}
use Rattle.hart_rows.proofs.HartRowLaws.{vm_word_lem}
use Rattle.hart_tables.proofs.vm.Goals as goal

pub returns : goal.returns
returns c = c.word.ensures ∙ vm_word_lem _ _
