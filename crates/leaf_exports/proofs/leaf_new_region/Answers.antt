-- `leaf_exports::leaf_new_region` meets its contract: the two stores fill the words. Assumes nothing.
use mathlib.Core.Path.{◌≡◌, refl, ap₂, ◌∙◌}
use mathlib.Core.List.{[], ◌∷◌}
use borrow.Author.Rules.{rules}
use Rattle.std.specs.Result.{result_unwrap_or}
use Rattle.confidential_vm_mmio_region.specs.Region.{region_of}
use Rattle.table_rows.proofs.RowLaws.{sets_whole}
use Rattle.mmio_regions.specs.Table.{words_of}
use Rattle.leaf_exports.specs.LeafAnswers.{answer}
use Rattle.leaf_exports.proofs.leaf_new_region.Goals as goal

pub returns : goal.returns
unfolding words_of
returns c =
    let made = c.unwrap_or_default-written.result in
    let e : made ≡ result_unwrap_or c.new-made.result (region_of 0 0) = search rules in
    ap₂ answer c.number_in.ensures (sets_whole (made.base ∷ made.end ∷ []) c.args.region.now c.requires)
    ∙ rw (e, c.new-made.ensures) refl
