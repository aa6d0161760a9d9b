-- `mmio_regions::all_ordered` meets its contract: one flag is carried through the places. Assumes nothing.
use Rattle.std.proofs.Common.{◌≡◌, ℕ, Bool, ◌&&◌, List, map, refl, ap, sym, ◌∙◌, rules, arith, tests}
use Rattle.std.proofs.lemmas.Iterator.{YieldsList-from_range}
use Rattle.std.proofs.iter.Yields.{nat_range_steps}
use Rattle.std.proofs.lemmas.Fn.{fold_over}
use Rattle.confidential_vm_mmio_region.specs.Region.{ordered}
use Rattle.table_rows.specs.Lists.{all_of}
use Rattle.mmio_regions.specs.Table.{region_at}
use Rattle.mmio_regions.proofs.TableLaws.{standing_map, carried}
use Rattle.mmio_regions.proofs.all_ordered.Goals as goal

pub returns : goal.returns
unfolding all_of
returns c =
    let xs = c.args.regions.now in
    let n = c.args.count in
    fold_over nat_range_steps (λ x. x) _ (λ (is : List ℕ) (ok : Bool). ok ≡ all_of ordered (map (region_at xs) is)) _ (λ ys ok i b f' j k.
    let e : b ≡ ok && ordered (region_at xs i) = search (rules, tests) in
    (e ∙ carried ordered xs ys ok _ i j refl, search (rules, tests))) _ _ _ _
    (YieldsList-from_range 0 n n (cc) (omega arith)).runs refl c.fold.ensures.ran
    ∙ ap (all_of ordered) (sym (standing_map xs n))
