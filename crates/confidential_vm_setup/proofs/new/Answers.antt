-- `confidential_vm_setup::new` meets its contract: the two tests in their order, and what is written. Assumes nothing.
use Rattle.std.proofs.Common.{Ok}
use mathlib.Core.List.{[]}
use mathlib.Core.Path.{◌≡◌, refl, sym, ap, ◌∙◌}
use mathlib.Core.Bool.{Bool, true, false, ◌&&◌, not}
use borrow.Author.Tests.{not-false}
use Rattle.table_rows.proofs.PickLaws.{yes, no, and_left}
use Rattle.monitor_requests.specs.declared.Answer.TheVariants.{Done}
use Rattle.monitor_requests.specs.Requests.{answering, set_up, setup_tests}
use Rattle.monitor_requests.proofs.SoundLaws.{range_few_harts, range_few_hardware, long_facts}
use Rattle.confidential_vm_setup.proofs.new.Goals as goal

-- the counts' answer is their range
in_range : {answer range v : Bool} (below : Bool) → answer ≡ range → not (answer && below) ≡ v → not (range && below) ≡ v
in_range below e t = ap (λ (b : Bool). not (b && below)) (sym e) ∙ t

ranged : {answer range : Bool} (below : Bool) → answer ≡ range → not (answer && below) ≡ false → range ≡ true
ranged {range = range} below e t = and_left range below (not-false _ (in_range below e t))

pub returns-then-out_of_range : goal.returns-then-out_of_range
unfolding set_up setup_tests
returns-then-out_of_range c = yes _ (in_range _ c.are_counts_in_range-in_range.ensures (ap not c.if-out_of_range.true)) refl

pub are_long_enough-too_short-requires : goal.are_long_enough-too_short-requires
are_long_enough-too_short-requires c =
    let range = ranged _ c.are_counts_in_range-in_range.ensures (ap not c.if-out_of_range.false) in
    let setup = c.args.setup in
    (range_few_harts setup.harts setup.hardware range, range_few_hardware setup.harts setup.hardware range)

pub returns-then-too_short : goal.returns-then-too_short
unfolding set_up setup_tests
returns-then-too_short c =
    no _ (in_range _ c.are_counts_in_range-in_range.ensures (ap not c.if-out_of_range.false))
    (yes _ (ap not (sym c.are_long_enough-too_short.ensures ∙ c.if-too_short.true)) refl)

pub write-requires : goal.write-requires
write-requires c =
    let range = ranged _ c.are_counts_in_range-in_range.ensures (ap not c.if-out_of_range.false) in
    let setup = c.args.setup in (
      range_few_harts setup.harts setup.hardware range,
      long_facts _ _ _ (not-false _ (ap not (sym c.are_long_enough-too_short.ensures ∙ c.if-too_short.false))),
    )

pub returns : goal.returns
unfolding set_up setup_tests
returns c =
    no _ (in_range _ c.are_counts_in_range-in_range.ensures (ap not c.if-out_of_range.false))
    (no _ (ap not (sym c.are_long_enough-too_short.ensures ∙ c.if-too_short.false)) (ap (λ x. answering (Ok Done) x []) c.write.ensures))
