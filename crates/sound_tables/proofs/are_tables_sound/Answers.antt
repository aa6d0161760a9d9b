-- `sound_tables::are_tables_sound` meets its contract: one law for each way to its end. Assumes nothing.
use mathlib.Core.Bool.{not}
use mathlib.Core.Path.{ap, sym, ◌∙◌}
use lib.ListN.{get_or}
use borrow.Author.Rules.{rules}
use Rattle.monitor_requests.specs.Tables.{harts_word, hardware_word}
use Rattle.monitor_requests.proofs.SoundLaws.{range_few_harts, range_few_hardware, long_facts}
use Rattle.sound_tables.proofs.JudgeLaws.{short_head, out_of_range, too_short, judged}
use Rattle.sound_tables.proofs.are_tables_sound.Goals as goal

pub returns-then-head-lt-HEAD_WORDS : goal.returns-then-head-lt-HEAD_WORDS
returns-then-head-lt-HEAD_WORDS c = short_head _ (search rules)

pub returns-then-not-are_counts_in_range : goal.returns-then-not-are_counts_in_range
returns-then-not-are_counts_in_range c = out_of_range _ _ c.are_counts_in_range.ensures (ap not c.if-not-are_counts_in_range.true)

pub are_long_enough-requires : goal.are_long_enough-requires
are_long_enough-requires c =
    let head = c.args.head.now in
    let n = get_or head harts_word 0 in
    let m = get_or head hardware_word 0 in
    let r = sym c.are_counts_in_range.ensures ∙ c.if-not-are_counts_in_range.false in
    (range_few_harts n m r, range_few_hardware n m r)

pub returns-then-not-are_long_enough : goal.returns-then-not-are_long_enough
returns-then-not-are_long_enough c =
    too_short _ _ c.are_counts_in_range.ensures (ap not c.if-not-are_counts_in_range.false) _ c.are_long_enough.ensures (ap not c.if-not-are_long_enough.true)

pub are_rows_sound-at_home-requires : goal.are_rows_sound-at_home-requires
are_rows_sound-at_home-requires c =
    let l = long_facts _ _ _ (sym c.are_long_enough.ensures ∙ c.if-not-are_long_enough.false) in
    (l.home_long, l.hardware_long)

pub are_rows_sound-on_hardware-requires : goal.are_rows_sound-on_hardware-requires
are_rows_sound-on_hardware-requires c =
    let l = long_facts _ _ _ (sym c.are_long_enough.ensures ∙ c.if-not-are_long_enough.false) in
    (l.hardware_long, l.home_long)

pub are_queues_sound-waiting-requires : goal.are_queues_sound-waiting-requires
are_queues_sound-waiting-requires c =
    (long_facts _ _ _ (sym c.are_long_enough.ensures ∙ c.if-not-are_long_enough.false)).queues_long

pub returns : goal.returns
returns c =
    judged _ _ c.are_counts_in_range.ensures (ap not c.if-not-are_counts_in_range.false) _ c.are_long_enough.ensures (ap not c.if-not-are_long_enough.false) _ _ _ _
    c.are_rows_sound-at_home.ensures
    c.are_rows_sound-on_hardware.ensures
    c.are_queues_sound-waiting.ensures
    c.regions_are_sound-standing.ensures
