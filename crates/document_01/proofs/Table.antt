-- Document 01's cases hold of the definitions: each prints and leaves what the table says. Assumes nothing.
use mathlib.Core.Path.{◌≡◌, refl}
use mathlib.Core.Bool.{true}
use mathlib.Core.List.{◌∷◌, map}
use Rattle.table_rows.specs.Choice.{pick, every}
use Rattle.table_rows.specs.Lists.{up_to, any_of, all_of}
use Rattle.table_rows.specs.Rows.{row, word_at, put, rows_of}
use Rattle.bits.specs.Bit.{clear_bit, set_bit}
use Rattle.mmio_regions.specs.Regions.{with_removed}
use Rattle.mmio_regions.specs.Table.{standing, words_of, laid}
use Rattle.confidential_hart_remote_command.specs.Command.{well_formed, same}
use Rattle.confidential_hart_remote_command.specs.Selection.{in_hart_list, selects}
use Rattle.remote_commands.specs.Queue.{command_at, commands, queued, pushed, emptied, with_offered, offered}
use Rattle.effects.specs.Effects.{effects_of, shuts_down}
use Rattle.hart_lifecycle_state.specs.Lifecycle.{only}
use Rattle.confidential_hart.specs.Hart as hart
use Rattle.confidential_hart.specs.HartStart.{start_registers}
use Rattle.confidential_hart.specs.Transition.{applied, transition}
use Rattle.hart_rows.specs.HartRows.{to_words, hart_at}
use Rattle.monitor_requests.specs.Tables.{long_enough}
use Rattle.monitor_requests.specs.Requests.{refuses, receives, deliver, tests, effect, performed, set_up, setup_tests, did_rows, own_commands, goes_on}
use Rattle.trace_requests.specs.declared.TraceLine.TheVariants.{SetUp, Ask}
use Rattle.trace_text.specs.Text.{bytes, digits}
use Rattle.trace_requests.specs.Lines.{spelling}
use Rattle.trace_answers.specs.Printed.{answer_line, printed}
use Rattle.ledger.specs.Example.{p1_setup, p1_requests}
use Rattle.document_01.specs.Cases.{told, seen, lines, cases}
use Rattle.document_01.proofs.SureLaws.{proper, as_told, all_seen}

-- each case may be computed
all_proper : all_of proper cases ≡ true
unfolding cases every pick hart.well_formed hart_at to_words row word_at put rows_of commands command_at up_to all_of any_of queued well_formed same in_hart_list selects set_bit clear_bit pushed emptied with_offered offered effects_of shuts_down start_registers applied transition refuses receives deliver tests effect performed set_up setup_tests only did_rows own_commands goes_on digits printed answer_line standing words_of laid with_removed long_enough
all_proper = refl

-- each case is as told, by computation
all_told : all_of as_told cases ≡ true
unfolding cases every pick hart.well_formed hart_at to_words row word_at put rows_of commands command_at up_to all_of any_of queued well_formed same in_hart_list selects set_bit clear_bit pushed emptied with_offered offered effects_of shuts_down start_registers applied transition refuses receives deliver tests effect performed set_up setup_tests only did_rows own_commands goes_on digits printed answer_line standing words_of laid with_removed long_enough
all_told = refl

-- P1 to P9: of each case, what the definitions print and leave is what document 01 says
pub document_01 : map seen cases ≡ map told cases
document_01 = all_seen cases all_proper all_told

-- the lines of P1, byte for byte
pub p1_lines : lines (SetUp p1_setup ∷ map Ask p1_requests)
    ≡ bytes
    "setup\t2\t2\t0\t4096\t8192\t0\t0\nsteal\t0\t0\nsteal\t0\t1\nsteal\t1\t1\nstart\t1\t64\t7\nbroadcast\t0\t1\t3\t0\t0\t0\t0\nsteal\t1\t1\nbroadcast\t0\t1\t3\t0\t0\t0\t0\nresume\t1\nreturn\t0\n"
unfolding spelling digits pick
p1_lines = refl
