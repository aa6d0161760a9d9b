-- What is printed for an answer: a line for each command that was done, then the number, the word and the details.
use Rattle.std.specs.Prelude.{ℕ, ◌+◌, ◌*◌, Bool, ◌&&◌, List, [], ◌∷◌, ◌++◌, length, leb, Option, None, Some}
use Rattle.table_rows.specs.Rows.{row, rows_of}
use Rattle.remote_commands.specs.Queue.{max_commands}
use Rattle.effects.specs.Effects.{effect_words}
use Rattle.monitor_requests.specs.declared.Word.{Word}
use Rattle.monitor_requests.specs.declared.Word.TheVariants.{Run, Off, Op}
use Rattle.monitor_requests.specs.Answers.{Given, given}
use Rattle.monitor_requests.specs.declared.Reply.{Reply}
use Rattle.trace_text.specs.Text.{bytes, line_end, decimal, line, printed_in}
pub use Rattle.trace_text.specs.Text.{Printing, printing}

-- the text of a word, after a tab, or none
abbrev pub word_text : Option Word → List ℕ
word_text None = []
word_text (Some Run) = bytes "\trun"
word_text (Some Off) = bytes "\toff"
word_text (Some Op) = bytes "\top"

-- the line of an answer that gives this, without its end: the number, the word and the details
unfoldable pub answer_line : Given → List ℕ
answer_line g = line (decimal g.number ++ word_text g.word) g.details

-- the line of effect record i: the hart, and the six numbers of the command that it did
abbrev pub did_line : List ℕ → ℕ → List ℕ
did_line effects i = line (bytes "did") (row effect_words effects i) ++ (line_end ∷ [])

-- all of it: the effects first
unfoldable pub printed : Reply → List ℕ → List ℕ
printed a effects = rows_of (did_line effects) a.did ++ (answer_line (given a.answer) ++ (line_end ∷ []))

-- ---- room

-- the most bytes of a line of an effect: did, seven numbers of twenty digits with their tabs, and its end
abbrev pub did_bytes : ℕ
did_bytes = 151

-- the most bytes of an answer's line: 0, op and three numbers with their tabs, and its end
abbrev pub answer_bytes : ℕ
answer_bytes = 68

-- the most bytes that are printed for one request
abbrev pub most_printed : ℕ
most_printed = max_commands * did_bytes + answer_bytes

-- the effects room has the records, which are no more than a queue's, and there is room for whatever is printed
unfoldable pub printable : Reply → List ℕ → List ℕ → Bool
printable a effects out = leb a.did max_commands && leb (a.did * effect_words) (length effects) && leb most_printed (length out)

-- it is printed over the front of the buffer; nothing is where it is not printable
unfoldable pub printed_over : Reply → List ℕ → List ℕ → Printing
printed_over a effects out = printed_in (printable a effects out) (printed a effects) out
