-- What a request gives: its number, its word and its details. No other definition has a list of the answers.
use Rattle.std.specs.Prelude.{ℕ, ◌-◌, length, replicate, Bool, true, false, List, [], ◌∷◌, ◌++◌, Option, None, Some, Result, Ok, Err}
use Rattle.error.specs.declared.Error.{Error}
use Rattle.error.specs.Error.{done, number_of}
use Rattle.table_rows.specs.Choice.{pick}
use Rattle.monitor_requests.specs.declared.Answer.{Answer}
use Rattle.monitor_requests.specs.declared.Answer.TheVariants.{Done, Mask, State, Flag, Count, Run, PoweredOff, Operation}
use Rattle.monitor_requests.specs.declared.Word.{Word}
use Rattle.monitor_requests.specs.declared.Word.TheVariants.{Run as RunWord, Off, Op}

-- what a request gives: an answer, or the error that refuses it
abbrev pub Answered : Type 0
Answered = Result Answer Error

-- the number given back, the word after it if there is one, and the details
pub record Given : Type 0 where
  pub number : ℕ
  pub word : Option Word
  pub details : List ℕ

-- the three together
abbrev pub gives : ℕ → Option Word → List ℕ → Given
gives number word details = record { number = number; word = word; details = details }

-- what is given: a refusal gives its number alone
abbrev pub given : Answered → Given
given (Err e) = gives (number_of e) None []
given (Ok Done) = gives done None []
given (Ok (Mask mask)) = gives done None (mask ∷ [])
given (Ok (State state)) = gives done None (state ∷ [])
given (Ok (Flag flag)) = gives done None (pick flag 1 0 ∷ [])
given (Ok (Count count)) = gives done None (count ∷ [])
given (Ok Run) = gives done (Some RunWord) []
given (Ok PoweredOff) = gives done (Some Off) []
given (Ok (Operation kind x y)) = gives done (Some Op) (kind ∷ x ∷ y ∷ [])

-- the word says that an operation is taken
abbrev pub is_op : Option Word → Bool
is_op None = false
is_op (Some RunWord) = false
is_op (Some Off) = false
is_op (Some Op) = true

-- ---- as values

-- the words run, off and op are the values 0, 1 and 2
abbrev pub run : ℕ
run = 0

abbrev pub off : ℕ
off = 1

abbrev pub op : ℕ
op = 2

-- the value of a word
abbrev pub word_value : Word → ℕ
word_value RunWord = run
word_value Off = off
word_value Op = op

-- a word as values: one, or none
abbrev pub word_values : Option Word → List ℕ
word_values None = []
word_values (Some word) = word_value word ∷ []

-- the values of what is given: the word, and then the details
abbrev pub values : Given → List ℕ
values g = word_values g.word ++ g.details

-- ---- as the code has it

-- how many numbers the details of an answer are at most
abbrev pub most_details : ℕ
most_details = 3

-- details in a place for the most of them: the others are 0
abbrev pub filled : List ℕ → List ℕ
filled details = details ++ replicate (most_details - length details) 0
