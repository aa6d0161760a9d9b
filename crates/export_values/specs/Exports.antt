-- What the C functions of the entries give.
use Rattle.std.specs.Prelude.{ℕ, ◌≡◌, List, [], length, ltb}
use Rattle.error.specs.Error.{room_too_short}
use Rattle.table_rows.specs.Choice.{pick}
use Rattle.monitor_requests.specs.declared.Setup.{Setup}
use Rattle.monitor_requests.specs.declared.Request.{Request}
use Rattle.monitor_requests.specs.Tables.{Tables}
use Rattle.monitor_requests.specs.Answers.{Answered, given, values}
use Rattle.table_rows.specs.Rows.{over}
use Rattle.monitor_requests.specs.Requests.{Outcome, performed, set_up}

-- ---- a request whose answer has no value

-- the number, and the tables afterwards
pub record Numbered : Type 0 where
  pub number : ℕ
  pub after : Tables

-- the two together
abbrev pub numbered : ℕ → Tables → Numbered
numbered number after = record { number = number; after = after }

-- the number of an outcome's answer, and its tables
abbrev pub number_in : Outcome → Numbered
number_in o = numbered (given o.answer).number o.after

-- what a setup does
abbrev pub unvalued_setup : Setup → Tables → Numbered
unvalued_setup s t = number_in (set_up s t)

-- what the request does
abbrev pub unvalued : Request → Tables → Numbered
unvalued r t = number_in (performed r t [])

-- ---- a request whose answer may have values

-- how many words the values of any answer have room in
abbrev pub value_words : ℕ
value_words = 4

-- values over the front of words: the place after them, and the words afterwards
pub record Fronted (values words : List ℕ) (place : ℕ) (after : List ℕ) : Type 0 where
  pub ends : place ≡ length values
  pub leaves : after ≡ over values words

-- the number, and the words lent for the values
pub record Written : Type 0 where
  pub number : ℕ
  pub value : List ℕ

-- the two together
abbrev pub written : ℕ → List ℕ → Written
written number value = record { number = number; value = value }

-- an answer's number, and its values over the front of the words lent for them. A refusal has none
abbrev pub told : Answered → List ℕ → Written
told answer words = written (given answer).number (over (values (given answer)) words)

-- the number, the words lent for the values, and the tables afterwards
pub record Exported : Type 0 where
  pub number : ℕ
  pub value : List ℕ
  pub after : Tables

-- the three together
abbrev pub exported : ℕ → List ℕ → Tables → Exported
exported number value after = record { number = number; value = value; after = after }

-- what an outcome's answer gives, and its tables
abbrev pub value_in : Outcome → List ℕ → Exported
value_in o words = exported (told o.answer words).number (told o.answer words).value o.after

-- what the request does; 13 and nothing where there is too little room for values
abbrev pub valued : Request → List ℕ → Tables → Exported
valued r words t = pick (ltb (length words) value_words) (exported room_too_short words t) (value_in (performed r t []) words)
