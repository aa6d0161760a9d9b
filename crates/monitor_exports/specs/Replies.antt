-- What the C functions of the entries that do commands give.
use Rattle.std.specs.Prelude.{ℕ, List, length, ltb}
use Rattle.error.specs.Error.{room_too_short}
use Rattle.table_rows.specs.Rows.{over}
use Rattle.table_rows.specs.Choice.{pick}
use Rattle.monitor_requests.specs.Tables.{Tables}
use Rattle.monitor_requests.specs.declared.Reply.{Reply}
use Rattle.monitor_requests.specs.declared.Request.{Request}
use Rattle.monitor_requests.specs.Answers.{given}
use Rattle.monitor_requests.specs.Requests.{Outcome, reply_in, reply_values, performed}
use Rattle.export_values.specs.Exports.{Written, written}

-- how many words are asked: one for how many effect records were written, and then the room that the values of any answer have
abbrev pub reply_value_words : ℕ
reply_value_words = 5

-- the number of what an entry gives, and its values over the front of the words lent for them
abbrev pub reply_told : Reply → List ℕ → Written
reply_told a words = written (given a.answer).number (over (reply_values a) words)

-- the number, the words lent for the values, and the tables and the effects room afterwards
pub record ReplyExported : Type 0 where
  pub number : ℕ
  pub value : List ℕ
  pub after : Tables
  pub effects : List ℕ

-- the four together
abbrev pub reply_exported : ℕ → List ℕ → Tables → List ℕ → ReplyExported
reply_exported number value after effects = record { number = number; value = value; after = after; effects = effects }

-- what an outcome gives, its tables and its effects room
abbrev pub reply_value_in : Outcome → List ℕ → ReplyExported
reply_value_in o words = reply_exported (reply_told (reply_in o) words).number (reply_told (reply_in o) words).value o.after o.effects

-- what the request does; 13 and nothing where there is too little room for values
abbrev pub reply_valued : Request → List ℕ → Tables → List ℕ → ReplyExported
reply_valued r words t effects =
    pick (ltb (length words) reply_value_words) (reply_exported room_too_short words t effects) (reply_value_in (performed r t effects) words)
