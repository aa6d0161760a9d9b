-- The request of a line's fields: its word as one number, and the numbers that follow.
use Rattle.std.specs.Prelude.{ℕ, ◌+◌, ◌-◌, ◌*◌, ◌≡◌, List, [], ◌∷◌, eqb}
use Rattle.table_rows.specs.Choice.{pick}
use Rattle.monitor_requests.specs.FromNumbers.{hart_id, hardware_hart_id, setup_of, command_of}
use Rattle.monitor_requests.specs.declared.Request.TheVariants.{Steal, Return, Start, Suspend, Stop, Wake, Off, Await, Status, Home, Send, Allow, Add, Remove, Defined, Broadcast, Process, Resume}
use Rattle.trace_text.specs.Text.{bytes}
use Rattle.trace_requests.specs.declared.TraceLine.{TraceLine}
use Rattle.trace_requests.specs.declared.TraceLine.TheVariants.{SetUp, Ask}
use Rattle.std.specs.Prelude.{Option, Some, None}
use Rattle.trace_requests.specs.Lines.{spelling}

-- letters as one number, two decimal digits for each: a is 01, z is 26
abbrev pub key_from : ℕ → List ℕ → ℕ
key_from front [] = front
key_from front (letter ∷ letters) = key_from (front * 100 + (letter - 96)) letters

-- the word of a request as one number
abbrev pub key : TraceLine → ℕ
key r = key_from 0 (bytes (spelling r).word)

-- the fields of its line
abbrev pub fields_of : TraceLine → List ℕ
fields_of r = key r ∷ (spelling r).numbers

-- fields are those of request r exactly when they are read as r
abbrev pub Tells : List ℕ → Option TraceLine → Type 0
Tells fields p = (r : TraceLine) → (p ≡ Some r → fields ≡ fields_of r) × (fields ≡ fields_of r → p ≡ Some r)

-- a line of a request has at most so many fields
abbrev pub max_fields : ℕ
max_fields = 8

-- ---- the same, as the code goes: by the number of fields, then by the word

-- the first of the requests whose word is w
abbrev pub first : ℕ → List TraceLine → Option TraceLine
first w [] = None
first w (r ∷ rs) = pick (eqb w (key r)) (Some r) (first w rs)

-- the requests of no number
abbrev pub of_none : List TraceLine
of_none = Ask Home ∷ []

-- of one
abbrev pub of_one : ℕ → List TraceLine
of_one a =
    Ask (Return (hardware_hart_id a))
    ∷ Ask (Suspend (hardware_hart_id a))
    ∷ Ask (Stop (hardware_hart_id a))
    ∷ Ask (Off (hardware_hart_id a))
    ∷ Ask (Status (hart_id a))
    ∷ Ask (Process (hardware_hart_id a))
    ∷ Ask (Resume (hardware_hart_id a))
    ∷ Ask (Allow a)
    ∷ []

-- of two
abbrev pub of_two : ℕ → ℕ → List TraceLine
of_two a b = Ask (Steal (hart_id a) (hardware_hart_id b)) ∷ Ask (Add a b) ∷ Ask (Remove a b) ∷ Ask (Defined a b) ∷ []

-- of three
abbrev pub of_three : ℕ → ℕ → ℕ → List TraceLine
of_three a b c = Ask (Start (hart_id a) b c) ∷ Ask (Wake (hardware_hart_id a) b c) ∷ []

-- of four
abbrev pub of_four : ℕ → ℕ → ℕ → ℕ → List TraceLine
of_four a b c d = Ask (Await (hardware_hart_id a) b c d) ∷ []

-- of seven
abbrev pub of_seven : ℕ → ℕ → ℕ → ℕ → ℕ → ℕ → ℕ → List TraceLine
of_seven a b c d e f g =
    SetUp (setup_of a b c d e f g) ∷ Ask (Send a (command_of b c d e f g)) ∷ Ask (Broadcast (hardware_hart_id a) (command_of b c d e f g)) ∷ []

-- the request of fields
unfoldable pub request_of : List ℕ → Option TraceLine
request_of [] = None
request_of (w ∷ []) = first w of_none
request_of (w ∷ a ∷ []) = first w (of_one a)
request_of (w ∷ a ∷ b ∷ []) = first w (of_two a b)
request_of (w ∷ a ∷ b ∷ c ∷ []) = first w (of_three a b c)
request_of (w ∷ a ∷ b ∷ c ∷ d ∷ []) = first w (of_four a b c d)
request_of (w ∷ a ∷ b ∷ c ∷ d ∷ e ∷ []) = None
request_of (w ∷ a ∷ b ∷ c ∷ d ∷ e ∷ f ∷ []) = None
request_of (w ∷ a ∷ b ∷ c ∷ d ∷ e ∷ f ∷ g ∷ []) = first w (of_seven a b c d e f g)
request_of (w ∷ a ∷ b ∷ c ∷ d ∷ e ∷ f ∷ g ∷ h ∷ more) = None
