-- The line of each request, and when a line is one.
use Rattle.std.specs.Prelude.{ℕ, ◌^◌, ◌≡◌, Bool, true, List, [], ◌∷◌, ltb}
use Prim.Native.String.{String}
use Rattle.table_rows.specs.Lists.{all_of}
use Rattle.confidential_hart_remote_command.specs.Command.{to_words}
use Rattle.monitor_requests.specs.declared.Request.TheVariants.{Steal, Return, Start, Suspend, Stop, Wake, Off, Await, Status, Home, Send, Allow, Add, Remove, Defined, Broadcast, Process, Resume}
use Rattle.trace_text.specs.Text.{bytes, line}
use Rattle.trace_requests.specs.declared.TraceLine.{TraceLine}
use Rattle.trace_requests.specs.declared.TraceLine.TheVariants.{SetUp, Ask}
use Rattle.std.specs.Prelude.{Option, Some}

-- a word and the numbers that follow it
pub record Spelling : Type 0 where
  pub word : String
  pub numbers : List ℕ

-- the two together
abbrev pub spell : String → List ℕ → Spelling
spell word numbers = record { word = word; numbers = numbers }

-- the word and the numbers of each request
unfoldable pub spelling : TraceLine → Spelling
spelling (SetUp s) =
    spell "setup" (s.harts ∷ s.hardware ∷ s.boot ∷ s.a1 ∷ s.mepc ∷ s.vsatp ∷ s.vsstatus ∷ [])
spelling (Ask (Steal hart on)) = spell "steal" (hart.0 ∷ on.0 ∷ [])
spelling (Ask (Return on)) = spell "return" (on.0 ∷ [])
spelling (Ask (Start hart address opaque)) = spell "start" (hart.0 ∷ address ∷ opaque ∷ [])
spelling (Ask (Suspend on)) = spell "suspend" (on.0 ∷ [])
spelling (Ask (Stop on)) = spell "stop" (on.0 ∷ [])
spelling (Ask (Wake on address opaque)) = spell "wake" (on.0 ∷ address ∷ opaque ∷ [])
spelling (Ask (Off on)) = spell "off" (on.0 ∷ [])
spelling (Ask (Status hart)) = spell "status" (hart.0 ∷ [])
spelling (Ask (Await on kind x y)) = spell "await" (on.0 ∷ kind ∷ x ∷ y ∷ [])
spelling (Ask (Process on)) = spell "process" (on.0 ∷ [])
spelling (Ask (Resume on)) = spell "resume" (on.0 ∷ [])
spelling (Ask (Broadcast on c)) = spell "broadcast" (on.0 ∷ to_words c)
spelling (Ask (Send sender c)) = spell "send" (sender ∷ to_words c)
spelling (Ask (Allow bits)) = spell "allow" (bits ∷ [])
spelling (Ask (Add base size)) = spell "add" (base ∷ size ∷ [])
spelling (Ask (Remove base size)) = spell "remove" (base ∷ size ∷ [])
spelling (Ask (Defined base size)) = spell "defined" (base ∷ size ∷ [])
spelling (Ask Home) = spell "home" []

-- the line of a request, without its end
abbrev pub line_of : TraceLine → List ℕ
line_of r = line (bytes (spelling r).word) (spelling r).numbers

-- each number is at most 2^64 − 1
abbrev pub fit : List ℕ → Bool
fit ns = all_of (λ n. ltb n (2 ^ 64)) ns

-- the text is the line of request r, whose numbers are at most 2^64 − 1
abbrev pub Renders : List ℕ → TraceLine → Type 0
Renders text r = (fit (spelling r).numbers ≡ true) × (text ≡ line_of r)

-- a text is read as request r exactly when it is the line of r
abbrev pub Reads : List ℕ → Option TraceLine → Type 0
Reads text p = (r : TraceLine) → (p ≡ Some r → Renders text r) × (Renders text r → p ≡ Some r)
