-- A line read and written again.
use Rattle.std.specs.Prelude.{ℕ, ◌≡◌, Option, None, Some, List}
use Rattle.std.specs.Option.{unwrap_or}
use Rattle.trace_text.specs.Text.{Printing, printing}
use Rattle.trace_requests.specs.declared.TraceLine.{TraceLine}
use Rattle.trace_requests.specs.Lines.{Reads}
use Rattle.trace_rendering.specs.Rendered.{rendered_over}

-- what a line says, written as a line over the front of a buffer; nothing for a line that is no request's
abbrev pub rewritten : Option TraceLine → List ℕ → Printing
rewritten (Some r) out = rendered_over r out
rewritten None out = printing None out

-- the text is read, and what it says is written: so many bytes, 0 where nothing is, and the buffer afterwards
pub record Rewrites (text out : List ℕ) (count : ℕ) (after : List ℕ) : Type 0 where
  pub said : Option TraceLine
  pub reads : Reads text said
  pub counts : count ≡ unwrap_or (rewritten said out).length 0
  pub leaves : after ≡ (rewritten said out).out
