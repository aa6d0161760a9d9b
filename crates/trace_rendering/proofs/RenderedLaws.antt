-- The line of a request by its key, and its length. Assumes nothing.
use Prim.Native.Nat.{ℕ, ◌+◌, ◌^◌, ◌≤◌, ◌<◌}
use mathlib.Core.Path.{◌≡◌, refl, sym, ap, ◌∙◌}
use mathlib.Core.Bool.{true}
use mathlib.Core.List.{List}
use native.Mathlib.Omega.{arith}
use lib.ListN.{length}
use borrow.Author.Tests.{le-leb, lt-leb}
use Rattle.std.specs.Prelude.{Option, None, Some}
use Rattle.trace_text.specs.Text.{word, numbers, line, Put, printing}
use Rattle.trace_text.proofs.SpelledLaws.{digits_short, numbers_most}
use Rattle.trace_text.proofs.WriteLaws.{put_as, print_put, print_none}
use Rattle.trace_requests.specs.declared.TraceLine.{TraceLine}
use Rattle.trace_requests.specs.Lines.{spelling, line_of, fit, Reads}
use Rattle.trace_requests.specs.FieldRequests.{key}
use Rattle.trace_requests.proofs.LineLaws.{key_word}
use Rattle.trace_rendering.specs.Rendered.{most_rendered, rendered_over}

-- what is put of the case that a request is: its key's word and its numbers
pub in_case : {request case : TraceLine} {out after : List ℕ} {n : ℕ} → request ≡ case
    → Put 0 (line (word (key case)) (spelling case).numbers) out n after
    → Put 0 (line_of request) out n after
in_case {request} {case} is p =
    put_as (ap (λ (w : List ℕ). line w (spelling case).numbers) (key_word case) ∙ sym (ap line_of is)) p

-- a word of nine letters at most, and it with seven numbers at most
pub word_most : (w : ℕ) → w < 100 ^ 9 → length (word w) ≤ 9
word_most w l = digits_short 100 96 (omega arith) 20 8 w l

pub line_most : (w : ℕ) (ns : List ℕ) → w < 100 ^ 9 → length ns ≤ 7 → length (word w) + length (numbers ns) ≤ most_rendered
line_most w ns short few = omega (arith, word_most w short, numbers_most ns)

-- ---- the whole

-- a line that is rendered is read as its request
pub read_back : (r : TraceLine) (p : Option TraceLine) → fit (spelling r).numbers ≡ true → Reads (line_of r) p → p ≡ Some r
read_back r p fits reads = (reads r).1 (fits, refl)

-- the line of a request that was put at the front is rendered, and else nothing
module _ (r : TraceLine) (out : List ℕ) where
  pub line_put : {n : ℕ} {after : List ℕ} → most_rendered ≤ length out → Put 0 (line_of r) out n after → printing (Some n) after ≡ rendered_over r out
  unfolding rendered_over
  line_put l p = print_put (line_of r) out (le-leb most_rendered (length out) l) p

  pub nothing_put : length out < most_rendered → printing None out ≡ rendered_over r out
  unfolding rendered_over
  nothing_put l = print_none (line_of r) out (lt-leb most_rendered (length out) l)
