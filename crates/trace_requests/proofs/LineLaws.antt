-- A text is read as the request whose line it is, and as no other. Assumes nothing.
use Prim.Native.Nat.{ℕ, ◌≤◌}
use mathlib.Core.Path.{◌≡◌, refl, sym, ap, subst, ◌∙◌}
use mathlib.Core.List.{List}
use native.Mathlib.Omega.{arith}
use lib.ListN.{length, replicate}
use Rattle.table_rows.specs.Lists.{all_of}
use Rattle.table_rows.proofs.PickLaws.{and_right}
use Rattle.trace_text.specs.Text.{bytes, word, line}
use Rattle.trace_fields.specs.declared.Line.{Line}
use Rattle.trace_fields.specs.Fields.{start, Reading, reading, read_on, fields_in}
use Rattle.trace_fields.proofs.SoundLaws.{low64, sound}
use Rattle.trace_fields.proofs.CompleteLaws.{complete}
use Rattle.trace_requests.specs.declared.TraceLine.{TraceLine}
use Rattle.std.specs.Prelude.{Option, Some, None}
use Rattle.trace_requests.specs.Lines.{spelling, Renders, Reads}
use Rattle.trace_requests.specs.FieldRequests.{key, fields_of, Tells, max_fields, request_of}
use Rattle.trace_requests.proofs.FieldRequestLaws.{fair, tells}

-- ---- the word of each request

-- so the word of its number is its own
pub key_word : (r : TraceLine) → word (key r) ≡ bytes (spelling r).word
key_word r = (fair r).word_own

-- ---- a line and its fields

module _ (room : List ℕ) (long : max_fields ≤ length room) (text : List ℕ) where
  fields_line : (r : TraceLine) → fields_in (read_on (reading start room) text) ≡ fields_of r → Renders text r
  unfolding all_of
  fields_line r e =
      let ns = (spelling r).numbers in
      let s = sound room text (key r) ns e in
      (and_right (low64 (key r)) (all_of low64 ns) s.1, s.0 ∙ ap (λ (w : List ℕ). line w ns) (fair r).word_own)

  line_fields : (r : TraceLine) → Renders text r → fields_in (read_on (reading start room) text) ≡ fields_of r
  line_fields r h =
      let ns = (spelling r).numbers in
      let f = fair r in
      ap (λ (t : List ℕ). fields_in (read_on (reading start room) t)) (h.1 ∙ ap (λ (w : List ℕ). line w ns) (sym f.word_own))
      ∙ complete room (key r) ns (ap (read_on (reading start room)) f.word_own ∙ f.word_read room) h.0 (omega (arith, f.few))

  -- what is told of the fields of a line is what its text is read as
  pub reads_line : {p : Option TraceLine} → Tells (fields_in (read_on (reading start room) text)) p → Reads text p
  reads_line t r = (λ e. fields_line r ((t r).0 e), λ h. (t r).1 (line_fields r h))

  -- the same of a line that was read from the start on
  pub reads_read : {l : Line} {x : Reading} {p : Option TraceLine} → l ≡ start → x ≡ read_on (reading l room) text → Tells (fields_in x) p
      → Reads text p
  reads_read {l} {x} {p} first e t =
      reads_line (subst (λ (y : Reading). Tells (fields_in y) p) (e ∙ ap (λ (m : Line). read_on (reading m room) text) first) t)

-- ---- a text has one reading, and a line one request

pub reads_once : (text : List ℕ) (p q : Option TraceLine) → Reads text p → Reads text q → p ≡ q
reads_once text (Some r) q f g = sym ((g r).1 ((f r).0 refl))
reads_once text None (Some r) f g = (f r).1 ((g r).0 refl)
reads_once text None None f g = refl

-- what a text is read as
abbrev pub reading_of : List ℕ → Option TraceLine
reading_of text = request_of (fields_in (read_on (reading start (replicate max_fields 0)) text))

pub reading_of_lem : (text : List ℕ) → Reads text (reading_of text)
reading_of_lem text =
    let room : List ℕ = replicate max_fields 0 in
    reads_line room (omega arith) text (tells (fields_in (read_on (reading start room) text)))

-- requests with the same line are the same
pub line_once : (text : List ℕ) (r s : TraceLine) → Renders text r → Renders text s → r ≡ s
line_once text r s f g =
    let p : reading_of text ≡ Some r = (reading_of_lem text r).1 f in
    let q : reading_of text ≡ Some s = (reading_of_lem text s).1 g in
    let same : Some r ≡ Some s = sym p ∙ q in
    cc
