-- What is read was written: a line in form is the text of its fields. Assumes nothing.
use Prim.Native.Nat.{ℕ, zero, suc, ◌+◌, ◌-◌, ◌*◌, ◌^◌, ◌≤◌, ◌<◌}
use mathlib.Core.Path.{◌≡◌, refl, sym, ap, ap₂, subst, ◌∙◌}
use mathlib.Core.Bool.{Bool, true, false, ◌&&◌, not, true≢false}
use mathlib.Core.List.{List, [], ◌∷◌, ◌++◌, append_assoc, append-nil}
use native.Mathlib.Nat.{zero-mul, lt_of_lt_of_le}
use native.Mathlib.Numerals.{add-one}
use native.Mathlib.Omega.{arith}
use lib.ListN.{length, take, set, length-take, length-set}
use lib.Seq.{take-suc-set, length-take-le}
use lib.Dec.{eqb, leb, ltb, lit≤}
use borrow.Author.Tests.{lt-ltb, eqb-true, eqb-false, leb-false, not-true}
use Rattle.std.specs.Prelude.{None, Some}
use Rattle.table_rows.specs.Choice.{pick}
use Rattle.table_rows.specs.Lists.{all_of}
use Rattle.table_rows.proofs.PickLaws.{yes, no, by_test, and_left, and_right, and_both}
use Rattle.table_rows.proofs.ListLaws.{all_last}
use Rattle.trace_text.specs.Text.{tab, spelled}
use Rattle.trace_text.proofs.DigitLaws.{digits_one, spelled_next}
use Rattle.trace_fields.specs.declared.Line.{Line}
use Rattle.trace_fields.specs.Fields.{start, spoilt, cannot_follow, more, Reading, reading, cannot_end, closed, fed, read_on, field_count, counted, fields_in, is_empty}
use Rattle.trace_fields.proofs.FieldLaws.{follows_good, follows_no_zero, follows_low, follows_high, ends_good, ends_begun, ends_placed}
use Rattle.trace_fields.proofs.ReadLaws.{got, ended, fed_tab, fed_letter, fed_digit, closed_spoilt, closed_ended}
use Rattle.trace_fields.proofs.SpellingLaws.{spelt, lead, field, spelt_last, lead_last}

-- a choice that is not bad is not the bad one
not_bad : {A : Type 0} (bad : A → Bool) (b : Bool) (x y : A) → bad x ≡ true → bad (pick b x y) ≡ false → b ≡ false
unfolding pick
not_bad bad true x y e q = cc
not_bad bad false x y e q = refl

-- ---- one byte more of a field

-- what was read of a field, in a base
abbrev part : ℕ → ℕ → Bool → ℕ → List ℕ
part base nought begun v = pick begun (spelled base nought v) []

-- it goes on with a byte
module _ (base nought : ℕ) (deep : (n : ℕ) → n * base < 2 ^ 64 → n < base ^ 19) (byte : ℕ) (low : nought ≤ byte)
    (high : byte < nought + base) where
  abbrev next : ℕ → ℕ
  next v = v * base + (byte - nought)

  byte_of : byte ≡ nought + (byte - nought)
  byte_of = omega arith

  part_next : (begun : Bool) (v : ℕ) → (begun ≡ false → v ≡ 0) → begun && eqb v 0 ≡ false → next v < 2 ^ 64
      → part base nought begun v ++ (byte ∷ []) ≡ spelled base nought (next v)
  unfolding pick
  part_next true v fresh lone room =
      ap (λ (b : ℕ). spelled base nought v ++ (b ∷ [])) byte_of
      ∙ sym
      (spelled_next base nought (omega arith) v (byte - nought) (positive (eqb-false v 0 lone)) (omega arith) (deep v (omega arith)))
    where
      positive : ¬ (v ≡ 0) → 0 < v
      positive h = omega arith
  part_next false v fresh lone room =
      ap (λ (b : ℕ). b ∷ []) byte_of
      ∙ sym (digits_one base nought 19 (byte - nought) (omega arith))
      ∙ ap (spelled base nought) (omega (arith, zero-mul base, ap (λ (k : ℕ). k * base) (fresh refl)))

-- a line that is in form after one byte more: the byte could follow, and the value has room
module _ (base nought low high : ℕ) (l : Line) (byte : ℕ) where
  pub record Grown : Type 0 where
    pub can : cannot_follow low high l byte ≡ false
    pub room : l.value * base + (byte - nought) < 2 ^ 64
    pub is : more base nought low high l byte ≡ got l.count (l.value * base + (byte - nought))

  pub grown : (more base nought low high l byte).bad ≡ false → Grown
  unfolding more
  grown e =
      let v = l.value * base + (byte - nought) in
      let full = leb (2 ^ 64) v in
      let rest = pick full spoilt (got l.count v) in
      let can = not_bad (λ (m : Line). m.bad) (cannot_follow low high l byte) spoilt rest refl e in
      let same : more base nought low high l byte ≡ rest = sym (no spoilt can refl) in
      let room = not_bad (λ (m : Line). m.bad) full spoilt (got l.count v) refl (sym (ap (λ (m : Line). m.bad) same) ∙ e) in
      record { can = can; room = leb-false (2 ^ 64) v room; is = same ∙ sym (no spoilt room refl) }

  -- what was read of the field goes on with the byte
  pub part_grows : ((n : ℕ) → n * base < 2 ^ 64 → n < base ^ 19) → nought ≤ low → high < nought + base → Grown
      → (l.begun ≡ false → l.value ≡ 0)
      → part base nought l.begun l.value ++ (byte ∷ []) ≡ spelled base nought (l.value * base + (byte - nought))
  part_grows deep digit_low digit-high g fresh =
      let from = follows_low low high l byte g.can in
      let to = follows_high low high l byte g.can in
      part_next base nought deep byte (omega arith) (omega arith) l.begun l.value fresh
      (follows_no_zero low high l byte g.can)
      g.room

-- ---- a line that is in form so far

-- each is at most 2^64 − 1
abbrev pub low64 : ℕ → Bool
low64 n = ltb n (2 ^ 64)

-- the fields that stand before this one
abbrev before : Reading → List ℕ
before x = take x.line.count x.fields

-- what was read of this one
abbrev begun_part : Reading → List ℕ
begun_part x = pick x.line.begun (field (before x) x.line.value) []

-- the text is what was read so far
pub record Said (x : Reading) (text : List ℕ) : Type 0 where
  pub placed : x.line.count ≤ length x.fields
  pub small : all_of low64 (before x) ≡ true
  pub value : x.line.value < 2 ^ 64
  pub fresh : x.line.begun ≡ false → x.line.value ≡ 0
  pub says : text ≡ lead (before x) ++ begun_part x

-- nothing
pub said_nothing : (room : List ℕ) → Said (reading start room) []
unfolding all_of pick
said_nothing room = record { placed = omega arith; small = refl; value = omega arith; fresh = λ e. refl; says = refl }

-- a field that ends
pub record Ends (x : Reading) : Type 0 where
  pub good : x.line.bad ≡ false
  pub begun : x.line.begun ≡ true
  pub place : x.line.count < length x.fields
  pub is : closed x ≡ ended x

ends_if : (x : Reading) → cannot_end x ≡ false → Ends x
ends_if x e = record { good = ends_good x e; begun = ends_begun x e; place = ends_placed x e; is = closed_ended x e }

pub ends : (x : Reading) → (closed x).line.bad ≡ false → Ends x
unfolding closed
ends x e = ends_if x (not_bad (λ (y : Reading). y.line.bad) (cannot_end x) (reading spoilt x.fields) (ended x) refl e)

-- the fields then stand before the next one
before_ended : (x : Reading) → x.line.count < length x.fields → before (ended x) ≡ before x ++ (x.line.value ∷ [])
before_ended x l =
    ap (λ (n : ℕ). take n (set x.fields x.line.count x.line.value)) (add-one x.line.count)
    ∙ take-suc-set x.fields x.line.count x.line.value l

module _ {x : Reading} {text : List ℕ} (said : Said x text) where
  -- the text of the field that was begun
  said_begun : x.line.begun ≡ true → text ≡ lead (before x) ++ field (before x) x.line.value
  said_begun e = said.says ∙ ap (λ (l : List ℕ). lead (before x) ++ l) (sym (yes [] e refl))

  small_ended : x.line.count < length x.fields → all_of low64 (before (ended x)) ≡ true
  small_ended l =
      ap (all_of low64) (before_ended x l)
      ∙ all_last low64 x.line.value (before x)
      ∙ and_both said.small (lt-ltb x.line.value (2 ^ 64) said.value)

  said_ended : Ends x → Said (ended x) (text ++ (tab ∷ []))
  unfolding pick
  said_ended e = record {
    placed = rw (length-set x.fields x.line.count x.line.value) (omega (arith, e.place));
    small = small_ended e.place;
    value = omega arith;
    fresh = λ q. refl;
    says = ap (λ (l : List ℕ). l ++ (tab ∷ [])) (said_begun e.begun)
        ∙ sym (lead_last (before x) x.line.value)
        ∙ ap lead (sym (before_ended x e.place))
        ∙ sym (append-nil (lead (before (ended x))));
  }

  -- one byte more of a field in a base
  module _ (base nought low high byte : ℕ) (spelt-so : (v : ℕ) → field (before x) v ≡ spelled base nought v)
      (deep : (n : ℕ) → n * base < 2 ^ 64 → n < base ^ 19) (digit_low : nought ≤ low) (digit-high : high < nought + base) where
    said_grown : Grown base nought low high x.line byte
        → Said (reading (got x.line.count (x.line.value * base + (byte - nought))) x.fields) (text ++ (byte ∷ []))
    unfolding pick
    said_grown g =
        let l = x.line in
        let xs = before x in
        record {
          placed = said.placed;
          small = said.small;
          value = g.room;
          fresh = λ q. absurd (true≢false q);
          says = ap (λ (t : List ℕ). t ++ (byte ∷ [])) said.says
              ∙ append_assoc (lead xs) (begun_part x) (byte ∷ [])
              ∙ ap (λ (t : List ℕ). lead xs ++ t)
              (ap (λ (t : List ℕ). pick l.begun t [] ++ (byte ∷ [])) (spelt-so l.value)
              ∙ part_grows base nought low high l byte deep digit_low digit-high g said.fresh
              ∙ sym (spelt-so (l.value * base + (byte - nought))));
        }

    said_more : (more base nought low high x.line byte).bad ≡ false
        → Said (reading (more base nought low high x.line byte) x.fields) (text ++ (byte ∷ []))
    said_more e =
        let g = grown base nought low high x.line byte e in
        subst (λ (l : Line). Said (reading l x.fields) (text ++ (byte ∷ []))) (sym g.is) (said_grown g)

  said_closed : (closed x).line.bad ≡ false → Said (closed x) (text ++ (tab ∷ []))
  said_closed e = subst (λ (y : Reading). Said y (text ++ (tab ∷ []))) (sym (ends x e).is) (said_ended (ends x e))

-- the first field is the word, and the others are numbers
field_word : (count : ℕ) (fields : List ℕ) → count ≡ 0 → (v : ℕ) → field (take count fields) v ≡ spelled 100 96 v
field_word count fields e v = ap (λ (n : ℕ). field (take n fields) v) e

field_number : (count : ℕ) (fields : List ℕ) → count ≤ length fields → (count ≡ 0 → ⊥) → (v : ℕ)
    → field (take count fields) v ≡ spelled 10 48 v
field_number zero fields l h v = absurd (h refl)
field_number (suc count) [] l h v = absurd (omega arith)
field_number (suc count) (f ∷ fs) l h v = refl

-- where the line is in form after it, it goes on with the text
abbrev GoesOn : List ℕ → ℕ → Reading → Type 0
GoesOn text byte y = y.line.bad ≡ false → Said y (text ++ (byte ∷ []))

said_fed : {x : Reading} {text : List ℕ} → Said x text → (byte : ℕ) → GoesOn text byte (fed x byte)
said_fed {x} {text} said byte =
    by_test (eqb byte tab)
    (λ e.
    subst (GoesOn text byte) (sym (fed_tab x byte e))
    (λ q. subst (λ (b : ℕ). Said (closed x) (text ++ (b ∷ []))) (sym (eqb-true byte tab e)) (said_closed said q)))
    (λ e.
    by_test (eqb x.line.count 0)
    (λ z.
    subst (GoesOn text byte) (sym (fed_letter x byte e z))
    (said_more said 100 96 97 122 byte (field_word x.line.count x.fields (eqb-true x.line.count 0 z))
    (λ n l. lt_of_lt_of_le (omega arith) (lit≤ {m = 2 ^ 64} {n = 100 ^ 19} tt))
    (omega arith) (omega arith)))
    (λ z.
    subst (GoesOn text byte) (sym (fed_digit x byte e z))
    (said_more said 10 48 48 57 byte
    (field_number x.line.count x.fields said.placed (eqb-false x.line.count 0 z)) (λ n l. omega arith)
    (omega arith) (omega arith))))

-- ---- a whole line

-- a line in no form stays so
fed_good : (x : Reading) (byte : ℕ) → (fed x byte).line.bad ≡ false → x.line.bad ≡ false
fed_good x byte =
    by_test (eqb byte tab) (λ e. subst WasGood (sym (fed_tab x byte e)) (λ q. (ends x q).good))
    (λ e.
    by_test (eqb x.line.count 0)
    (λ z. subst WasGood (sym (fed_letter x byte e z)) (λ q. follows_good 97 122 x.line byte (grown 100 96 97 122 x.line byte q).can))
    (λ z. subst WasGood (sym (fed_digit x byte e z)) (λ q. follows_good 48 57 x.line byte (grown 10 48 48 57 x.line byte q).can)))
  where
    WasGood : Reading → Type 0
    WasGood y = y.line.bad ≡ false → x.line.bad ≡ false

read_good : (x : Reading) (text : List ℕ) → (read_on x text).line.bad ≡ false → x.line.bad ≡ false
read_good x [] e = e
read_good x (byte ∷ text) e = fed_good x byte (read_good (fed x byte) text e)

said_read : {x : Reading} {front : List ℕ} → Said x front → (text : List ℕ) → (read_on x text).line.bad ≡ false
    → Said (read_on x text) (front ++ text)
said_read {x = x} {front = front} said [] e = subst (Said x) (sym (append-nil front)) said
said_read {x = x} {front = front} said (byte ∷ text) e =
    subst (Said (read_on (fed x byte) text)) (append_assoc front (byte ∷ []) text)
    (said_read {x = fed x byte} {front = front ++ (byte ∷ [])} (said_fed said byte (read_good (fed x byte) text e)) text e)

-- a line has fields at its end where its last field can end
fields_ended : (x : Reading) → Ends x → fields_in x ≡ before x ++ (x.line.value ∷ [])
fields_ended x e = ap before e.is ∙ before_ended x e.place

pub has_fields : (x : Reading) (w : ℕ) (ns : List ℕ) → fields_in x ≡ w ∷ ns → Ends x
has_fields x w ns e = by_test (cannot_end x) (λ q. absurd (no_fields (sym (ap before (closed_spoilt x q)) ∙ e))) (λ q. ends_if x q)
  where
    no_fields : ◌≡◌ {A = List ℕ} [] (w ∷ ns) → ⊥
    no_fields p = let z : ◌≡◌ {A = ℕ} 0 1 = cc in omega arith

-- the text of a line is that of its fields, each of which is at most 2^64 − 1
pub sound : (room text : List ℕ) (w : ℕ) (ns : List ℕ) → fields_in (read_on (reading start room) text) ≡ w ∷ ns
    → (text ≡ spelt (w ∷ ns)) × (all_of low64 (w ∷ ns) ≡ true)
sound room text w ns e =
    let x = read_on (reading start room) text in
    let last = has_fields x w ns e in
    let said = said_read (said_nothing room) text last.good in
    let all = sym (fields_ended x last) ∙ e in (
      said_begun said last.begun ∙ sym (spelt_last (before x) x.line.value) ∙ ap spelt all,
      sym (ap (all_of low64) (sym (ap before last.is) ∙ e)) ∙ small_ended said last.place,
    )

-- as many as are counted
pub fields_counted : (x : Reading) → length (fields_in x) ≡ field_count x
fields_counted x =
    by_test (cannot_end x) (λ q. subst (λ (y : Reading). length (before y) ≡ y.line.count) (sym (closed_spoilt x q)) refl)
    (λ q.
    let e = ends_if x q in
    subst (λ (y : Reading). length (before y) ≡ y.line.count) (sym e.is)
    (length-take-le (x.line.count + 1) (set x.fields x.line.count x.line.value)
    (rw (length-set x.fields x.line.count x.line.value) (omega (arith, e.place)))))

-- what `end` gives: nothing of a line in no form, which has no fields
pub counted_none : (x : Reading) → None ≡ counted (closed x) → fields_in x ≡ []
unfolding pick
counted_none x e =
    by_test (cannot_end x) (λ q. ap before (closed_spoilt x q))
    (λ q. let some : None ≡ Some (x.line.count + 1) = e ∙ ap counted (closed_ended x q) in cc)

-- and else their number
pub counted_some : (x : Reading) {n : ℕ} → Some n ≡ counted (closed x) → n ≡ field_count x
unfolding pick
counted_some x {n} e =
    by_test (cannot_end x) (λ q. let none : Some n ≡ None = e ∙ ap counted (closed_spoilt x q) in cc)
    (λ q.
    let some : Some n ≡ Some (x.line.count + 1) = e ∙ ap counted (closed_ended x q) in
    let same : n ≡ x.line.count + 1 = cc in
    same ∙ sym (ap (λ (y : Reading). y.line.count) (closed_ended x q)))

-- they stand in the room
pub fields_placed : (x : Reading) → field_count x ≤ length (closed x).fields
fields_placed x = omega (arith, fields_counted x, length-take (field_count x) (closed x).fields)

pub count_placed : (x : Reading) {n : ℕ} {fields : List ℕ} → Some n ≡ counted (closed x) → fields ≡ (closed x).fields → n ≤ length fields
count_placed x p q = rw (counted_some x p, q) (fields_placed x)

-- a line of which nothing was read has no text
pub nothing_read : (room text : List ℕ) → is_empty (read_on (reading start room) text).line ≡ true → text ≡ []
unfolding pick
nothing_read room text e =
    let x = read_on (reading start room) text in
    let l = x.line in
    let before-count = and_left (not l.bad && not l.begun) (eqb l.count 0) e in
    let good = not-true l.bad (and_left (not l.bad) (not l.begun) before-count) in
    let fresh = not-true l.begun (and_right (not l.bad) (not l.begun) before-count) in
    let first = eqb-true l.count 0 (and_right (not l.bad && not l.begun) (eqb l.count 0) e) in
    let said = said_read (said_nothing room) text good in
    said.says ∙ ap₂ (λ (n : ℕ) (b : Bool). lead (take n x.fields) ++ pick b (field (take n x.fields) l.value) []) first fresh
