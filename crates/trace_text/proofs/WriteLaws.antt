-- Bytes written to a buffer: one, none, one text after another, and what stays. Assumes nothing.
use Prim.Native.Nat.{ℕ, suc, ◌+◌, ◌≤◌}
use mathlib.Core.Path.{◌≡◌, refl, sym, ap, ap₂, subst, ◌∙◌}
use mathlib.Core.Bool.{Bool, true, false}
use mathlib.Core.List.{List, [], ◌∷◌, ◌++◌, append_assoc}
use native.Mathlib.Nat.{zero-add, add-zero}
use native.Mathlib.Numerals.{add-one}
use native.Mathlib.Omega.{arith}
use lib.ListN.{length, take, drop, set, length-append, length-take, length-drop, take-append-drop}
use lib.Seq.{append_snoc, set_split, take-set-le, take_at, drop_at, drop-drop, length-take-le}
use Rattle.std.specs.Prelude.{None, Some}
use Rattle.table_rows.specs.Rows.{over}
use Rattle.table_rows.proofs.PickLaws.{yes, no}
use Rattle.trace_text.specs.Text.{written, Put, printing, printed_in}

-- nothing
pub written_none : (at : ℕ) (out : List ℕ) → written at [] out ≡ out
written_none at out = rw (add-zero at) (take-append-drop at out)

-- one byte
pub written_one : (at byte : ℕ) (out : List ℕ) → at + 1 ≤ length out → set out at byte ≡ written at (byte ∷ []) out
written_one at byte out fits = set_split out at byte (omega arith) ∙ rw (add-one at)

-- at the front
pub written_over : (text out : List ℕ) → written 0 text out ≡ over text out
written_over text out = rw (zero-add (length text))

-- the buffer stays as long
pub written_length : (at : ℕ) (text out : List ℕ) → at + length text ≤ length out → length (written at text out) ≡ length out
written_length at text out fits = simp (length-append, length-take, length-drop) (omega arith)

-- a text after another
pub written_after : (at : ℕ) (a b out : List ℕ) → at ≤ length out → written (at + length a) b (written at a out) ≡ written at (a ++ b) out
written_after at a b out l =
    let front = take at out ++ a in
    let rest = drop (at + length a) out in
    let same : written at a out ≡ front ++ rest = sym (append_assoc (take at out) a rest) in
    let long : length front ≡ at + length a = length-append (take at out) a ∙ omega (arith, length-take-le at out l) in
    let far : at + length a + length b ≡ at + length (a ++ b) = omega (arith, length-append a b) in
    let end : drop (at + length a + length b) (written at a out) ≡ drop (at + length (a ++ b)) out =
    sym (drop-drop (length b) (at + length a) (written at a out))
    ∙ ap (λ (l : List ℕ). drop (length b) (drop (at + length a) l)) same
    ∙ ap (drop (length b)) (drop_at front rest (at + length a) long)
    ∙ drop-drop (length b) (at + length a) out
    ∙ ap (λ (n : ℕ). drop n out) far in
    ap (λ (l : List ℕ). take (at + length a) l ++ (b ++ drop (at + length a + length b) (written at a out))) same
    ∙ rw (take_at front rest (at + length a) long, end, append_assoc (take at out) a, append_assoc a b)

-- a text whose last byte is stored first
pub written_last : (at : ℕ) (a : List ℕ) (byte : ℕ) (out : List ℕ) → at + length a + 1 ≤ length out
    → written at a (set out (at + length a) byte) ≡ written at (a ++ (byte ∷ [])) out
written_last at a byte out fits =
    let place = at + length a in
    let rest : drop place (set out place byte) ≡ byte ∷ drop (suc place) out =
    ap (drop place) (set_split out place byte (omega arith))
    ∙ drop_at (take place out) (byte ∷ drop (suc place) out) place (length-take-le place out (omega arith)) in
    let far : suc place ≡ at + length (a ++ (byte ∷ [])) = omega (arith, length-append a (byte ∷ [])) in
    rw (take-set-le at out place byte (omega arith), rest)
    (ap (λ (l : List ℕ). take at out ++ l)
    (sym (append_snoc a byte (drop (suc place) out)) ∙ ap (λ (n : ℕ). a ++ (byte ∷ []) ++ drop n out) far))

-- nothing was put
pub put_none : (at : ℕ) (out : List ℕ) → Put at [] out at out
put_none at out = record { ends = sym (add-zero at); leaves = sym (written_none at out) }

-- a text that was put, written in another way
pub put_as : {at place : ℕ} {a b out after : List ℕ} → a ≡ b → Put at a out place after → Put at b out place after
put_as {at} {place} {a} {b} {out} {after} e p = subst (λ (text : List ℕ). Put at text out place after) e p

-- a text put after another is put with it
pub put_then : {at place end : ℕ} {a b out between after : List ℕ} → at ≤ length out → Put at a out place between
    → Put place b between end after → Put at (a ++ b) out end after
put_then {at} {place} {end} {a} {b} {out} {between} {after} l p q =
    record {
      ends = q.ends ∙ omega (arith, p.ends, length-append a b);
      leaves =
          q.leaves
          ∙ ap₂ (λ (n : ℕ) (l : List ℕ). written n b l) p.ends p.leaves
          ∙ written_after at a b out l;
    }

-- a buffer that a text was put in is as long
pub put_length : {at place : ℕ} {text out after : List ℕ} → at + length text ≤ length out → Put at text out place after
    → length after ≡ length out
put_length {at} {place} {text} {out} fits p = ap length p.leaves ∙ written_length at text out fits

-- to put the rest from here on comes to putting the whole text from the start: the invariant of a loop that puts part after part
pub record Left (at : ℕ) (all out₀ : List ℕ) (place : ℕ) (rest out : List ℕ) : Type 0 where
  pub ends : place + length rest ≡ at + length all
  pub leaves : written place rest out ≡ written at all out₀

-- nothing yet, one part more, and all of it
pub left_next : {at place next : ℕ} {all out₀ a b out after : List ℕ} → place ≤ length out → Left at all out₀ place (a ++ b) out
    → Put place a out next after → Left at all out₀ next b after
left_next {at} {place} {next} {all} {out₀} {a} {b} {out} {after} l p q =
    record {
      ends = omega (arith, p.ends, q.ends, length-append a b);
      leaves = ap₂ (λ (n : ℕ) (l : List ℕ). written n b l) q.ends q.leaves ∙ written_after place a b out l ∙ p.leaves;
    }

pub left_none : {at place : ℕ} {all out₀ out : List ℕ} → Left at all out₀ place [] out → Put at all out₀ place out
left_none {at} {place} {all} {out₀} {out} p =
    record { ends = sym (add-zero place) ∙ p.ends; leaves = sym (written_none place out) ∙ p.leaves }

-- ---- at the front of a buffer

-- what is put at the front is printed there
pub print_put : {roomy : Bool} (text : List ℕ) {n : ℕ} (out : List ℕ) {after : List ℕ} → roomy ≡ true → Put 0 text out n after
    → printing (Some n) after ≡ printed_in roomy text out
print_put text out e p = yes _ e (ap₂ (λ (k : ℕ) (l : List ℕ). printing (Some k) l) (p.ends ∙ zero-add (length text)) (p.leaves ∙ written_over text out))

-- and else nothing
pub print_none : {roomy : Bool} (text out : List ℕ) → roomy ≡ false → printing None out ≡ printed_in roomy text out
print_none text out e = no _ e refl
