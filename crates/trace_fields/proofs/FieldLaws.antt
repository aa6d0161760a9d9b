-- When a byte can go on a field, and when there is room for its value: the code's tests against the definitions'. Assumes nothing.
use Prim.Native.Nat.{ℕ, ◌+◌, ◌-◌, ◌*◌, ◌^◌, ◌≤◌, ◌<◌}
use mathlib.Core.Path.{◌≡◌, refl}
use mathlib.Core.Bool.{Bool, true, false, ◌&&◌, ◌||◌, not}
use lib.ListN.{length}
use lib.Dec.{eqb, leb, ltb}
use borrow.Author.Tests.{ltb-false, leb-false, not-false, le-leb, lt-leb}
use Rattle.table_rows.proofs.PickLaws.{yes, no}
use Rattle.trace_fields.specs.declared.Line.{Line}
use Rattle.trace_fields.specs.Fields.{spoilt, more, cannot_follow, Reading, cannot_end}

-- none of two tests held
pub or_no_left : (a b : Bool) → a || b ≡ false → a ≡ false
or_no_left true b e = e
or_no_left false b e = refl

pub or_no_right : (a b : Bool) → a || b ≡ false → b ≡ false
or_no_right true b e = cc
or_no_right false b e = e

-- ---- a byte that can go on a field

module _ (low high : ℕ) (l : Line) (byte : ℕ) (can : cannot_follow low high l byte ≡ false) where
  -- it stands in a line that is in form
  pub follows_good : l.bad ≡ false
  follows_good =
      or_no_left l.bad (l.begun && eqb l.value 0)
      (or_no_left (l.bad || l.begun && eqb l.value 0) (ltb byte low)
      (or_no_left (l.bad || l.begun && eqb l.value 0 || ltb byte low) (ltb high byte) can))

  -- and not behind a lone 0
  pub follows_no_zero : l.begun && eqb l.value 0 ≡ false
  follows_no_zero =
      or_no_right l.bad (l.begun && eqb l.value 0)
      (or_no_left (l.bad || l.begun && eqb l.value 0) (ltb byte low)
      (or_no_left (l.bad || l.begun && eqb l.value 0 || ltb byte low) (ltb high byte) can))

  -- it is a digit
  pub follows_low : low ≤ byte
  follows_low =
      ltb-false byte low
      (or_no_right (l.bad || l.begun && eqb l.value 0) (ltb byte low)
      (or_no_left (l.bad || l.begun && eqb l.value 0 || ltb byte low) (ltb high byte) can))

  pub follows_high : byte ≤ high
  follows_high = ltb-false high byte (or_no_right (l.bad || l.begun && eqb l.value 0 || ltb byte low) (ltb high byte) can)

-- ---- one byte more

module _ (base nought low high : ℕ) (l : Line) (byte : ℕ) (can : cannot_follow low high l byte ≡ false) where
  -- a value above the highest
  pub more_high : 2 ^ 64 ≤ l.value * base + (byte - nought) → spoilt ≡ more base nought low high l byte
  unfolding more
  more_high above = no _ can (yes _ (le-leb _ _ above) refl)

  -- and one that fits
  pub more_fits : {v : ℕ} → v < 2 ^ 64 → v ≡ l.value * base + (byte - nought)
      → record { count = l.count; value = v; begun = true; bad = false } ≡ more base nought low high l byte
  unfolding more
  more_fits fits e = rw e (no _ can (no _ (lt-leb _ _ (rw e at fits)) refl))

-- ---- a field that can end

module _ (x : Reading) (can : cannot_end x ≡ false) where
  both : x.line.bad || not x.line.begun ≡ false
  both = or_no_left (x.line.bad || not x.line.begun) (leb (length x.fields) x.line.count) can

  pub ends_good : x.line.bad ≡ false
  ends_good = or_no_left x.line.bad (not x.line.begun) both

  pub ends_begun : x.line.begun ≡ true
  ends_begun = not-false x.line.begun (or_no_right x.line.bad (not x.line.begun) both)

  pub ends_placed : x.line.count < length x.fields
  ends_placed =
      leb-false (length x.fields) x.line.count
      (or_no_right (x.line.bad || not x.line.begun) (leb (length x.fields) x.line.count) can)
