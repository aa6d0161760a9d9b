-- A part of a slice, as the checker has it, against rows: `take n (drop a xs)` of a part that is read, and `put_mid a n xs ys` of the whole
-- once a part that was lent to be changed is back. Assumes nothing.
use mathlib.Core.Path.{◌≡◌, sym, ap, ◌∙◌}
use mathlib.Core.List.{List, ◌++◌, append-nil}
use Prim.Native.Nat.{ℕ, ◌+◌, ◌-◌, ◌*◌, ◌≤◌}
use native.Mathlib.Nat.{add-sub_cancel_left}
use native.Mathlib.Omega.{arith}
use lib.ListN.{length, take, drop, length-drop, drop_of_length-le}
use lib.Seq.{take_all, length-take-le, drop-drop}
use borrow.Rule.Slice.PartMut.{put_mid}
use Rattle.table_rows.specs.Rows.{row, put}

-- `&xs[i * w..i * w + w]` is row i
pub part_row : (w : ℕ) (xs : List ℕ) (i : ℕ) → take (i * w + w - i * w) (drop (i * w) xs) ≡ row w xs i
unfolding row
part_row w xs i = rw (add-sub_cancel_left (i * w) w)

pub part_put : (w : ℕ) (xs : List ℕ) (i : ℕ) (ys : List ℕ) → put_mid (i * w) (i * w + w - i * w) xs ys ≡ put w xs i ys
unfolding put
part_put w xs i ys = rw (add-sub_cancel_left (i * w) w, drop-drop w (i * w) xs)

-- `&xs[a..]` is the rest from a on
pub rest_part : (a : ℕ) (xs : List ℕ) → take (length xs - a) (drop a xs) ≡ drop a xs
rest_part a xs = take_all (length xs - a) (drop a xs) (simp length-drop (omega arith))

pub rest_put : (a : ℕ) (xs ys : List ℕ) → put_mid a (length xs - a) xs ys ≡ take a xs ++ ys
rest_put a xs ys =
    ap (λ (r : List ℕ). take a xs ++ (ys ++ r)) (drop_of_length-le (drop a xs) {i = length xs - a} (simp length-drop (omega arith)))
    ∙ ap (λ (r : List ℕ). take a xs ++ r) (append-nil ys)

-- `&xs[..a]` is as long as it says
pub front_length : (a : ℕ) (xs : List ℕ) → a ≤ length xs → a ≡ length (take a xs)
front_length a xs fits = sym (length-take-le a xs fits)
