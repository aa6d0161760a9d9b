-- A queue's commands as parts of its row. Assumes nothing.
use mathlib.Core.Path.{◌≡◌}
use mathlib.Core.List.{List, [], ◌∷◌}
use Prim.Native.Nat.{ℕ, ◌+◌, ◌-◌, ◌*◌, ◌<◌}
use native.Mathlib.Nat.{add-sub_cancel_left}
use native.Mathlib.Numerals.{one-add}
use native.Mathlib.Omega.{arith}
use lib.ListN.{length, set}
use lib.Seq.{drop-drop}
use borrow.Rule.Slice.PartMut.{put_mid}
use Rattle.table_rows.specs.Rows.{put}
use Rattle.remote_commands.specs.Queue.{places}

-- what comes back of a row past the count, `&queue[1 + i * w..1 + i * w + w]`, that was lent to be changed, and then the count
pub part_push : (w : ℕ) (q : List ℕ) (i : ℕ) (ys : List ℕ) (v : ℕ) → 0 < length q
    → set (put_mid (1 + i * w) (1 + i * w + w - (1 + i * w)) q ys) 0 v ≡ v ∷ put w (places q) i ys
unfolding put
part_push w [] i ys v l = absurd (omega arith)
part_push w (x ∷ xs) i ys v l = rw (add-sub_cancel_left (1 + i * w) w, one-add (i * w), drop-drop w (i * w) xs)
