-- What a C function of an entry that does commands gives, from what its entry gives. Assumes nothing.
use Prim.Native.Nat.{ℕ, ◌-◌, ◌≤◌}
use mathlib.Core.Path.{◌≡◌, ap, ◌∙◌}
use mathlib.Core.List.{List, [], ◌∷◌}
use native.Mathlib.Omega.{arith}
use lib.ListN.{length, take, drop, set}
use borrow.Rule.Slice.PartMut.{put_mid}
use Rattle.table_rows.proofs.PartLaws.{rest_part, rest_put}
use Rattle.monitor_requests.specs.declared.Reply.{Reply}
use Rattle.monitor_requests.specs.Requests.{Outcome, reply_in}
use Rattle.export_values.specs.Exports.{Written, written, told}
use Rattle.monitor_exports.specs.Replies.{reply_value_words, reply_told, reply_exported, reply_value_in}

-- its number, and its values in the words, where o is the definition's
pub reply_value_told :
    {o p : Outcome} {n : ℕ} {w : List ℕ} (words : List ℕ)
    → o ≡ p
    → written n w ≡ reply_told (reply_in o) words
    → reply_exported n w o.after o.effects ≡ reply_value_in p words
reply_value_told {o} words e q =
    ap (λ (x : Written). reply_exported x.number x.value o.after o.effects) q
    ∙ ap (λ (x : Outcome). reply_value_in x words) e

-- the answer's values in the words after the first, and how many effect records were written in the first
pub count_before :
    (a : Reply) (words : List ℕ) {n : ℕ} {rest : List ℕ}
    → reply_value_words ≤ length words
    → written n rest ≡ told a.answer (take (length words - 1) (drop 1 words))
    → written n (set (put_mid 1 (length words - 1) words rest) 0 a.did) ≡ reply_told a words
count_before a [] l q = absurd (omega arith)
count_before a (x ∷ xs) {n} {rest} l q =
    ap (λ (ys : List ℕ). written n (set ys 0 a.did)) (rest_put 1 (x ∷ xs) rest)
    ∙ ap (λ (w : Written). written w.number (a.did ∷ w.value)) (q ∙ ap (told a.answer) (rest_part 1 (x ∷ xs)))
