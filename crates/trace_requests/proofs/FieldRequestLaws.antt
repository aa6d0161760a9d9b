-- Fields are read as the request whose fields they are. Assumes nothing.
use Prim.Native.Nat.{ℕ, ◌≤◌}
use mathlib.Core.Path.{◌≡◌, refl, sym, ap, ap₂, subst, ◌∙◌}
use mathlib.Core.List.{List, [], ◌∷◌}
use native.Mathlib.Omega.{arith}
use lib.ListN.{length, take}
use lib.Dec.{eqb}
use borrow.Author.Tests.{eqb-true}
use Rattle.table_rows.specs.Choice.{pick}
use Rattle.table_rows.specs.Rows.{words}
use Rattle.table_rows.proofs.PickLaws.{by_pick, yes, no, tests}
use Rattle.table_rows.proofs.RowLaws.{words_all}
use Rattle.monitor_requests.specs.declared.Request.TheVariants.{Steal, Return, Start, Suspend, Stop, Wake, Off, Await, Status, Home, Send, Allow, Add, Remove, Defined, Broadcast, Process, Resume}
use Rattle.trace_text.specs.Text.{bytes, digits, word}
use Rattle.trace_fields.specs.Fields.{start, more, Reading, reading, closed, fed, read_on, counted, fields_in}
use Rattle.trace_fields.proofs.ReadLaws.{got}
use Rattle.trace_fields.proofs.SoundLaws.{counted_none, counted_some}
use Rattle.trace_requests.specs.declared.TraceLine.{TraceLine}
use Rattle.trace_requests.specs.declared.TraceLine.TheVariants.{SetUp, Ask}
use Rattle.std.specs.Prelude.{Option, Some, None}
use Rattle.trace_requests.specs.Lines.{spelling}
use Rattle.trace_requests.specs.FieldRequests.{key, fields_of, Tells, max_fields, first, of_none, of_one, of_two, of_three, of_four, of_seven, request_of}

-- ---- setup and each request

-- its fields give it, its word is spelled as its number says and is read to that number, and its line has few enough fields
pub record Fair (r : TraceLine) : Type 0 where
  pub given_back : request_of (fields_of r) ≡ Some r
  pub word_own : word (key r) ≡ bytes (spelling r).word
  pub word_read : (room : List ℕ) → read_on (reading start room) (bytes (spelling r).word) ≡ reading (got 0 (key r)) room
  pub few : length (fields_of r) ≤ max_fields

pub fair : (r : TraceLine) → Fair r
unfolding spelling digits pick more fed request_of
fair (SetUp s) = record { given_back = refl; word_own = refl; word_read = λ room. refl; few = omega arith }
fair (Ask (Steal hart on)) = record { given_back = refl; word_own = refl; word_read = λ room. refl; few = omega arith }
fair (Ask (Return on)) = record { given_back = refl; word_own = refl; word_read = λ room. refl; few = omega arith }
fair (Ask (Start hart address opaque)) = record { given_back = refl; word_own = refl; word_read = λ room. refl; few = omega arith }
fair (Ask (Suspend on)) = record { given_back = refl; word_own = refl; word_read = λ room. refl; few = omega arith }
fair (Ask (Stop on)) = record { given_back = refl; word_own = refl; word_read = λ room. refl; few = omega arith }
fair (Ask (Wake on address opaque)) = record { given_back = refl; word_own = refl; word_read = λ room. refl; few = omega arith }
fair (Ask (Off on)) = record { given_back = refl; word_own = refl; word_read = λ room. refl; few = omega arith }
fair (Ask (Status hart)) = record { given_back = refl; word_own = refl; word_read = λ room. refl; few = omega arith }
fair (Ask (Await on kind x y)) = record { given_back = refl; word_own = refl; word_read = λ room. refl; few = omega arith }
fair (Ask (Process on)) = record { given_back = refl; word_own = refl; word_read = λ room. refl; few = omega arith }
fair (Ask (Resume on)) = record { given_back = refl; word_own = refl; word_read = λ room. refl; few = omega arith }
fair (Ask (Broadcast on c)) = record { given_back = refl; word_own = refl; word_read = λ room. refl; few = omega arith }
fair (Ask (Send sender c)) = record { given_back = refl; word_own = refl; word_read = λ room. refl; few = omega arith }
fair (Ask (Allow bits)) = record { given_back = refl; word_own = refl; word_read = λ room. refl; few = omega arith }
fair (Ask (Add base size)) = record { given_back = refl; word_own = refl; word_read = λ room. refl; few = omega arith }
fair (Ask (Remove base size)) = record { given_back = refl; word_own = refl; word_read = λ room. refl; few = omega arith }
fair (Ask (Defined base size)) = record { given_back = refl; word_own = refl; word_read = λ room. refl; few = omega arith }
fair (Ask Home) = record { given_back = refl; word_own = refl; word_read = λ room. refl; few = omega arith }

-- ---- fields that give a request are its fields

abbrev Told : List ℕ → Option TraceLine → Type 0
Told xs p = (r : TraceLine) → p ≡ Some r → xs ≡ fields_of r

told_bad : (xs : List ℕ) → Told xs None
told_bad xs r e = let z : ◌≡◌ {A = ℕ} 0 1 = cc in absurd (omega arith)

told_here : (xs : List ℕ) (r : TraceLine) → xs ≡ fields_of r → Told xs (Some r)
told_here xs r h s e = let same : r ≡ s = cc in h ∙ ap fields_of same

-- requests that all have these numbers
abbrev Alike : List ℕ → List TraceLine → Type 0
Alike ns [] = Unit {0}
Alike ns (r ∷ rs) = (ns ≡ (spelling r).numbers) × Alike ns rs

told_first : (w : ℕ) (ns : List ℕ) (rs : List TraceLine) → Alike ns rs → Told (w ∷ ns) (first w rs)
told_first w ns [] alike = told_bad (w ∷ ns)
told_first w ns (r ∷ rs) alike =
    by_pick (Told (w ∷ ns)) (eqb w (key r)) (Some r) (first w rs)
    (λ e. told_here (w ∷ ns) r (ap₂ (λ (k : ℕ) (l : List ℕ). k ∷ l) (eqb-true w (key r) e) alike.0))
    (λ e. told_first w ns rs alike.1)

told_all : (xs : List ℕ) → Told xs (request_of xs)
unfolding request_of spelling
told_all [] = told_bad []
told_all (w ∷ []) = told_first w [] of_none (refl, tt)
told_all (w ∷ a ∷ []) = told_first w (a ∷ []) (of_one a) (refl, (refl, (refl, (refl, (refl, (refl, (refl, (refl, tt))))))))
told_all (w ∷ a ∷ b ∷ []) = told_first w (a ∷ b ∷ []) (of_two a b) (refl, (refl, (refl, (refl, tt))))
told_all (w ∷ a ∷ b ∷ c ∷ []) = told_first w (a ∷ b ∷ c ∷ []) (of_three a b c) (refl, (refl, tt))
told_all (w ∷ a ∷ b ∷ c ∷ d ∷ []) = told_first w (a ∷ b ∷ c ∷ d ∷ []) (of_four a b c d) (refl, tt)
told_all (w ∷ a ∷ b ∷ c ∷ d ∷ e ∷ []) = told_bad (w ∷ a ∷ b ∷ c ∷ d ∷ e ∷ [])
told_all (w ∷ a ∷ b ∷ c ∷ d ∷ e ∷ f ∷ []) = told_bad (w ∷ a ∷ b ∷ c ∷ d ∷ e ∷ f ∷ [])
told_all (w ∷ a ∷ b ∷ c ∷ d ∷ e ∷ f ∷ g ∷ []) =
    told_first w (a ∷ b ∷ c ∷ d ∷ e ∷ f ∷ g ∷ []) (of_seven a b c d e f g) (refl, (refl, (refl, tt)))
told_all (w ∷ a ∷ b ∷ c ∷ d ∷ e ∷ f ∷ g ∷ h ∷ more) = told_bad (w ∷ a ∷ b ∷ c ∷ d ∷ e ∷ f ∷ g ∷ h ∷ more)

-- both
pub tells : (xs : List ℕ) → Tells xs (request_of xs)
tells xs r = (told_all xs r, λ e. ap request_of e ∙ (fair r).given_back)

-- of a part of the room where fields stand
pub tells_part : {n : ℕ} {fields : List ℕ} {p : Option TraceLine} (x : Reading) → Some n ≡ counted (closed x) → fields ≡ (closed x).fields
    → p ≡ request_of (take n fields) → Tells (fields_in x) p
tells_part {n} {fields} {p} x count room e =
    subst (Tells (fields_in x))
    (sym (e ∙ ap₂ (λ (k : ℕ) (l : List ℕ). request_of (take k l)) (counted_some x count) room)) (tells (fields_in x))

-- of a line in no form
pub tells_none : (x : Reading) → None ≡ counted (closed x) → Tells (fields_in x) None
unfolding request_of
tells_none x e = subst (λ (xs : List ℕ). Tells xs None) (sym (counted_none x e)) (tells [])

-- ---- the code's choice: by the number of fields, then by the word

-- so many fields are those words
pub by_count : {p : Option TraceLine} (n : ℕ) (xs : List ℕ) → length xs ≡ n → p ≡ request_of (words n xs 0) → p ≡ request_of xs
by_count n xs e q = q ∙ ap request_of (words_all n xs e)

-- no request has another number of fields
pub other_count : (xs : List ℕ) → (length xs ≡ 1 → ⊥) → (length xs ≡ 2 → ⊥) → (length xs ≡ 3 → ⊥) → (length xs ≡ 4 → ⊥)
    → (length xs ≡ 5 → ⊥) → (length xs ≡ 8 → ⊥) → None ≡ request_of xs
unfolding request_of
other_count [] p q r s t u = refl
other_count (w ∷ []) p q r s t u = absurd (p refl)
other_count (w ∷ a ∷ []) p q r s t u = absurd (q refl)
other_count (w ∷ a ∷ b ∷ []) p q r s t u = absurd (r refl)
other_count (w ∷ a ∷ b ∷ c ∷ []) p q r s t u = absurd (s refl)
other_count (w ∷ a ∷ b ∷ c ∷ d ∷ []) p q r s t u = absurd (t refl)
other_count (w ∷ a ∷ b ∷ c ∷ d ∷ e ∷ []) p q r s t u = refl
other_count (w ∷ a ∷ b ∷ c ∷ d ∷ e ∷ f ∷ []) p q r s t u = refl
other_count (w ∷ a ∷ b ∷ c ∷ d ∷ e ∷ f ∷ g ∷ []) p q r s t u = absurd (u refl)
other_count (w ∷ a ∷ b ∷ c ∷ d ∷ e ∷ f ∷ g ∷ h ∷ more) p q r s t u = refl

-- a chain of tests of the word, passed or held
pub ruleset by_word_lem = (yes, no, tests)
