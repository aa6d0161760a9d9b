-- Which answer it is, and what it can give. No other proof has a list of the answers. Assumes nothing.
use Rattle.std.proofs.Common.{Ok, Err, None, Some}
use Prim.Native.Nat.{ℕ}
use mathlib.Core.Path.{◌≡◌, refl, sym, ap}
use mathlib.Core.Logic.{◌≢◌}
use mathlib.Core.Bool.{Bool, true, false}
use mathlib.Core.List.{[], ◌∷◌}
use lib.ListN.{get_or}
use lib.Dec.{eqb}
use mir.Val.{bool_byte}
use Rattle.error.specs.declared.Error.{Error}
use Rattle.std.specs.Result.{is_ok}
use Rattle.error.specs.Error.{done, number_of, number_in}
use Rattle.error.proofs.NumberLaws.{number_refuses}
use Rattle.table_rows.specs.Choice.{pick}
use Rattle.monitor_requests.specs.declared.Answer.{Answer}
use Rattle.monitor_requests.specs.declared.Answer.TheVariants.{Done, Mask, State, Flag, Count, Run, PoweredOff, Operation}
use Rattle.monitor_requests.specs.declared.Word.TheVariants.{Run as RunWord, Off, Op}
use Rattle.monitor_requests.specs.Answers.{Answered, Given, gives, given}

-- ---- which it is

-- its place in the list of the answers
abbrev kind_of : Answered → ℕ
kind_of (Err e) = 0
kind_of (Ok Done) = 1
kind_of (Ok (Mask mask)) = 2
kind_of (Ok (State state)) = 3
kind_of (Ok (Flag flag)) = 4
kind_of (Ok (Count count)) = 5
kind_of (Ok Run) = 6
kind_of (Ok PoweredOff) = 7
kind_of (Ok (Operation kind x y)) = 8

-- it is a refusal
abbrev pub is_refused : Answered → Bool
is_refused a = eqb (kind_of a) 0

-- it is a mask
abbrev pub is_mask : Answered → Bool
is_mask a = eqb (kind_of a) 2

-- it is a count
abbrev pub is_count : Answered → Bool
is_count a = eqb (kind_of a) 5

-- the first of its details: of a mask its bits, of a count its number
abbrev pub first_in : Answered → ℕ
first_in a = get_or (given a).details 0 0

-- ---- one of them and the others

-- a mask, a count, or another
data Singled : Answered → Type 0 where
  a_mask : {mask : ℕ} → Singled (Ok (Mask mask))
  a_count : {count : ℕ} → Singled (Ok (Count count))
  another : {a : Answered} → is_mask a ≡ false → is_count a ≡ false → Singled a

singled : (a : Answered) → Singled a
singled (Err e) = another refl refl
singled (Ok Done) = another refl refl
singled (Ok (Mask mask)) = a_mask
singled (Ok (State state)) = another refl refl
singled (Ok (Flag flag)) = another refl refl
singled (Ok (Count count)) = a_count
singled (Ok Run) = another refl refl
singled (Ok PoweredOff) = another refl refl
singled (Ok (Operation kind x y)) = another refl refl

-- what is equal to no mask is none, and what is equal to no count is none
mask_none : {a : Answered} → Singled a → ((mask : ℕ) → a ≢ Ok (Mask mask)) → is_mask a ≡ false
mask_none (a_mask {mask}) ne = absurd (ne mask refl)
mask_none a_count ne = refl
mask_none (another m c) ne = m

count_none : {a : Answered} → Singled a → ((count : ℕ) → a ≢ Ok (Count count)) → is_count a ≡ false
count_none a_mask ne = refl
count_none (a_count {count}) ne = absurd (ne count refl)
count_none (another m c) ne = c

pub no_mask : (a : Answered) → ((mask : ℕ) → a ≢ Ok (Mask mask)) → is_mask a ≡ false
no_mask a ne = mask_none (singled a) ne

pub no_count : (a : Answered) → ((count : ℕ) → a ≢ Ok (Count count)) → is_count a ≡ false
no_count a ne = count_none (singled a) ne

-- an answer is a refusal, or its number is 0
pub by_refusal : (P : Answered → Type 0) → ((e : Error) → P (Err e)) → ((a : Answered) → (given a).number ≡ done → P a) → (a : Answered) → P a
by_refusal P refusal other (Err e) = refusal e
by_refusal P refusal other (Ok Done) = other (Ok Done) refl
by_refusal P refusal other (Ok (Mask mask)) = other (Ok (Mask mask)) refl
by_refusal P refusal other (Ok (State state)) = other (Ok (State state)) refl
by_refusal P refusal other (Ok (Flag flag)) = other (Ok (Flag flag)) refl
by_refusal P refusal other (Ok (Count count)) = other (Ok (Count count)) refl
by_refusal P refusal other (Ok Run) = other (Ok Run) refl
by_refusal P refusal other (Ok PoweredOff) = other (Ok PoweredOff) refl
by_refusal P refusal other (Ok (Operation kind x y)) = other (Ok (Operation kind x y)) refl

-- ---- what it gives

-- a number alone, 0 with a value, 0 with a word, or 0 with op and three numbers
pub by_given : (P : Given → Type 0) → ((n : ℕ) → P (gives n None [])) → ((value : ℕ) → P (gives done None (value ∷ []))) → P (gives done (Some RunWord) [])
    → P (gives done (Some Off) []) → ((kind x y : ℕ) → P (gives done (Some Op) (kind ∷ x ∷ y ∷ [])))
    → (a : Answered) → P (given a)
by_given P alone value runs off op (Err e) = alone (number_of e)
by_given P alone value runs off op (Ok Done) = alone done
by_given P alone value runs off op (Ok (Mask mask)) = value mask
by_given P alone value runs off op (Ok (State state)) = value state
by_given P alone value runs off op (Ok (Flag flag)) = value (pick flag 1 0)
by_given P alone value runs off op (Ok (Count count)) = value count
by_given P alone value runs off op (Ok Run) = runs
by_given P alone value runs off op (Ok PoweredOff) = off
by_given P alone value runs off op (Ok (Operation kind x y)) = op kind x y

-- a truth as a number
pub flag_value : (flag : Bool) → bool_byte flag ≡ pick flag 1 0
unfolding pick
flag_value true = refl
flag_value false = refl

-- ---- its number

-- what is answered has number 0
number_ok : (a : Answer) → done ≡ (given (Ok a)).number
number_ok Done = refl
number_ok (Mask mask) = refl
number_ok (State state) = refl
number_ok (Flag flag) = refl
number_ok (Count count) = refl
number_ok Run = refl
number_ok PoweredOff = refl
number_ok (Operation kind x y) = refl

-- the number that is given is that of the answer or the error
pub number_given : (a : Answered) → number_in a ≡ (given a).number
number_given (Err e) = refl
number_given (Ok a) = number_ok a

-- and 0 is given where there is an answer
pub ok_number : (a : Answered) → is_ok a ≡ eqb (given a).number done
ok_number (Err e) = sym (number_refuses e)
ok_number (Ok a) = ap (λ (n : ℕ). eqb n done) (number_ok a)
