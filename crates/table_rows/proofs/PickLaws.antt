-- What a choice by a test gives. At a `return`, one `no` for each test that was passed on the way and `yes` for the one that held turn the
-- code's answer into the definition's; `search tests` closes a test that compares numbers. Assumes nothing.
use mathlib.Core.Path.{◌≡◌, refl}
use mathlib.Core.Bool.{Bool, true, false, not, ◌&&◌}
use borrow.Author.Tests.{lt-ltb, le-ltb, le-leb, lt-leb, eq-eqb, ne_eqb}
use Rattle.table_rows.specs.Choice.{pick, unless}

pub yes : {A : Type 0} {b : Bool} {r x : A} (y : A) → b ≡ true → r ≡ x → r ≡ pick b x y
unfolding pick
yes y e q = rw e q

pub no : {A : Type 0} {b : Bool} {r y : A} (x : A) → b ≡ false → r ≡ y → r ≡ pick b x y
unfolding pick
no x e q = rw e q

-- what holds of each that may be picked holds of what is picked
pub by_pick : {A : Type 0} (P : A → Type 0) (b : Bool) (x y : A) → (b ≡ true → P x) → (b ≡ false → P y) → P (pick b x y)
unfolding pick
by_pick P true x y f g = f refl
by_pick P false x y f g = g refl

-- the two cases of a test
pub by_test : {G : Type 0} (b : Bool) → (b ≡ true → G) → (b ≡ false → G) → G
by_test true f g = f refl
by_test false f g = g refl

-- a chain of tests that was passed: its first test, and the rest
pub unless_no : (b c : Bool) → unless b c ≡ true → b ≡ false
unfolding pick
unless_no true c e = cc
unless_no false c e = refl

pub unless_rest : (b c : Bool) → unless b c ≡ true → c ≡ true
unfolding pick
unless_rest true c e = cc
unless_rest false c e = e

pub and_left : (a b : Bool) → a && b ≡ true → a ≡ true
and_left true b e = refl
and_left false b e = e

pub and_right : (a b : Bool) → a && b ≡ true → b ≡ true
and_right true b e = e
and_right false b e = cc

pub and_both : {a b : Bool} → a ≡ true → b ≡ true → a && b ≡ true
and_both p q = rw (p, q)

pub not_yes : (b : Bool) → b ≡ false → not b ≡ true
not_yes b e = rw e

pub not_no : (b : Bool) → b ≡ true → not b ≡ false
not_no b e = rw e

pub ruleset tests = (lt-ltb, le-ltb, le-leb, lt-leb, eq-eqb, ne_eqb, not_yes, not_no)
