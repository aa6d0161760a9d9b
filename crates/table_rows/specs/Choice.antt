-- A choice by a test, and a test of every or of some number below n.
use Rattle.std.specs.Prelude.{ℕ, zero, suc, Bool, true, false, ◌&&◌, not, List, length, get_or, eqb}

-- what `if b { return x; } y` answers
unfoldable pub pick : {A : Type 0} → Bool → A → A → A
pick true x y = x
pick false x y = y

-- what `if b { return false; } c` answers
abbrev pub unless : Bool → Bool → Bool
unless b c = pick b false c

-- f holds of each number below n
unfoldable pub every : (ℕ → Bool) → ℕ → Bool
every f zero = true
every f (suc n) = every f n && f n

-- f holds of some number below n: not every one fails it
abbrev pub exists : (ℕ → Bool) → ℕ → Bool
exists f n = not (every (λ i. not (f i)) n)

-- each word is 0
unfoldable pub all_zero : List ℕ → Bool
all_zero s = every (λ i. eqb (get_or s i 0) 0) (length s)
