-- The bits of a number, by plain arithmetic.
use Rattle.std.specs.Prelude.{ℕ, ◌+◌, ◌-◌, ◌*◌, ◌/◌, ◌%◌, ◌^◌}

-- bit d of x: 0 or 1
abbrev pub bit : ℕ → ℕ → ℕ
bit d x = x / 2 ^ d % 2

-- x with bit d 0
unfoldable pub clear_bit : ℕ → ℕ → ℕ
clear_bit d x = x - bit d x * 2 ^ d

-- x with bit d 1
unfoldable pub set_bit : ℕ → ℕ → ℕ
set_bit d x = x + (1 - bit d x) * 2 ^ d
