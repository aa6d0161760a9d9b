-- Where a real hart stands.
use Rattle.std.specs.Prelude.{ℕ, Bool, false, eqb}

-- a hart stands at home, or on hardware hart k
pub data Standing : Type 0 where
  at_home : Standing
  on_hardware : ℕ → Standing

-- it stands on hardware hart k
abbrev pub is_on : ℕ → Standing → Bool
is_on k at_home = false
is_on k (on_hardware j) = eqb j k
