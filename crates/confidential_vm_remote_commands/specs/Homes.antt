-- What a broadcast needs of the home rows: facts of sound tables.
use Rattle.std.specs.Prelude.{ℕ, ◌*◌, ◌≤◌, ◌<◌, ◌≡◌, true, List, length}
use Rattle.confidential_hart.specs.Hart.{is_dummy}
use Rattle.hart_rows.specs.HartRows.{hart_words, hart_at}
use Rattle.monitor_requests.specs.Tables.{max_hardware_harts}

-- a dummy in home row h has the number of a hardware hart
abbrev pub Numbered : List ℕ → ℕ → Type 0
Numbered home h = is_dummy (hart_at home h) ≡ true → (hart_at home h).id < max_hardware_harts

-- there are n home rows, and each dummy in them has the number of a hardware hart
pub record Homes (n : ℕ) (home : List ℕ) : Type 0 where
  pub long : n * hart_words ≤ length home
  pub numbered : (h : ℕ) → h < n → Numbered home h
