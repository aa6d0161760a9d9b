-- The lifecycle's rule, over the five changes. Assumes nothing.
use Prim.Native.Nat.{ℕ, ◌≤◌, ◌<◌}
use mathlib.Core.Path.{◌≡◌, refl, sym}
use mathlib.Core.Logic.{◌≢◌}
use native.Mathlib.Omega.{arith}
use lib.Dec.{eqb}
use borrow.Author.Tests.{eq-eqb, ne_eqb}
use Rattle.table_rows.proofs.PickLaws.{yes, no, by_pick}
use Rattle.hart_lifecycle_state.specs.declared.HartLifecycleState.{HartLifecycleState}
use Rattle.hart_lifecycle_state.specs.declared.HartLifecycleState.TheVariants.{Started, Stopped, Suspended, PoweredOff}
use Rattle.hart_lifecycle_state.specs.declared.LifecycleChange.{LifecycleChange}
use Rattle.hart_lifecycle_state.specs.declared.LifecycleChange.TheVariants.{Start, Suspend, Stop, Wake, Off}
use Rattle.hart_lifecycle_state.specs.Lifecycle.{powered_off, Entry, becomes, refused, only, start, suspend, stop, wake, off, change_of}

-- what holds of each of the five changes holds of the change of each name
pub each_change : (P : (ℕ → Entry) → Type 0) → P start → P suspend → P stop → P wake → P off → (c : LifecycleChange) → P (change_of c)
each_change P a b d e f Start = a
each_change P a b d e f Suspend = b
each_change P a b d e f Stop = d
each_change P a b d e f Wake = e
each_change P a b d e f Off = f

-- a change from one state alone, at that state and at another
module _ (from to number : ℕ) (state : ℕ) where
  pub only_becomes : state ≡ from → only from to number state ≡ becomes to
  unfolding only
  only_becomes e = sym (yes (refused number) (eq-eqb state from e) refl)

  pub only_refused : state ≢ from → only from to number state ≡ refused number
  unfolding only
  only_refused ne = sym (no (becomes to) (ne_eqb state from ne) refl)

-- a state is one of four, and a change one of five
pub by_state : {G : Type 0} (s : HartLifecycleState) → (s ≡ Started → G) → (s ≡ Stopped → G) → (s ≡ Suspended → G) → (s ≡ PoweredOff → G) → G
by_state Started a b d e = a refl
by_state Stopped a b d e = b refl
by_state Suspended a b d e = d refl
by_state PoweredOff a b d e = e refl

pub by_change : {G : Type 0} (c : LifecycleChange) → (c ≡ Start → G) → (c ≡ Suspend → G) → (c ≡ Stop → G) → (c ≡ Wake → G) → (c ≡ Off → G) → G
by_change Start a b d e f = a refl
by_change Suspend a b d e f = b refl
by_change Stop a b d e f = d refl
by_change Wake a b d e f = e refl
by_change Off a b d e f = f refl

-- a new state is one of the four, and a refusal's number is past them, so the number tells which of the two it is
abbrev pub Told : Entry → Type 0
Told (becomes state) = state ≤ powered_off
Told (refused number) = powered_off < number

told_only : (from to refusal : ℕ) → to ≤ powered_off → powered_off < refusal → (state : ℕ) → Told (only from to refusal state)
unfolding only
told_only from to refusal l g state = by_pick Told (eqb state from) (becomes to) (refused refusal) (λ e. l) (λ e. g)

pub told : (c : LifecycleChange) (state : ℕ) → Told (change_of c state)
told =
    each_change (λ change. (state : ℕ) → Told (change state))
    (told_only _ _ _ (omega arith) (omega arith))
    (told_only _ _ _ (omega arith) (omega arith))
    (told_only _ _ _ (omega arith) (omega arith))
    (told_only _ _ _ (omega arith) (omega arith))
    (λ state. omega arith)
