-- What a transition gives, case by case, and what it keeps. Assumes nothing.
use Prim.Native.Nat.{ℕ, ◌≤◌, ◌<◌}
use mathlib.Core.Path.{◌≡◌, refl, sym}
use mathlib.Core.Logic.{◌≢◌}
use mathlib.Core.Bool.{Bool, true, false, not}
use mathlib.Core.List.{List}
use native.Mathlib.Omega.{arith}
use lib.ListN.{length}
use borrow.Author.Tests.{eqb-false}
use Rattle.std.specs.Prelude.{Result, Ok, Err}
use Rattle.error.specs.declared.Error.{Error}
use Rattle.error.specs.Error.{number_of, done, tables_not_sound}
use Rattle.table_rows.specs.Choice.{pick}
use Rattle.confidential_hart.specs.declared.ConfidentialHart.{ConfidentialHart}
use Rattle.confidential_hart.specs.Hart.{no_vm, is_dummy, well_formed}
use Rattle.hart_lifecycle_state.specs.declared.HartLifecycleState.{HartLifecycleState}
use Rattle.hart_lifecycle_state.specs.Lifecycle.{state_number, entry_of, powered_off, Entry, becomes, refused, entry_number}
use Rattle.confidential_hart.specs.Transition.{Transition, turned, refusal, moved, moves, applied, transition}
use Rattle.confidential_hart.proofs.HartLaws.{WellFormed, formed_facts, facts_formed}
use Rattle.hart_lifecycle_state.proofs.LifecycleLaws.{Told}

-- ---- the four outcomes

module _ (h : ConfidentialHart) (P : (List ℕ → Transition) → Type 0) where
  applied_as : (e : Entry) → ((n : ℕ) → e ≡ refused n → P (λ g. refusal n h)) → ((s : ℕ) → e ≡ becomes s → P (λ g. moves s g h))
      → P (λ g. applied e g h)
  unfolding applied
  applied_as (becomes state) f k = k state refl
  applied_as (refused number) f k = f number refl

  checked_as : (a b : Bool) (x y : Transition) (z : List ℕ → Transition) → (a ≡ false → P (λ g. x))
      → (a ≡ true → b ≡ true → P (λ g. y)) → (a ≡ true → b ≡ false → P z) → P (λ g. pick (not a) x (pick b y (z g)))
  unfolding pick
  checked_as false b x y z m d t = m refl
  checked_as true true x y z m d t = d refl refl
  checked_as true false x y z m d t = t refl refl

  -- what holds of each outcome, whatever registers a change leaves, holds of the transition
  pub by_outcome : (change : ℕ → Entry) (idle : ℕ) → (well_formed h ≡ false → P (λ g. refusal tables_not_sound h))
      → (well_formed h ≡ true → is_dummy h ≡ true → P (λ g. refusal idle h))
      → (well_formed h ≡ true → is_dummy h ≡ false → (n : ℕ) → change h.lifecycle ≡ refused n → P (λ g. refusal n h))
      → (well_formed h ≡ true → is_dummy h ≡ false → (s : ℕ) → change h.lifecycle ≡ becomes s → P (λ g. moves s g h))
      → P (λ g. transition change idle g h)
  unfolding transition
  by_outcome change idle m d r b =
      checked_as (well_formed h) (is_dummy h) (refusal tables_not_sound h) (refusal idle h) (λ g. applied (change h.lifecycle) g h) m d
      (λ w k. applied_as (change h.lifecycle) (r w k) (b w k))

-- ---- each outcome, where its case is known

module _ (change : ℕ → Entry) (idle : ℕ) (g : List ℕ) (h : ConfidentialHart) where
  pub malformed_is : well_formed h ≡ false → transition change idle g h ≡ refusal tables_not_sound h
  unfolding transition pick
  malformed_is w = rw w

  module _ (w : well_formed h ≡ true) where
    pub dummy_is : is_dummy h ≡ true → transition change idle g h ≡ refusal idle h
    unfolding transition pick
    dummy_is d = rw (w, d)

    pub refused_is : is_dummy h ≡ false → (n : ℕ) → change h.lifecycle ≡ refused n → transition change idle g h ≡ refusal n h
    unfolding transition pick applied
    refused_is d n e = rw (w, d, e)

    pub moves_is : is_dummy h ≡ false → (s : ℕ) → change h.lifecycle ≡ becomes s → transition change idle g h ≡ moves s g h
    unfolding transition pick applied
    moves_is d s e = rw (w, d, e)

    -- where the state that the change leads to is known as a result
    pub turned_is : is_dummy h ≡ false → (r : Result HartLifecycleState Error) → entry_of r ≡ change h.lifecycle → turned g h r ≡ transition change idle g h
    turned_is d (Ok state) e = sym (moves_is d (state_number state) (sym e))
    turned_is d (Err error) e = sym (refused_is d (number_of error) (sym e))

-- ---- what a transition keeps, and when it is done

-- the parts of a record that no change of the lifecycle touches
pub record Kept (h k : ConfidentialHart) : Type 0 where
  pub vm_kept : k.vm ≡ h.vm
  pub id_kept : k.id ≡ h.id
  pub operation_kept : k.operation ≡ h.operation
  pub x_kept : k.x ≡ h.x
  pub y_kept : k.y ≡ h.y

moved_keeps : (h : ConfidentialHart) (s : ℕ) (g : List ℕ) → Kept h (moved s g h)
moved_keeps h s g = record { vm_kept = refl; id_kept = refl; operation_kept = refl; x_kept = refl; y_kept = refl }

-- a real hart stays well formed in any of the four states, with any registers
moved_formed : (h : ConfidentialHart) (s : ℕ) (g : List ℕ) → well_formed h ≡ true → is_dummy h ≡ false → s ≤ powered_off
    → well_formed (moved s g h) ≡ true
moved_formed h s g w d l =
    let f : WellFormed h = formed_facts h w in
    let real : h.vm ≢ no_vm = eqb-false h.vm no_vm d in
    facts_formed (moved s g h)
    (record {
      vm_known = f.vm_known;
      state_known = l;
      operation_known = f.operation_known;
      x_absent = f.x_absent;
      y_absent = f.y_absent;
      dummy_started = λ e. absurd (real e);
      dummy_waits_not = λ e. absurd (real e);
      dummy_blank = λ e. absurd (real e);
    })

module _ (change : ℕ → Entry) (idle : ℕ) (h : ConfidentialHart) where
  pub transition_keeps : (g : List ℕ) → Kept h (transition change idle g h).hart
  transition_keeps =
      by_outcome h (λ t. (g : List ℕ) → Kept h (t g).hart) change idle
      (λ w g. moved_keeps h h.lifecycle h.registers)
      (λ w d g. moved_keeps h h.lifecycle h.registers)
      (λ w d n e g. moved_keeps h h.lifecycle h.registers)
      (λ w d s e g. moved_keeps h s g)

  -- the record has as many registers as before, where the change leaves as many
  pub transition_length : (g : List ℕ) → length g ≡ length h.registers → length (transition change idle g h).hart.registers ≡ length h.registers
  transition_length =
      by_outcome h (λ t. (g : List ℕ) → length g ≡ length h.registers → length (t g).hart.registers ≡ length h.registers) change idle
      (λ w g l. refl)
      (λ w d g l. refl)
      (λ w d n e g l. refl)
      (λ w d s e g l. l)

  -- a refusal gives the record back as it came
  pub refusal_keeps : (g : List ℕ) → (transition change idle g h).number ≢ done → (transition change idle g h).hart ≡ h
  refusal_keeps =
      by_outcome h (λ t. (g : List ℕ) → (t g).number ≢ done → (t g).hart ≡ h) change idle
      (λ w g ne. refl)
      (λ w d g ne. refl)
      (λ w d n e g ne. refl)
      (λ w d s e g ne. absurd (ne refl))

  module _ (t : Told (change h.lifecycle)) where
    pub transition_formed : (g : List ℕ) → well_formed h ≡ true → well_formed (transition change idle g h).hart ≡ true
    transition_formed =
        by_outcome h (λ t. (g : List ℕ) → well_formed h ≡ true → well_formed (t g).hart ≡ true) change idle
        (λ w g f. f)
        (λ w d g f. f)
        (λ w d n e g f. f)
        (λ w d s e g f. moved_formed h s g w d (rw e at t))

    module _ (ne : idle ≢ done) where
      -- what is done is what the table says, of a record that is well formed and a real hart's
      pub done_moves : (g : List ℕ) → (transition change idle g h).number ≡ done
          → transition change idle g h ≡ moves (entry_number (change h.lifecycle)) g h
      done_moves =
          by_outcome h (λ t. (g : List ℕ) → (t g).number ≡ done → t g ≡ moves (entry_number (change h.lifecycle)) g h) change idle
          (λ w g z. absurd (omega arith))
          (λ w d g z. absurd (ne z))
          (λ w d n e g z. let l : powered_off < n = rw e at t in absurd (omega arith))
          (λ w d s e g z. rw e)

      pub done_formed : (g : List ℕ) → (transition change idle g h).number ≡ done → well_formed h ≡ true
      done_formed =
          by_outcome h (λ t. (g : List ℕ) → (t g).number ≡ done → well_formed h ≡ true) change idle
          (λ w g z. absurd (omega arith))
          (λ w d g z. w)
          (λ w d n e g z. w)
          (λ w d s e g z. w)

      pub done_real : (g : List ℕ) → (transition change idle g h).number ≡ done → is_dummy h ≡ false
      done_real =
          by_outcome h (λ t. (g : List ℕ) → (t g).number ≡ done → is_dummy h ≡ false) change idle
          (λ w g z. absurd (omega arith))
          (λ w d g z. absurd (ne z))
          (λ w d n e g z. d)
          (λ w d s e g z. d)
