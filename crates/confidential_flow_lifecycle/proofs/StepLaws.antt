-- A request that changes the lifecycle of the hart that a hardware hart holds: what refuses it, and what it leaves. Assumes nothing.
use Prim.Native.Nat.{ℕ, ◌+◌, ◌*◌, ◌≤◌}
use mathlib.Core.Path.{◌≡◌, refl, sym, ◌∙◌}
use mathlib.Core.Bool.{Bool, true, false}
use mathlib.Core.List.{List, [], ◌∷◌, ◌++◌}
use lib.ListN.{length}
use borrow.Author.Tests.{leb-false, not-false}
use Rattle.std.specs.Prelude.{Result, Ok, Err, MatchResult}
use Rattle.std.specs.Result.{IsErrAnd}
use Rattle.std.proofs.lemmas.Result.{err_from_is_err_and}
use Rattle.error.specs.declared.Error.{Error}
use Rattle.error.specs.declared.Error.TheVariants.{
  CannotSuspedNotStartedHart,
  CannotStopNotStartedHart,
  CannotStartNotSuspendedHart,
  HardwareHartIdle,
}
use Rattle.error.specs.Error.{number_of, hardware_hart_idle}
use Rattle.table_rows.specs.Choice.{pick}
use Rattle.table_rows.proofs.PickLaws.{yes, no}
use Rattle.hart_lifecycle_state.specs.declared.LifecycleChange.{LifecycleChange}
use Rattle.hart_lifecycle_state.specs.declared.LifecycleChange.TheVariants as changes
use Rattle.hart_lifecycle_state.specs.Lifecycle.{refused, change_of}
use Rattle.confidential_hart.specs.declared.ConfidentialHart.{ConfidentialHart}
use Rattle.confidential_hart.specs.declared.HardwareHartId.{HardwareHartId}
use Rattle.confidential_hart.specs.HartStart.{wake_registers}
use Rattle.confidential_hart.specs.Transition.{Transition, stepped, transition}
use Rattle.hart_rows.specs.HartRows.{hart_words}
use Rattle.monitor_requests.specs.declared.Request.{Request}
use Rattle.monitor_requests.specs.declared.Request.TheVariants.{Suspend, Stop, Wake, Off}
use Rattle.monitor_requests.specs.Answers.{Answered}
use Rattle.monitor_requests.specs.declared.Answer.TheVariants.{Done}
use Rattle.monitor_requests.specs.Tables.{Tables, hardware_hart}
use Rattle.monitor_requests.specs.Requests.{Outcome, Test, answering, judged, tried, refuse, refused_on, unsound, no_hardware_hart, idle, refuses, with_held, tests, effect, performed}
use Rattle.monitor_requests.proofs.JudgedLaws.{Passed, tried_refuses, tried_passes}
use Rattle.monitor_requests.proofs.SoundLaws.{sound_sized, hardware_formed}
use Rattle.monitor_requests.proofs.MoveLaws.{hardware_fits}
use Rattle.monitor_requests.proofs.ChangeLaws.{step_table, suspend_error, stop_error, wake_error, off_error}

module _ (t : Tables) (k : ℕ) where
  -- 12, 14 and 16
  abbrev held_tests : List Test
  held_tests = unsound t ∷ no_hardware_hart k t ∷ idle k t ∷ []

  module _ (change : LifecycleChange) (registers : ConfidentialHart → List ℕ) where
    -- the change of a hart, which leaves it with these registers
    abbrev changing : ConfidentialHart → Transition
    changing h = transition (change_of change) hardware_hart_idle (registers h) h

    -- the lifecycle's table refuses it
    abbrev table_refuses : Bool
    table_refuses = refuses (change_of change (hardware_hart t k).lifecycle)

    -- the changed hart stands in its row
    abbrev changed : Outcome
    changed = answering (Ok Done) (with_held k (changing (hardware_hart t k)).hart t) []

    -- a request that tries those and then the table, which refuses by one error alone, and changes the hart
    pub record Changes (r : Request) : Type 0 where
      pub error : Error
      pub alone : (l n : ℕ) → change_of change l ≡ refused n → n ≡ number_of error
      pub is : performed r t [] ≡ judged (refused_on t []) (held_tests ++ (refuse error table_refuses ∷ [])) changed

-- the four requests do
module _ {t : Tables} {on : HardwareHartId} where
  pub suspends : Changes t on.0 changes.Suspend (λ x. x.registers) (Suspend on)
  unfolding performed tests effect
  suspends = record { error = CannotSuspedNotStartedHart; alone = suspend_error; is = refl }

  pub stops : Changes t on.0 changes.Stop (λ x. x.registers) (Stop on)
  unfolding performed tests effect
  stops = record { error = CannotStopNotStartedHart; alone = stop_error; is = refl }

  pub wakes : {address opaque : ℕ} → Changes t on.0 changes.Wake (λ x. wake_registers address opaque x.registers) (Wake on address opaque)
  unfolding performed tests effect
  wakes = record { error = CannotStartNotSuspendedHart; alone = wake_error; is = refl }

  -- the table never refuses an off
  pub offs : Changes t on.0 changes.Off (λ x. x.registers) (Off on)
  unfolding performed tests effect refuses pick
  offs = record { error = HardwareHartIdle; alone = off_error HardwareHartIdle; is = refl }

module _ (t : Tables) (k : ℕ) {held : Result ConfidentialHart Error} (is : held ≡ tried (held_tests t k) (hardware_hart t k)) where
  -- where a hart is held, the tables are sound, and it is the real hart of the row
  held_facts : {x : ConfidentialHart} → held ≡ Ok x → (x ≡ hardware_hart t k) × Passed (held_tests t k)
  held_facts {x} q =
      let p = tried_passes (λ e. e) HardwareHartIdle (hardware_hart t k) [] (held_tests t k) x (sym is ∙ q) in (p.0, p.1)

  -- and the row lies within its table
  pub fits : {x : ConfidentialHart} → held ≡ Ok x → k * hart_words + hart_words ≤ length t.hardware
  fits q = let p = (held_facts q).1 in hardware_fits t (sound_sized t (not-false _ p.0)) k (leb-false _ _ p.1.0)

  module _ {change : LifecycleChange} {registers : ConfidentialHart → List ℕ} {r : Request} (c : Changes t k change registers r) where
    abbrev next : Outcome
    next = changed t k change registers

    abbrev more : List Test
    more = refuse c.error (table_refuses t k change registers) ∷ []

    -- where none is held, what `?` gives is the outcome
    pub not_held : {e : Error} → held ≡ Err e → (answer : Answered) → IsErrAnd answer (λ y. y ≡ e) → answering answer t [] ≡ performed r t []
    not_held {e} q answer given =
        let p = err_from_is_err_and answer given in
        rw (p.1, p.2) (sym (c.is ∙ tried_refuses (refused_on t []) next (hardware_hart t k) more (held_tests t k) e (sym is ∙ q)))

    module _ {x : ConfidentialHart} (q : held ≡ Ok x) where
      -- where one is, the table decides
      decides : performed r t [] ≡ judged (refused_on t []) more next
      decides = c.is ∙ (tried_passes (refused_on t []) next (hardware_hart t k) more (held_tests t k) x (sym is ∙ q)).2

      -- and the transition follows it
      by_table : (step : Result ConfidentialHart Error) → stepped x step ≡ changing t k change registers x
          → MatchResult step
          (λ y. (table_refuses t k change registers ≡ false) × (y ≡ (changing t k change registers (hardware_hart t k)).hart))
          (λ e. (table_refuses t k change registers ≡ true) × (e ≡ c.error))
      by_table step says =
          let f = held_facts q in
          let formed = hardware_formed t (not-false _ f.1.0) k (leb-false _ _ f.1.1.0) in
          step_table change hardware_hart_idle _ (hardware_hart t k) formed f.1.1.1.0 c.error c.alone step (rw f.0 at says)

      -- where the transition refuses, what `?` gives is the outcome
      pub not_changed : (e : Error) → stepped x (Err e) ≡ changing t k change registers x
          → (answer : Answered) → IsErrAnd answer (λ y. y ≡ e) → answering answer t [] ≡ performed r t []
      not_changed e says answer given =
          let p = err_from_is_err_and answer given in
          let m = by_table (Err e) says in
          rw (p.1, p.2, m.1) (yes _ m.0 refl ∙ sym decides)

      -- and where it doesn't, its record in the row is
      pub is_changed : {y : ConfidentialHart} → stepped x (Ok y) ≡ changing t k change registers x
          → answering (Ok Done) (with_held k y t) [] ≡ performed r t []
      is_changed {y} says = let m = by_table (Ok y) says in rw m.1 (no _ m.0 refl ∙ sym decides)
