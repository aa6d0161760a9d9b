-- What a setup, a move of a hart and a change of a record make of where harts stand and of their records. Assumes nothing.
use Rattle.std.proofs.Common.{Ok}
use Prim.Native.Nat.{ℕ, ◌<◌}
use mathlib.Core.Path.{◌≡◌, refl, sym, ap, ap₂, ◌∙◌}
use mathlib.Core.Logic.{◌≢◌}
use mathlib.Core.Bool.{Bool, true, false, false≢true}
use mathlib.Core.List.{List, [], ◌∷◌}
use lib.ListN.{length}
use lib.Dec.{eqb}
use borrow.Author.Tests.{eq-eqb, ne_eqb, eqb-true, eqb-false, leb-false, not-false}
use Rattle.error.specs.Error.{hart_already_running, hardware_hart_idle}
use Rattle.table_rows.specs.Rows.{put}
use Rattle.table_rows.specs.Choice.{pick}
use Rattle.table_rows.proofs.PickLaws.{yes, no, by_test}
use Rattle.confidential_hart_remote_command.specs.declared.ConfidentialHartRemoteCommand.{ConfidentialHartRemoteCommand}
use Rattle.remote_commands.specs.Queue.{commands}
use Rattle.remote_commands.proofs.OfferLaws.{emptied_commands}
use Rattle.hart_lifecycle_state.specs.Lifecycle.{started, stopped, suspended, powered_off, Entry, becomes, only, start, suspend, stop, wake, off}
use Rattle.hart_lifecycle_state.proofs.LifecycleLaws.{only_becomes, only_refused}
use Rattle.confidential_hart.specs.declared.ConfidentialHart.{ConfidentialHart}
use Rattle.confidential_hart.specs.declared.ConfidentialHartId.{ConfidentialHartId}
use Rattle.confidential_hart.specs.declared.HardwareHartId.{HardwareHartId}
use Rattle.confidential_hart.specs.Hart.{no_vm, register_count, is_dummy, well_formed, with_operation}
use Rattle.confidential_hart.specs.HartStart.{start_registers, wake_registers}
use Rattle.confidential_hart.specs.Transition.{Transition, moved, transition}
use Rattle.confidential_hart.proofs.StartLaws.{start_length, wake_length}
use Rattle.confidential_hart.proofs.TransitionLaws.{moves_is}
use Rattle.hart_rows.specs.HartRows.{hart_words, to_words, hart_at}
use Rattle.hart_rows.proofs.HartRowLaws.{load_store, load_store_other}
use Rattle.monitor_requests.specs.declared.Setup.{Setup}
use Rattle.monitor_requests.specs.declared.Request.TheVariants.{Steal, Return, Start, Suspend, Stop, Wake, Off, Await}
use Rattle.monitor_requests.specs.declared.Answer.TheVariants.{Done}
use Rattle.monitor_requests.specs.Tables.{Tables, harts, hardware_harts, home_hart, hardware_hart, queue, sound}
use Rattle.monitor_requests.specs.Requests.{refuses, with_home, with_held, exchanged, setup_hart, set_up, unsound, tests, effect, held_id}
use Rattle.monitor_requests.proofs.JudgedLaws.{Passed}
use Rattle.monitor_requests.proofs.SoundLaws.{sound_sized, home_formed, hardware_formed, away_names, held_names, sound_sentences}
use Rattle.monitor_requests.proofs.MoveLaws.{Exchange, exchange, home_fits, six_registers}
use Rattle.monitor_requests.proofs.SetupLaws.{setup_vm, setup_rows}
use Rattle.hart_standing.specs.Standing.{Standing, at_home, on_hardware, is_on}
use Rattle.hart_standing.proofs.ChangedLaws.{standing, hart_now, View, view, view_of, standing_at, having, Holds}
use Rattle.hart_standing.proofs.StandLaws.{
  dummy_stands,
  dummy_now,
  real_stands,
  real_now,
  idle_row,
  held_stands,
  idle_stands,
  on_hart,
  held_changed,
}

-- where the hart stands whose home row holds the record
abbrev standing_by : ConfidentialHart → Standing
standing_by x = pick (is_dummy x) (on_hardware x.id) at_home

-- its record, with these hardware rows
abbrev hart_by : List ℕ → ConfidentialHart → ConfidentialHart
hart_by hardware x = pick (is_dummy x) (hart_at hardware x.id) x

-- ---- a hart that moves: home row h and hardware row k are exchanged

module _ (t : Tables) (s : sound t ≡ true) (h k : ℕ) (lh : h < harts t) (lk : k < hardware_harts t) where
  -- the tables then
  abbrev after : Tables
  after = exchanged h k t

  -- their rows
  abbrev rows : Exchange t.home t.hardware after.home after.hardware (harts t) (hardware_harts t) h k
  rows = exchange t s h k lh lk

  -- another hart that does not stand on k has the record it had
  other_now : (i : ℕ) → i < harts t → i ≢ h → is_on k (standing t i) ≡ false → hart_now after i ≡ hart_now t i
  other_now i l ne e =
      let same : home_hart after i ≡ home_hart t i = rows.a_others i l ne in
      by_test (is_dummy (home_hart t i))
      (λ d.
      let other : (home_hart t i).id ≢ k = eqb-false _ _ (sym (ap (is_on k) (dummy_stands t i d)) ∙ e) in
      dummy_now after i (ap is_dummy same ∙ d)
      ∙ ap (λ (x : ConfidentialHart). hardware_hart after x.id) same
      ∙ rows.b_others (home_hart t i).id (away_names t s i l d).there other
      ∙ sym (dummy_now t i d))
      (λ d. real_now after i (ap is_dummy same ∙ d) ∙ same ∙ sym (real_now t i d))

  -- hart h has the record it had and stands where it is said to; so do the others, which stand where they stood, none on k
  exchanged_holds : (stands : ℕ → Standing) → standing after h ≡ stands h → hart_now after h ≡ hart_now t h
      → ((i : ℕ) → i < harts t → i ≢ h → standing t i ≡ stands i)
      → ((i : ℕ) → i < harts t → i ≢ h → is_on k (standing t i) ≡ false)
      → Holds after (harts t) (hardware_harts t) (standing_at stands (view_of t))
  exchanged_holds stands here now others free =
      record {
        harts_are = refl;
        hardware_are = refl;
        stands_at = λ i l.
            by_test (eqb i h) (λ e. rw (eqb-true i h e) here)
            (λ e. let ne : i ≢ h = eqb-false i h e in ap standing_by (rows.a_others i l ne) ∙ others i l ne);
        hart_is = λ i l.
            by_test (eqb i h) (λ e. rw (eqb-true i h e) now)
            (λ e. let ne : i ≢ h = eqb-false i h e in other_now i l ne (free i l ne));
        waits_are = λ i l. refl;
        regions_are = refl;
        allowed_is = refl;
      }

  -- a real hart at home goes to an idle hardware hart
  left_holds : is_dummy (home_hart t h) ≡ false → is_dummy (hardware_hart t k) ≡ true
      → Holds after (harts t) (hardware_harts t) (standing_at (λ i. pick (eqb h i) (on_hardware k) (standing t i)) (view_of t))
  unfolding pick
  left_holds real idle =
      exchanged_holds (λ i. pick (eqb h i) (on_hardware k) (standing t i))
      (ap standing_by (rows.h_holds ∙ idle_row t s k lk idle) ∙ yes _ (eq-eqb h h refl) refl)
      (dummy_now after h (ap is_dummy rows.h_holds ∙ idle)
      ∙ ap (hardware_hart after) (ap (λ (x : ConfidentialHart). x.id) (rows.h_holds ∙ idle_row t s k lk idle))
      ∙ rows.k_holds
      ∙ sym (real_now t h real))
      (λ i l ne. no _ (ne_eqb h i (λ e. ne (sym e))) refl)
      (λ i l ne. idle_stands t s k lk idle i l)

  -- the real hart on a hardware hart comes home
  back_holds : is_dummy (hardware_hart t k) ≡ false → held_id t k ≡ h
      → Holds after (harts t) (hardware_harts t) (standing_at (λ i. pick (is_on k (standing t i)) at_home (standing t i)) (view_of t))
  back_holds real held =
      let here : is_on k (standing t h) ≡ true = held_stands t s k lk real h lh ∙ eq-eqb h (held_id t k) (sym held) in
      let real-h : is_dummy (home_hart after h) ≡ false = ap is_dummy rows.h_holds ∙ real in
      let free : (i : ℕ) → i < harts t → i ≢ h → is_on k (standing t i) ≡ false =
      λ i l ne. held_stands t s k lk real i l ∙ ne_eqb i (held_id t k) (λ e. ne (e ∙ held)) in
      exchanged_holds (λ i. pick (is_on k (standing t i)) at_home (standing t i))
      (real_stands after h real-h ∙ yes _ here refl)
      (real_now after h real-h ∙ rows.h_holds ∙ sym (on_hart t s h k here))
      (λ i l ne. no _ (free i l ne) refl)
      free

-- a steal: the hart stands on the hardware hart
pub steal_holds : (hart : ConfidentialHartId) (k : HardwareHartId) (t : Tables) (effects : List ℕ) → Passed (unsound t ∷ tests (Steal hart k) t effects)
    → Holds (effect (Steal hart k) t effects).after (harts t) (hardware_harts t)
    (standing_at (λ h. pick (eqb hart.0 h) (on_hardware k.0) (standing t h)) (view_of t))
unfolding tests effect
steal_holds hart k t effects p =
    left_holds t (not-false _ p.0) hart.0 k.0 (leb-false _ _ p.1.1.1.0) (leb-false _ _ p.1.0) p.1.1.1.1.0
    (not-false _ p.1.1.0)

-- a return: the hart that stood on the hardware hart is at home
pub return_holds : (k : HardwareHartId) (t : Tables) (effects : List ℕ) → Passed (unsound t ∷ tests (Return k) t effects)
    → Holds (effect (Return k) t effects).after (harts t) (hardware_harts t)
    (standing_at (λ h. pick (is_on k.0 (standing t h)) at_home (standing t h)) (view_of t))
unfolding tests effect
return_holds k t effects p =
    let s = not-false _ p.0 in
    let l = leb-false _ _ p.1.0 in
    back_holds t s (held_id t k.0) k.0 (held_names t s k.0 l p.1.1.0).there l p.1.1.0 refl

-- ---- a record that is changed

-- choices by one test are the same where what may be picked is
pub pick_both : {A : Type 0} (b : Bool) {x x' y y' : A} → (b ≡ true → x ≡ x') → (b ≡ false → y ≡ y') → pick b x y ≡ pick b x' y'
unfolding pick
pick_both true f g = f refl
pick_both false f g = g refl

-- tables that hold records hold what equals them
pub records_alike : (t : Tables) (n m : ℕ) (f g : ℕ → ConfidentialHart) (waits : ℕ → List ConfidentialHartRemoteCommand) (v : View)
    → Holds t n m (having f waits v)
    → ((h : ℕ) → h < n → f h ≡ g h)
    → Holds t n m (having g waits v)
records_alike t n m f g waits v holds same =
    record {
      harts_are = holds.harts_are;
      hardware_are = holds.hardware_are;
      stands_at = holds.stands_at;
      hart_is = λ h l. holds.hart_is h l ∙ same h l;
      waits_are = holds.waits_are;
      regions_are = holds.regions_are;
      allowed_is = holds.allowed_is;
    }

-- a change from one state alone that does not refuse leads to its state
pub only_moves : (from to number state : ℕ) → refuses (only from to number state) ≡ false → only from to number state ≡ becomes to
unfolding refuses
only_moves from to number state e =
    by_test (eqb state from) (λ p. only_becomes from to number state (eqb-true state from p))
    (λ p. absurd (false≢true (sym e ∙ ap refuses (only_refused from to number state (eqb-false state from p)))))

-- a change of a real hart that does not refuse gives its record in the new state
pub moved_is : (change : ℕ → Entry) (idle to : ℕ) (g : List ℕ) (x : ConfidentialHart) → well_formed x ≡ true → is_dummy x ≡ false
    → change x.lifecycle ≡ becomes to
    → (transition change idle g x).hart ≡ moved to g x
moved_is change idle to g x w d e = ap (λ (r : Transition). r.hart) (moves_is change idle g x w d to e)

-- ---- at home

module _ (t : Tables) (s : sound t ≡ true) (h : ℕ) (l : h < harts t) (real : is_dummy (home_hart t h) ≡ false) (x : ConfidentialHart)
    (vm : x.vm ≡ (home_hart t h).vm) (six : length x.registers ≡ register_count) where
  -- the tables with the new record
  abbrev changed : Tables
  changed = with_home (put hart_words t.home h (to_words x)) t

  -- home row h holds it
  changed_here : home_hart changed h ≡ x
  changed_here = load_store t.home h (home_fits t (sound_sized t s) h l) x six

  -- it is a real hart's
  changed_real : is_dummy (home_hart changed h) ≡ false
  changed_real = ap is_dummy changed_here ∙ ap (λ (v : ℕ). eqb v no_vm) vm ∙ real

  -- the other home rows are as they were
  changed_other : (i : ℕ) → i < harts t → i ≢ h → home_hart changed i ≡ home_hart t i
  changed_other i b ne = load_store_other t.home h (home_fits t (sound_sized t s) h l) x i ne (home_fits t (sound_sized t s) i b)

  -- the record of the real hart in home row h is changed and stays real: hart h has it, and nobody moved
  pub home_changed : Holds changed (harts t) (hardware_harts t)
      (having (λ i. pick (eqb i h) x (hart_now t i)) (λ i. commands (queue t i)) (view_of t))
  home_changed =
      record {
        harts_are = refl;
        hardware_are = refl;
        stands_at = λ i b.
            by_test (eqb i h) (λ e. rw (eqb-true i h e) (real_stands changed h changed_real ∙ sym (real_stands t h real)))
            (λ e. ap standing_by (changed_other i b (eqb-false i h e)));
        hart_is = λ i b.
            by_test (eqb i h) (λ e. ap (hart_now changed) (eqb-true i h e) ∙ real_now changed h changed_real ∙ changed_here ∙ yes _ e refl)
            (λ e. ap (hart_by t.hardware) (changed_other i b (eqb-false i h e)) ∙ no _ e refl);
        waits_are = λ i b. refl;
        regions_are = refl;
        allowed_is = refl;
      }

-- a start: the hart is Started, with the registers of a start
pub start_holds : (hart : ConfidentialHartId) (address opaque : ℕ) (t : Tables) (effects : List ℕ) → Passed (unsound t ∷ tests (Start hart address opaque) t effects)
    → Holds (effect (Start hart address opaque) t effects).after (harts t) (hardware_harts t)
    (having
    (λ h. pick (eqb h hart.0) (moved started (start_registers hart.0 address opaque (hart_now t h).registers) (hart_now t h)) (hart_now t h))
    (λ h. commands (queue t h))
    (view_of t))
unfolding tests effect
start_holds hart address opaque t effects p =
    let s : sound t ≡ true = not-false _ p.0 in
    let l : hart.0 < harts t = leb-false _ _ p.1.0 in
    let real = p.1.1.0 in
    let x : ConfidentialHart = home_hart t hart.0 in
    let registers : List ℕ = start_registers x.id address opaque x.registers in
    let is = moved_is start hart_already_running started registers x (home_formed t s hart.0 l) real (only_moves _ _ _ _ p.1.1.1.0) in
    let now : x ≡ hart_now t hart.0 = sym (real_now t hart.0 real) in
    let number : x.id ≡ hart.0 = (sound_sentences t s).home_real hart.0 l real in
    records_alike (effect (Start hart address opaque) t effects).after (harts t) (hardware_harts t) _ _ _ (view_of t)
    (home_changed t s hart.0 l real (transition start hart_already_running registers x).hart (ap (λ (r : ConfidentialHart). r.vm) is)
    (ap (λ (r : ConfidentialHart). length r.registers) is
    ∙ start_length x.id address opaque x.registers
    ∙ six_registers t.home hart.0))
    (λ h b.
    pick_both (eqb h hart.0)
    (λ e.
    is
    ∙ ap (λ (n : ℕ). moved started (start_registers n address opaque x.registers) x) number
    ∙ ap (λ (r : ConfidentialHart). moved started (start_registers hart.0 address opaque r.registers) r)
    (now ∙ ap (hart_now t) (sym (eqb-true h hart.0 e))))
    (λ e. refl))

-- ---- on a hardware hart

-- the hart that stands on k has a new state, and registers made of those it had
abbrev pub became : HardwareHartId → ℕ → (List ℕ → List ℕ) → Tables → View
became k state f t =
    having (λ h. pick (is_on k.0 (standing t h)) (moved state (f (hart_now t h).registers) (hart_now t h)) (hart_now t h))
    (λ h. commands (queue t h))
    (view_of t)

module _ (t : Tables) (s : sound t ≡ true) (k : ℕ) (l : k < hardware_harts t) (real : is_dummy (hardware_hart t k) ≡ false) where
  -- the hart that hardware hart k holds
  abbrev held : ConfidentialHart
  held = hardware_hart t k

  -- the record in hardware row k becomes what is made of the hart's number and its record: so does that of the hart that stands on k
  pub held_becomes : (made : ℕ → ConfidentialHart → ConfidentialHart) (x : ConfidentialHart) → x ≡ made (held_id t k) held
      → length (made (held_id t k) held).registers ≡ register_count
      → Holds (with_held k x t) (harts t) (hardware_harts t)
      (having (λ h. pick (is_on k (standing t h)) (made h (hart_now t h)) (hart_now t h)) (λ h. commands (queue t h)) (view_of t))
  held_becomes made x is six =
      records_alike (with_held k x t) (harts t) (hardware_harts t) _ _ _ (view_of t)
      (held_changed t s k l x (ap (λ (r : ConfidentialHart). length r.registers) is ∙ six))
      (λ h b.
      pick_both (is_on k (standing t h))
      (λ e.
      let number : held_id t k ≡ h = sym (eqb-true h (held_id t k) (sym (held_stands t s k l real h b) ∙ e)) in
      is ∙ ap₂ made number (sym (on_hart t s h k e)))
      (λ e. refl))

-- a change of the held hart's lifecycle that does not refuse
held_moves : (t : Tables) → sound t ≡ true → (k : HardwareHartId) → k.0 < hardware_harts t → is_dummy (hardware_hart t k.0) ≡ false
    → (change : ℕ → Entry) (to : ℕ) (f : List ℕ → List ℕ)
    → ((r : List ℕ) → length (f r) ≡ length r)
    → change (hardware_hart t k.0).lifecycle ≡ becomes to
    → Holds (with_held k.0 (transition change hardware_hart_idle (f (hardware_hart t k.0).registers) (hardware_hart t k.0)).hart t)
    (harts t)
    (hardware_harts t)
    (became k to f t)
held_moves t s k l real change to f long e =
    let x : ConfidentialHart = hardware_hart t k.0 in
    held_becomes t s k.0 l real (λ h y. moved to (f y.registers) y) _
    (moved_is change hardware_hart_idle to (f x.registers) x (hardware_formed t s k.0 l) real e)
    (long x.registers ∙ six_registers t.hardware k.0)

-- a suspend: the hart that stands there is Suspended
pub suspend_holds : (k : HardwareHartId) (t : Tables) (effects : List ℕ) → Passed (unsound t ∷ tests (Suspend k) t effects)
    → Holds (effect (Suspend k) t effects).after (harts t) (hardware_harts t) (became k suspended (λ r. r) t)
unfolding tests effect
suspend_holds k t effects p =
    held_moves t (not-false _ p.0) k (leb-false _ _ p.1.0) p.1.1.0 suspend suspended (λ r. r) (λ _. refl)
    (only_moves _ _ _ _ p.1.1.1.0)

-- a stop: it is Stopped
pub stop_holds : (k : HardwareHartId) (t : Tables) (effects : List ℕ) → Passed (unsound t ∷ tests (Stop k) t effects)
    → Holds (effect (Stop k) t effects).after (harts t) (hardware_harts t) (became k stopped (λ r. r) t)
unfolding tests effect
stop_holds k t effects p =
    held_moves t (not-false _ p.0) k (leb-false _ _ p.1.0) p.1.1.0 stop stopped (λ r. r) (λ _. refl)
    (only_moves _ _ _ _ p.1.1.1.0)

-- a wake: it is Started, with the registers of a wake
pub wake_holds : (k : HardwareHartId) (address opaque : ℕ) (t : Tables) (effects : List ℕ) → Passed (unsound t ∷ tests (Wake k address opaque) t effects)
    → Holds (effect (Wake k address opaque) t effects).after (harts t) (hardware_harts t) (became k started (wake_registers address opaque) t)
unfolding tests effect
wake_holds k address opaque t effects p =
    held_moves t (not-false _ p.0) k (leb-false _ _ p.1.0) p.1.1.0 wake started (wake_registers address opaque)
    (wake_length address opaque)
    (only_moves _ _ _ _ p.1.1.1.0)

-- an off: it is PoweredOff
pub off_holds : (k : HardwareHartId) (t : Tables) (effects : List ℕ) → Passed (unsound t ∷ tests (Off k) t effects)
    → Holds (effect (Off k) t effects).after (harts t) (hardware_harts t) (became k powered_off (λ r. r) t)
unfolding tests effect
off_holds k t effects p =
    held_moves t (not-false _ p.0) k (leb-false _ _ p.1.0) p.1.1.0 off powered_off (λ r. r) (λ _. refl) refl

-- an await: it has the operation
pub await_holds : (k : HardwareHartId) (kind x y : ℕ) (t : Tables) (effects : List ℕ) → Passed (unsound t ∷ tests (Await k kind x y) t effects)
    → Holds (effect (Await k kind x y) t effects).after (harts t) (hardware_harts t)
    (having (λ h. pick (is_on k.0 (standing t h)) (with_operation kind x y (hart_now t h)) (hart_now t h))
    (λ h. commands (queue t h))
    (view_of t))
unfolding tests effect
await_holds k kind x y t effects p =
    held_becomes t (not-false _ p.0) k.0 (leb-false _ _ p.1.1.0) p.1.1.1.0 (λ h z. with_operation kind x y z) _ refl
    (six_registers t.hardware k.0)

-- ---- a setup

-- a setup that is accepted, on any tables: every hart is at home as made, nothing waits, no region stands and nothing is allowed
pub setup_holds : (s : Setup) (t : Tables) → (set_up s t).answer ≡ Ok Done
    → Holds (set_up s t).after s.harts s.hardware (view (λ h. at_home) (setup_hart s) (λ h. []) [] 0)
setup_holds s t e =
    let after : Tables = (set_up s t).after in
    let rows = setup_rows s t e in
    let real : (h : ℕ) → h < s.harts → is_dummy (home_hart after h) ≡ false =
    λ h l. ap is_dummy (rows.at_home_lem h l) ∙ ap (λ (v : ℕ). eqb v no_vm) (setup_vm s h) in
    record {
      harts_are = rows.harts_set;
      hardware_are = rows.hardware_set;
      stands_at = λ h l. real_stands after h (real h l);
      hart_is = λ h l. real_now after h (real h l) ∙ rows.at_home_lem h l;
      waits_are = λ h l. ap commands (rows.none_waits h l) ∙ emptied_commands;
      regions_are = rows.none_stands;
      allowed_is = rows.none_allowed;
    }
