-- Where harts stand in sound tables and what their rows hold, and a record that is changed on a hardware hart. Assumes nothing.
use Prim.Native.Nat.{ℕ, ◌<◌}
use mathlib.Core.Path.{◌≡◌, refl, sym, ap, ◌∙◌}
use mathlib.Core.Logic.{◌≢◌}
use mathlib.Core.Bool.{Bool, true, false, false≢true}
use native.Mathlib.Omega.{arith}
use lib.ListN.{length, replicate}
use lib.Dec.{eqb}
use borrow.Author.Tests.{eq-eqb, ne_eqb, eqb-true, eqb-false}
use Rattle.table_rows.specs.Choice.{pick}
use Rattle.table_rows.proofs.PickLaws.{yes, no, by_test, and_left, and_right}
use Rattle.table_rows.proofs.ZeroLaws.{all_zero_zeros}
use Rattle.remote_commands.specs.Queue.{commands}
use Rattle.confidential_hart.specs.declared.ConfidentialHart.{ConfidentialHart}
use Rattle.confidential_hart.specs.Hart.{no_vm, the_vm, register_count, is_dummy, is_executable, well_formed, dummy}
use Rattle.confidential_hart.proofs.HartLaws.{formed_facts}
use Rattle.hart_rows.proofs.HartRowLaws.{load_store, load_store_other}
use Rattle.monitor_requests.specs.Tables.{Tables, harts, hardware_harts, home_hart, hardware_hart, queue, sound}
use Rattle.monitor_requests.specs.Requests.{with_held, held_id}
use Rattle.monitor_requests.proofs.SoundLaws.{sound_sized, home_formed, hardware_formed, away_names, sound_sentences, exactly_when}
use Rattle.monitor_requests.specs.Soundness.{home_holds}
use Rattle.monitor_requests.proofs.MoveLaws.{hardware_fits, six_registers}
use Rattle.hart_standing.specs.Standing.{Standing, at_home, on_hardware, is_on}
use Rattle.hart_standing.proofs.ChangedLaws.{standing, hart_now, view_of, having, Holds}

-- ---- a home row, whatever it holds

-- the hart is not at home
abbrev is_away : Standing → Bool
is_away at_home = false
is_away (on_hardware k) = true

-- the number of its hardware hart, and 0 at home
abbrev number_in : Standing → ℕ
number_in at_home = 0
number_in (on_hardware k) = k

module _ (t : Tables) (h : ℕ) where
  -- a dummy in it says that the hart stands on the dummy's hardware hart
  pub dummy_stands : is_dummy (home_hart t h) ≡ true → standing t h ≡ on_hardware (home_hart t h).id
  dummy_stands d = sym (yes _ d refl)

  -- its record is there then
  pub dummy_now : is_dummy (home_hart t h) ≡ true → hart_now t h ≡ hardware_hart t (home_hart t h).id
  dummy_now d = sym (yes _ d refl)

  -- a real hart in it is at home
  pub real_stands : is_dummy (home_hart t h) ≡ false → standing t h ≡ at_home
  real_stands d = sym (no _ d refl)

  -- its record is that one then
  pub real_now : is_dummy (home_hart t h) ≡ false → hart_now t h ≡ home_hart t h
  real_now d = sym (no _ d refl)

  -- of a hart that is away it holds a dummy
  pub away_dummy : (k : ℕ) → standing t h ≡ on_hardware k → is_dummy (home_hart t h) ≡ true
  away_dummy k e = by_test (is_dummy (home_hart t h)) (λ d. d) (λ d. absurd (false≢true (ap is_away (sym (real_stands d) ∙ e))))

  -- the dummy has the number of the hardware hart
  pub away_id : (k : ℕ) → standing t h ≡ on_hardware k → (home_hart t h).id ≡ k
  away_id k e = ap number_in (sym (dummy_stands (away_dummy k e)) ∙ e)

  -- of a hart at home it holds no dummy
  pub home_real : standing t h ≡ at_home → is_dummy (home_hart t h) ≡ false
  home_real e = by_test (is_dummy (home_hart t h)) (λ d. absurd (false≢true (ap is_away (sym e ∙ dummy_stands d)))) (λ d. d)

  -- the hart stands on k exactly when its home row holds dummy k
  pub on_holds : (k : ℕ) → is_on k (standing t h) ≡ home_holds t h k
  unfolding pick
  on_holds k = by_test (is_dummy (home_hart t h)) (λ d. rw d) (λ d. rw d)

  -- a hart that passes the test stands on k
  pub on_stands : (k : ℕ) → is_on k (standing t h) ≡ true → standing t h ≡ on_hardware k
  on_stands k e =
      let b : home_holds t h k ≡ true = sym (on_holds k) ∙ e in
      dummy_stands (and_left (is_dummy (home_hart t h)) _ b) ∙ ap on_hardware (eqb-true _ _ (and_right (is_dummy (home_hart t h)) _ b))

-- a well-formed dummy with six registers is the dummy of its number
dummy_only : (x : ConfidentialHart) → well_formed x ≡ true → is_dummy x ≡ true → length x.registers ≡ register_count → x ≡ dummy x.id
dummy_only x w d six =
    let f = formed_facts x w in
    let none : x.vm ≡ no_vm = eqb-true _ _ d in
    let idle = f.dummy_waits_not none in
    let zeros = all_zero_zeros x.registers (f.dummy_blank none) ∙ ap (λ (n : ℕ). replicate n 0) six in
    λ i. record {
      vm = none i;
      id = x.id;
      lifecycle = f.dummy_started none i;
      operation = idle i;
      x = f.x_absent idle i;
      y = f.y_absent idle i;
      registers = zeros i;
    }

-- a test of two numbers does not hang on their order
eqb_turned : (a b : ℕ) → eqb a b ≡ eqb b a
eqb_turned a b =
    by_test (eqb b a) (λ e. eq-eqb a b (sym (eqb-true b a e)) ∙ sym e) (λ e. ne_eqb a b (λ p. eqb-false b a e (sym p)) ∙ sym e)

-- ---- the rows of sound tables

module _ (t : Tables) (s : sound t ≡ true) where
  -- a dummy in a home row names a hardware hart that there is
  pub stands_below : (h k : ℕ) → h < harts t → standing t h ≡ on_hardware k → k < hardware_harts t
  stands_below h k l e = rw (away_id t h k e) at (away_names t s h l (away_dummy t h k e)).there

  -- the home row of a hart that is away is the dummy of its hardware hart
  pub away_row : (h k : ℕ) → h < harts t → standing t h ≡ on_hardware k → home_hart t h ≡ dummy k
  away_row h k l e =
      dummy_only (home_hart t h) (home_formed t s h l) (away_dummy t h k e) (six_registers t.home h) ∙ ap dummy (away_id t h k e)

  -- that of one at home is the hart itself
  pub home_row_lem : (h : ℕ) → standing t h ≡ at_home → home_hart t h ≡ hart_now t h
  home_row_lem h e = sym (real_now t h (home_real t h e))

  -- hart h is of the one VM, wherever it stands
  pub now_real : (h : ℕ) → h < harts t → (hart_now t h).vm ≡ the_vm
  now_real h l =
      by_test (is_dummy (home_hart t h))
      (λ d. ap (λ (x : ConfidentialHart). x.vm) (dummy_now t h d) ∙ (away_names t s h l d).held)
      (λ d.
      let real : (home_hart t h).vm ≢ no_vm = eqb-false _ _ d in
      ap (λ (x : ConfidentialHart). x.vm) (real_now t h d) ∙ omega (arith, (formed_facts (home_hart t h) (home_formed t s h l)).vm_known))

  -- it has number h
  pub now_number : (h : ℕ) → h < harts t → (hart_now t h).id ≡ h
  now_number h l =
      by_test (is_dummy (home_hart t h))
      (λ d. ap (λ (x : ConfidentialHart). x.id) (dummy_now t h d) ∙ (away_names t s h l d).back)
      (λ d. ap (λ (x : ConfidentialHart). x.id) (real_now t h d) ∙ (sound_sentences t s).home_real h l d)

  -- the hardware row of a hart that is away is that hart
  pub hardware_row_lem : (h k : ℕ) → standing t h ≡ on_hardware k → hardware_hart t k ≡ hart_now t h
  hardware_row_lem h k e = sym (dummy_now t h (away_dummy t h k e) ∙ ap (hardware_hart t) (away_id t h k e))

  -- a hardware row that holds a dummy holds its own
  pub idle_row : (k : ℕ) → k < hardware_harts t → is_dummy (hardware_hart t k) ≡ true → hardware_hart t k ≡ dummy k
  idle_row k l d =
      dummy_only (hardware_hart t k) (hardware_formed t s k l) d (six_registers t.hardware k)
      ∙ ap dummy ((sound_sentences t s).hardware_dummy k l d)

  -- on a hardware hart that holds a real hart a hart stands exactly when it has that number
  pub held_stands : (k : ℕ) → k < hardware_harts t → is_dummy (hardware_hart t k) ≡ false → (h : ℕ) → h < harts t
      → is_on k (standing t h) ≡ eqb h (held_id t k)
  held_stands k l d h b = on_holds t h k ∙ exactly_when t s h k b l ∙ rw d (eqb_turned (held_id t k) h)

  -- on an idle one none stands
  pub idle_stands : (k : ℕ) → k < hardware_harts t → is_dummy (hardware_hart t k) ≡ true → (h : ℕ) → h < harts t → is_on k (standing t h) ≡ false
  idle_stands k l d h b = on_holds t h k ∙ exactly_when t s h k b l ∙ rw d refl

  -- the hart that stands on k is what hardware row k holds
  pub on_hart : (h k : ℕ) → is_on k (standing t h) ≡ true → hart_now t h ≡ hardware_hart t k
  on_hart h k e = sym (hardware_row_lem h k (on_stands t h k e))

  -- a dummy in a home row can be reached: it is Started
  pub away_executable : (h : ℕ) → h < harts t → is_dummy (home_hart t h) ≡ true → is_executable (home_hart t h) ≡ true
  away_executable h l d = rw ((formed_facts (home_hart t h) (home_formed t s h l)).dummy_started (eqb-true _ _ d)) refl

  -- ---- a record that is changed on a hardware hart

  -- another record is put into hardware row k: the hart that stands on k has it, and nobody moved
  pub held_changed : (k : ℕ) → k < hardware_harts t → (x : ConfidentialHart) → length x.registers ≡ register_count
      → Holds (with_held k x t) (harts t) (hardware_harts t)
      (having (λ h. pick (is_on k (standing t h)) x (hart_now t h)) (λ h. commands (queue t h)) (view_of t))
  held_changed k l x six =
      let fits = hardware_fits t (sound_sized t s) in
      record {
        harts_are = refl;
        hardware_are = refl;
        stands_at = λ h b. refl;
        hart_is = λ h b.
            by_test (is_on k (standing t h))
            (λ e.
            let there : standing t h ≡ on_hardware k = on_stands t h k e in
            dummy_now (with_held k x t) h (away_dummy t h k there)
            ∙ ap (hardware_hart (with_held k x t)) (away_id t h k there)
            ∙ load_store t.hardware k (fits k l) x six
            ∙ yes _ e refl)
            (λ e.
            by_test (is_dummy (home_hart t h))
            (λ d.
            let other : (home_hart t h).id ≢ k = eqb-false _ _ (sym (ap (is_on k) (dummy_stands t h d)) ∙ e) in
            dummy_now (with_held k x t) h d
            ∙ load_store_other t.hardware k (fits k l) x (home_hart t h).id other (fits (home_hart t h).id (away_names t s h b d).there)
            ∙ no _ e (sym (dummy_now t h d)))
            (λ d. real_now (with_held k x t) h d ∙ no _ e (sym (real_now t h d))));
        waits_are = λ h b. refl;
        regions_are = refl;
        allowed_is = refl;
      }
