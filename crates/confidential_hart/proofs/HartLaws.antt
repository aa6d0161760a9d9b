-- The hart record: what its being well formed tells, and that setup makes it so. Assumes nothing.
use Prim.Native.Nat.{ℕ, ◌≤◌}
use mathlib.Core.Path.{◌≡◌, refl}
use mathlib.Core.Bool.{Bool, true, false, not, ◌&&◌, ◌||◌}
use lib.Dec.{eqb, leb}
use borrow.Author.Tests.{eqb-true, eqb-false, leb-true, eq-eqb, le-leb}
use Rattle.table_rows.specs.Choice.{every, all_zero}
use Rattle.table_rows.proofs.PickLaws.{and_left, and_right, and_both}
use Rattle.confidential_hart.specs.declared.ConfidentialHart.{ConfidentialHart}
use Rattle.confidential_hart.specs.Hart.{no_vm, the_vm, no_operation, last_operation, is_dummy, with_operation, operation_sound, dummy_sound, well_formed, dummy, reset_hart, boot_hart}
use Rattle.hart_lifecycle_state.specs.Lifecycle.{started, powered_off}

-- ---- a well-formed record

implied : (a b : Bool) → not a || b ≡ true → a ≡ true → b ≡ true
implied true b e p = e
implied false b e p = cc

implies : (a b : Bool) → (a ≡ true → b ≡ true) → not a || b ≡ true
implies true b f = f refl
implies false b f = refl

-- the facts that the test stands for
pub record WellFormed (h : ConfidentialHart) : Type 0 where
  pub vm_known : h.vm ≤ the_vm
  pub state_known : h.lifecycle ≤ powered_off
  pub operation_known : h.operation ≤ last_operation
  pub x_absent : h.operation ≡ no_operation → h.x ≡ 0
  pub y_absent : h.operation ≡ no_operation → h.y ≡ 0
  pub dummy_started : h.vm ≡ no_vm → h.lifecycle ≡ started
  pub dummy_waits_not : h.vm ≡ no_vm → h.operation ≡ no_operation
  pub dummy_blank : h.vm ≡ no_vm → all_zero h.registers ≡ true

pub formed_facts : (h : ConfidentialHart) → well_formed h ≡ true → WellFormed h
unfolding well_formed
formed_facts h e =
    let v : Bool = leb h.vm the_vm in
    let l : Bool = leb h.lifecycle powered_off in
    let o : Bool = leb h.operation last_operation in
    let x : Bool = eqb h.x 0 in
    let y : Bool = eqb h.y 0 in
    let s : Bool = eqb h.lifecycle started in
    let n : Bool = eqb h.operation no_operation in
    let z : Bool = all_zero h.registers in
    let e1 = and_left (v && l && o && operation_sound h) (dummy_sound h) e in
    let e2 = and_left (v && l && o) (operation_sound h) e1 in
    let e3 = and_left (v && l) o e2 in
    let absent : n ≡ true → x && y ≡ true = implied n (x && y) (and_right (v && l && o) (operation_sound h) e1) in
    let blank : is_dummy h ≡ true → s && n && z ≡ true =
    implied (is_dummy h) (s && n && z) (and_right (v && l && o && operation_sound h) (dummy_sound h) e) in
    record {
      vm_known = leb-true _ _ (and_left v l e3);
      state_known = leb-true _ _ (and_right v l e3);
      operation_known = leb-true _ _ (and_right (v && l) o e2);
      x_absent = λ p. eqb-true _ _ (and_left x y (absent (eq-eqb _ _ p)));
      y_absent = λ p. eqb-true _ _ (and_right x y (absent (eq-eqb _ _ p)));
      dummy_started = λ p. eqb-true _ _ (and_left s n (and_left (s && n) z (blank (eq-eqb _ _ p))));
      dummy_waits_not = λ p. eqb-true _ _ (and_right s n (and_left (s && n) z (blank (eq-eqb _ _ p))));
      dummy_blank = λ p. and_right (s && n) z (blank (eq-eqb _ _ p));
    }

pub facts_formed : (h : ConfidentialHart) → WellFormed h → well_formed h ≡ true
unfolding well_formed
facts_formed h f =
    and_both
    (and_both
    (and_both (and_both (le-leb _ _ f.vm_known) (le-leb _ _ f.state_known)) (le-leb _ _ f.operation_known))
    (implies (eqb h.operation no_operation) (eqb h.x 0 && eqb h.y 0)
    (λ p. and_both (eq-eqb _ _ (f.x_absent (eqb-true _ _ p))) (eq-eqb _ _ (f.y_absent (eqb-true _ _ p))))))
    (implies (is_dummy h) (eqb h.lifecycle started && eqb h.operation no_operation && all_zero h.registers)
    (λ p.
    and_both
    (and_both (eq-eqb _ _ (f.dummy_started (eqb-true _ _ p))) (eq-eqb _ _ (f.dummy_waits_not (eqb-true _ _ p))))
    (f.dummy_blank (eqb-true _ _ p))))

module _ (h : ConfidentialHart) (w : well_formed h ≡ true) (real : is_dummy h ≡ false) (operation x y : ℕ) where
  -- a real hart's record stays well formed with an operation there is, or with none and two zeros
  pub operation_formed : operation ≤ last_operation → (operation ≡ no_operation → x ≡ 0) → (operation ≡ no_operation → y ≡ 0)
      → well_formed (with_operation operation x y h) ≡ true
  operation_formed known no-x no-y =
      let f = formed_facts h w in
      let of-vm = eqb-false _ _ real in
      facts_formed (with_operation operation x y h)
      (record {
        vm_known = f.vm_known;
        state_known = f.state_known;
        operation_known = known;
        x_absent = no-x;
        y_absent = no-y;
        dummy_started = λ p. absurd (of-vm p);
        dummy_waits_not = λ p. absurd (of-vm p);
        dummy_blank = λ p. absurd (of-vm p);
      })

-- as setup makes it
pub dummy_formed : (k : ℕ) → well_formed (dummy k) ≡ true
unfolding well_formed all_zero every
dummy_formed k = refl

pub reset_formed : (id : ℕ) → well_formed (reset_hart id) ≡ true
unfolding well_formed
reset_formed id = refl

pub boot_formed : (id pc fdt vsatp vsstatus : ℕ) → well_formed (boot_hart id pc fdt vsatp vsstatus) ≡ true
unfolding well_formed
boot_formed id pc fdt vsatp vsstatus = refl
