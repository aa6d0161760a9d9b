-- Commands: when two are equal, and the code's joined numbers against the numbers that a kind does not use. Assumes nothing.
use mathlib.Core.Path.{◌≡◌, refl}
use mathlib.Core.Bool.{Bool, true, false, ◌&&◌, and-true, and-false, and_assoc}
use mathlib.Core.List.{List}
use Prim.Native.Nat.{ℕ, zero, suc, ◌≤◌}
use native.Mathlib.Omega.{arith}
use lib.ListN.{length}
use lib.Dec.{eqb, leb, ltb}
use lib.Bits.{bit_or}
use borrow.Author.Tests.{eq-eqb, ne_eqb, eqb-true, lt-leb}
use Rattle.bits.proofs.BitLaws.{or_none}
use Rattle.table_rows.specs.Choice.{pick}
use Rattle.table_rows.proofs.RowLaws.{words_all}
use Rattle.confidential_hart_remote_command.specs.declared.ConfidentialHartRemoteCommand.{ConfidentialHartRemoteCommand}
use Rattle.confidential_hart_remote_command.specs.Command.{ipi, remote_sfence_vma, shutdown_request, well_formed, same, command_words, from_words, to_words}

-- ---- equal exactly when all six numbers are

pub same_refl : (a : ConfidentialHartRemoteCommand) → same a a ≡ true
unfolding same
same_refl a =
    let r : (x : ℕ) → eqb x x ≡ true = λ x. eq-eqb x x refl in
    simp (r a.kind, r a.mask, r a.base, r a.start, r a.size, r a.tag)

-- six tests that all hold
six : (k m b s z t : Bool) → k && m && b && s && z && t ≡ true
    → (k ≡ true) × (m ≡ true) × (b ≡ true) × (s ≡ true) × (z ≡ true) × (t ≡ true)
six true true true true true t e = (refl, refl, refl, refl, refl, e)
six true true true true false t e = (refl, refl, refl, refl, e, cc)
six true true true false z t e = (refl, refl, refl, e, cc, cc)
six true true false s z t e = (refl, refl, e, cc, cc, cc)
six true false b s z t e = (refl, e, cc, cc, cc, cc)
six false m b s z t e = (e, cc, cc, cc, cc, cc)

pub same_eq : (a b : ConfidentialHartRemoteCommand) → same a b ≡ true → a ≡ b
unfolding same
same_eq a b e =
    let es =
    six (eqb a.kind b.kind) (eqb a.mask b.mask) (eqb a.base b.base) (eqb a.start b.start)
    (eqb a.size b.size) (eqb a.tag b.tag) e in
    λ i. record {
      kind = eqb-true a.kind b.kind es.0 i;
      mask = eqb-true a.mask b.mask es.1 i;
      base = eqb-true a.base b.base es.2 i;
      start = eqb-true a.start b.start es.3 i;
      size = eqb-true a.size b.size es.4 i;
      tag = eqb-true a.tag b.tag es.5 i;
    }

-- ---- a command and its words

pub words_read : (c : ConfidentialHartRemoteCommand) → from_words (to_words c) ≡ c
words_read c = refl

pub words_back : (ws : List ℕ) → length ws ≡ command_words → to_words (from_words ws) ≡ ws
words_back ws e = words_all command_words ws e

-- ---- the numbers that a kind does not use, joined as the code joins them: all five, the last three, the last

abbrev rest : ConfidentialHartRemoteCommand → ℕ
rest c = bit_or (bit_or c.start c.size) c.tag

abbrev unused : ConfidentialHartRemoteCommand → ℕ
unused c =
    bit_or (bit_or (pick (eqb c.kind shutdown_request) (bit_or (bit_or c.mask c.base) (rest c)) 0) (pick (ltb c.kind remote_sfence_vma) (rest c) 0))
    (pick (eqb c.kind remote_sfence_vma) c.tag 0)

abbrev Form : ConfidentialHartRemoteCommand → Type 0
Form c = leb ipi c.kind && leb c.kind shutdown_request && eqb (unused c) 0 ≡ well_formed c

-- kind by kind
form_of : (k m b s z t : ℕ) → Form (record { kind = k; mask = m; base = b; start = s; size = z; tag = t })
unfolding pick well_formed
form_of zero m b s z t = refl
form_of (suc zero) m b s z t = simp (or_none, and-true, and_assoc)
form_of (suc (suc zero)) m b s z t = simp (or_none, and-true, and_assoc)
form_of (suc (suc (suc zero))) m b s z t = simp (or_none, and_assoc)
form_of (suc (suc (suc (suc zero)))) m b s z t = simp (or_none, and-true)
form_of (suc (suc (suc (suc (suc zero))))) m b s z t = simp (or_none, and-true)
form_of (suc (suc (suc (suc (suc (suc zero)))))) m b s z t = simp (or_none, and-true, and_assoc)
form_of (suc (suc (suc (suc (suc (suc (suc k))))))) m b s z t =
    let n : ℕ = suc (suc (suc (suc (suc (suc (suc k)))))) in
    let other : (i : ℕ) → i ≤ 6 → eqb n i ≡ false = λ i l. ne_eqb n i (λ e. omega arith) in
    simp (
      lt-leb n 6 (omega arith),
      other 1 (omega arith),
      other 2 (omega arith),
      other 3 (omega arith),
      other 4 (omega arith),
      other 5 (omega arith),
      other 6 (omega arith),
      and-false,
    )

pub joined_form : (c : ConfidentialHartRemoteCommand) → Form c
joined_form c = form_of c.kind c.mask c.base c.start c.size c.tag
