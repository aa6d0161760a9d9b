-- The registers of a hart that starts, and of one that wakes: they are as the documents say, and nothing else is. Assumes nothing.
use Prim.Native.Nat.{ℕ}
use mathlib.Core.Path.{◌≡◌, refl, sym, ap, ◌∙◌}
use mathlib.Core.Logic.{◌≢◌}
use mathlib.Core.List.{List, [], ◌∷◌}
use native.Mathlib.Omega.{arith}
use lib.ListN.{length, get_or, set, length-set}
use lib.Seq.{get_or-set_same, get_or-set_other, ext_get_or}
use lib.Dec.{eqb}
use borrow.Author.Tests.{eqb-true, eqb-false}
use Rattle.bits.specs.Bit.{bit, clear_bit}
use Rattle.bits.proofs.BitLaws.{bits_ext, clear_same, clear_other}
use Rattle.table_rows.proofs.PickLaws.{by_test}
use Rattle.table_rows.proofs.RowLaws.{words_all}
use Rattle.confidential_hart.specs.Hart.{register_count}
use Rattle.confidential_hart.specs.Status.{sie, spie, mpie}
use Rattle.confidential_hart.specs.HartStart.{a1, mepc, mstatus, vsstatus, start_registers, wake_registers, HartStarted, HartWoken}

-- ---- a number with a bit cleared is the only one with that bit 0 and the other bits as they were

clear_only : (d m x : ℕ) → bit d x ≡ 0 → ((j : ℕ) → j ≢ d → bit j x ≡ bit j m) → x ≡ clear_bit d m
clear_only d m x z kept =
    bits_ext x (clear_bit d m)
    (λ j.
    by_test (eqb j d)
    (λ e. let q : j ≡ d = eqb-true j d e in rw q (z ∙ sym (clear_same d m)))
    (λ e. let n : j ≢ d = eqb-false j d e in kept j n ∙ sym (clear_other j d m n)))

-- the same of two bits
clear_both_only : (d e m x : ℕ) → bit d x ≡ 0 → bit e x ≡ 0 → ((j : ℕ) → j ≢ d → j ≢ e → bit j x ≡ bit j m) → x ≡ clear_bit e (clear_bit d m)
clear_both_only d e m x zd ze kept =
    clear_only e (clear_bit d m) x ze
    (λ j ne.
    by_test (eqb j d)
    (λ p. let q : j ≡ d = eqb-true j d p in rw q (zd ∙ sym (clear_same d m)))
    (λ p. let n : j ≢ d = eqb-false j d p in kept j n ne ∙ sym (clear_other j d m n)))

module _ (before : List ℕ) (six : length before ≡ register_count) where
  -- ---- start

  module _ (id address opaque : ℕ) where
    -- the six, written out
    pub start_words : start_registers id address opaque before ≡ id ∷ opaque ∷ address ∷ 0 ∷ clear_bit mpie (clear_bit spie (get_or before mstatus 0)) ∷ clear_bit sie (get_or before vsstatus 0) ∷ []
    unfolding start_registers
    start_words = ap (start_registers id address opaque) (sym (words_all register_count before six))

    -- a hart starts as SBI's hart start says
    pub start_started : HartStarted id address opaque before (start_registers id address opaque before)
    start_started =
        rw start_words
        (record {
          as_many = sym six;
          satp_zero = refl;
          sie_clear = clear_same sie (get_or before vsstatus 0);
          vsstatus_kept = λ j n. clear_other j sie (get_or before vsstatus 0) n;
          spie_clear = clear_other spie mpie (clear_bit spie (get_or before mstatus 0)) (λ e. omega arith) ∙ clear_same spie (get_or before mstatus 0);
          mpie_clear = clear_same mpie (clear_bit spie (get_or before mstatus 0));
          mstatus_kept = λ j n k. clear_other j mpie (clear_bit spie (get_or before mstatus 0)) k ∙ clear_other j spie (get_or before mstatus 0) n;
          a0_hartid = refl;
          a1_opaque = refl;
          at_address = refl;
        })

    -- and whatever starts so has these registers
    pub start_only : (after : List ℕ) → HartStarted id address opaque before after → after ≡ start_registers id address opaque before
    start_only after f =
        let m = clear_both_only spie mpie (get_or before mstatus 0) (get_or after mstatus 0) f.spie_clear f.mpie_clear f.mstatus_kept in
        let v = clear_only sie (get_or before vsstatus 0) (get_or after vsstatus 0) f.sie_clear f.vsstatus_kept in
        sym (words_all register_count after (f.as_many ∙ six))
        ∙ rw (f.a0_hartid, f.a1_opaque, f.at_address, f.satp_zero, m, v) (sym start_words)

  -- ---- wake

  module _ (address opaque : ℕ) where
    -- the registers of a wake have the facts of `HartWoken`
    pub wake_woken : HartWoken address opaque before (wake_registers address opaque before)
    unfolding wake_registers
    wake_woken =
        record {
          as_many = simp length-set;
          a1_opaque = get_or-set_other (set before a1 opaque) mepc a1 address 0 (λ e. omega arith) ∙ get_or-set_same before a1 opaque 0 (omega arith);
          at_address = get_or-set_same (set before a1 opaque) mepc address 0 (simp length-set (omega arith));
          others_kept = λ j n k. get_or-set_other (set before a1 opaque) mepc j address 0 k ∙ get_or-set_other before a1 j opaque 0 n;
        }

    -- and whatever wakes so has these registers
    pub wake_only : (after : List ℕ) → HartWoken address opaque before after → after ≡ wake_registers address opaque before
    wake_only after f =
        let w = wake_woken in
        ext_get_or 0 after (wake_registers address opaque before) (f.as_many ∙ sym w.as_many)
        (λ j l.
        by_test (eqb j a1)
        (λ e. let q : j ≡ a1 = eqb-true j a1 e in rw q (f.a1_opaque ∙ sym w.a1_opaque))
        (λ e.
        let n : j ≢ a1 = eqb-false j a1 e in
        by_test (eqb j mepc)
        (λ d. let q : j ≡ mepc = eqb-true j mepc d in rw q (f.at_address ∙ sym w.at_address))
        (λ d. let k : j ≢ mepc = eqb-false j mepc d in f.others_kept j n k ∙ sym (w.others_kept j n k))))

-- both leave as many registers as there were
pub start_length : (id address opaque : ℕ) (before : List ℕ) → length (start_registers id address opaque before) ≡ length before
unfolding start_registers
start_length id address opaque before = simp length-set

pub wake_length : (address opaque : ℕ) (before : List ℕ) → length (wake_registers address opaque before) ≡ length before
unfolding wake_registers
wake_length address opaque before = simp length-set
