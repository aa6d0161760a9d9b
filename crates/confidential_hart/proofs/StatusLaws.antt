-- The mstatus of setup: its number, and its fields. Assumes nothing.
use mathlib.Core.Path.{◌≡◌, refl, ◌∙◌, ap}
use native.Mathlib.Omega.{arith}
use Rattle.bits.specs.Bit.{bit, set_bit}
use Rattle.bits.proofs.BitLaws.{set_other, bit_above}
use Rattle.confidential_hart.specs.Status.{sie, spie, mpp, mpv, initial_mstatus, MstatusAtSetup}

-- its number
pub initial_mstatus_lem : initial_mstatus ≡ 549755815970
initial_mstatus_lem = refl

-- it is what setting one bit after the other gives
by_bits : initial_mstatus ≡ set_bit mpv (set_bit mpp (set_bit spie (set_bit sie 0)))
unfolding set_bit
by_bits = refl

-- its fields
pub mstatus_at_setup : MstatusAtSetup initial_mstatus
mstatus_at_setup =
    record {
      mpv_set = refl;
      mpp_supervisor = refl;
      spie_set = refl;
      sie_set = refl;
      others_clear = λ j v p s i.
          ap (bit j) by_bits
          ∙ set_other j mpv _ v
          ∙ set_other j mpp _ p
          ∙ set_other j spie _ s
          ∙ set_other j sie 0 i
          ∙ bit_above 0 j 0 (omega arith) (omega arith);
    }
