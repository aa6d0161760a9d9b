-- Which harts a command selects, after the RISC-V SBI specification 2.0, chapter 3 "Binary Encoding", on the hart list parameter.
use Rattle.std.specs.Prelude.{ℕ, ◌+◌, ◌-◌, ◌^◌, Bool, ◌&&◌, ◌||◌, eqb, leb, ltb}
use Rattle.bits.specs.Bit.{bit}
use Rattle.table_rows.specs.Choice.{exists}
use Rattle.confidential_hart_remote_command.specs.declared.ConfidentialHartRemoteCommand.{ConfidentialHartRemoteCommand}
use Rattle.confidential_hart_remote_command.specs.Command.{shutdown_request}

-- the bits of an unsigned long
abbrev pub xlen : ℕ
xlen = 64

-- hart_mask_base of −1: every hart, whatever hart_mask is
abbrev pub minus_one : ℕ
minus_one = 2 ^ xlen - 1

-- bit i of hart_mask stands for hart hart_mask_base + i
unfoldable pub in_hart_list : ℕ → ℕ → ℕ → Bool
in_hart_list hartMask hartMaskBase h =
    eqb hartMaskBase minus_one || exists (λ i. eqb (bit i hartMask) 1 && eqb h (hartMaskBase + i)) xlen

-- a command selects the harts of its list, and ShutdownRequest all
unfoldable pub selects : ConfidentialHartRemoteCommand → ℕ → Bool
selects c h = eqb c.kind shutdown_request || in_hart_list c.mask c.base h

-- the same by one bit: base is 2^64 − 1, or base ≤ h, h − base < 64 and that mask bit is 1
unfoldable pub mask_selects : ℕ → ℕ → ℕ → Bool
mask_selects mask base h = eqb base minus_one || leb base h && (ltb (h - base) xlen && eqb (bit (h - base) mask) 1)
