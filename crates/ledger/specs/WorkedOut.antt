-- The rows worked out from the log, each by looking back. The words are those of document 01's chapter "Rows worked out from the log".
use Rattle.std.specs.Prelude.{ℕ, zero, suc, ◌+◌, Bool, true, false, ◌&&◌, ◌||◌, not, List, [], ◌∷◌, ◌++◌, length, eqb, leb}
use Rattle.std.proofs.Math.Option.{Option, none, some}
use Rattle.std.specs.Int.Bits.{bit_or}
use Rattle.table_rows.specs.Choice.{pick, every}
use Rattle.table_rows.specs.Lists.{any_of}
use Rattle.confidential_vm_mmio_region.specs.declared.ConfidentialVmMmioRegion.{ConfidentialVmMmioRegion}
use Rattle.confidential_vm_mmio_region.specs.Region.{overlaps}
use Rattle.confidential_hart_remote_command.specs.declared.ConfidentialHartRemoteCommand.{ConfidentialHartRemoteCommand}
use Rattle.confidential_hart_remote_command.specs.Command.{same}
use Rattle.confidential_hart_remote_command.specs.Selection.{selects}
use Rattle.remote_commands.specs.Queue.{max_commands}
use Rattle.effects.specs.Effects.{shuts_down}
use Rattle.hart_lifecycle_state.specs.Lifecycle.{started, suspended, powered_off}
use Rattle.confidential_hart.specs.declared.ConfidentialHart.{ConfidentialHart}
use Rattle.confidential_hart.specs.Hart.{the_vm, hart_of, dummy}
use Rattle.monitor_requests.specs.declared.Setup.{Setup}
use Rattle.monitor_requests.specs.Answers.{Answered}
use Rattle.monitor_requests.specs.Requests.{setup_hart}
use Rattle.hart_standing.specs.Standing.{Standing, at_home, on_hardware, is_on}
use Rattle.ledger.specs.Log.{Entry, Log, accepted, Move, stays, steals, returns, Who, nobody, hart_numbered, held_by, Wait, no_wait, Says, is_some, heard}

-- ---- looking back

-- the first, or else the second
abbrev pub or_else : {A : Type 0} → Option A → Option A → Option A
or_else none y = y
or_else (some x) y = some x

-- what it holds, or else y
abbrev pub unwrap_or : {A : Type 0} → Option A → A → A
unwrap_or none y = y
unwrap_or (some x) y = x

-- what f reads in the last entry in which it reads something
unfoldable pub latest : {A : Type 0} → (Says → Option A) → List Entry → Option A
latest f [] = none
latest f (e ∷ es) = or_else (f (heard e)) (latest f es)

-- the entries since then
unfoldable pub since : {A : Type 0} → (Says → Option A) → List Entry → List Entry
since f [] = []
since f (e ∷ es) = pick (is_some (f (heard e))) [] (e ∷ since f es)

-- ---- place

-- the hardware hart that steals hart h
abbrev pub steals_hart : ℕ → Move → Option ℕ
steals_hart h stays = none
steals_hart h (steals g k) = pick (eqb g h) (some k) none
steals_hart h (returns k) = none

-- a return by hardware hart k
abbrev pub returns_by : ℕ → Move → Bool
returns_by k stays = false
returns_by k (steals h j) = false
returns_by k (returns j) = eqb k j

-- a steal by k, unless a return by k is among the entries since
abbrev pub unless_returned : Option ℕ → List Entry → Standing
unless_returned none es = at_home
unless_returned (some k) es = pick (any_of (λ e. returns_by k (heard e).move) es) at_home (on_hardware k)

-- hart h is on k if the last accepted steal of h named k and no return by k was accepted since; else home
unfoldable pub place : List Entry → ℕ → Standing
place es h = unless_returned (latest (λ u. steals_hart h u.move) es) (since (λ u. steals_hart h u.move) es)

-- hart h, which stands there, is the one that a request is about
abbrev pub is_who : Who → Standing → ℕ → Bool
is_who nobody at h = false
is_who (hart_numbered g) at h = eqb h g
is_who (held_by k) at h = is_on k at

-- the entry after es is about hart h
abbrev pub about : Entry → List Entry → ℕ → Bool
about e es h = is_who (heard e).who (place es h) h

-- ---- commands

-- a command goes last, unless one that equals it is there
abbrev pub with_copy : ConfidentialHartRemoteCommand → List ConfidentialHartRemoteCommand → List ConfidentialHartRemoteCommand
with_copy c cs = pick (any_of (λ d. same d c) cs) cs (cs ++ (c ∷ []))

-- first copies only, the oldest first, of commands that stand newest first
unfoldable pub first_copies : List ConfidentialHartRemoteCommand → List ConfidentialHartRemoteCommand
first_copies [] = []
first_copies (c ∷ older) = with_copy c (first_copies older)

-- a hart that a broadcast reaches: it is stolen, Started or Suspended
abbrev pub reachable : Standing → ℕ → Bool
reachable at_home lifecycle = eqb lifecycle started || eqb lifecycle suspended
reachable (on_hardware k) lifecycle = true

-- a hart that has 64 commands
abbrev pub full : List ConfidentialHartRemoteCommand → Bool
full queue = leb max_commands (length queue)

-- hart h receives a command: it is selected, it is not the sender, and it is then stolen, Started or Suspended
abbrev pub receives : ConfidentialHartRemoteCommand → Bool → Standing → ℕ → ℕ → Bool
receives c sender at lifecycle h = selects c h && not sender && reachable at lifecycle

-- an accepted broadcast delivers to each that receives; one refused with 8 only to those below the refusing one: no hart up to them receives
-- and is full
abbrev pub delivers : Answered → (ℕ → Bool) → (ℕ → Bool) → ℕ → Bool
delivers answer receiving isFull h = receiving h && (accepted answer || every (λ g. not (receiving g && isFull g)) (h + 1))

-- a command that is delivered stands before the others
abbrev pub with_delivery : Option ConfidentialHartRemoteCommand → (ConfidentialHartRemoteCommand → Bool) → List ConfidentialHartRemoteCommand → List ConfidentialHartRemoteCommand
with_delivery none gets before = before
with_delivery (some c) gets before = pick (gets c) (c ∷ before) before

-- a command that hart h does itself: it is selected
abbrev pub selected : Option ConfidentialHartRemoteCommand → ℕ → List ConfidentialHartRemoteCommand
selected none h = []
selected (some c) h = pick (selects c h) (c ∷ []) []

-- what the hart that a request is about does: its queue, or the command that it sends
abbrev pub done_by : Says → List ConfidentialHartRemoteCommand → ℕ → List ConfidentialHartRemoteCommand
done_by u queue h = pick u.empties queue (selected u.does h)

-- the lifecycle after a request that is about a hart which did these commands: a done kind 6 counts as off
abbrev pub lifecycle_after : Says → List ConfidentialHartRemoteCommand → ℕ → ℕ
lifecycle_after u did before = pick (shuts_down did) powered_off (unwrap_or u.lifecycle before)

-- ---- the rows

module _ (s : Setup) where
  unfoldable mutual
    -- commands delivered since the last emptying, an accepted process or resume; the newest first
    pub delivered : List Entry → ℕ → List ConfidentialHartRemoteCommand
    delivered [] h = []
    delivered (e ∷ es) h =
        pick ((heard e).empties && about e es h) []
        (with_delivery (heard e).sends
        (λ c. delivers e.answer (λ g. receives c (about e es g) (place es g) (lifecycle es g) g) (λ g. full (first_copies (delivered es g))) h)
        (delivered es h))

    -- lifecycle: setup, then the last accepted change
    pub lifecycle : List Entry → ℕ → ℕ
    lifecycle [] h = (setup_hart s h).lifecycle
    lifecycle (e ∷ es) h =
        pick (about e es h) (lifecycle_after (heard e) (done_by (heard e) (first_copies (delivered es h)) h) (lifecycle es h)) (lifecycle es h)

  -- queue: commands delivered since the last emptying, first copies only
  unfoldable pub queue : List Entry → ℕ → List ConfidentialHartRemoteCommand
  queue es h = first_copies (delivered es h)

  -- registers: setup, then the last accepted change to each
  unfoldable pub registers : List Entry → ℕ → List ℕ
  registers [] h = (setup_hart s h).registers
  registers (e ∷ es) h = pick (about e es h) ((heard e).registers (registers es h)) (registers es h)

-- operation: the last set and not taken
unfoldable pub operation : List Entry → ℕ → Wait
operation [] h = no_wait
operation (e ∷ es) h = pick (about e es h) (unwrap_or (heard e).wait (operation es h)) (operation es h)

-- a remove of q drops r
abbrev pub drops : ConfidentialVmMmioRegion → ConfidentialVmMmioRegion → Bool
drops q r = overlaps r q

-- of some regions those that no remove drops
unfoldable pub unremoved : List ConfidentialVmMmioRegion → List ConfidentialVmMmioRegion → List ConfidentialVmMmioRegion
unremoved removes [] = []
unremoved removes (r ∷ rs) = pick (any_of (λ q. drops q r) removes) (unremoved removes rs) (r ∷ unremoved removes rs)

-- accepted adds, the oldest first, that neither a later accepted remove nor a given one drops
unfoldable pub added_until : List ConfidentialVmMmioRegion → List Entry → List ConfidentialVmMmioRegion
added_until removes [] = []
added_until removes (e ∷ es) = added_until ((heard e).removes ++ removes) es ++ unremoved removes (heard e).adds

-- regions: accepted adds with no later accepted remove overlapping them
abbrev pub regions : List Entry → List ConfidentialVmMmioRegion
regions es = added_until [] es

-- bits that are allowed join the mask
abbrev pub joined : Option ℕ → ℕ → ℕ
joined none mask = mask
joined (some bits) mask = bit_or mask bits

-- allowed mask: all bits ever allowed
unfoldable pub allowed : List Entry → ℕ
allowed [] = 0
allowed (e ∷ es) = joined (heard e).allows (allowed es)

-- ---- the rows of harts

-- real hart h
unfoldable pub real_hart : Log → ℕ → ConfidentialHart
real_hart l h =
    hart_of the_vm h (lifecycle l.setup l.entries h) (operation l.entries h).kind (operation l.entries h).x (operation l.entries h).y
    (registers l.setup l.entries h)

-- the home row of a hart that stands there: the hart itself, or the dummy of its hardware hart
abbrev pub row_for : Standing → ConfidentialHart → ConfidentialHart
row_for at_home real = real
row_for (on_hardware k) real = dummy k

-- home row h
abbrev pub home_row : Log → ℕ → ConfidentialHart
home_row l h = row_for (place l.entries h) (real_hart l h)

-- of the first n harts the one that stands on hardware hart k, else its dummy
unfoldable pub standing_on : Log → ℕ → ℕ → ConfidentialHart
standing_on l zero k = dummy k
standing_on l (suc n) k = pick (is_on k (place l.entries n)) (real_hart l n) (standing_on l n k)

-- hardware row k
abbrev pub hardware_row : Log → ℕ → ConfidentialHart
hardware_row l k = standing_on l l.setup.harts k
