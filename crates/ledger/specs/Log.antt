-- The log of a VM, and what each of its entries says of the rows.
use Rattle.std.specs.Prelude.{ℕ, Bool, true, false, ◌&&◌, ◌||◌, List, [], ◌∷◌, eqb}
use Rattle.std.proofs.Math.Option.{Option, none, some}
use Rattle.error.specs.Error.{done, reached_max_number_of_remote_commands}
use Rattle.table_rows.specs.Choice.{pick}
use Rattle.confidential_vm_mmio_region.specs.declared.ConfidentialVmMmioRegion.{ConfidentialVmMmioRegion}
use Rattle.confidential_hart_remote_command.specs.declared.ConfidentialHartRemoteCommand.{ConfidentialHartRemoteCommand}
use Rattle.hart_lifecycle_state.specs.Lifecycle.{started, stopped, suspended, powered_off}
use Rattle.confidential_hart.specs.Hart.{no_operation}
use Rattle.confidential_hart.specs.HartStart.{start_registers, wake_registers}
use Rattle.confidential_vm_mmio_region.specs.Region.{region_from}
use Rattle.monitor_requests.specs.declared.Setup.{Setup}
use Rattle.monitor_requests.specs.declared.Request.TheVariants.{Steal, Return, Start, Suspend, Stop, Wake, Off, Await, Status, Home, Send, Allow, Add, Remove, Defined, Broadcast, Process, Resume}
use Rattle.monitor_requests.specs.Answers.{Answered, given, is_op}
use Rattle.monitor_requests.specs.declared.Request.{Request}

-- ---- the log

-- a request with its answer
pub record Entry : Type 0 where
  pub request : Request
  pub answer : Answered

-- the two together
abbrev pub entry : Request → Answered → Entry
entry request answer = record { request = request; answer = answer }

-- the accepted setup, and what was asked and answered since, the newest first
pub record Log : Type 0 where
  pub setup : Setup
  pub entries : List Entry

-- the two together
abbrev pub log : Setup → List Entry → Log
log setup entries = record { setup = setup; entries = entries }

-- an answer that is no refusal
abbrev pub accepted : Answered → Bool
accepted answer = eqb (given answer).number done

-- an answer that refuses because a receiver has 64 commands already
abbrev pub refused_with8 : Answered → Bool
refused_with8 answer = eqb (given answer).number reached_max_number_of_remote_commands

-- ---- what there is to say

-- where a hart goes: it stays, hart h is stolen by hardware hart k, or hardware hart k returns the one that it holds
pub data Move : Type 0 where
  stays : Move
  steals : ℕ → ℕ → Move
  returns : ℕ → Move

-- whom a request is about: nobody, hart h, or the hart that hardware hart k holds
pub data Who : Type 0 where
  nobody : Who
  hart_numbered : ℕ → Who
  held_by : ℕ → Who

-- what a hart waits for: the kind of an operation and its two numbers
pub record Wait : Type 0 where
  pub kind : ℕ
  pub x : ℕ
  pub y : ℕ

-- the three together
abbrev pub wait_for : ℕ → ℕ → ℕ → Wait
wait_for kind x y = record { kind = kind; x = x; y = y }

-- it waits for nothing
abbrev pub no_wait : Wait
no_wait = wait_for no_operation 0 0

-- what a request says of the rows
pub record Says : Type 0 where
  pub move : Move
  -- whom the next six are about; of a broadcast it is the sender
  pub who : Who
  -- its new lifecycle
  pub lifecycle : Option ℕ
  -- what its registers become
  pub registers : List ℕ → List ℕ
  -- what it waits for from now on
  pub wait : Option Wait
  -- it does every command of its queue, which is then empty
  pub empties : Bool
  -- the command that it does itself, if it is selected
  pub does : Option ConfidentialHartRemoteCommand
  -- the command that it sends to the others
  pub sends : Option ConfidentialHartRemoteCommand
  -- regions added and removed, and bits allowed
  pub adds : List ConfidentialVmMmioRegion
  pub removes : List ConfidentialVmMmioRegion
  pub allows : Option ℕ

-- registers stay as they are
abbrev pub unchanged : List ℕ → List ℕ
unchanged registers = registers

-- a move, regions and bits; nothing of any hart's record or queue
abbrev pub saying : Move → List ConfidentialVmMmioRegion → List ConfidentialVmMmioRegion → Option ℕ → Says
saying move adds removes allows =
    record {
      move = move;
      who = nobody;
      lifecycle = none;
      registers = unchanged;
      wait = none;
      empties = false;
      does = none;
      sends = none;
      adds = adds;
      removes = removes;
      allows = allows;
    }

-- one hart's record, its queue and the command that it sends; nothing else
abbrev pub of_hart : Who → Option ℕ → (List ℕ → List ℕ) → Option Wait → Bool → Option ConfidentialHartRemoteCommand → Option ConfidentialHartRemoteCommand → Says
of_hart who lifecycle registers wait empties does sends =
    record {
      move = stays;
      who = who;
      lifecycle = lifecycle;
      registers = registers;
      wait = wait;
      empties = empties;
      does = does;
      sends = sends;
      adds = [];
      removes = [];
      allows = none;
    }

-- nothing at all
abbrev pub nothing : Says
nothing = saying stays [] [] none

-- a hart moves
abbrev pub moving : Move → Says
moving move = saying move [] [] none

-- a hart has a new lifecycle, and other registers
abbrev pub changing : Who → ℕ → (List ℕ → List ℕ) → Says
changing who lifecycle registers = of_hart who (some lifecycle) registers none false none none

-- a hart waits for something
abbrev pub waiting : Who → Wait → Says
waiting who wait = of_hart who none unchanged (some wait) false none none

-- a hart does its queue, and may then wait for something else
abbrev pub emptying : Who → Option Wait → Says
emptying who wait = of_hart who none unchanged wait true none none

-- a hart sends a command, and may do it itself
abbrev pub sending : Who → Option ConfidentialHartRemoteCommand → ConfidentialHartRemoteCommand → Says
sending who does c = of_hart who none unchanged none false does (some c)

-- ---- what each request says

-- a resume that answers an operation took it
abbrev pub taken : Answered → Option Wait
taken answer = pick (is_op (given answer).word) (some no_wait) none

-- what each request says, once it is accepted with its answer
unfoldable pub says : Request → Answered → Says
says (Steal h k) a = moving (steals h.0 k.0)
says (Return k) a = moving (returns k.0)
says (Start h address opaque) a = changing (hart_numbered h.0) started (start_registers h.0 address opaque)
says (Suspend k) a = changing (held_by k.0) suspended unchanged
says (Stop k) a = changing (held_by k.0) stopped unchanged
says (Wake k address opaque) a = changing (held_by k.0) started (wake_registers address opaque)
says (Off k) a = changing (held_by k.0) powered_off unchanged
says (Await k kind x y) a = waiting (held_by k.0) (wait_for kind x y)
says (Status h) a = nothing
says Home a = nothing
says (Send sender c) a = sending (hart_numbered sender) none c
says (Allow bits) a = saying stays [] [] (some bits)
says (Add base size) a = saying stays (region_from base size ∷ []) [] none
says (Remove base size) a = saying stays [] (region_from base size ∷ []) none
says (Defined base size) a = nothing
says (Broadcast k c) a = sending (held_by k.0) (some c) c
says (Process k) a = emptying (held_by k.0) none
says (Resume k) a = emptying (held_by k.0) (taken a)

-- ---- what is heard of an entry

-- it holds something
abbrev pub is_some : {A : Type 0} → Option A → Bool
is_some none = false
is_some (some x) = true

-- an entry is heard where it was accepted, and a broadcast also where it was refused with 8: lower harts keep what they got, and what the
-- sender did itself stands
abbrev pub is_heard : Entry → Bool
is_heard e = accepted e.answer || refused_with8 e.answer && is_some (says e.request e.answer).sends

-- what is heard of it; of any other entry, nothing
unfoldable pub heard : Entry → Says
heard e = pick (is_heard e) (says e.request e.answer) nothing

-- ---- one entry more

-- the log with a request and its answer
abbrev pub noted : Request → Answered → Log → Log
noted request answer l = log l.setup (entry request answer ∷ l.entries)
