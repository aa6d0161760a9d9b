-- Logs with their rows worked out by hand: document 01's run P1, a run in which much happens, and its case P9.
use Rattle.std.specs.Prelude.{Ok, Err, ℕ, zero, suc, ◌*◌, List, [], ◌∷◌, ◌++◌, length, replicate}
use Rattle.error.specs.declared.Error.TheVariants.{HartAlreadyRunning, HartNotExecutable, ReachedMaxNumberOfRemoteCommands}
use Rattle.table_rows.specs.Lists.{up_to}
use Rattle.confidential_vm_mmio_region.specs.declared.ConfidentialVmMmioRegion.{ConfidentialVmMmioRegion}
use Rattle.confidential_vm_mmio_region.specs.Region.{region_of}
use Rattle.confidential_hart_remote_command.specs.declared.ConfidentialHartRemoteCommand.{ConfidentialHartRemoteCommand}
use Rattle.confidential_hart_remote_command.specs.Command.{ipi, remote_fence_i, remote_sfence_vma, shutdown_request}
use Rattle.remote_commands.specs.Queue.{max_commands, queue_words}
use Rattle.effects.specs.Effects.{effect_words}
use Rattle.mmio_regions.specs.Regions.{max_regions}
use Rattle.mmio_regions.specs.Table.{region_words}
use Rattle.hart_lifecycle_state.specs.Lifecycle.{started, stopped, powered_off}
use Rattle.confidential_hart.specs.declared.ConfidentialHart.{ConfidentialHart}
use Rattle.confidential_hart.specs.Hart.{the_vm, hart_of, idle_hart, reset_hart, dummy}
use Rattle.hart_rows.specs.HartRows.{hart_words}
use Rattle.monitor_requests.specs.declared.Setup.{Setup}
use Rattle.monitor_requests.specs.FromNumbers.{hart_id, hardware_hart_id, setup_of, command_of}
use Rattle.monitor_requests.specs.declared.Request.TheVariants.{Steal, Return, Start, Stop, Await, Send, Allow, Add, Remove, Broadcast, Process, Resume}
use Rattle.monitor_requests.specs.declared.Answer.TheVariants.{Done, Mask, Count, Run, PoweredOff}
use Rattle.monitor_requests.specs.Tables.{Tables, tables, head_words}
use Rattle.monitor_requests.specs.declared.Request.{Request}
use Rattle.ledger.specs.Log.{Entry, entry, Log, log}
use Rattle.ledger.specs.WorkedOut as rows
use Rattle.ledger.specs.Statement.{Ask, ask, Reached, reached_by, begun}

-- ---- requests, written as in a trace

-- hart h moves to hardware hart k
abbrev pub steal : ℕ → ℕ → Request
steal h k = Steal (hart_id h) (hardware_hart_id k)

-- the hart on hardware hart k goes home
abbrev pub return : ℕ → Request
return k = Return (hardware_hart_id k)

-- hart h starts
abbrev pub start : ℕ → ℕ → ℕ → Request
start h address opaque = Start (hart_id h) address opaque

-- the hart on hardware hart k stops
abbrev pub stop : ℕ → Request
stop k = Stop (hardware_hart_id k)

-- it waits for an operation
abbrev pub await : ℕ → ℕ → ℕ → ℕ → Request
await k kind x y = Await (hardware_hart_id k) kind x y

-- it does what waits for it
abbrev pub process : ℕ → Request
process k = Process (hardware_hart_id k)

-- it does what waits for it, and goes on
abbrev pub resume : ℕ → Request
resume k = Resume (hardware_hart_id k)

-- bits join the allowed mask
abbrev pub allow : ℕ → Request
allow bits = Allow bits

-- a region is added
abbrev pub add : ℕ → ℕ → Request
add base size = Add base size

-- the regions that overlap one are removed
abbrev pub remove : ℕ → ℕ → Request
remove base size = Remove base size

-- the hart on hardware hart k sends a command
abbrev pub broadcast : ℕ → ConfidentialHartRemoteCommand → Request
broadcast k c = Broadcast (hardware_hart_id k) c

-- a sender's number sends a command
abbrev pub send : ℕ → ConfidentialHartRemoteCommand → Request
send sender c = Send sender c

-- page i is fenced on the harts of a mask
abbrev pub fence : ℕ → ℕ → ConfidentialHartRemoteCommand
fence mask i = command_of remote_sfence_vma mask 0 (i * 4096) 4096 0

-- ---- a run on lent tables

-- tables with just the room that a setup asks for, all 0
abbrev pub room : Setup → Tables
room s =
    tables (replicate head_words 0) (replicate (s.harts * hart_words) 0) (replicate (s.hardware * hart_words) 0)
    (replicate (s.harts * queue_words) 0)
    (replicate (max_regions * region_words) 0)

-- room for as many effects as a queue has commands
abbrev pub effects_room : List ℕ
effects_room = replicate (max_commands * effect_words) 0

-- each request with that room
abbrev pub asks : List Request → List Ask
asks [] = []
asks (r ∷ rs) = ask r effects_room ∷ asks rs

-- what stands after a setup and requests
abbrev pub reached_from : Setup → List Request → Reached
reached_from s rs = reached_by (asks rs) (begun s (room s))

-- ---- all rows of a VM

pub record Table : Type 0 where
  pub home : List ConfidentialHart
  pub hardware : List ConfidentialHart
  pub queues : List (List ConfidentialHartRemoteCommand)
  pub regions : List ConfidentialVmMmioRegion
  pub allowed : ℕ

-- those worked out from a log
abbrev pub worked_out : Log → Table
worked_out l =
    record {
      home = up_to (rows.home_row l) l.setup.harts;
      hardware = up_to (rows.hardware_row l) l.setup.hardware;
      queues = up_to (rows.queue l.setup l.entries) l.setup.harts;
      regions = rows.regions l.entries;
      allowed = rows.allowed l.entries;
    }

-- ---- P1

-- the setup of P1: hart 0 boots with a1 4096 and mepc 8192
abbrev pub p1_setup : Setup
p1_setup = setup_of 2 2 0 4096 8192 0 0

-- an interrupt of harts 0 and 1
abbrev pub ipi_to_both : ConfidentialHartRemoteCommand
ipi_to_both = command_of ipi 3 0 0 0 0

-- the requests after it
abbrev pub p1_requests : List Request
p1_requests =
    steal 0 0
    ∷ steal 0 1
    ∷ steal 1 1
    ∷ start 1 64 7
    ∷ broadcast 0 ipi_to_both
    ∷ steal 1 1
    ∷ broadcast 0 ipi_to_both
    ∷ resume 1
    ∷ return 0
    ∷ []

-- the first seven with the answers that document 01 gives, the newest first
unfoldable pub p1_first : List Entry
p1_first =
    entry (broadcast 0 ipi_to_both) (Ok (Mask 2))
    ∷ entry (steal 1 1) (Ok (Mask 0))
    ∷ entry (broadcast 0 ipi_to_both) (Ok (Mask 0))
    ∷ entry (start 1 64 7) (Ok Done)
    ∷ entry (steal 1 1) (Err HartNotExecutable)
    ∷ entry (steal 0 1) (Err HartAlreadyRunning)
    ∷ entry (steal 0 0) (Ok (Mask 0))
    ∷ []

-- the log before hart 1 resumes
abbrev pub p1_before_resume : Log
p1_before_resume = log p1_setup p1_first

-- the log of the whole run
abbrev pub p1 : Log
p1 = log p1_setup (entry (return 0) (Ok Done) ∷ entry (resume 1) (Ok Run) ∷ p1_first)

-- hart 0 is as it booted: Started, with a0, a1, mepc, vsatp, mstatus and vsstatus of the setup
abbrev pub hart_0 : ConfidentialHart
hart_0 = idle_hart the_vm 0 started (0 ∷ 4096 ∷ 8192 ∷ 0 ∷ 549755815970 ∷ 0 ∷ [])

-- hart 1 was started at 64 with 7: bit 5 of its mstatus is cleared
abbrev pub hart_1 : ConfidentialHart
hart_1 = idle_hart the_vm 1 started (1 ∷ 7 ∷ 64 ∷ 0 ∷ 549755815938 ∷ 0 ∷ [])

-- before hart 1 resumes, each hart is on the hardware hart of its number, and one interrupt waits for hart 1 though it was sent twice
abbrev pub p1_table_before_resume : Table
p1_table_before_resume =
    record {
      home = dummy 0 ∷ dummy 1 ∷ [];
      hardware = hart_0 ∷ hart_1 ∷ [];
      queues = [] ∷ (ipi_to_both ∷ []) ∷ [];
      regions = [];
      allowed = 0;
    }

-- in the end hart 0 is home, hart 1 is still on hardware hart 1, and no command waits
abbrev pub p1_table : Table
p1_table =
    record {
      home = hart_0 ∷ dummy 1 ∷ [];
      hardware = dummy 0 ∷ hart_1 ∷ [];
      queues = [] ∷ [] ∷ [];
      regions = [];
      allowed = 0;
    }

-- ---- a run in which much happens

-- three harts on two hardware harts
abbrev pub busy_setup : Setup
busy_setup = setup_of 3 2 0 4096 8192 0 0

-- a fence on all three, and a shutdown
abbrev pub fence_all : ConfidentialHartRemoteCommand
fence_all = command_of remote_fence_i 7 0 0 0 0

abbrev pub shutdown : ConfidentialHartRemoteCommand
shutdown = command_of shutdown_request 0 0 0 0 0

-- what is asked and answered, the oldest first
unfoldable pub busy_answered : List Entry
busy_answered =
    -- both bits are allowed from then on
    entry (allow 1) (Ok Done)
    ∷ entry (allow 4) (Ok Done)
    -- the second region is removed; the first, which touches it, stays, and a third goes last
    ∷ entry (add 4096 4096) (Ok Done)
    ∷ entry (add 8192 4096) (Ok Done)
    ∷ entry (remove 8192 4096) (Ok Done)
    ∷ entry (add 0 4096) (Ok Done)
    -- hart 0 and hart 1 run; hart 1 stops itself
    ∷ entry (start 1 64 7) (Ok Done)
    ∷ entry (steal 0 0) (Ok (Mask 5))
    ∷ entry (steal 1 1) (Ok (Mask 5))
    ∷ entry (stop 1) (Ok Done)
    -- hart 0 does the fence itself; hart 1, stopped but stolen, gets it, and does it; hart 2 was never started
    ∷ entry (broadcast 0 fence_all) (Ok (Mask 2))
    ∷ entry (process 1) (Ok (Count 1))
    -- hart 0 waits for an operation and is then powered off by its own shutdown: the operation is not taken
    ∷ entry (await 0 3 5 6) (Ok Done)
    ∷ entry (broadcast 0 shutdown) (Ok (Mask 2))
    ∷ entry (resume 0) (Ok PoweredOff)
    -- hart 1 goes home
    ∷ entry (return 1) (Ok Done)
    ∷ []

-- the requests of entries, in their order
abbrev pub requests_of : List Entry → List Request
requests_of [] = []
requests_of (e ∷ es) = e.request ∷ requests_of es

-- entries in the other order
abbrev pub reversed : List Entry → List Entry
reversed [] = []
reversed (e ∷ es) = reversed es ++ (e ∷ [])

-- the log of the run
abbrev pub busy : Log
busy = log busy_setup (reversed busy_answered)

-- hart 0 is on hardware hart 0, PoweredOff, with its operation; hart 1 is home, Stopped, and the shutdown waits for it; hart 2 is as setup made it
abbrev pub busy_table : Table
busy_table =
    record {
      home = dummy 0 ∷ idle_hart the_vm 1 stopped (1 ∷ 7 ∷ 64 ∷ 0 ∷ 549755815938 ∷ 0 ∷ []) ∷ reset_hart 2 ∷ [];
      hardware = hart_of the_vm 0 powered_off 3 5 6 (0 ∷ 4096 ∷ 8192 ∷ 0 ∷ 549755815970 ∷ 0 ∷ []) ∷ dummy 1 ∷ [];
      queues = [] ∷ (shutdown ∷ []) ∷ [] ∷ [];
      regions = region_of 4096 8192 ∷ region_of 0 4096 ∷ [];
      allowed = 5;
    }

-- ---- P9

-- n different fences for hart 2, the newest first
abbrev pub fences_for_hart2 : ℕ → List Entry
fences_for_hart2 zero = []
fences_for_hart2 (suc n) = entry (send 9 (fence 4 n)) (Ok (Mask 0)) ∷ fences_for_hart2 n

-- Started harts 1, 2 and 3 are selected, and only hart 2 has 64 commands
unfoldable pub p9 : Log
p9 =
    log (setup_of 4 1 0 0 0 0 0)
    (entry (send 0 (command_of ipi 14 0 0 0 0)) (Err ReachedMaxNumberOfRemoteCommands)
    ∷ (fences_for_hart2 64 ++ (entry (start 3 0 0) (Ok Done) ∷ entry (start 2 0 0) (Ok Done) ∷ entry (start 1 0 0) (Ok Done) ∷ [])))

-- how many commands wait for each hart, by a log
abbrev pub waiting : Log → List ℕ
waiting l = up_to (λ h. length (rows.queue l.setup l.entries h)) l.setup.harts
