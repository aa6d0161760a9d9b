-- What the monitor is: for each request its tests in order, and then its effect; and setup.
use Rattle.std.specs.Prelude.{Result, Ok, Err, ℕ, zero, suc, ◌+◌, ◌*◌, Bool, true, false, ◌&&◌, not, List, [], ◌∷◌, ◌++◌, length, set, replicate, eqb, leb, ltb}
use Rattle.std.specs.Int.Bits.{bit_or}
use Rattle.error.specs.declared.Error.{Error}
use Rattle.error.specs.declared.Error.TheVariants.{
  InvalidHartId,
  HartAlreadyRunning,
  HartNotExecutable,
  CannotStartNotStoppedHart,
  CannotSuspedNotStartedHart,
  CannotStopNotStartedHart,
  CannotStartNotSuspendedHart,
  ReachedMaxNumberOfRemoteCommands,
  ReachedMaxNumberOfMmioRegions,
  OverlappingMmioRegion,
  EndTooLarge,
  TablesNotSound,
  RoomTooShort,
  NoSuchHardwareHart,
  HardwareHartBusy,
  HardwareHartIdle,
  OperationPending,
  SetupOutOfRange,
  UnknownKind,
}
use Rattle.bits.specs.Bit.{set_bit}
use Rattle.table_rows.specs.Rows.{row, put, rows_of, over}
use Rattle.table_rows.specs.Choice.{pick, every}
use Rattle.confidential_vm_mmio_region.specs.declared.ConfidentialVmMmioRegion.{ConfidentialVmMmioRegion}
use Rattle.confidential_vm_mmio_region.specs.Region.{max_end, region_from}
use Rattle.mmio_regions.specs.Regions.{max_regions, any_overlaps, any_contains, with_removed}
use Rattle.mmio_regions.specs.Table.{region_words, laid}
use Rattle.confidential_hart_remote_command.specs.declared.ConfidentialHartRemoteCommand.{ConfidentialHartRemoteCommand}
use Rattle.confidential_hart_remote_command.specs.Command.{well_formed}
use Rattle.confidential_hart_remote_command.specs.Selection.{selects}
use Rattle.remote_commands.specs.Queue.{max_commands, queue_words, count, commands, emptied, offered}
use Rattle.effects.specs.Effects.{effect_words, effects_of, shuts_down}
use Rattle.hart_lifecycle_state.specs.Lifecycle.{powered_off, Entry, becomes, refused, start, suspend, stop, wake}
use Rattle.confidential_hart.specs.declared.ConfidentialHart.{ConfidentialHart}
use Rattle.confidential_hart.specs.Hart.{no_operation, is_dummy, is_executable, is_operation, with_operation, dummy, reset_hart, boot_hart}
use Rattle.confidential_hart.specs.Transition.{after_start, after_suspend, after_stop, after_wake, after_off}
use Rattle.hart_rows.specs.HartRows.{hart_words, hart_at, to_words}
use Rattle.monitor_requests.specs.declared.Setup.{Setup}
use Rattle.monitor_requests.specs.declared.Request.{Request}
use Rattle.monitor_requests.specs.declared.Request.TheVariants.{
  Steal,
  Return,
  Start,
  Suspend,
  Stop,
  Wake,
  Off,
  Await,
  Status,
  Home,
  Send,
  Allow,
  Add,
  Remove,
  Defined,
  Broadcast,
  Process,
  Resume,
}
use Rattle.monitor_requests.specs.declared.Answer.TheVariants.{Done, Mask, State, Flag, Count, Run, PoweredOff, Operation}
use Rattle.monitor_requests.specs.declared.Reply.{Reply}
use Rattle.monitor_requests.specs.Answers.{Answered, given, values}
use Rattle.monitor_requests.specs.Tables.{
  Tables,
  tables,
  allowed_word,
  regions_word,
  harts,
  hardware_harts,
  allowed,
  region_count,
  home_hart,
  hardware_hart,
  queue,
  regions_of,
  counts_in_range,
  long_enough,
  sound,
}

-- the answer and how many effect records were written, and the tables and the effects room afterwards
pub record Outcome : Type 0 where
  pub answer : Answered
  pub did : ℕ
  pub after : Tables
  pub effects : List ℕ

-- the four together
abbrev pub outcome : Answered → ℕ → Tables → List ℕ → Outcome
outcome answer did after effects = record { answer = answer; did = did; after = after; effects = effects }

-- no command was done
abbrev pub answering : Answered → Tables → List ℕ → Outcome
answering answer after effects = outcome answer 0 after effects

-- what an entry that does commands gives, with the tables and the effects room that it leaves
abbrev pub replied : Reply → Tables → List ℕ → Outcome
replied a after effects = outcome a.answer a.did after effects

-- what an entry gives that has this outcome
abbrev pub reply_in : Outcome → Reply
reply_in o = record { answer = o.answer; did = o.did }

-- its values: how many effect records were written, and then those of the answer
abbrev pub reply_values : Reply → List ℕ
reply_values a = a.did ∷ values (given a.answer)

-- a refusal before any command was done
abbrev pub refused_reply : Error → Reply
refused_reply error = record { answer = Err error; did = 0 }

-- a reply, or a refusal before any command was done
abbrev pub replying : Result Reply Error → Reply
replying (Ok reply) = reply
replying (Err error) = refused_reply error

-- how many commands a hart did of its queue, or a refusal, as a reply
abbrev pub counting : Result ℕ Error → Reply
counting (Ok count) = record { answer = Ok (Count count); did = count }
counting (Err error) = refused_reply error

-- a test: the error that is given exactly when it holds
pub record Test : Type 0 where
  pub error : Error
  pub when : Bool

-- the error when the test holds
abbrev pub refuse : Error → Bool → Test
refuse error when = record { error = error; when = when }

-- tests in order: the first that holds refuses by its error; if none holds, what follows them
abbrev pub judged : {A : Type 0} → (Error → A) → List Test → A → A
judged refusal [] next = next
judged refusal (x ∷ xs) next = pick x.when (refusal x.error) (judged refusal xs next)

-- tests in order as a result: the error of the first that holds; if none holds, the value
abbrev pub tried : {A : Type 0} → List Test → A → Result A Error
tried xs value = judged Err xs (Ok value)

-- a refusal changes nothing
abbrev pub refused_on : Tables → List ℕ → Error → Outcome
refused_on t effects error = answering (Err error) t effects

-- ---- parts of tests

-- 12: the tables are not sound
abbrev pub unsound : Tables → Test
unsound t = refuse TablesNotSound (not (sound t))

-- 14: the hardware hart's number is m or above
abbrev pub no_hardware_hart : ℕ → Tables → Test
no_hardware_hart k t = refuse NoSuchHardwareHart (leb (hardware_harts t) k)

-- 16: the hardware hart holds its dummy
abbrev pub idle : ℕ → Tables → Test
idle k t = refuse HardwareHartIdle (is_dummy (hardware_hart t k))

-- 1: the hart's number is n or above
abbrev pub no_hart : ℕ → Tables → Test
no_hart h t = refuse InvalidHartId (leb (harts t) h)

-- 2: the home row holds a dummy
abbrev pub away : ℕ → Tables → Test
away h t = refuse HartAlreadyRunning (is_dummy (home_hart t h))

-- 11: base + size is above 2^64 − 1
abbrev pub too_large : ℕ → ℕ → Test
too_large base size = refuse EndTooLarge (ltb max_end (base + size))

-- 13: the effects room is under so many records
abbrev pub no_room : ℕ → List ℕ → Test
no_room records effects = refuse RoomTooShort (ltb (length effects) (records * effect_words))

-- the lifecycle's table refuses
unfoldable pub refuses : Entry → Bool
refuses (becomes state) = false
refuses (refused number) = true

-- 12 as a result
abbrev pub judgement : Tables → Result (Unit {0}) Error
judgement t = tried (unsound t ∷ []) tt

-- 14 and 16 as a result: the row of a real hart on hardware
abbrev pub held_at : ℕ → Tables → Result ℕ Error
held_at k t = tried (no_hardware_hart k t ∷ idle k t ∷ []) k

-- ---- tests

-- the tests of each request on sound tables in order, with their numbers above
unfoldable pub tests : Request → Tables → List ℕ → List Test
-- 14, 15, 1, 2, 3
tests (Steal hart on) t effects =
    no_hardware_hart on.0 t
    ∷ refuse HardwareHartBusy (not (is_dummy (hardware_hart t on.0)))
    ∷ no_hart hart.0 t
    ∷ away hart.0 t
    ∷ refuse HartNotExecutable (not (is_executable (home_hart t hart.0)))
    ∷ []
-- 14, 16
tests (Return on) t effects = no_hardware_hart on.0 t ∷ idle on.0 t ∷ []
-- 1, 2, 4
tests (Start hart address opaque) t effects =
    no_hart hart.0 t
    ∷ away hart.0 t
    ∷ refuse CannotStartNotStoppedHart (refuses (start (home_hart t hart.0).lifecycle))
    ∷ []
-- 14, 16, 5
tests (Suspend on) t effects =
    no_hardware_hart on.0 t
    ∷ idle on.0 t
    ∷ refuse CannotSuspedNotStartedHart (refuses (suspend (hardware_hart t on.0).lifecycle))
    ∷ []
-- 14, 16, 6
tests (Stop on) t effects =
    no_hardware_hart on.0 t
    ∷ idle on.0 t
    ∷ refuse CannotStopNotStartedHart (refuses (stop (hardware_hart t on.0).lifecycle))
    ∷ []
-- 14, 16, 7
tests (Wake on address opaque) t effects =
    no_hardware_hart on.0 t
    ∷ idle on.0 t
    ∷ refuse CannotStartNotSuspendedHart (refuses (wake (hardware_hart t on.0).lifecycle))
    ∷ []
-- 14, 16
tests (Off on) t effects = no_hardware_hart on.0 t ∷ idle on.0 t ∷ []
-- 19, 14, 16, 17
tests (Await on kind x y) t effects =
    refuse UnknownKind (not (is_operation kind))
    ∷ no_hardware_hart on.0 t
    ∷ idle on.0 t
    ∷ refuse OperationPending (not (eqb (hardware_hart t on.0).operation no_operation))
    ∷ []
-- 1
tests (Status hart) t effects = no_hart hart.0 t ∷ []
-- none
tests Home t effects = []
-- 19
tests (Send sender c) t effects = refuse UnknownKind (not (well_formed c)) ∷ []
-- none
tests (Allow bits) t effects = []
-- 11, 9, 10
tests (Add base size) t effects =
    too_large base size
    ∷ refuse ReachedMaxNumberOfMmioRegions (leb max_regions (length (regions_of t)))
    ∷ refuse OverlappingMmioRegion (any_overlaps (region_from base size) (regions_of t))
    ∷ []
-- 11
tests (Remove base size) t effects = too_large base size ∷ []
-- 11
tests (Defined base size) t effects = too_large base size ∷ []
-- 13, 19, 14, 16
tests (Broadcast on c) t effects =
    no_room 1 effects
    ∷ refuse UnknownKind (not (well_formed c))
    ∷ no_hardware_hart on.0 t
    ∷ idle on.0 t
    ∷ []
-- 13, 14, 16
tests (Process on) t effects = no_room max_commands effects ∷ no_hardware_hart on.0 t ∷ idle on.0 t ∷ []
-- 13, 14, 16
tests (Resume on) t effects = no_room max_commands effects ∷ no_hardware_hart on.0 t ∷ idle on.0 t ∷ []

-- ---- parts of effects

-- the number of the hart that hardware hart k holds
abbrev pub held_id : Tables → ℕ → ℕ
held_id t k = (hardware_hart t k).id

-- the commands that wait for it
abbrev pub held_commands : Tables → ℕ → List ConfidentialHartRemoteCommand
held_commands t k = commands (queue t (held_id t k))

-- the tables with another head
abbrev pub with_head : List ℕ → Tables → Tables
with_head head t = tables head t.home t.hardware t.queues t.regions

-- the tables with other home rows
abbrev pub with_home : List ℕ → Tables → Tables
with_home home t = tables t.head home t.hardware t.queues t.regions

-- the tables with other hardware rows
abbrev pub with_hardware : List ℕ → Tables → Tables
with_hardware hardware t = tables t.head t.home hardware t.queues t.regions

-- the tables with another record in hardware row k
abbrev pub with_held : ℕ → ConfidentialHart → Tables → Tables
with_held k hart t = with_hardware (put hart_words t.hardware k (to_words hart)) t

-- the tables with other queues
abbrev pub with_queues : List ℕ → Tables → Tables
with_queues queues t = tables t.head t.home t.hardware queues t.regions

-- the regions rs stand instead of those that stood
abbrev pub with_regions : List ConfidentialVmMmioRegion → Tables → Tables
with_regions rs t =
    tables (set t.head regions_word (length rs)) t.home t.hardware t.queues (laid t.regions (region_count t) rs)

-- home row h and hardware row k are exchanged
abbrev pub exchanged : ℕ → ℕ → Tables → Tables
exchanged h k t =
    tables t.head (put hart_words t.home h (row hart_words t.hardware k)) (put hart_words t.hardware k (row hart_words t.home h))
    t.queues
    t.regions

-- ---- a broadcast

-- hart h receives: it is selected, it is not the sender, and its home row is Started or Suspended
unfoldable pub receives : List ℕ → ℕ → ConfidentialHartRemoteCommand → ℕ → Bool
receives home sender c h = selects c h && not (eqb h sender) && is_executable (hart_at home h)

-- the mask once a receiver has the command: a dummy in its home row adds the bit of its hardware hart
abbrev pub interrupting : ConfidentialHart → ℕ → ℕ
interrupting x mask = pick (is_dummy x) (set_bit x.id mask) mask

-- the answer of a broadcast, and the queues afterwards
pub record Delivery : Type 0 where
  pub answer : Answered
  pub queues : List ℕ

-- the two together
abbrev pub delivery : Answered → List ℕ → Delivery
delivery answer queues = record { answer = answer; queues = queues }

-- a mask, or the error that ended the broadcast, as an answer
abbrev pub masked : Result ℕ Error → Answered
masked (Ok mask) = Ok (Mask mask)
masked (Err error) = Err error

-- the harts from h on, so many left to visit, with the mask so far: one that does not receive is passed over, a queue of 64 refuses and ends
-- the broadcast, and else the command is offered to the hart's queue
unfoldable pub deliver : List ℕ → ℕ → ConfidentialHartRemoteCommand → ℕ → ℕ → ℕ → List ℕ → Delivery
deliver home sender c zero h mask queues = delivery (Ok (Mask mask)) queues
deliver home sender c (suc left) h mask queues =
    pick (not (receives home sender c h)) (deliver home sender c left (h + 1) mask queues)
    (pick (leb max_commands (count (row queue_words queues h))) (delivery (Err ReachedMaxNumberOfRemoteCommands) queues)
    (deliver home sender c left (h + 1) (interrupting (hart_at home h) mask)
    (put queue_words queues h (offered (row queue_words queues h) c).queue)))

-- the whole broadcast
abbrev pub broadcast : ℕ → ConfidentialHartRemoteCommand → Tables → Delivery
broadcast sender c t = deliver t.home sender c (harts t) 0 0 t.queues

-- its outcome
abbrev pub sends : ℕ → ConfidentialHartRemoteCommand → Tables → List ℕ → Outcome
sends sender c t effects = answering (broadcast sender c t).answer (with_queues (broadcast sender c t).queues t) effects

-- ---- doing commands

-- the hardware rows once the hart in row k has done commands: a shutdown request makes it PoweredOff
unfoldable pub did_rows : List ConfidentialHartRemoteCommand → List ℕ → ℕ → List ℕ
did_rows cs hardware k = pick (shuts_down cs) (put hart_words hardware k (to_words (after_off (hart_at hardware k)).hart)) hardware

-- the tables then
abbrev pub doing : List ConfidentialHartRemoteCommand → ℕ → Tables → Tables
doing cs k t = with_hardware (did_rows cs t.hardware k) t

-- an outcome, with the effect records of hart h for the commands that it did over the front of the effects room
abbrev pub with_effects : ℕ → List ConfidentialHartRemoteCommand → Outcome → Outcome
with_effects h cs o = outcome o.answer (length cs) o.after (over (effects_of h cs) o.effects)

-- ---- broadcast

-- what sender h does itself: the command, if it is selected
unfoldable pub own_commands : ConfidentialHartRemoteCommand → ℕ → List ConfidentialHartRemoteCommand
own_commands c h = pick (selects c h) (c ∷ []) []

-- hart h on hardware hart k first does the command if selected; then the broadcast of the tables. What it did stands even if 8 follows
abbrev pub broadcasts : ConfidentialHartRemoteCommand → ℕ → ℕ → Tables → List ℕ → Outcome
broadcasts c k h t effects = with_effects h (own_commands c h) (sends h c (doing (own_commands c h) k t) effects)

-- ---- process and resume

-- hart h on hardware hart k has done commands, and its queue is empty
abbrev pub processed : List ConfidentialHartRemoteCommand → ℕ → ℕ → Tables → Tables
processed cs k h t = with_queues (put queue_words t.queues h emptied) (doing cs k t)

-- it did every queued command in order, and their count is given
abbrev pub processes : List ConfidentialHartRemoteCommand → ℕ → ℕ → Tables → List ℕ → Outcome
processes cs k h t effects = with_effects h cs (answering (Ok (Count (length cs))) (processed cs k h t) effects)

-- what a hart goes on with, and the hardware rows afterwards
pub record Going : Type 0 where
  pub answer : Answered
  pub hardware : List ℕ

-- the two together
abbrev pub going : Answered → List ℕ → Going
going answer hardware = record { answer = answer; hardware = hardware }

-- if PoweredOff, the hart in row k answers off and leaves the operation; else it takes the operation and answers it; else run
unfoldable pub goes_on : List ℕ → ℕ → Going
goes_on hardware k =
    pick (eqb (hart_at hardware k).lifecycle powered_off) (going (Ok PoweredOff) hardware)
    (pick (not (eqb (hart_at hardware k).operation no_operation))
    (going (Ok (Operation (hart_at hardware k).operation (hart_at hardware k).x (hart_at hardware k).y))
    (put hart_words hardware k (to_words (with_operation no_operation 0 0 (hart_at hardware k)))))
    (going (Ok Run) hardware))

-- the answer and the tables then
abbrev pub resumed : ℕ → Tables → List ℕ → Outcome
resumed k t effects = answering (goes_on t.hardware k).answer (with_hardware (goes_on t.hardware k).hardware t) effects

-- it did the same as a process, and then goes on
abbrev pub resumes : List ConfidentialHartRemoteCommand → ℕ → ℕ → Tables → List ℕ → Outcome
resumes cs k h t effects = with_effects h cs (resumed k (processed cs k h t) effects)

-- ---- effects

-- the effect of each request, once its tests are passed: its answer, and the tables and the effects room afterwards
unfoldable pub effect : Request → Tables → List ℕ → Outcome
effect (Steal hart on) t effects = answering (Ok (Mask (allowed t))) (exchanged hart.0 on.0 t) effects
effect (Return on) t effects = answering (Ok Done) (exchanged (held_id t on.0) on.0 t) effects
effect (Start hart address opaque) t effects =
    answering (Ok Done) (with_home (put hart_words t.home hart.0 (to_words (after_start address opaque (home_hart t hart.0)).hart)) t) effects
effect (Suspend on) t effects = answering (Ok Done) (with_held on.0 (after_suspend (hardware_hart t on.0)).hart t) effects
effect (Stop on) t effects = answering (Ok Done) (with_held on.0 (after_stop (hardware_hart t on.0)).hart t) effects
effect (Wake on address opaque) t effects = answering (Ok Done) (with_held on.0 (after_wake address opaque (hardware_hart t on.0)).hart t) effects
effect (Off on) t effects = answering (Ok Done) (with_held on.0 (after_off (hardware_hart t on.0)).hart t) effects
effect (Await on kind x y) t effects = answering (Ok Done) (with_held on.0 (with_operation kind x y (hardware_hart t on.0)) t) effects
effect (Status hart) t effects = answering (Ok (State (home_hart t hart.0).lifecycle)) t effects
effect Home t effects = answering (Ok (Flag (every (λ h. not (is_dummy (home_hart t h))) (harts t)))) t effects
effect (Send sender c) t effects = sends sender c t effects
effect (Allow bits) t effects = answering (Ok Done) (with_head (set t.head allowed_word (bit_or (allowed t) bits)) t) effects
effect (Add base size) t effects = answering (Ok Done) (with_regions (regions_of t ++ (region_from base size ∷ [])) t) effects
effect (Remove base size) t effects = answering (Ok Done) (with_regions (with_removed (region_from base size) (regions_of t)) t) effects
effect (Defined base size) t effects = answering (Ok (Flag (any_contains (region_from base size) (regions_of t)))) t effects
effect (Broadcast on c) t effects = broadcasts c on.0 (held_id t on.0) t effects
effect (Process on) t effects = processes (held_commands t on.0) on.0 (held_id t on.0) t effects
effect (Resume on) t effects = resumes (held_commands t on.0) on.0 (held_id t on.0) t effects

-- ---- the whole

-- a request on any tables and any effects room. Tables that are not sound are refused before all else
unfoldable pub performed : Request → Tables → List ℕ → Outcome
performed r t effects = judged (refused_on t effects) (unsound t ∷ tests r t effects) (effect r t effects)

-- ---- requests that do no command: an entry of one is lent no effects room

-- the request does no command
abbrev pub does_no_command : Request → Bool
does_no_command (Steal hart on) = true
does_no_command (Return on) = true
does_no_command (Start hart address opaque) = true
does_no_command (Suspend on) = true
does_no_command (Stop on) = true
does_no_command (Wake on address opaque) = true
does_no_command (Off on) = true
does_no_command (Await on kind x y) = true
does_no_command (Status hart) = true
does_no_command Home = true
does_no_command (Send sender c) = true
does_no_command (Allow bits) = true
does_no_command (Add base size) = true
does_no_command (Remove base size) = true
does_no_command (Defined base size) = true
does_no_command (Broadcast on c) = false
does_no_command (Process on) = false
does_no_command (Resume on) = false

-- the same answer and tables where an effects room is lent: no command was done, and the room is as it was
abbrev pub with_room : List ℕ → Outcome → Outcome
with_room effects o = answering o.answer o.after effects

-- ---- setup

-- hart h at setup: the boot hart or one after a reset
abbrev pub setup_hart : Setup → ℕ → ConfidentialHart
setup_hart s h = pick (eqb h s.boot) (boot_hart h s.mepc s.a1 s.vsatp s.vsstatus) (reset_hart h)

-- the tables at setup: n harts at home, m dummies, and all else empty or 0
abbrev pub fresh : Setup → Tables → Tables
fresh s t =
    tables
    (over (s.harts ∷ s.hardware ∷ 0 ∷ 0 ∷ []) t.head)
    (over (rows_of (λ h. to_words (setup_hart s h)) s.harts) t.home)
    (over (rows_of (λ k. to_words (dummy k)) s.hardware) t.hardware)
    (over (replicate (s.harts * queue_words) 0) t.queues)
    (over (replicate (max_regions * region_words) 0) t.regions)

-- 18, 13
unfoldable pub setup_tests : Setup → Tables → List Test
setup_tests s t =
    refuse SetupOutOfRange (not (counts_in_range s.harts s.hardware && ltb s.boot s.harts))
    ∷ refuse RoomTooShort (not (long_enough t s.harts s.hardware))
    ∷ []

-- a setup of any tables, sound or not, which is lent no effects room
unfoldable pub set_up : Setup → Tables → Outcome
set_up s t = judged (refused_on t []) (setup_tests s t) (answering (Ok Done) (fresh s t) [])
