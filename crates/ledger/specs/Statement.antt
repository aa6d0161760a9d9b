-- What is stated: from an accepted setup, after any requests, every row in the lent words is the row worked out from the log.
use Rattle.std.specs.Prelude.{Ok, Err, ℕ, ◌-◌, ◌*◌, ◌≤◌, ◌<◌, ◌≡◌, ◌≢◌, Bool, true, false, ◌&&◌, List, [], ◌∷◌, ◌++◌, length, replicate, drop, eqb}
use Rattle.error.specs.declared.Error.{Error}
use Rattle.error.specs.declared.Error.TheVariants.{ReachedMaxNumberOfRemoteCommands, TablesNotSound}
use Rattle.bits.specs.Bit.{bit}
use Rattle.table_rows.specs.Choice.{pick, exists}
use Rattle.table_rows.specs.Rows.{over}
use Rattle.confidential_vm_mmio_region.specs.declared.ConfidentialVmMmioRegion.{ConfidentialVmMmioRegion}
use Rattle.mmio_regions.specs.Regions.{max_regions}
use Rattle.mmio_regions.specs.Table.{region_words, words_of}
use Rattle.confidential_hart_remote_command.specs.declared.ConfidentialHartRemoteCommand.{ConfidentialHartRemoteCommand}
use Rattle.confidential_hart_remote_command.specs.Command as command
use Rattle.remote_commands.specs.Queue.{max_commands}
use Rattle.effects.specs.Effects.{effect_words, effects_of, shuts_down}
use Rattle.hart_lifecycle_state.specs.Lifecycle.{powered_off}
use Rattle.confidential_hart.specs.declared.ConfidentialHart.{ConfidentialHart}
use Rattle.confidential_hart.specs.declared.HardwareHartId.{HardwareHartId}
use Rattle.confidential_hart.specs.Hart.{the_vm, no_operation}
use Rattle.hart_rows.specs.HartRows.{to_words}
use Rattle.monitor_requests.specs.declared.Setup.{Setup}
use Rattle.monitor_requests.specs.declared.Request.{Request}
use Rattle.monitor_requests.specs.declared.Request.TheVariants.{Send, Broadcast, Process, Resume}
use Rattle.monitor_requests.specs.Answers.{Answered}
use Rattle.monitor_requests.specs.declared.Answer.TheVariants.{Done, Mask, Count, Run, PoweredOff, Operation}
use Rattle.monitor_requests.specs.Tables.{Tables, harts, hardware_harts, home_hart, hardware_hart}
use Rattle.monitor_requests.specs.Requests.{Outcome, answering, fresh, set_up, refused_on, performed}
use Rattle.monitor_requests.specs.Writes.{Place, words_at, within, past, home_row, hardware_row, queue_row, region_table, allowed_mask, counts, writes}
use Rattle.hart_standing.specs.Standing.{Standing, at_home, on_hardware, is_on}
use Rattle.ledger.specs.Log.{Entry, entry, Log, log, accepted, Who, hart_numbered, held_by, Wait, is_some, says, is_heard, heard, noted}
use Rattle.ledger.specs.WorkedOut as rows
use Rattle.ledger.specs.WorkedOut.{is_who, place, about, done_by}

-- ---- a run of the entries

-- log l and tables t are left by a run: an accepted setup on any lent tables, and then any requests, each on the tables that the one before left
-- and with any effects room. What a step leaves is what its entry promises, word for word: `set_up` of the setup, `performed` of a request
pub data Left : Log → Tables → Type 0 where
  begins : (s : Setup) (lent : Tables) (o : Outcome) → o ≡ set_up s lent → o.answer ≡ Ok Done → Left (log s []) o.after
  asked : (l : Log) (t : Tables) → Left l t → (request : Request) (effects : List ℕ) (o : Outcome) → o ≡ performed request t effects
      → Left (noted request o.answer l) o.after

-- the same for a list: a setup again, or a request and the effects room that is lent with it
pub data Ask : Type 0 where
  again : Setup → Ask
  ask : Request → List ℕ → Ask

-- a log, and the tables that stand with it
pub record Reached : Type 0 where
  pub written : Log
  pub standing : Tables

-- the two, after an outcome
abbrev pub reached : Request → Outcome → Log → Reached
reached request o l = record { written = noted request o.answer l; standing = o.after }

-- the two after a later setup: one that is accepted starts the log anew, and one that is refused is no entry and leaves both as they were
abbrev pub reached_again : Setup → Outcome → Log → Reached
reached_again s o l = record { written = pick (accepted o.answer) (log s []) l; standing = o.after }

-- the two after requests, one after the other
abbrev pub reached_by : List Ask → Reached → Reached
reached_by [] x = x
reached_by (again s ∷ more) x = reached_by more (reached_again s (set_up s x.standing) x.written)
reached_by (ask request effects ∷ more) x = reached_by more (reached request (performed request x.standing effects) x.written)

-- the two after an accepted setup
abbrev pub begun : Setup → Tables → Reached
begun s lent = record { written = log s []; standing = (set_up s lent).after }

-- ---- every row

-- the words of commands
unfoldable pub commands_words : List ConfidentialHartRemoteCommand → List ℕ
commands_words [] = []
commands_words (c ∷ cs) = command.to_words c ++ commands_words cs

-- a queue: the count, the commands, and 0 in the places after them
abbrev pub queue_words_of : List ConfidentialHartRemoteCommand → List ℕ
queue_words_of cs = length cs ∷ (commands_words cs ++ replicate ((max_commands - length cs) * command.command_words) 0)

-- the region table with its count: the regions, and 0 in the places after them
abbrev pub region_words_of : List ConfidentialVmMmioRegion → List ℕ
region_words_of rs = length rs ∷ (words_of rs ++ replicate ((max_regions - length rs) * region_words) 0)

-- the words in each place of the tables are those of the row worked out from the log
pub record RowsAre (l : Log) (t : Tables) : Type 0 where
  pub counts_are : words_at counts t ≡ l.setup.harts ∷ l.setup.hardware ∷ []
  pub home_rows : (h : ℕ) → h < l.setup.harts → words_at (home_row h) t ≡ to_words (rows.home_row l h)
  pub hardware_rows : (k : ℕ) → k < l.setup.hardware → words_at (hardware_row k) t ≡ to_words (rows.hardware_row l k)
  pub queues_are : (h : ℕ) → h < l.setup.harts → words_at (queue_row h) t ≡ queue_words_of (rows.queue l.setup l.entries h)
  pub regions_are : words_at region_table t ≡ region_words_of (rows.regions l.entries)
  pub mask_is : words_at allowed_mask t ≡ rows.allowed l.entries ∷ []

-- ---- one place

-- a row that may hold a hart
pub data Row : Type 0 where
  home : ℕ → Row
  hardware : ℕ → Row

-- the record there
abbrev pub held : Tables → Row → ConfidentialHart
held t (home h) = home_hart t h
held t (hardware k) = hardware_hart t k

-- it is one of the n or m rows
abbrev pub There : Tables → Row → Type 0
There t (home h) = h < harts t
There t (hardware k) = k < hardware_harts t

-- real hart h stands in a row
pub record Stands (t : Tables) (h : ℕ) (r : Row) : Type 0 where
  pub there : There t r
  pub real : (held t r).vm ≡ the_vm
  pub number : (held t r).id ≡ h

-- it stands in this row, and in no other
pub record StandsOnly (t : Tables) (h : ℕ) (r : Row) : Type 0 where
  pub stands : Stands t h r
  pub only : (q : Row) → Stands t h q → q ≡ r

-- the row of hart h, by its place
abbrev pub row_at : Standing → ℕ → Row
row_at at_home h = home h
row_at (on_hardware k) h = hardware k

-- ---- what a request may do next

-- hart h receives a command of that sender, by the log
abbrev pub is_receiver : ConfidentialHartRemoteCommand → Who → Log → ℕ → Bool
is_receiver c sender l h =
    rows.receives c (is_who sender (place l.entries h) h) (place l.entries h) (rows.lifecycle l.setup l.entries h) h

-- some hart that receives has 64 commands already, by the log
abbrev pub some_full : ConfidentialHartRemoteCommand → Who → Log → Bool
some_full c sender l = exists (λ h. is_receiver c sender l h && rows.full (rows.queue l.setup l.entries h)) l.setup.harts

-- what a broadcast answers: a mask where no receiver is full, and bit k of it is 1 exactly when some receiver stands on hardware hart k
pub record MaskOf (c : ConfidentialHartRemoteCommand) (sender : Who) (l : Log) (mask : ℕ) : Type 0 where
  pub none_full : some_full c sender l ≡ false
  pub bits : (k : ℕ) → eqb (bit k mask) 1 ≡ exists (λ h. is_receiver c sender l h && is_on k (place l.entries h)) l.setup.harts

-- hart h is the one that stands on hardware hart k, by the log
pub record On (k : ℕ) (l : Log) (h : ℕ) : Type 0 where
  pub there : h < l.setup.harts
  pub on_it : place l.entries h ≡ on_hardware k

-- what a process answers: the length of the queue of the hart on hardware hart k
pub record CountOf (k : ℕ) (l : Log) (count : ℕ) : Type 0 where
  pub hart : ℕ
  pub stands : On k l hart
  pub count_is : count ≡ length (rows.queue l.setup l.entries hart)

-- what a hart with that lifecycle that waits for that goes on with: off if PoweredOff; else its operation; else it runs
abbrev pub going_on : ℕ → Wait → Answered
going_on lifecycle wait =
    pick (eqb lifecycle powered_off) (Ok PoweredOff) (pick (eqb wait.kind no_operation) (Ok Run) (Ok (Operation wait.kind wait.x wait.y)))

-- what a resume answers: what the hart on hardware hart k goes on with, once it did its queue
pub record ResumeOf (k : ℕ) (l : Log) (answer : Answered) : Type 0 where
  pub hart : ℕ
  pub stands : On k l hart
  pub answer_is : answer
      ≡ going_on (pick (shuts_down (rows.queue l.setup l.entries hart)) powered_off (rows.lifecycle l.setup l.entries hart))
      (rows.operation l.entries hart)

-- what hart h does by the next entry, if it is about h: the commands of its queue, in order, or the one that it sends, if it is selected
abbrev pub does_then : Entry → Log → ℕ → List ConfidentialHartRemoteCommand
does_then e l h = done_by (heard e) (rows.queue l.setup l.entries h) h

-- an outcome counts as many effect records as commands, and has over the front of the effects room those of hart h for them, in order
pub record RecordsOf (h : ℕ) (cs : List ConfidentialHartRemoteCommand) (effects : List ℕ) (o : Outcome) : Type 0 where
  pub did_is : o.did ≡ length cs
  pub room_is : o.effects ≡ over (effects_of h cs) effects

-- the effect records that the next entry leaves. Process and resume leave those of a queue, and a broadcast that of its sender, also with 8
pub record RecordsAre (l : Log) (e : Entry) (effects : List ℕ) (o : Outcome) : Type 0 where
  -- an entry about hart h leaves those of what h does, by the log
  pub of_a_hart : (h : ℕ) → h < l.setup.harts → about e l.entries h ≡ true → RecordsOf h (does_then e l h) effects o
  -- an entry about none of the harts, such as any other refusal, leaves none
  pub did_none : exists (about e l.entries) l.setup.harts ≡ false → o.did ≡ 0
  pub room_kept : exists (about e l.entries) l.setup.harts ≡ false → o.effects ≡ effects

-- how many words each table has
abbrev pub lengths : Tables → List ℕ
lengths t = length t.head ∷ length t.home ∷ length t.hardware ∷ length t.queues ∷ length t.regions ∷ []

-- the words past the tables of so many harts as t has now
abbrev pub past_end : Tables → Tables → Tables
past_end t = past (harts t) (hardware_harts t)

-- an outcome o of a request on tables t with log l
pub record Next (l : Log) (t : Tables) (request : Request) (effects : List ℕ) (o : Outcome) : Type 0 where
  -- equal inputs allow one outcome
  pub one_outcome : (other : Outcome) → other ≡ performed request t effects → other ≡ o
  -- 12 never occurs
  pub never_12 : o.answer ≢ Err TablesNotSound
  -- a refusal changes nothing, unless the log hears it: 8 of a Send or a Broadcast
  pub refusal_alone : (e : Error) → o.answer ≡ Err e → is_heard (entry request (Err e)) ≡ false → o ≡ refused_on t effects e
  -- 8 is given to these two alone: the request sends a command
  pub only_broadcasts_8 : o.answer ≡ Err ReachedMaxNumberOfRemoteCommands → is_some (says request o.answer).sends ≡ true
  -- the request writes only the places that are named for it
  pub writes_only : (p : Place) → within p t ≡ true → writes request t p ≡ false → words_at p o.after ≡ words_at p t
  -- no word past the tables, and each table is as long as it was
  pub past_kept : past_end o.after o.after ≡ past_end o.after t
  pub as_long : lengths o.after ≡ lengths t
  -- the effect records are those that the log says
  pub records_are : RecordsAre l (entry request o.answer) effects o
  -- of the effects room only the records that are counted are written, which lie within it
  pub effects_kept : drop (o.did * effect_words) o.effects ≡ drop (o.did * effect_words) effects
  pub effects_fit : o.did * effect_words ≤ length effects
  pub effects_as_long : length o.effects ≡ length effects
  -- the count that a process gives is the queue's length before
  pub counted : (k : HardwareHartId) (count : ℕ) → request ≡ Process k → o.answer ≡ Ok (Count count) → CountOf k.0 l count
  -- the mask that a broadcast gives has the bits of the stolen receivers, and 8 is given where one is full
  pub broadcast_masked : (k : HardwareHartId) (c : ConfidentialHartRemoteCommand) (mask : ℕ) → request ≡ Broadcast k c → o.answer ≡ Ok (Mask mask)
      → MaskOf c (held_by k.0) l mask
  pub broadcast_8 : (k : HardwareHartId) (c : ConfidentialHartRemoteCommand) → request ≡ Broadcast k c
      → o.answer ≡ Err ReachedMaxNumberOfRemoteCommands
      → some_full c (held_by k.0) l ≡ true
  pub send_masked : (sender : ℕ) (c : ConfidentialHartRemoteCommand) (mask : ℕ) → request ≡ Send sender c → o.answer ≡ Ok (Mask mask)
      → MaskOf c (hart_numbered sender) l mask
  pub send_8 : (sender : ℕ) (c : ConfidentialHartRemoteCommand) → request ≡ Send sender c
      → o.answer ≡ Err ReachedMaxNumberOfRemoteCommands
      → some_full c (hart_numbered sender) l ≡ true
  -- a resume that is accepted answers what its hart goes on with
  pub resumed : (k : HardwareHartId) → request ≡ Resume k → accepted o.answer ≡ true → ResumeOf k.0 l o.answer

-- an outcome o of a later setup on tables t: one that is refused is no entry of the log, and one that is done starts the log anew, by `begins`
pub record NextSetup (t : Tables) (s : Setup) (o : Outcome) : Type 0 where
  pub one_outcome : (other : Outcome) → other ≡ set_up s t → other ≡ o
  pub never_12 : o.answer ≢ Err TablesNotSound
  -- a refusal changes nothing
  pub refusal_alone : (e : Error) → o.answer ≡ Err e → o ≡ refused_on t [] e
  -- one that is done leaves the fresh tables of that setup
  pub done_fresh : o.answer ≡ Ok Done → o ≡ answering (Ok Done) (fresh s t) []
  pub past_kept : past_end o.after o.after ≡ past_end o.after t
  pub as_long : lengths o.after ≡ lengths t

-- ---- the whole

-- what holds of log l and tables t that a run left
pub record Kept (l : Log) (t : Tables) : Type 0 where
  -- every row is the row worked out from the log
  pub rows_are : RowsAre l t
  -- each real hart stands in one row, the one that the log says, and in no other
  pub one_place : (h : ℕ) → h < l.setup.harts → StandsOnly t h (row_at (place l.entries h) h)
  -- and whatever is asked next, with any effects room, what meets the entry's promise is as it must be
  pub next : (request : Request) (effects : List ℕ) (o : Outcome) → o ≡ performed request t effects → Next l t request effects o
  -- the same for a setup
  pub next_setup : (s : Setup) (o : Outcome) → o ≡ set_up s t → NextSetup t s o
