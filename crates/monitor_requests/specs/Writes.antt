-- The places of the tables, and which of them each request writes.
use Rattle.std.specs.Prelude.{ℕ, ◌*◌, Bool, true, false, ◌&&◌, ◌||◌, not, List, [], ◌∷◌, take, drop, eqb, ltb}
use Rattle.table_rows.specs.Rows.{row}
use Rattle.table_rows.specs.Choice.{exists}
use Rattle.mmio_regions.specs.Regions.{max_regions}
use Rattle.mmio_regions.specs.Table.{region_words}
use Rattle.confidential_hart_remote_command.specs.declared.ConfidentialHartRemoteCommand.{ConfidentialHartRemoteCommand}
use Rattle.confidential_hart_remote_command.specs.Selection.{selects}
use Rattle.remote_commands.specs.Queue.{queue_words}
use Rattle.hart_rows.specs.HartRows.{hart_words}
use Rattle.monitor_requests.specs.declared.Request.{Request}
use Rattle.monitor_requests.specs.declared.Request.TheVariants.{
  Steal,
  Return,
  Start,
  Suspend,
  Stop,
  Wake,
  Off,
  Await,
  Status,
  Home,
  Send,
  Allow,
  Add,
  Remove,
  Defined,
  Broadcast,
  Process,
  Resume,
}
use Rattle.monitor_requests.specs.Requests.{held_id}
use Rattle.monitor_requests.specs.Tables.{Tables, tables, head_words, harts, hardware_harts, allowed, region_count, queue}

-- a place that a request may write: a home row, a hardware row, a queue, the regions with their count, the allowed mask, or n and m
pub data Place : Type 0 where
  home_row : ℕ → Place
  hardware_row : ℕ → Place
  queue_row : ℕ → Place
  region_table : Place
  allowed_mask : Place
  counts : Place

-- the words that stand there
abbrev pub words_at : Place → Tables → List ℕ
words_at (home_row h) t = row hart_words t.home h
words_at (hardware_row k) t = row hart_words t.hardware k
words_at (queue_row h) t = queue t h
words_at region_table t = region_count t ∷ take (max_regions * region_words) t.regions
words_at allowed_mask t = allowed t ∷ []
words_at counts t = harts t ∷ hardware_harts t ∷ []

-- a row is one of the n or m rows
abbrev pub within : Place → Tables → Bool
within (home_row h) t = ltb h (harts t)
within (hardware_row k) t = ltb k (hardware_harts t)
within (queue_row h) t = ltb h (harts t)
within region_table t = true
within allowed_mask t = true
within counts t = true

-- a place by two numbers: its kind
abbrev pub kind_of : Place → ℕ
kind_of (home_row h) = 0
kind_of (hardware_row k) = 1
kind_of (queue_row h) = 2
kind_of region_table = 3
kind_of allowed_mask = 4
kind_of counts = 5

-- and its row, 0 for a place that is no row
abbrev pub row_of : Place → ℕ
row_of (home_row h) = h
row_of (hardware_row k) = k
row_of (queue_row h) = h
row_of region_table = 0
row_of allowed_mask = 0
row_of counts = 0

-- the two are one place
abbrev pub same : Place → Place → Bool
same p q = eqb (kind_of p) (kind_of q) && eqb (row_of p) (row_of q)

-- the queue of a hart that a command selects, but the sender's
abbrev pub queues_sent : ℕ → ConfidentialHartRemoteCommand → Tables → Place → Bool
queues_sent sender c t p = exists (λ h. same p (queue_row h) && selects c h && not (eqb h sender)) (harts t)

-- the request may write there: steal and return one home row and one hardware row; start one home row; suspend, stop, wake, off and await one
-- hardware row; a send the queues of the harts that it selects but the sender's; a broadcast these and the sender's hardware row; process and
-- resume one hardware row and its hart's queue; add and remove the regions; allow the mask; the rest nothing
unfoldable pub writes : Request → Tables → Place → Bool
writes (Steal hart on) t p = same p (home_row hart.0) || same p (hardware_row on.0)
writes (Return on) t p = same p (home_row (held_id t on.0)) || same p (hardware_row on.0)
writes (Start hart address opaque) t p = same p (home_row hart.0)
writes (Suspend on) t p = same p (hardware_row on.0)
writes (Stop on) t p = same p (hardware_row on.0)
writes (Wake on address opaque) t p = same p (hardware_row on.0)
writes (Off on) t p = same p (hardware_row on.0)
writes (Await on kind x y) t p = same p (hardware_row on.0)
writes (Status hart) t p = false
writes Home t p = false
writes (Send sender c) t p = queues_sent sender c t p
writes (Allow bits) t p = same p allowed_mask
writes (Add base size) t p = same p region_table
writes (Remove base size) t p = same p region_table
writes (Defined base size) t p = false
writes (Broadcast on c) t p = same p (hardware_row on.0) || queues_sent (held_id t on.0) c t p
writes (Process on) t p = same p (hardware_row on.0) || same p (queue_row (held_id t on.0))
writes (Resume on) t p = same p (hardware_row on.0) || same p (queue_row (held_id t on.0))

-- the words past the tables of n harts and m hardware harts
abbrev pub past : ℕ → ℕ → Tables → Tables
past n m t =
    tables (drop head_words t.head) (drop (n * hart_words) t.home) (drop (m * hart_words) t.hardware) (drop (n * queue_words) t.queues)
    (drop (max_regions * region_words) t.regions)
