-- Document 01's cases P1 to P9 as one table: a setup, the requests after it, what is printed, and what else is then looked at.
use Rattle.std.specs.Prelude.{ℕ, suc, zero, List, [], ◌∷◌, ◌++◌}
use Rattle.table_rows.specs.Rows.{rows_of}
use Rattle.table_rows.specs.Lists.{up_to}
use Rattle.table_rows.specs.Choice.{pick}
use Rattle.confidential_hart_remote_command.specs.declared.ConfidentialHartRemoteCommand.{ConfidentialHartRemoteCommand}
use Rattle.confidential_hart_remote_command.specs.Command.{ipi, to_words}
use Rattle.confidential_hart_remote_command.specs.Selection.{selects}
use Rattle.remote_commands.specs.Queue.{count, command_at}
use Rattle.mmio_regions.specs.Table.{words_of}
use Rattle.monitor_requests.specs.declared.Setup.{Setup}
use Rattle.monitor_requests.specs.FromNumbers.{setup_of, command_of}
use Rattle.monitor_requests.specs.Requests.{set_up, Outcome, reply_in, with_room, performed}
use Rattle.monitor_requests.specs.Tables.{Tables, home_hart, queue, regions_of}
use Rattle.monitor_requests.specs.declared.Request.{Request}
use Rattle.ledger.specs.Example.{steal, return, start, stop, add, remove, send, fence, room, effects_room, p1_setup, p1_requests}
use Rattle.trace_text.specs.Text.{bytes, line_end}
use Rattle.trace_requests.specs.declared.TraceLine.{TraceLine}
use Rattle.trace_requests.specs.Lines.{line_of}
use Rattle.trace_answers.specs.Printed.{printed}

-- ---- a case

-- a setup and requests, what document 01 says is printed for them, what is looked at in the tables afterwards, and what it says stands there
pub record Case : Type 0 where
  pub setup : Setup
  pub requests : List Request
  pub prints : List ℕ
  pub look : Tables → List ℕ
  pub shows : List ℕ

-- what is printed, and what is seen
pub record Seen : Type 0 where
  pub printed : List ℕ
  pub shown : List ℕ

-- what document 01 says
abbrev pub told : Case → Seen
told c = record { printed = c.prints; shown = c.shows }

-- what is printed so far, and the tables and the effects room after it
pub record Played : Type 0 where
  pub text : List ℕ
  pub after : Tables
  pub effects : List ℕ

-- an outcome is printed after what was printed before
abbrev pub and_then : List ℕ → Outcome → Played
and_then text o = record { text = text ++ printed (reply_in o) o.effects; after = o.after; effects = o.effects }

-- one request more
abbrev pub step : Played → Request → Played
step p r = and_then p.text (performed r p.after p.effects)

-- requests one after the other
abbrev pub play : Played → List Request → Played
play p [] = p
play p (r ∷ rs) = play (step p r) rs

-- a setup on tables that are all 0
abbrev pub begun : Setup → Played
begun s = and_then [] (with_room effects_room (set_up s (room s)))

-- what the definitions print and leave
abbrev pub seen : Case → Seen
seen c = record { printed = (play (begun c.setup) c.requests).text; shown = c.look (play (begun c.setup) c.requests).after }

-- ---- requests

-- n different fences, sent by no hart
abbrev pub fences : ℕ → ℕ → List Request
fences mask n = up_to (λ i. send 9 (fence mask i)) n

-- the lines of requests
abbrev pub lines : List TraceLine → List ℕ
lines [] = []
lines (r ∷ rs) = line_of r ++ (line_end ∷ lines rs)

-- ---- what is looked at

-- nothing
abbrev pub nothing : Tables → List ℕ
nothing t = []

-- base and end of each region, in the order of adding
abbrev pub regions : Tables → List ℕ
regions t = words_of (regions_of t)

-- how many commands wait for hart h
abbrev pub waiting : ℕ → Tables → ℕ
waiting h t = count (queue t h)

-- the numbers below n that a command selects
abbrev pub selected : ConfidentialHartRemoteCommand → ℕ → List ℕ
selected c zero = []
selected c (suc n) = selected c n ++ pick (selects c n) (n ∷ []) []

-- ---- the table

-- a case, in the order of its fields
abbrev pub case : Setup → List Request → List ℕ → (Tables → List ℕ) → List ℕ → Case
case s requests prints look shows = record { setup = s; requests = requests; prints = prints; look = look; shows = shows }

-- one hart and one hardware hart
abbrev pub single : Setup
single = setup_of 1 1 0 0 0 0 0

-- the same text n times
abbrev pub times : ℕ → List ℕ → List ℕ
times n text = rows_of (λ i. text) n

-- 2^64 − 1
abbrev pub last : ℕ
last = 18446744073709551615

-- document 01's cases
unfoldable pub cases : List Case
cases =
    -- P1
    case p1_setup p1_requests
    (bytes
    "0\n0\t0\n2\n3\n0\ndid\t0\t1\t3\t0\t0\t0\t0\n0\t0\n0\t0\ndid\t0\t1\t3\t0\t0\t0\t0\n0\t2\ndid\t1\t1\t3\t0\t0\t0\t0\n0\trun\n0\n")
    nothing
    []
    -- P2 [4096,8192) then [8192,12288): both added
    ∷ case single (add 4096 4096 ∷ add 8192 4096 ∷ []) (bytes "0\n0\n0\n") regions (4096 ∷ 8192 ∷ 8192 ∷ 12288 ∷ [])
    -- P3 beside [4096,8192), [4096,4096) is added, twice; [5000,5000) is 10
    ∷ case single (add 4096 4096 ∷ add 4096 0 ∷ add 4096 0 ∷ add 5000 0 ∷ []) (bytes "0\n0\n0\n0\n10\n") regions
    (4096 ∷ 8192 ∷ 4096 ∷ 4096 ∷ 4096 ∷ 4096 ∷ [])
    -- P4 removing [5000,5000) drops [4096,8192); removing [4096,4096) drops no [4096,4096)
    ∷ case single (add 4096 4096 ∷ remove 5000 0 ∷ []) (bytes "0\n0\n0\n") regions []
    ∷ case single (add 4096 0 ∷ remove 4096 0 ∷ []) (bytes "0\n0\n0\n") regions (4096 ∷ 4096 ∷ [])
    -- P5 base 2^64 − 1: size 0 added, size 1 is 11
    ∷ case single (add last 0 ∷ add last 1 ∷ []) (bytes "0\n0\n11\n") regions (last ∷ last ∷ [])
    -- P6 mask 1 base 63 selects 63 only; mask 2^63 base 1 selects 64 only
    ∷ case single [] (bytes "0\n") (λ t. selected (command_of ipi 1 63 0 0 0) 1024) (63 ∷ [])
    ∷ case single [] (bytes "0\n") (λ t. selected (command_of ipi 9223372036854775808 1 0 0 0) 1024) (64 ∷ [])
    -- P7 start on vsstatus 7 leaves 5, mstatus 549755815938
    ∷ case (setup_of 1 1 0 0 0 0 7) (steal 0 0 ∷ stop 0 ∷ return 0 ∷ start 0 64 9 ∷ []) (bytes "0\n0\t0\n0\n0\n0\n")
    (λ t. (home_hart t 0).registers)
    (0 ∷ 9 ∷ 64 ∷ 0 ∷ 549755815938 ∷ 5 ∷ [])
    -- P8 a queue of 63 takes one more; a duplicate leaves 63; at 64 it is 8
    ∷ case single (fences 1 63 ++ (send 9 (fence 1 63) ∷ [])) (bytes "0\n" ++ times 64 (bytes "0\t0\n")) (λ t. waiting 0 t ∷ []) (64 ∷ [])
    ∷ case single (fences 1 63 ++ (send 9 (fence 1 62) ∷ [])) (bytes "0\n" ++ times 64 (bytes "0\t0\n")) (λ t. waiting 0 t ∷ []) (63 ∷ [])
    ∷ case single (fences 1 64 ++ (send 9 (fence 1 63) ∷ send 9 (fence 1 64) ∷ []))
    (bytes "0\n" ++ (times 64 (bytes "0\t0\n") ++ bytes "8\n8\n"))
    (λ t. waiting 0 t ∷ [])
    (64 ∷ [])
    -- P9 Started harts 1, 2, 3 selected, only 2 full: hart 1 keeps the command, 3 lacks it
    ∷ case (setup_of 4 1 0 0 0 0 0) (start 1 0 0 ∷ start 2 0 0 ∷ start 3 0 0 ∷ (fences 4 64 ++ (send 0 (command_of ipi 14 0 0 0 0) ∷ [])))
    (bytes "0\n0\n0\n0\n" ++ (times 64 (bytes "0\t0\n") ++ bytes "8\n"))
    (λ t. waiting 1 t ∷ waiting 2 t ∷ waiting 3 t ∷ to_words (command_at (queue t 1) 0))
    (1 ∷ 64 ∷ 0 ∷ 1 ∷ 14 ∷ 0 ∷ 0 ∷ 0 ∷ 0 ∷ [])
    ∷ []
