-- One hart's queue: the count, and then 64 commands of 6 words.
use Rattle.std.specs.Prelude.{ℕ, ◌+◌, ◌*◌, Bool, not, ◌&&◌, List, [], ◌∷◌, ◌++◌, length, get_or, drop, replicate, leb, Result, Ok, Err}
use Rattle.error.specs.declared.Error.{Error}
use Rattle.error.specs.declared.Error.TheVariants.{ReachedMaxNumberOfRemoteCommands}
use Rattle.table_rows.specs.Rows.{row, put}
use Rattle.table_rows.specs.Lists.{up_to, any_of}
use Rattle.table_rows.specs.Choice.{pick, every, all_zero, exists}
use Rattle.confidential_hart_remote_command.specs.declared.ConfidentialHartRemoteCommand.{ConfidentialHartRemoteCommand}
use Rattle.confidential_hart_remote_command.specs.Command.{well_formed, same, command_words, from_words, to_words}

-- how many commands a queue holds
abbrev pub max_commands : ℕ
max_commands = 64

-- how many words a queue has: its count and its commands
abbrev pub queue_words : ℕ
queue_words = 1 + max_commands * command_words

-- how many commands wait
abbrev pub count : List ℕ → ℕ
count q = get_or q 0 0

-- the places for commands
abbrev pub places : List ℕ → List ℕ
places q = drop 1 q

-- command i
unfoldable pub command_at : List ℕ → ℕ → ConfidentialHartRemoteCommand
command_at q i = from_words (row command_words (places q) i)

-- the commands that wait, the first first
unfoldable pub commands : List ℕ → List ConfidentialHartRemoteCommand
commands q = up_to (command_at q) (count q)

-- a command that equals c waits
unfoldable pub queued : List ℕ → ConfidentialHartRemoteCommand → Bool
queued q c = exists (λ i. same (command_at q i) c) (count q)

-- no command waits twice: none equals one before it
unfoldable pub distinct : List ℕ → Bool
distinct q = every (λ j. not (exists (λ i. same (command_at q i) (command_at q j)) j)) (count q)

-- there are at most 64, each is well formed, and every place past the last is 0
unfoldable pub queue_well_formed : List ℕ → Bool
queue_well_formed q =
    leb (count q) max_commands
    && (every (λ i. well_formed (command_at q i)) (count q) && all_zero (drop (count q * command_words) (places q)))

-- the queue with c last
unfoldable pub pushed : List ℕ → ConfidentialHartRemoteCommand → List ℕ
pushed q c = (count q + 1) ∷ put command_words (places q) (count q) (to_words c)

-- the queue with no command
unfoldable pub emptied : List ℕ
emptied = replicate queue_words 0

-- the commands after an offer of c: 64 stay as they are, an equal one is not added again, else c is last
unfoldable pub with_offered : ConfidentialHartRemoteCommand → List ConfidentialHartRemoteCommand → List ConfidentialHartRemoteCommand
with_offered c cs = pick (leb max_commands (length cs)) cs (pick (any_of (λ d. same d c) cs) cs (cs ++ (c ∷ [])))

-- what an offer gives back, and the queue afterwards
pub record Offer : Type 0 where
  pub given : Result (Unit {0}) Error
  pub queue : List ℕ

-- the two together
abbrev pub offer : Result (Unit {0}) Error → List ℕ → Offer
offer r q = record { given = r; queue = q }

-- a queue of 64 refuses, even a duplicate; an equal command is not added again; else it goes last
unfoldable pub offered : List ℕ → ConfidentialHartRemoteCommand → Offer
offered q c =
    pick (leb max_commands (count q)) (offer (Err ReachedMaxNumberOfRemoteCommands) q)
    (pick (queued q c) (offer (Ok tt) q) (offer (Ok tt) (pushed q c)))
