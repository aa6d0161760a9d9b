-- The words of sound tables are the words of what they hold. Assumes nothing.
use Prim.Native.Nat.{ℕ, zero, suc, ◌+◌, ◌-◌, ◌*◌, ◌≤◌, ◌<◌}
use mathlib.Core.Path.{◌≡◌, refl, sym, ap, ap₂, ◌∙◌}
use mathlib.Core.Bool.{true}
use mathlib.Core.List.{List, [], ◌∷◌, ◌++◌}
use native.Mathlib.Nat.{suc-mul}
use native.Mathlib.Omega.{arith}
use lib.ListN.{length, take, drop, replicate, length-take, length-drop, take-append-drop}
use lib.Seq.{drop-cons, take-add}
use lib.Dec.{leb}
use Rattle.table_rows.specs.Rows.{row}
use Rattle.table_rows.specs.Lists.{up_to}
use Rattle.table_rows.specs.Choice.{every, all_zero}
use Rattle.table_rows.proofs.PickLaws.{and_right}
use Rattle.table_rows.proofs.RowLaws.{within, row_length}
use Rattle.table_rows.proofs.ZeroLaws.{all_zero_zeros}
use Rattle.mmio_regions.specs.Regions.{max_regions}
use Rattle.mmio_regions.specs.Table.{region_words, standing, unused}
use Rattle.mmio_regions.proofs.TableLaws.{standing_length, standing_words}
use Rattle.mmio_regions.proofs.SoundLaws as regions
use Rattle.confidential_hart_remote_command.specs.declared.ConfidentialHartRemoteCommand.{ConfidentialHartRemoteCommand}
use Rattle.confidential_hart_remote_command.specs.Command.{well_formed, command_words}
use Rattle.confidential_hart_remote_command.proofs.CommandLaws.{words_back}
use Rattle.remote_commands.specs.Queue.{max_commands, queue_words, count, places, command_at, commands, queue_well_formed}
use Rattle.remote_commands.proofs.OfferLaws.{commands_length, well_formed_count}
use Rattle.hart_rows.specs.HartRows.{hart_words, to_words}
use Rattle.hart_rows.proofs.HartRowLaws.{loaded_words}
use Rattle.monitor_requests.specs.Tables.{Tables, harts, hardware_harts, region_count, home_hart, hardware_hart, queue, regions_of, sound}
use Rattle.monitor_requests.specs.Writes.{words_at, region_table}
use Rattle.monitor_requests.proofs.SoundLaws.{sound_facts, sound_sized}
use Rattle.ledger.specs.Statement as statement
use Rattle.ledger.specs.Statement.{commands_words, queue_words_of}

-- ---- unused places

-- words that are all 0 are so many zeros
zeros_of : (s : List ℕ) (n : ℕ) → length s ≡ n → all_zero s ≡ true → s ≡ replicate n 0
zeros_of s n long z = all_zero_zeros s z ∙ ap (λ (k : ℕ). replicate k 0) long

-- ---- a queue

-- the words of two runs of commands
commands_append : (cs ds : List ConfidentialHartRemoteCommand) → commands_words (cs ++ ds) ≡ commands_words cs ++ commands_words ds
unfolding commands_words
commands_append [] ds = refl
commands_append (c ∷ cs) ds = rw (commands_append cs ds)

-- the words of the command in place i are its row
place_words : (q : List ℕ) (i : ℕ) → i * command_words + command_words ≤ length (places q)
    → commands_words (command_at q i ∷ []) ≡ row command_words (places q) i
unfolding commands_words command_at
place_words q i fits = words_back (row command_words (places q) i) (row_length command_words (places q) i fits)

-- the words of the first n commands are the first n places
first_words : (q : List ℕ) (n : ℕ) → n * command_words ≤ length (places q)
    → commands_words (up_to (command_at q) n) ≡ take (n * command_words) (places q)
unfolding up_to commands_words row
first_words q zero fits = refl
first_words q (suc n) fits =
    commands_append (up_to (command_at q) n) (command_at q n ∷ [])
    ∙ ap₂ (λ (a b : List ℕ). a ++ b) (first_words q n (omega arith)) (place_words q n (omega arith))
    ∙ sym (take-add (n * command_words) command_words (places q))
    ∙ ap (λ (k : ℕ). take k (places q)) (sym (suc-mul n command_words))

module _ (q : List ℕ) (long : length q ≡ queue_words) (formed : queue_well_formed q ≡ true) where
  -- a queue has all its places
  places_long : length (places q) ≡ max_commands * command_words
  places_long = length-drop 1 q ∙ omega arith

  -- the places that are used
  used_words : commands_words (commands q) ≡ take (count q * command_words) (places q)
  unfolding commands
  used_words = first_words q (count q) (omega (arith, places_long, well_formed_count q formed))

  -- the places past the last command are 0
  unused_zero : all_zero (drop (count q * command_words) (places q)) ≡ true
  unfolding queue_well_formed
  unused_zero =
      and_right (every (λ i. well_formed (command_at q i)) (count q)) _ (and_right (leb (count q) max_commands) _ formed)

  -- so many zeros
  unused_words : drop (count q * command_words) (places q) ≡ replicate ((max_commands - count q) * command_words) 0
  unused_words =
      zeros_of (drop (count q * command_words) (places q)) ((max_commands - count q) * command_words)
      (length-drop (count q * command_words) (places q) ∙ omega (arith, places_long, well_formed_count q formed))
      unused_zero

  -- a well-formed queue is the queue of its commands
  formed_words : q ≡ queue_words_of (commands q)
  formed_words =
      drop-cons q 0 0 (omega arith)
      ∙ ap (λ (ws : List ℕ). count q ∷ ws)
      (sym (take-append-drop (count q * command_words) (places q))
      ∙ ap₂ (λ (a b : List ℕ). a ++ b) (sym used_words) unused_words)
      ∙ rw (commands_length q)

-- ---- the region table

module _ (words : List ℕ) (n : ℕ) (s : regions.Sound words n) where
  -- the places in which no region stands
  no_regions : unused words n ≡ replicate ((max_regions - n) * region_words) 0
  no_regions =
      zeros_of (unused words n) ((max_regions - n) * region_words)
      (simp (length-take, length-drop) (omega (arith, s.sized.room, s.sized.few)))
      s.empty

  -- a sound table is that of the regions that stand in it
  table_words : n ∷ take (max_regions * region_words) words ≡ statement.region_words_of (standing words n)
  table_words =
      let all : max_regions * region_words ≡ n * region_words + (max_regions - n) * region_words = omega (arith, s.sized.few) in
      rw (standing_length words n)
      (ap (λ (ws : List ℕ). n ∷ ws)
      (ap (λ (k : ℕ). take k words) all
      ∙ take-add (n * region_words) ((max_regions - n) * region_words) words
      ∙ ap₂ (λ (a b : List ℕ). a ++ b) (sym (standing_words words n (omega (arith, s.sized.room, s.sized.few)))) no_regions))

-- ---- the tables

module _ (t : Tables) (s : sound t ≡ true) where
  -- a queue of sound tables is the queue of its commands
  pub queue_words_lem : (h : ℕ) → h < harts t → queue t h ≡ queue_words_of (commands (queue t h))
  queue_words_lem h l =
      formed_words (queue t h)
      (row_length queue_words t.queues h (omega (arith, within queue_words h (harts t) l, (sound_sized t s).long.queues_long)))
      ((sound_facts t s).queue_formed h l)

  -- a home row is the words of its record
  pub home_words : (h : ℕ) → h < harts t → row hart_words t.home h ≡ to_words (home_hart t h)
  home_words h l = sym (loaded_words t.home h (omega (arith, within hart_words h (harts t) l, (sound_sized t s).long.home_long)))

  -- a hardware row is the words of its record
  pub hardware_words : (k : ℕ) → k < hardware_harts t → row hart_words t.hardware k ≡ to_words (hardware_hart t k)
  hardware_words k l =
      sym (loaded_words t.hardware k (omega (arith, within hart_words k (hardware_harts t) l, (sound_sized t s).long.hardware_long)))

  -- the region table of sound tables is that of its regions
  pub region_words_lem : words_at region_table t ≡ statement.region_words_of (regions_of t)
  region_words_lem = table_words t.regions (region_count t) (regions.sound_parts t.regions (region_count t) (sound_facts t s).regions_sound_lem)
