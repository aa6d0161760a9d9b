-- When tables are sound, sentence by sentence. `sound` says the same as a test; `sound_exactly` shows that they agree.
use Rattle.std.specs.Prelude.{ℕ, ◌≤◌, ◌<◌, ◌≡◌, Bool, true, false, ◌&&◌, not, eqb}
use Rattle.confidential_hart.specs.Hart.{is_dummy, well_formed}
use Rattle.remote_commands.specs.Queue.{queue_well_formed}
use Rattle.mmio_regions.specs.Table.{regions_sound}
use Rattle.monitor_requests.specs.Tables.{
  Tables,
  harts,
  hardware_harts,
  region_count,
  home_hart,
  hardware_hart,
  queue,
  max_harts,
  max_hardware_harts,
  Long,
}

-- home row h holds dummy k
abbrev pub home_holds : Tables → ℕ → ℕ → Bool
home_holds t h k = is_dummy (home_hart t h) && eqb (home_hart t h).id k

-- hardware row k holds real hart h
abbrev pub hardware_holds : Tables → ℕ → ℕ → Bool
hardware_holds t h k = not (is_dummy (hardware_hart t k)) && eqb (hardware_hart t k).id h

-- the tables are sound
pub record SoundBySentence (t : Tables) : Type 0 where
  -- counts are in range
  pub some_harts : 1 ≤ harts t
  pub few_harts : harts t ≤ max_harts
  pub some_hardware : 1 ≤ hardware_harts t
  pub few_hardware : hardware_harts t ≤ max_hardware_harts
  -- the tables are long enough: n home rows, m hardware rows, n queues of 64, always 1,024 regions
  pub tables_long : Long t (harts t) (hardware_harts t)
  -- the record of a home row is as it must be; a real one is that of the row's hart, and a dummy is that of one of the m hardware harts
  pub home_record : (h : ℕ) → h < harts t → well_formed (home_hart t h) ≡ true
  pub home_real : (h : ℕ) → h < harts t → is_dummy (home_hart t h) ≡ false → (home_hart t h).id ≡ h
  pub home_dummy : (h : ℕ) → h < harts t → is_dummy (home_hart t h) ≡ true → (home_hart t h).id < hardware_harts t
  -- so is that of a hardware row; a dummy is the row's own, and a real one is numbered below n
  pub hardware_record : (k : ℕ) → k < hardware_harts t → well_formed (hardware_hart t k) ≡ true
  pub hardware_dummy : (k : ℕ) → k < hardware_harts t → is_dummy (hardware_hart t k) ≡ true → (hardware_hart t k).id ≡ k
  pub hardware_real : (k : ℕ) → k < hardware_harts t → is_dummy (hardware_hart t k) ≡ false → (hardware_hart t k).id < harts t
  -- home row h holds dummy k exactly when hardware row k holds real hart h
  pub holds_exactly : (h k : ℕ) → h < harts t → k < hardware_harts t → home_holds t h k ≡ hardware_holds t h k
  -- a queue has at most 64 commands, each as it must be, and its unused places are 0
  pub queue_record : (h : ℕ) → h < harts t → queue_well_formed (queue t h) ≡ true
  -- at most 1,024 regions stand, each with base ≤ end, and the unused places are 0
  pub regions_record : regions_sound t.regions (region_count t) ≡ true
