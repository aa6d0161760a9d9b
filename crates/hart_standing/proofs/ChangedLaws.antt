-- Where each hart of the tables stands and its record there: what tables hold, as far as a log can tell. Assumes nothing.
use Prim.Native.Nat.{ℕ, ◌<◌}
use mathlib.Core.Path.{◌≡◌}
use mathlib.Core.Bool.{Bool}
use mathlib.Core.List.{List}
use Rattle.table_rows.specs.Choice.{pick}
use Rattle.confidential_vm_mmio_region.specs.declared.ConfidentialVmMmioRegion.{ConfidentialVmMmioRegion}
use Rattle.confidential_hart_remote_command.specs.declared.ConfidentialHartRemoteCommand.{ConfidentialHartRemoteCommand}
use Rattle.remote_commands.specs.Queue.{commands}
use Rattle.confidential_hart.specs.declared.ConfidentialHart.{ConfidentialHart}
use Rattle.confidential_hart.specs.Hart.{is_dummy}
use Rattle.monitor_requests.specs.Answers.{Answered, given, is_op}
use Rattle.monitor_requests.specs.Tables.{Tables, harts, hardware_harts, allowed, home_hart, hardware_hart, queue, regions_of}
use Rattle.hart_standing.specs.Standing.{Standing, at_home, on_hardware}

-- where the tables say that hart h stands: a dummy in its home row names the hardware hart
abbrev pub standing : Tables → ℕ → Standing
standing t h = pick (is_dummy (home_hart t h)) (on_hardware (home_hart t h).id) at_home

-- its record there
abbrev pub hart_now : Tables → ℕ → ConfidentialHart
hart_now t h = pick (is_dummy (home_hart t h)) (hardware_hart t (home_hart t h).id) (home_hart t h)

-- where each hart stands, its record and the commands that wait for it; the regions and the mask
pub record View : Type 0 where
  pub stands : ℕ → Standing
  pub hart : ℕ → ConfidentialHart
  pub waits : ℕ → List ConfidentialHartRemoteCommand
  pub regions : List ConfidentialVmMmioRegion
  pub allowed : ℕ

-- the five together
abbrev pub view : (ℕ → Standing) → (ℕ → ConfidentialHart) → (ℕ → List ConfidentialHartRemoteCommand) → List ConfidentialVmMmioRegion → ℕ → View
view stands hart waits regions allowed = record { stands = stands; hart = hart; waits = waits; regions = regions; allowed = allowed }

-- what tables hold
abbrev pub view_of : Tables → View
view_of t = view (standing t) (hart_now t) (λ h. commands (queue t h)) (regions_of t) (allowed t)

-- the harts stand elsewhere
abbrev pub standing_at : (ℕ → Standing) → View → View
standing_at stands v = view stands v.hart v.waits v.regions v.allowed

-- they have other records, and other commands wait for them
abbrev pub having : (ℕ → ConfidentialHart) → (ℕ → List ConfidentialHartRemoteCommand) → View → View
having hart waits v = view v.stands hart waits v.regions v.allowed

-- tables of n harts and m hardware harts that hold what a view says
pub record Holds (t : Tables) (n m : ℕ) (v : View) : Type 0 where
  pub harts_are : harts t ≡ n
  pub hardware_are : hardware_harts t ≡ m
  pub stands_at : (h : ℕ) → h < n → standing t h ≡ v.stands h
  pub hart_is : (h : ℕ) → h < n → hart_now t h ≡ v.hart h
  pub waits_are : (h : ℕ) → h < n → commands (queue t h) ≡ v.waits h
  pub regions_are : regions_of t ≡ v.regions
  pub allowed_is : allowed t ≡ v.allowed

-- the answer is an operation
abbrev pub is_taken : Answered → Bool
is_taken a = is_op (given a).word
