-- What is known of a held hart once the tests are passed, and what stands of a broadcast's own doing. Assumes nothing.
use Prim.Native.Nat.{ℕ, ◌*◌, ◌≤◌, ◌<◌}
use mathlib.Core.Path.{◌≡◌, refl, sym, ap}
use mathlib.Core.Bool.{true, false, not}
use mathlib.Core.List.{List, [], ◌∷◌}
use lib.ListN.{length}
use lib.Dec.{leb}
use borrow.Author.Tests.{leb-false, ltb-false, not-false}
use Rattle.error.specs.declared.Error.{Error}
use Rattle.table_rows.specs.Rows.{over}
use Rattle.confidential_hart_remote_command.specs.declared.ConfidentialHartRemoteCommand.{ConfidentialHartRemoteCommand}
use Rattle.confidential_hart_remote_command.specs.Command.{well_formed}
use Rattle.remote_commands.specs.Queue.{max_commands}
use Rattle.effects.specs.Effects.{effect_words, effects_of}
use Rattle.confidential_hart.specs.declared.HardwareHartId.{HardwareHartId}
use Rattle.confidential_hart.specs.Hart.{is_dummy}
use Rattle.monitor_requests.specs.declared.Request.TheVariants.{Send, Broadcast, Process, Resume}
use Rattle.monitor_requests.specs.Tables.{Tables, harts, hardware_harts, hardware_hart, sound}
use Rattle.monitor_requests.specs.Requests.{Outcome, refused_on, unsound, tests, did_rows, doing, own_commands, processed, resumed, held_id, effect, performed}
use Rattle.monitor_requests.proofs.JudgedLaws.{Passed, by_performed}
use Rattle.monitor_requests.proofs.SoundLaws.{held_names}
use Rattle.monitor_requests.proofs.BroadcastLaws.{send_known}
use Rattle.monitor_requests.proofs.DoingLaws.{did_sound, did_hart, emptied_sound, goes_sound}

-- what the tests of a request on a held hart tell: the tables are sound, there is such a hardware hart, and it holds a real hart, which is one of n
pub record Held (t : Tables) (k : ℕ) : Type 0 where
  pub tables_sound : sound t ≡ true
  pub k_below : k < hardware_harts t
  pub real : is_dummy (hardware_hart t k) ≡ false
  pub id_below : held_id t k < harts t

module _ (t : Tables) (k : ℕ) where
  held : not (sound t) ≡ false → leb (hardware_harts t) k ≡ false → is_dummy (hardware_hart t k) ≡ false → Held t k
  held s l real =
      let f = not-false _ s in
      let b = leb-false _ _ l in
      record { tables_sound = f; k_below = b; real = real; id_below = (held_names t f k b real).there }

-- a broadcast that passes its tests: a held hart sends
pub broadcast_held : (on : HardwareHartId) (c : ConfidentialHartRemoteCommand) (t : Tables) (effects : List ℕ)
    → Passed (unsound t ∷ tests (Broadcast on c) t effects) → Held t on.0
unfolding tests
broadcast_held on c t effects p = held t on.0 p.0 p.1.1.1.0 p.1.1.1.1.0

-- the command is well formed
pub broadcast_formed : (on : HardwareHartId) (c : ConfidentialHartRemoteCommand) (t : Tables) (effects : List ℕ)
    → Passed (unsound t ∷ tests (Broadcast on c) t effects) → well_formed c ≡ true
unfolding tests
broadcast_formed on c t effects p = not-false _ p.1.1.0

-- one effect record has room
pub broadcast_room : (on : HardwareHartId) (c : ConfidentialHartRemoteCommand) (t : Tables) (effects : List ℕ)
    → Passed (unsound t ∷ tests (Broadcast on c) t effects) → 1 * effect_words ≤ length effects
unfolding tests
broadcast_room on c t effects p = ltb-false _ _ p.1.0

-- a process: a held hart
pub process_held : (on : HardwareHartId) (t : Tables) (effects : List ℕ) → Passed (unsound t ∷ tests (Process on) t effects) → Held t on.0
unfolding tests
process_held on t effects p = held t on.0 p.0 p.1.1.0 p.1.1.1.0

-- 64 effect records have room
pub process_room : (on : HardwareHartId) (t : Tables) (effects : List ℕ) → Passed (unsound t ∷ tests (Process on) t effects) → max_commands * effect_words ≤ length effects
unfolding tests
process_room on t effects p = ltb-false _ _ p.1.0

-- the tests of a resume are those of a process
pub resume_tests : (on : HardwareHartId) (t : Tables) (effects : List ℕ) → Passed (unsound t ∷ tests (Resume on) t effects) → Passed (unsound t ∷ tests (Process on) t effects)
unfolding tests
resume_tests on t effects p = p

-- ---- the sender's own command

-- sender h on hardware hart k did its own command, if it is selected, and then the broadcast of the tables took place
pub record OwnStands (c : ConfidentialHartRemoteCommand) (k h : ℕ) (t : Tables) (effects : List ℕ) (o : Outcome) : Type 0 where
  pub did_own : o.did ≡ length (own_commands c h)
  pub effects_own : o.effects ≡ over (effects_of h (own_commands c h)) effects
  pub rows_own : o.after.hardware ≡ did_rows (own_commands c h) t.hardware k
  pub after_own : o.after ≡ (performed (Send h c) (doing (own_commands c h) k t) []).after
  pub answer_own : o.answer ≡ (performed (Send h c) (doing (own_commands c h) k t) []).answer

module _ (on : HardwareHartId) (c : ConfidentialHartRemoteCommand) (t : Tables) (effects : List ℕ) where
  -- what the sender did stands, whatever the broadcast of the tables answers
  pub own_stands : Passed (unsound t ∷ tests (Broadcast on c) t effects) → OwnStands c on.0 (held_id t on.0) t effects (effect (Broadcast on c) t effects)
  unfolding effect
  own_stands p =
      let x = broadcast_held on c t effects p in
      let h = held_id t on.0 in
      let own = doing (own_commands c h) on.0 t in
      let sent = sym (send_known h c own [] (did_sound t x.tables_sound on.0 x.k_below (own_commands c h)) (broadcast_formed on c t effects p)) in
      record {
        did_own = refl;
        effects_own = refl;
        rows_own = refl;
        after_own = ap (λ (o : Outcome). o.after) sent;
        answer_own = ap (λ (o : Outcome). o.answer) sent;
      }

  -- what holds of each refusal, and of the sender's own doing with the broadcast of the tables after it, holds of a broadcast
  pub by_broadcast : (P : Outcome → Type 0) → ((e : Error) → P (refused_on t effects e))
      → ((o : Outcome) → OwnStands c on.0 (held_id t on.0) t effects o → Passed (unsound t ∷ tests (Broadcast on c) t effects) → P o)
      → P (performed (Broadcast on c) t effects)
  by_broadcast P refusal own = by_performed (Broadcast on c) t effects P refusal (λ p. own _ (own_stands p) p)

-- ---- sound tables stay sound

module _ (t : Tables) (k : ℕ) (x : Held t k) (cs : List ConfidentialHartRemoteCommand) where
  -- a held hart that did commands is still a real one
  pub still_real : is_dummy (hardware_hart (doing cs k t) k) ≡ false
  still_real = rw (did_hart t x.tables_sound k x.k_below cs x.real) x.real

  -- its queue is emptied
  pub processed_sound : sound (processed cs k (held_id t k) t) ≡ true
  processed_sound = emptied_sound (doing cs k t) (did_sound t x.tables_sound k x.k_below cs) (held_id t k) x.id_below

  -- and it goes on
  pub resumed_sound : sound (resumed k (processed cs k (held_id t k) t) []).after ≡ true
  resumed_sound = goes_sound (processed cs k (held_id t k) t) processed_sound k x.k_below still_real
