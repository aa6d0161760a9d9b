-- A broadcast of the tables after its sender did its own commands: they are sound, and its outcome is that of the flow. Assumes nothing.
use Prim.Native.Nat.{ℕ, ◌<◌}
use mathlib.Core.Path.{◌≡◌, refl, ap, ◌∙◌}
use mathlib.Core.Bool.{true}
use mathlib.Core.List.{List, []}
use Rattle.confidential_hart_remote_command.specs.declared.ConfidentialHartRemoteCommand.{ConfidentialHartRemoteCommand}
use Rattle.confidential_hart_remote_command.specs.Command.{well_formed}
use Rattle.held_hart.proofs.HeldLaws.{DidOwn}
use Rattle.monitor_requests.specs.Answers.{Answered}
use Rattle.monitor_requests.specs.declared.Request.TheVariants.{Send}
use Rattle.monitor_requests.specs.Tables.{Tables, hardware_harts, sound, Sized}
use Rattle.monitor_requests.specs.Requests.{Outcome, answering, with_hardware, with_queues, performed, outcome, broadcasts, held_id}
use Rattle.monitor_requests.proofs.SoundLaws.{sound_sized}
use Rattle.monitor_requests.proofs.DoingLaws.{did_sound}
use Rattle.monitor_requests.proofs.BroadcastLaws.{send_known}

module _ (t : Tables) (k : ℕ) (c : ConfidentialHartRemoteCommand) (h : ℕ) (room : List ℕ) {did : ℕ} {rows written : List ℕ}
    (own : DidOwn c h t.hardware k room did rows written) where
  -- the tables that are broadcast over
  pub sent_sound : sound t ≡ true → k < hardware_harts t → (Sized (with_hardware rows t)) × (sound (with_hardware rows t) ≡ true)
  sent_sound s there =
      let still : sound (with_hardware rows t) ≡ true = rw own.1 (did_sound t s k there _) in
      (sound_sized _ still, still)

  -- their outcome, with what was done before
  pub sent_is : sound t ≡ true → k < hardware_harts t → well_formed c ≡ true → h ≡ held_id t k → {r : Answered} {queues : List ℕ}
      → answering r (with_queues queues (with_hardware rows t)) [] ≡ performed (Send h c) (with_hardware rows t) []
      → outcome r did (with_queues queues (with_hardware rows t)) written ≡ broadcasts c k (held_id t k) t room
  sent_is s there formed named e =
      ap (λ (o : Outcome). outcome o.answer did o.after written) (e ∙ send_known h c (with_hardware rows t) [] (sent_sound s there).1 formed)
      ∙ rw (own.0, own.1, own.2, named) refl
