-- The examples P8 and P9 of document 01, about the request. Assumes nothing.
use Rattle.std.proofs.Common.{Ok, Err}
use mathlib.Core.Path.{◌≡◌, refl, sym, ap, ◌∙◌}
use mathlib.Core.Bool.{true, false, and-false}
use mathlib.Core.Logic.{◌≢◌}
use mathlib.Core.List.{List, [], ◌∷◌, ◌++◌}
use Prim.Native.Nat.{ℕ, zero, suc, ◌+◌, ◌≤◌, ◌<◌}
use native.Mathlib.Omega.{arith}
use lib.Dec.{eqb, leb}
use lib.ListN.{length}
use borrow.Author.Tests.{le-leb, lt-leb, leb-true, leb-false, eqb-true, eqb-false}
use Rattle.error.specs.declared.Error.TheVariants.{ReachedMaxNumberOfRemoteCommands}
use Rattle.error.specs.Error.{done}
use Rattle.table_rows.specs.Choice.{every}
use Rattle.table_rows.proofs.PickLaws.{yes, by_test, and_both}
use Rattle.table_rows.proofs.RowLaws.{row_length}
use Rattle.confidential_hart_remote_command.specs.declared.ConfidentialHartRemoteCommand.{ConfidentialHartRemoteCommand}
use Rattle.confidential_hart_remote_command.specs.Command.{ipi, well_formed}
use Rattle.confidential_hart_remote_command.specs.Selection.{in_hart_list, selects}
use Rattle.remote_commands.specs.Queue.{queue_words, max_commands, count, commands, queued, pushed, Offer, offered}
use Rattle.remote_commands.proofs.OfferLaws.{offer_duplicate, offer_new, push_count, push_commands}
use Rattle.hart_lifecycle_state.specs.Lifecycle.{started}
use Rattle.monitor_requests.specs.declared.Request.TheVariants.{Send}
use Rattle.monitor_requests.specs.declared.Answer.TheVariants.{Mask}
use Rattle.monitor_requests.specs.Answers.{Answered, given}
use Rattle.monitor_requests.specs.Tables.{Tables, harts, home_hart, queue, sound}
use Rattle.monitor_requests.specs.Requests.{receives, performed}
use Rattle.monitor_requests.proofs.SoundLaws.{sound_sized}
use Rattle.monitor_requests.proofs.BroadcastLaws.{
  refuses_at,
  refuser,
  refuser_is,
  RefusedAt,
  interrupted,
  send_accepted,
  send_full,
  send_queues,
  send_eight,
}

-- the queue of hart h has the words of a queue
queue_long : (t : Tables) → sound t ≡ true → (h : ℕ) → h < harts t → length (queue t h) ≡ queue_words
queue_long t s h l = row_length queue_words t.queues h (omega (arith, (sound_sized t s).long.queues_long))

-- ---- P8: a queue of 63 takes one more, a duplicate leaves 63, at 64 it is 8

-- a well-formed command is sent to hart h over sound tables
pub record P8 (sender : ℕ) (c : ConfidentialHartRemoteCommand) (t : Tables) (h : ℕ) : Type 0 where
  pub tables_sound : sound t ≡ true
  pub command_formed : well_formed c ≡ true
  pub there : h < harts t
  pub receiving : receives t.home sender c h ≡ true

module _ (sender : ℕ) (c : ConfidentialHartRemoteCommand) (t : Tables) (h : ℕ) (p : P8 sender c t h) where
  abbrev after : Tables
  after = (performed (Send sender c) t []).after

  -- one less than 64 wait, and every other hart that receives has room
  module _ (one_less : count (queue t h) + 1 ≡ max_commands)
      (others : (j : ℕ) → j < harts t → j ≢ h → receives t.home sender c j ≡ true → count (queue t j) < max_commands) where
    room : count (queue t h) < max_commands
    room = omega arith

    masked : (performed (Send sender c) t []).answer ≡ Ok (Mask (interrupted t.home sender c (harts t) 0 0))
    masked =
        send_accepted sender c t [] p.tables_sound p.command_formed (λ j l r.
        by_test (eqb j h) (λ e. rw (eqb-true j h e) room) (λ e. others j l (eqb-false j h e) r))

    offers : queue after h ≡ (offered (queue t h) c).queue
    offers = send_queues sender c t [] _ masked h p.there ∙ sym (yes _ p.receiving refl)

    -- the broadcast is done
    pub p8_done : (given (performed (Send sender c) t []).answer).number ≡ done
    p8_done = ap (λ (a : Answered). (given a).number) masked

    takes : queued (queue t h) c ≡ false → queue after h ≡ pushed (queue t h) c
    takes q = offers ∙ ap (λ (o : Offer). o.queue) (offer_new (queue t h) c room q)

    -- a command that does not wait goes last, and makes the queue full
    pub p8_one_more : queued (queue t h) c ≡ false
        → (count (queue after h) ≡ max_commands) × (commands (queue after h) ≡ commands (queue t h) ++ (c ∷ []))
    p8_one_more q =
        let long = queue_long t p.tables_sound h p.there in (
          ap count (takes q) ∙ push_count (queue t h) c long room ∙ one_less,
          ap commands (takes q) ∙ push_commands (queue t h) c long room,
        )

    -- a duplicate leaves the queue
    pub p8_duplicate : queued (queue t h) c ≡ true → queue after h ≡ queue t h
    p8_duplicate q = offers ∙ ap (λ (o : Offer). o.queue) (offer_duplicate (queue t h) c room q)

  -- 64 wait: 8, and the queue stays, whether or not the command waits there, and whatever the other queues hold
  module _ (full : count (queue t h) ≡ max_commands) where
    -- it is 8
    pub p8_full : (performed (Send sender c) t []).answer ≡ Err ReachedMaxNumberOfRemoteCommands
    p8_full = send_full sender c t [] p.tables_sound p.command_formed h p.there p.receiving (omega arith)

    -- the queue is as it was
    pub p8_full_stays : queue after h ≡ queue t h
    p8_full_stays =
        let e = send_eight sender c t [] p8_full in
        by_test (leb (refuser sender c t) h) (λ b. e.above h p.there (leb-true _ _ b))
        (λ b. absurd (omega (arith, e.room h (leb-false _ _ b) p.receiving)))

-- ---- P9: hart 0 sends an Ipi to harts 1, 2 and 3, which are Started; 2 is full and 1 is not: the broadcast is refused with 8, hart 1 keeps
-- the command, and 2 and 3 are as before

abbrev p9_command : ConfidentialHartRemoteCommand
p9_command = record { kind = ipi; mask = 14; base = 0; start = 0; size = 0; tag = 0 }

p9_formed : well_formed p9_command ≡ true
unfolding well_formed
p9_formed = refl

p9_selects : (selects p9_command 1 ≡ true) × (selects p9_command 2 ≡ true) × (selects p9_command 3 ≡ true)
unfolding selects in_hart_list every
p9_selects = (refl, refl, refl)

-- how the tables are before
pub record P9 (t : Tables) : Type 0 where
  pub tables_sound : sound t ≡ true
  pub four : 4 ≤ harts t
  pub started_1 : (home_hart t 1).lifecycle ≡ started
  pub started_2 : (home_hart t 2).lifecycle ≡ started
  pub started_3 : (home_hart t 3).lifecycle ≡ started
  pub room_1 : count (queue t 1) < max_commands
  pub new_1 : queued (queue t 1) p9_command ≡ false
  pub full_2 : count (queue t 2) ≡ max_commands

module _ (t : Tables) (p : P9 t) where
  -- hart 1 receives
  pub p9_one : receives t.home 0 p9_command 1 ≡ true
  unfolding receives
  p9_one = rw (p9_selects.0, p.started_1)

  -- hart 2 receives
  pub p9_two : receives t.home 0 p9_command 2 ≡ true
  unfolding receives
  p9_two = rw (p9_selects.1, p.started_2)

  -- hart 3 receives
  pub p9_three : receives t.home 0 p9_command 3 ≡ true
  unfolding receives
  p9_three = rw (p9_selects.2, p.started_3)

  -- hart 0 sends, and does not receive
  p9_zero : receives t.home 0 p9_command 0 ≡ false
  unfolding receives
  p9_zero = rw (and-false (selects p9_command 0))

  p9_below : (j : ℕ) → j < 2 → refuses_at t.home 0 p9_command t.queues j ≡ false
  p9_below zero l = rw p9_zero
  p9_below (suc zero) l = rw (lt-leb _ _ p.room_1) (and-false (receives t.home 0 p9_command 1))
  p9_below (suc (suc j)) l = absurd (omega arith)

  p9_refuser : refuser 0 p9_command t ≡ 2
  p9_refuser =
      refuser_is 0 p9_command t p.tables_sound 2 (omega (arith, p.four))
      (and_both p9_two (le-leb max_commands (count (queue t 2)) (omega (arith, p.full_2)))) p9_below

  -- it is 8
  pub p9_answer : (performed (Send 0 p9_command) t []).answer ≡ Err ReachedMaxNumberOfRemoteCommands
  p9_answer = send_full 0 p9_command t [] p.tables_sound p9_formed 2 (omega (arith, p.four)) p9_two (omega (arith, p.full_2))

  abbrev p9_queue : ℕ → List ℕ
  p9_queue h = queue (performed (Send 0 p9_command) t []).after h

  p9_eight : RefusedAt 0 p9_command t (performed (Send 0 p9_command) t []).after.queues (refuser 0 p9_command t)
  p9_eight = send_eight 0 p9_command t [] p9_answer

  -- hart 1 keeps the command
  pub p9_first : commands (p9_queue 1) ≡ commands (queue t 1) ++ (p9_command ∷ [])
  p9_first =
      ap commands
      (p9_eight.below 1 (omega (arith, p9_refuser)) p9_one
      ∙ ap (λ (o : Offer). o.queue) (offer_new (queue t 1) p9_command p.room_1 p.new_1))
      ∙ push_commands (queue t 1) p9_command (queue_long t p.tables_sound 1 (omega (arith, p.four))) p.room_1

  -- hart 2 gets nothing
  pub p9_second : p9_queue 2 ≡ queue t 2
  p9_second = p9_eight.above 2 (omega (arith, p.four)) (omega (arith, p9_refuser))

  -- hart 3 gets nothing, though it receives
  pub p9_third : p9_queue 3 ≡ queue t 3
  p9_third = p9_eight.above 3 (omega (arith, p.four)) (omega (arith, p9_refuser))
