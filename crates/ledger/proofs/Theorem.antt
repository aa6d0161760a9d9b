-- The theorem: what a run of the entries leaves is kept, as `specs/Statement.antt` says. Assumes nothing.
use Rattle.std.proofs.Common.{Ok, Err}
use Prim.Native.Nat.{ℕ, zero, suc, ◌<◌, ◌≤◌}
use mathlib.Core.Path.{◌≡◌, refl, sym, ap, ap₂, ◌∙◌, subst}
use mathlib.Core.Logic.{◌≢◌}
use mathlib.Core.Bool.{Bool, true, false, ◌&&◌, ◌||◌, not, false≢true}
use mathlib.Core.List.{List, [], ◌∷◌}
use native.Mathlib.Nat.{le_refl}
use native.Mathlib.Omega.{arith}
use lib.ListN.{length}
use lib.Dec.{eqb, leb}
use borrow.Author.Tests.{eqb-false, eq-eqb, not-true, le-leb, lt-leb}
use Rattle.error.specs.declared.Error.{Error}
use Rattle.error.specs.declared.Error.TheVariants.{TablesNotSound, ReachedMaxNumberOfRemoteCommands}
use Rattle.table_rows.specs.Choice.{pick, exists}
use Rattle.table_rows.specs.Lists.{all_of}
use Rattle.table_rows.proofs.PickLaws.{yes, no, by_test, and_both}
use Rattle.confidential_hart_remote_command.specs.declared.ConfidentialHartRemoteCommand.{ConfidentialHartRemoteCommand}
use Rattle.remote_commands.proofs.OfferLaws.{commands_length}
use Rattle.confidential_hart.specs.declared.HardwareHartId.{HardwareHartId}
use Rattle.confidential_hart.specs.declared.ConfidentialHart.{ConfidentialHart}
use Rattle.confidential_hart.specs.Hart.{the_vm, is_dummy, dummy}
use Rattle.hart_rows.specs.HartRows.{to_words, hart_at}
use Rattle.monitor_requests.specs.declared.Setup.{Setup}
use Rattle.monitor_requests.specs.declared.Request.{Request}
use Rattle.monitor_requests.specs.declared.Request.TheVariants.{Send, Broadcast, Process, Resume}
use Rattle.monitor_requests.specs.Answers.{Answered}
use Rattle.monitor_requests.specs.declared.Answer.TheVariants.{Done, Mask, Count}
use Rattle.monitor_requests.specs.Tables.{Tables, harts, hardware_harts, home_hart, hardware_hart, queue}
use Rattle.monitor_requests.specs.Requests as requests
use Rattle.monitor_requests.specs.Requests.{Outcome, refused_on, fresh, setup_tests, set_up, unsound, performed, answering, held_id, tests, processed, Going, goes_on, held_commands, own_commands, effect}
use Rattle.monitor_requests.specs.Writes.{past}
use Rattle.monitor_requests.proofs.JudgedLaws.{Passed, by_errors, by_performed}
use Rattle.monitor_requests.proofs.WriteLaws.{setup_past_kept, lengths_kept, writes_only, past_kept as past_of, effects_length, effects_kept, effects_fit}
use Rattle.monitor_requests.proofs.AnswerLaws.{is_mask}
use Rattle.monitor_requests.proofs.RequestLaws.{by_set_up, twelve_never_for_setup, setup_refusal_alone, setup_done_fresh, setup_lengths, twelve_exactly, one_outcome, room_kept, by_doing}
use Rattle.monitor_requests.proofs.SoundLaws.{held_names}
use Rattle.monitor_requests.proofs.BroadcastLaws.{Masked, send_mask, RefusedAt, send_eight, interrupts_on}
use Rattle.monitor_requests.proofs.HeldLaws.{Held, broadcast_held, process_held, resume_tests}
use Rattle.monitor_requests.proofs.TellLaws.{process_count, broadcast_mask, after_doing, broadcast_eight}
use Rattle.hart_standing.specs.Standing.{Standing, at_home, on_hardware, is_on}
use Rattle.hart_standing.proofs.ChangedLaws.{standing, hart_now}
use Rattle.hart_standing.proofs.StandLaws.{stands_below, away_row, home_row_lem, now_real, now_number, hardware_row_lem, idle_row, held_stands, idle_stands, on_hart, on_holds, on_stands, real_stands}
use Rattle.monitor_requests.proofs.DoingLaws.{by_going, did_hart}
use Rattle.table_rows.proofs.ExistsLaws.{exists_of, none_of}
use Rattle.remote_commands.specs.Queue.{max_commands, count}
use Rattle.ledger.specs.Log.{Entry, entry, Log, accepted, refused_with8, Who, hart_numbered, held_by, wait_for, Says, says, is_some, is_heard, heard, noted}
use Rattle.ledger.specs.WorkedOut as rows
use Rattle.ledger.specs.WorkedOut.{place, is_who, done_by, real_hart, row_for, standing_on}
use Rattle.ledger.specs.Statement.{Left, begins, asked, Ask, again, ask, Reached, reached_again, reached_by, begun, NextSetup, queue_words_of, region_words_of, RowsAre, Row, home, hardware, Stands, StandsOnly, row_at, is_receiver, CountOf, lengths, past_end, Next, Kept, some_full, MaskOf, On, going_on, ResumeOf, RecordsOf, RecordsAre}
use Rattle.ledger.proofs.WordLaws.{queue_words_lem, home_words, hardware_words, region_words_lem}
use Rattle.ledger.proofs.NextLaws.{every_same}
use Rattle.ledger.proofs.StepLaws.{receives_now, said_holds, effect_heard}
use Rattle.ledger.proofs.AgreeLaws.{Agree, left_agrees, silent, silent_unheard, by_silent, heard_says}
use Rattle.ledger.proofs.RecordLaws.{no_records, own_records, plain_does, unheard_does}

-- a broadcast that gives a mask is of a held hart
mask_held : (k : HardwareHartId) (c : ConfidentialHartRemoteCommand) (t : Tables) (effects : List ℕ) (mask : ℕ)
    → (performed (Broadcast k c) t effects).answer ≡ Ok (Mask mask) → Held t k.0
mask_held k c t effects mask =
    by_performed (Broadcast k c) t effects (λ (o : Outcome). o.answer ≡ Ok (Mask mask) → Held t k.0) (λ _ q. absurd (false≢true (ap is_mask q)))
    (λ p _. broadcast_held k c t effects p)

-- 8 is not silent
eight_heard : (e : Error) → silent (Err e) ≡ true → ◌≢◌ {A = Answered} (Err e) (Err ReachedMaxNumberOfRemoteCommands)
eight_heard e q is = false≢true (sym (ap silent is) ∙ q)

-- a broadcast that gives 8 is of a held hart too
eight_held : (k : HardwareHartId) (c : ConfidentialHartRemoteCommand) (t : Tables) (effects : List ℕ)
    → (performed (Broadcast k c) t effects).answer ≡ Err ReachedMaxNumberOfRemoteCommands → Held t k.0
eight_held k c t effects =
    by_silent (Broadcast k c) t effects (λ (o : Outcome). o.answer ≡ Err ReachedMaxNumberOfRemoteCommands → Held t k.0)
    (λ e unheard q. absurd (eight_heard e unheard q))
    (λ p _. broadcast_held k c t effects p)

-- 8 is given to a request that sends a command
eight_sends : (r : Request) (t : Tables) (effects : List ℕ) → (performed r t effects).answer ≡ Err ReachedMaxNumberOfRemoteCommands
    → is_some (says r (performed r t effects).answer).sends ≡ true
eight_sends r t effects =
    by_silent r t effects (λ (o : Outcome). o.answer ≡ Err ReachedMaxNumberOfRemoteCommands → is_some (says r o.answer).sends ≡ true)
    (λ e unheard q. absurd (eight_heard e unheard q))
    (λ p q. rw q (rw q at (effect_heard r t effects p)))

-- a refusal that is not heard changes nothing
refusal_alone : (r : Request) (t : Tables) (effects : List ℕ) (e : Error) → (performed r t effects).answer ≡ Err e → is_heard (entry r (Err e)) ≡ false
    → performed r t effects ≡ refused_on t effects e
refusal_alone r t effects e =
    by_performed r t effects (λ (o : Outcome). o.answer ≡ Err e → is_heard (entry r (Err e)) ≡ false → o ≡ refused_on t effects e)
    (λ _ q _. ap (λ (a : Answered). answering a t effects) q)
    (λ p q unheard. absurd (false≢true (sym unheard ∙ ap (λ (a : Answered). is_heard (entry r a)) (sym q) ∙ effect_heard r t effects p)))

-- what a hart goes on with, by its record
going_answer : (held : List ℕ) (k : ℕ)
    → (goes_on held k).answer
    ≡ going_on (hart_at held k).lifecycle (wait_for (hart_at held k).operation (hart_at held k).x (hart_at held k).y)
going_answer held k =
    by_going held k
    (λ (g : Going).
    g.answer
    ≡ going_on (hart_at held k).lifecycle (wait_for (hart_at held k).operation (hart_at held k).x (hart_at held k).y))
    (λ e. yes _ e refl)
    (λ e d. no _ e (no _ d refl))
    (λ e d. no _ e (yes _ d refl))

-- a setup writes no word past the tables that it leaves
setup_past : (s : Setup) (t : Tables) → past_end (set_up s t).after (set_up s t).after ≡ past_end (set_up s t).after t
setup_past s t =
    by_set_up s t (λ (o : Outcome). o ≡ set_up s t → past_end o.after o.after ≡ past_end o.after t) (λ _ _ _. refl)
    (λ p e. subst (λ (o : Outcome). past s.harts s.hardware o.after ≡ past s.harts s.hardware t) (sym e) (setup_past_kept s t))
    refl

module _ (l : Log) (t : Tables) (x : Agree l t) where
  -- hart h below n is one of the tables
  within : (h : ℕ) → h < l.setup.harts → h < harts t
  within h b = rw x.holds.harts_are b

  -- ---- every row

  -- the home row by where the hart stands
  home_record : (h : ℕ) → h < harts t → (at : Standing) → standing t h ≡ at → home_hart t h ≡ row_for at (hart_now t h)
  home_record h b at_home e = home_row_lem t x.tables_sound h e
  home_record h b (on_hardware k) e = away_row t x.tables_sound h k b e

  -- it is the one worked out
  home_is : (h : ℕ) → h < l.setup.harts → home_hart t h ≡ rows.home_row l h
  home_is h b =
      home_record h (within h b) (standing t h) refl ∙ ap₂ row_for (x.holds.stands_at h b) (x.holds.hart_is h b)

  -- of the first i harts none stands on an idle hardware hart
  idle_is : (k : ℕ) → k < hardware_harts t → is_dummy (hardware_hart t k) ≡ true → (i : ℕ) → i ≤ l.setup.harts → standing_on l i k ≡ dummy k
  unfolding standing_on
  idle_is k b e zero i-few = refl
  idle_is k b e (suc i) i-few =
      sym
      (no _
      (ap (is_on k) (sym (x.holds.stands_at i (omega arith))) ∙ idle_stands t x.tables_sound k b e i (within i (omega arith)))
      (sym (idle_is k b e i (omega arith))))

  -- on a busy one stands the hart that it holds, and no other
  held_alone : (k : ℕ) → k < hardware_harts t → is_dummy (hardware_hart t k) ≡ false → (h : ℕ) → h < l.setup.harts
      → is_on k (place l.entries h) ≡ eqb h (held_id t k)
  held_alone k b e h inside = ap (is_on k) (sym (x.holds.stands_at h inside)) ∙ held_stands t x.tables_sound k b e h (within h inside)

  -- it is found once it is among the first i
  busy_is : (k : ℕ) → k < hardware_harts t → is_dummy (hardware_hart t k) ≡ false → (i : ℕ) → i ≤ l.setup.harts → held_id t k < i
      → standing_on l i k ≡ hardware_hart t k
  unfolding standing_on
  busy_is k b e zero i-few found = absurd (omega arith)
  busy_is k b e (suc i) i-few found =
      let here : is_on k (place l.entries i) ≡ eqb i (held_id t k) = held_alone k b e i (omega arith) in
      by_test (eqb i (held_id t k))
      (λ q.
      sym
      (yes _ (here ∙ q)
      (sym (on_hart t x.tables_sound i k (held_stands t x.tables_sound k b e i (within i (omega arith)) ∙ q))
      ∙ x.holds.hart_is i (omega arith))))
      (λ q. sym (no _ (here ∙ q) (sym (busy_is k b e i (omega arith) (omega (arith, eqb-false i (held_id t k) q))))))

  -- the hardware row is the one worked out
  hardware_is : (k : ℕ) → k < l.setup.hardware → hardware_hart t k ≡ rows.hardware_row l k
  hardware_is k c =
      let b : k < hardware_harts t = rw x.holds.hardware_are c in
      by_test (is_dummy (hardware_hart t k))
      (λ e. idle_row t x.tables_sound k b e ∙ sym (idle_is k b e l.setup.harts (le_refl l.setup.harts)))
      (λ e.
      let there : held_id t k < harts t = (held_names t x.tables_sound k b e).there in
      sym (busy_is k b e l.setup.harts (le_refl l.setup.harts) (rw (← x.holds.harts_are) there)))

  -- every row is the row worked out from the log
  rows_are : RowsAre l t
  rows_are =
      record {
        counts_are = ap₂ (λ (n m : ℕ). n ∷ m ∷ []) x.holds.harts_are x.holds.hardware_are;
        home_rows = λ h b. home_words t x.tables_sound h (within h b) ∙ ap to_words (home_is h b);
        hardware_rows = λ k b. hardware_words t x.tables_sound k (rw x.holds.hardware_are b) ∙ ap to_words (hardware_is k b);
        queues_are = λ h b. queue_words_lem t x.tables_sound h (within h b) ∙ ap queue_words_of (x.holds.waits_are h b);
        regions_are = region_words_lem t x.tables_sound ∙ ap region_words_of x.holds.regions_are;
        mask_is = ap (λ (m : ℕ). m ∷ []) x.holds.allowed_is;
      }

  -- ---- one place

  -- real hart h stands in the row of its place
  stands_there : (h : ℕ) → h < harts t → (at : Standing) → standing t h ≡ at → Stands t h (row_at at h)
  stands_there h b at_home e =
      let same = home_row_lem t x.tables_sound h e in
      record {
        there = b;
        real = ap (λ (y : ConfidentialHart). y.vm) same ∙ now_real t x.tables_sound h b;
        number = ap (λ (y : ConfidentialHart). y.id) same ∙ now_number t x.tables_sound h b;
      }
  stands_there h b (on_hardware k) e =
      let same = hardware_row_lem t x.tables_sound h k e in
      record {
        there = stands_below t x.tables_sound h k b e;
        real = ap (λ (y : ConfidentialHart). y.vm) same ∙ now_real t x.tables_sound h b;
        number = ap (λ (y : ConfidentialHart). y.id) same ∙ now_number t x.tables_sound h b;
      }

  -- a real hart is no dummy
  not_dummy : (y : ConfidentialHart) → y.vm ≡ the_vm → is_dummy y ≡ false
  not_dummy y e = rw e refl

  -- a row in which it stands is that row
  stands_nowhere_else : (h : ℕ) → h < harts t → (r : Row) → Stands t h r → r ≡ row_at (standing t h) h
  stands_nowhere_else h b (home g) y =
      let at_home_lem : standing t g ≡ at_home = real_stands t g (not_dummy (home_hart t g) y.real) in
      let same : g ≡ h =
      sym (now_number t x.tables_sound g y.there) ∙ sym (ap (λ (z : ConfidentialHart). z.id) (home_row_lem t x.tables_sound g at_home_lem)) ∙ y.number in
      ap home same ∙ ap (λ (at : Standing). row_at at h) (sym (ap (standing t) (sym same) ∙ at_home_lem))
  stands_nowhere_else h b (hardware k) y =
      let held-here = held_stands t x.tables_sound k y.there (not_dummy (hardware_hart t k) y.real) h b in
      ap (λ (at : Standing). row_at at h) (sym (on_stands t h k (held-here ∙ eq-eqb h (held_id t k) (sym y.number))))

  -- it stands in the row that the log says, and in no other
  one_place : (h : ℕ) → h < l.setup.harts → StandsOnly t h (row_at (place l.entries h) h)
  one_place h b =
      rw (← (x.holds.stands_at h b))
      (record { stands = stands_there h (within h b) (standing t h) refl; only = λ r y. stands_nowhere_else h (within h b) r y })

  -- ---- what is asked next

  -- 12 is never the answer
  never_12 : (r : Request) (effects : List ℕ) → (performed r t effects).answer ≢ Err TablesNotSound
  never_12 r effects e = false≢true (sym ((twelve_exactly r t effects).0 e) ∙ x.tables_sound)

  -- the hart that hardware hart k holds stands on it, by the log
  held_on : (k : ℕ) → Held t k → On k l (held_id t k)
  held_on k y =
      let h : ℕ = held_id t k in
      let inside : h < l.setup.harts = rw (← x.holds.harts_are) y.id_below in
      record {
        there = inside;
        on_it = sym (x.holds.stands_at h inside)
            ∙ on_stands t h k (held_stands t x.tables_sound k y.k_below y.real h y.id_below ∙ eq-eqb h h refl);
      }

  -- a process counts the commands of that hart
  counted : (effects : List ℕ) (k : HardwareHartId) (count : ℕ) → (performed (Process k) t effects).answer ≡ Ok (Count count) → CountOf k.0 l count
  counted effects k count q =
      let y = process_count k t effects count q in
      let h : ℕ = held_id t k.0 in
      let on-k = held_on k.0 y.every_done.held_real in
      record {
        hart = h;
        stands = on-k;
        count_is = y.counted
            ∙ sym (commands_length (queue t h))
            ∙ ap (λ (cs : List ConfidentialHartRemoteCommand). length cs) (x.holds.waits_are h on-k.there);
      }

  -- a resume that passes its tests answers what that hart goes on with
  resumed_effect : (effects : List ℕ) (k : HardwareHartId) → Passed (unsound t ∷ tests (Resume k) t effects) → ResumeOf k.0 l (effect (Resume k) t effects).answer
  unfolding effect real_hart
  resumed_effect effects k p =
      let y = process_held k t effects (resume_tests k t effects p) in
      let h : ℕ = held_id t k.0 in
      let cs = held_commands t k.0 in
      let on-k = held_on k.0 y in
      let now : hardware_hart t k.0 ≡ real_hart l h =
      sym (on_hart t x.tables_sound h k.0 (held_stands t x.tables_sound k.0 y.k_below y.real h y.id_below ∙ eq-eqb h h refl))
      ∙ x.holds.hart_is h on-k.there in
      record {
        hart = h;
        stands = on-k;
        answer_is = going_answer (processed cs k.0 h t).hardware k.0
            ∙ ap (λ (z : ConfidentialHart). going_on z.lifecycle (wait_for z.operation z.x z.y))
            (did_hart t x.tables_sound k.0 y.k_below cs y.real ∙ ap₂ after_doing (x.holds.waits_are h on-k.there) now);
      }

  -- the same of the request
  resumed : (effects : List ℕ) (k : HardwareHartId) → accepted (performed (Resume k) t effects).answer ≡ true
      → ResumeOf k.0 l (performed (Resume k) t effects).answer
  resumed effects k =
      by_silent (Resume k) t effects (λ (o : Outcome). accepted o.answer ≡ true → ResumeOf k.0 l o.answer)
      (λ e unheard is. absurd (false≢true (sym (ap (λ (b : Bool). not (b || refused_with8 (Err e))) is) ∙ unheard)))
      (λ p _. resumed_effect effects k p)

  -- ---- the effect records

  -- what this hart did by the tables it did by the log
  held_records : (e : Entry) (effects : List ℕ) (o : Outcome) (k : ℕ) → Held t k → (u : Says) → heard e ≡ u → u.who ≡ held_by k
      → RecordsOf (held_id t k) (done_by u (held_commands t k) (held_id t k)) effects o
      → RecordsAre l e effects o
  held_records e effects o k y u is who did =
      let h : ℕ = held_id t k in
      let inside : h < l.setup.harts = (held_on k y).there in
      own_records l e effects o h inside
      (λ g b. ap (λ (v : Says). is_who v.who (place l.entries g) g) is ∙ ap (λ (w : Who). is_who w (place l.entries g) g) who ∙ held_alone k y.k_below y.real g b)
      (subst (λ (cs : List ConfidentialHartRemoteCommand). RecordsOf h cs effects o)
      (ap (λ (cs : List ConfidentialHartRemoteCommand). done_by u cs h) (x.holds.waits_are h inside)
      ∙ ap (λ (v : Says). done_by v (rows.queue l.setup l.entries h) h) (sym is))
      did)

  -- a request that is refused leaves none, and one that passes its tests those of its hart
  either_records : (r : Request) (effects : List ℕ) (k : ℕ) → ((a : Answered) → (says r a).who ≡ held_by k)
      → (Passed (unsound t ∷ tests r t effects) → Held t k)
      → RecordsOf (held_id t k) (done_by (says r (effect r t effects).answer) (held_commands t k) (held_id t k)) effects (effect r t effects)
      → RecordsAre l (entry r (performed r t effects).answer) effects (performed r t effects)
  either_records r effects k who held did =
      by_silent r t effects (λ (o : Outcome). RecordsAre l (entry r o.answer) effects o)
      (λ e unheard.
      let q = entry r (Err e) in
      no_records l q effects (refused_on t effects e) (unheard_does q (silent_unheard r (Err e) unheard) l) refl refl)
      (λ p.
      let a = (effect r t effects).answer in
      held_records (entry r a) effects (effect r t effects) k (held p) (says r a) (heard_says r a (effect_heard r t effects p)) (who a) did)

  -- every request leaves the records that the log says
  records_are : (effects : List ℕ) (r : Request) → RecordsAre l (entry r (performed r t effects).answer) effects (performed r t effects)
  unfolding effect says own_commands pick
  records_are effects =
      by_doing (λ r. RecordsAre l (entry r (performed r t effects).answer) effects (performed r t effects))
      (λ r e.
      let kept = room_kept r t effects e in
      let a = (performed r t effects).answer in
      no_records l (entry r a) effects (performed r t effects) (λ h. plain_does r a e _ h) (ap (λ (o : Outcome). o.did) kept)
      (ap (λ (o : Outcome). o.effects) kept))
      (λ k c.
      either_records (Broadcast k c) effects k.0 (λ _. refl) (λ p. broadcast_held k c t effects p) (record { did_is = refl; room_is = refl }))
      (λ k.
      either_records (Process k) effects k.0 (λ _. refl) (λ p. process_held k t effects p) (record { did_is = refl; room_is = refl }))
      (λ k.
      either_records (Resume k) effects k.0 (λ _. refl) (λ p. process_held k t effects (resume_tests k t effects p))
      (record { did_is = refl; room_is = refl }))

  -- ---- what a broadcast answers

  -- of a sender and who it is by the log
  module _ (sender : ℕ) (who : Who) (c : ConfidentialHartRemoteCommand) (is : (g : ℕ) → g < harts t → eqb g sender ≡ is_who who (standing t g) g) where
    -- a hart receives by its home row exactly when it does by the log
    receiver_is : (h : ℕ) → h < l.setup.harts → requests.receives t.home sender c h ≡ is_receiver c who l h
    unfolding real_hart
    receiver_is h b =
        receives_now t x.tables_sound sender who c is h (within h b) ∙ rw (x.holds.stands_at h b, x.holds.hart_is h b) refl

    -- it has 64 commands exactly when it does by the log
    full_is : (h : ℕ) → h < l.setup.harts → leb max_commands (count (queue t h)) ≡ rows.full (rows.queue l.setup l.entries h)
    full_is h b = ap (leb max_commands) (sym (commands_length (queue t h)) ∙ ap (λ (cs : List ConfidentialHartRemoteCommand). length cs) (x.holds.waits_are h b))

    -- it receives and has 64 commands
    abbrev full_receiver : ℕ → Bool
    full_receiver h = is_receiver c who l h && rows.full (rows.queue l.setup l.entries h)

    -- a mask, by the log
    mask_of : (mask : ℕ) → Masked sender c t mask → MaskOf c who l mask
    mask_of mask y =
        record {
          none_full = none_of full_receiver l.setup.harts
              (λ h b.
              by_test (is_receiver c who l h)
              (λ r. rw r (sym (full_is h b) ∙ lt-leb _ _ (y.room h (within h b) (receiver_is h b ∙ r))))
              (λ r. rw r refl));
          bits = λ k.
              y.bits k
              ∙ ap (exists (interrupts_on t.home sender c k)) x.holds.harts_are
              ∙ ap (λ (b : Bool). not b)
              (every_same _ _ l.setup.harts
              (λ h b. rw (receiver_is h b, sym (on_holds t h k), x.holds.stands_at h b) refl));
        }

    -- 8, by the log
    some_full_lem : (after : List ℕ) (h : ℕ) → RefusedAt sender c t after h → some_full c who l ≡ true
    some_full_lem after h y =
        let inside : h < l.setup.harts = rw (← x.holds.harts_are) y.there in
        exists_of full_receiver h l.setup.harts inside (and_both (sym (receiver_is h inside) ∙ y.receiving) (sym (full_is h inside) ∙ le-leb _ _ y.full))

  -- every request leaves n and m
  same_counts : (r : Request) (effects : List ℕ)
      → (harts (performed r t effects).after ≡ harts t) × (hardware_harts (performed r t effects).after ≡ hardware_harts t)
  same_counts r effects =
      by_performed r t effects (λ (o : Outcome). (harts o.after ≡ harts t) × (hardware_harts o.after ≡ hardware_harts t)) (λ _. (refl, refl))
      (λ p. let y = said_holds r t effects x.tables_sound p in (y.harts_are, y.hardware_are))

  -- words past the tables are as they were
  past_kept : (r : Request) (effects : List ℕ)
      → past_end (performed r t effects).after (performed r t effects).after ≡ past_end (performed r t effects).after t
  past_kept r effects =
      let y = same_counts r effects in rw (y.0, y.1) (past_of t effects r)

  -- each table is as long as it was
  as_long : (r : Request) (effects : List ℕ) → lengths (performed r t effects).after ≡ lengths t
  as_long r effects =
      let y = lengths_kept t effects r in
      λ i. y.head_same i ∷ y.home_same i ∷ y.hardware_same i ∷ y.queues_same i ∷ y.regions_same i ∷ []

  -- the sender of a broadcast is the hart that hardware hart k holds
  held_by_lem : (k : ℕ) → Held t k → (g : ℕ) → g < harts t → eqb g (held_id t k) ≡ is_who (held_by k) (standing t g) g
  held_by_lem k y g b = sym (held_stands t x.tables_sound k y.k_below y.real g b)

  -- what meets the entry's promise is as it must be
  next : (request : Request) (effects : List ℕ) (o : Outcome) → o ≡ performed request t effects → Next l t request effects o
  next request effects o p =
      record {
        one_outcome = λ other q. one_outcome request t effects other o q p;
        never_12 = rw p (never_12 request effects);
        refusal_alone = λ e q unheard. p ∙ refusal_alone request t effects e (given_so q) unheard;
        only_broadcasts_8 = rw p (eight_sends request t effects);
        writes_only = rw p (λ place inside unnamed. writes_only t effects request place inside unnamed);
        past_kept = rw p (past_kept request effects);
        as_long = rw p (as_long request effects);
        records_are = rw p (records_are effects request);
        effects_kept = rw p (effects_kept t effects request);
        effects_fit = rw p (effects_fit t effects request);
        effects_as_long = rw p (effects_length t effects request);
        counted = λ k count is q. counted effects k count (asked_so is q);
        broadcast_masked = λ k c mask is q.
            mask_of (held_id t k.0) (held_by k.0) c (held_by_lem k.0 (mask_held k c t effects mask (asked_so is q))) mask
            (broadcast_mask k c t effects mask (asked_so is q)).0;
        broadcast_8 = λ k c is q.
            some_full_lem (held_id t k.0) (held_by k.0) c (held_by_lem k.0 (eight_held k c t effects (asked_so is q))) _ _
            (broadcast_eight k c t effects (asked_so is q)).0;
        send_masked = λ sender c mask is q. mask_of sender (hart_numbered sender) c (λ g b. refl) mask (send_mask sender c t effects mask (sent_so sender c is q));
        send_8 = λ sender c is q. some_full_lem sender (hart_numbered sender) c (λ g b. refl) _ _ (send_eight sender c t effects (sent_so sender c is q));
        resumed = λ k is a. resumed_so k is a;
      }
    where
      given_so : {a : Answered} → o.answer ≡ a → (performed request t effects).answer ≡ a
      given_so q = sym (ap (λ (z : Outcome). z.answer) p) ∙ q

      asked_so : {r : Request} {a : Answered} → request ≡ r → o.answer ≡ a → (performed r t effects).answer ≡ a
      asked_so is q = sym (ap (λ (r : Request). (performed r t effects).answer) is) ∙ given_so q

      sent_so : (sender : ℕ) (c : ConfidentialHartRemoteCommand) {a : Answered} → request ≡ Send sender c → o.answer ≡ a
          → (performed (Send sender c) t effects).answer ≡ a
      sent_so sender c is q = asked_so is q

      resumed_so : (k : HardwareHartId) → request ≡ Resume k → accepted o.answer ≡ true → ResumeOf k.0 l o.answer
      resumed_so k is a =
          let same : o.answer ≡ (performed (Resume k) t effects).answer = sym (asked_so is refl) in
          rw same (resumed effects k (sym (ap accepted same) ∙ a))

-- a setup on any tables
next_setup : (t : Tables) (s : Setup) (o : Outcome) → o ≡ set_up s t → NextSetup t s o
next_setup t s o p =
    let y = setup_lengths s t in
    record {
      one_outcome = λ other q. q ∙ sym p;
      never_12 = rw p (twelve_never_for_setup s t);
      refusal_alone = rw p (setup_refusal_alone s t);
      done_fresh = rw p (setup_done_fresh s t);
      past_kept = rw p (setup_past s t);
      as_long = rw p (λ i. y.head_same i ∷ y.home_same i ∷ y.hardware_same i ∷ y.queues_same i ∷ y.regions_same i ∷ []);
    }

-- ---- the theorem

-- what a run leaves is kept: every row is the row worked out from the log, and each real hart stands in one place
pub kept : (l : Log) (t : Tables) → Left l t → Kept l t
kept l t run =
    let x = left_agrees run in
    record { rows_are = rows_are l t x; one_place = one_place l t x; next = next l t x; next_setup = next_setup t }

-- a setup goes on with a run, or starts one anew
left_again : (s : Setup) (l : Log) (t : Tables) → Left l t → Left (reached_again s (set_up s t) l).written (set_up s t).after
unfolding set_up setup_tests all_of pick
left_again s l t left =
    by_errors (refused_on t []) (answering (Ok Done) (fresh s t) []) (λ (o : Outcome). o ≡ set_up s t → Left (reached_again s o l).written o.after)
    (λ e. not (accepted (Err e)))
    (λ e refused _. let q : accepted (Err e) ≡ false = not-true _ refused in rw q left)
    (setup_tests s t)
    refl
    (λ _ is. begins s t (answering (Ok Done) (fresh s t) []) is refl)
    refl

-- requests one after the other go on with a run
pub run_left : (more : List Ask) (x : Reached) → Left x.written x.standing → Left (reached_by more x).written (reached_by more x).standing
run_left [] x left = left
run_left (again s ∷ more) x left = run_left more _ (left_again s x.written x.standing left)
run_left (ask request effects ∷ more) x left =
    run_left more _ (asked x.written x.standing left request effects (performed request x.standing effects) refl)

-- the same for a list of requests: from an accepted setup on lent tables, after any of them, with any effects room each
pub kept_after : (s : Setup) (lent : Tables) → (set_up s lent).answer ≡ Ok Done → (more : List Ask)
    → Kept (reached_by more (begun s lent)).written (reached_by more (begun s lent)).standing
kept_after s lent done more = kept _ _ (run_left more (begun s lent) (begins s lent (set_up s lent) refl done))

-- a step by an entry that does no command: its promise is `performed` of the request
pub asked_plain : (l : Log) (t : Tables) → Left l t → (request : Request) (o : Outcome) → o ≡ performed request t [] → Left (noted request o.answer l) o.after
asked_plain l t run request o p = asked l t run request [] o p
