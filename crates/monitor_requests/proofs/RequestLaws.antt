-- Laws over all requests: sound tables stay sound, a refusal changes nothing but by 8, tables keep their lengths, and when 12 is given.
-- Assumes nothing.
use Rattle.std.proofs.Common.{Ok, Err, None}
use Prim.Native.Nat.{ℕ, ◌<◌, ◌≤◌}
use mathlib.Core.Path.{◌≡◌, refl, sym, ap, ◌∙◌}
use mathlib.Core.Logic.{◌≢◌, ◌↔◌}
use mathlib.Core.Bool.{Bool, true, false, not, ◌&&◌, false≢true}
use mathlib.Core.List.{List, [], ◌∷◌}
use native.Mathlib.Omega.{arith}
use lib.ListN.{length, set, length-set, length-append}
use lib.Dec.{eqb}
use borrow.Author.Tests.{leb-false, not-true}
use Rattle.error.specs.declared.Error.{Error}
use Rattle.error.specs.declared.Error.TheVariants.{ReachedMaxNumberOfRemoteCommands, TablesNotSound}
use Rattle.error.specs.Error.{number_of, done as no_error, reached_max_number_of_remote_commands, tables_not_sound, bad_line}
use Rattle.table_rows.specs.Rows.{put}
use Rattle.table_rows.specs.Lists.{all_of}
use Rattle.table_rows.proofs.PickLaws.{by_test, by_pick}
use Rattle.table_rows.proofs.RowLaws.{put_length}
use Rattle.confidential_vm_mmio_region.specs.declared.ConfidentialVmMmioRegion.{ConfidentialVmMmioRegion}
use Rattle.mmio_regions.specs.Regions.{max_regions}
use Rattle.mmio_regions.proofs.RegionLaws.{removed_few}
use Rattle.mmio_regions.proofs.TableLaws.{standing_length, laid_length}
use Rattle.confidential_hart_remote_command.specs.declared.ConfidentialHartRemoteCommand.{ConfidentialHartRemoteCommand}
use Rattle.confidential_hart.specs.declared.ConfidentialHart.{ConfidentialHart}
use Rattle.confidential_hart.specs.declared.ConfidentialHartId.{ConfidentialHartId}
use Rattle.confidential_hart.specs.declared.HardwareHartId.{HardwareHartId}
use Rattle.hart_rows.specs.HartRows.{hart_words, to_words}
use Rattle.hart_rows.proofs.HartRowLaws.{to_length}
use Rattle.monitor_requests.specs.declared.Request.{Request}
use Rattle.monitor_requests.specs.declared.Request.TheVariants.{
  Steal,
  Return,
  Start,
  Suspend,
  Stop,
  Wake,
  Off,
  Await,
  Status,
  Home,
  Send,
  Allow,
  Add,
  Remove,
  Defined,
  Broadcast,
  Process,
  Resume,
}
use Rattle.monitor_requests.specs.declared.Setup.{Setup}
use Rattle.monitor_requests.specs.declared.Answer.TheVariants.{Done}
use Rattle.monitor_requests.specs.Answers.{Answered, gives, given}
use Rattle.monitor_requests.specs.Tables.{
  Tables,
  allowed_word,
  regions_word,
  harts,
  hardware_harts,
  region_count,
  hardware_hart,
  regions_of,
  sound,
  Sized,
}
use Rattle.confidential_vm_mmio_region.specs.Region.{region_from}
use Rattle.monitor_requests.specs.Requests.{Outcome, answering, does_no_command, with_room, judged, refused_on, unsound, tests, with_head, with_home, with_held, with_queues, with_regions, exchanged, fresh, setup_tests, set_up, broadcast, doing, own_commands, processed, Going, resumed, held_id, held_commands, effect, performed}
use Rattle.monitor_requests.proofs.JudgedLaws.{Passed, by_errors, judged_map, judged_passed, by_performed, effect_sound, unsound_refused}
use Rattle.monitor_requests.proofs.AnswerLaws.{is_refused}
use Rattle.monitor_requests.proofs.SoundLaws.{sound_sized, held_names}
use Rattle.monitor_requests.proofs.MoveLaws.{
  home_fits,
  hardware_fits,
  home_long,
  hardware_long,
  steal_sound,
  return_sound,
  start_sound,
  suspend_sound,
  stop_sound,
  wake_sound,
  off_sound,
  await_sound,
}
use Rattle.monitor_requests.proofs.SetupLaws.{
  Accepted,
  accepted,
  head_length,
  home_length,
  hardware_length,
  queues_length,
  regions_length,
  fresh_sound,
}
use Rattle.monitor_requests.proofs.RegionLaws.{add_sound, remove_sound, allow_sound}
use Rattle.monitor_requests.proofs.DoingLaws.{by_going, did_sound, did_length, emptied_long, goes_length}
use Rattle.monitor_requests.proofs.HeldLaws.{Held, broadcast_held, by_broadcast, process_held, resume_tests, processed_sound, resumed_sound}
use Rattle.monitor_requests.proofs.BroadcastLaws.{by_turns, broadcast_length, send_sound}

-- ---- sound tables stay sound

-- every request leaves sound tables sound
pub performed_sound : (r : Request) (t : Tables) (effects : List ℕ) → sound t ≡ true → sound (performed r t effects).after ≡ true
unfolding effect
performed_sound (Steal hart on) t effects f = steal_sound hart on t effects f
performed_sound (Return on) t effects f = return_sound on t effects f
performed_sound (Start hart address opaque) t effects f = start_sound hart address opaque t effects f
performed_sound (Suspend on) t effects f = suspend_sound on t effects f
performed_sound (Stop on) t effects f = stop_sound on t effects f
performed_sound (Wake on address opaque) t effects f = wake_sound on address opaque t effects f
performed_sound (Off on) t effects f = off_sound on t effects f
performed_sound (Await on kind x y) t effects f = await_sound on kind x y t effects f
performed_sound (Status hart) t effects f = effect_sound (Status hart) t effects f (λ _. f)
performed_sound Home t effects f = effect_sound Home t effects f (λ _. f)
performed_sound (Send sender c) t effects f = send_sound sender c t effects f
performed_sound (Allow bits) t effects f = allow_sound bits t effects f
performed_sound (Add base size) t effects f = add_sound base size t effects f
performed_sound (Remove base size) t effects f = remove_sound base size t effects f
performed_sound (Defined base size) t effects f = effect_sound (Defined base size) t effects f (λ _. f)
performed_sound (Broadcast on c) t effects f =
    by_broadcast on c t effects (λ (o : Outcome). sound o.after ≡ true) (λ _. f)
    (λ o w p.
    let x = broadcast_held on c t effects p in
    rw w.after_own (send_sound (held_id t on.0) c _ [] (did_sound t f on.0 x.k_below (own_commands c (held_id t on.0)))))
performed_sound (Process on) t effects f =
    effect_sound (Process on) t effects f (λ p. processed_sound t on.0 (process_held on t effects p) (held_commands t on.0))
performed_sound (Resume on) t effects f =
    effect_sound (Resume on) t effects f
    (λ p. resumed_sound t on.0 (process_held on t effects (resume_tests on t effects p)) (held_commands t on.0))

-- ---- refusals

-- what an effect may answer: it refuses by 8 alone
abbrev Effects : Answered → Type 0
Effects a = (e : Error) → a ≡ Err e → e ≡ ReachedMaxNumberOfRemoteCommands

broadcast_answers : (sender : ℕ) (c : ConfidentialHartRemoteCommand) (t : Tables) → Effects (broadcast sender c t).answer
broadcast_answers sender c t =
    by_turns t.home sender c (λ left h mask queues d. Effects d.answer) (λ h mask queues e q. cc) (λ left h mask queues d r next. next)
    (λ left h mask queues r l e q. cc)
    (λ left h mask queues d r l next. next)
    _
    0
    0
    t.queues

effect_answers : (r : Request) (t : Tables) (effects : List ℕ) → Effects (effect r t effects).answer
unfolding effect
effect_answers (Steal hart on) t effects = λ e q. cc
effect_answers (Return on) t effects = λ e q. cc
effect_answers (Start hart address opaque) t effects = λ e q. cc
effect_answers (Suspend on) t effects = λ e q. cc
effect_answers (Stop on) t effects = λ e q. cc
effect_answers (Wake on address opaque) t effects = λ e q. cc
effect_answers (Off on) t effects = λ e q. cc
effect_answers (Await on kind x y) t effects = λ e q. cc
effect_answers (Status hart) t effects = λ e q. cc
effect_answers Home t effects = λ e q. cc
effect_answers (Send sender c) t effects = broadcast_answers sender c t
effect_answers (Allow bits) t effects = λ e q. cc
effect_answers (Add base size) t effects = λ e q. cc
effect_answers (Remove base size) t effects = λ e q. cc
effect_answers (Defined base size) t effects = λ e q. cc
effect_answers (Broadcast on c) t effects = broadcast_answers (held_id t on.0) c (doing (own_commands c (held_id t on.0)) on.0 t)
effect_answers (Process on) t effects = λ e q. cc
effect_answers (Resume on) t effects =
    by_going (processed (held_commands t on.0) on.0 (held_id t on.0) t).hardware on.0 (λ (g : Going). Effects g.answer)
    (λ _ e q. cc)
    (λ _ _ e q. cc)
    (λ _ _ e q. cc)

-- an effect refuses by 8 alone
pub effect_refusal : (r : Request) (t : Tables) (effects : List ℕ) (e : Error) → (effect r t effects).answer ≡ Err e → e ≡ ReachedMaxNumberOfRemoteCommands
effect_refusal r t effects e p = effect_answers r t effects e p

module _ (r : Request) (t : Tables) (effects : List ℕ) (e : Error) (p : (performed r t effects).answer ≡ Err e) where
  -- a refusal other than 8 changes no word of tables and effects
  pub refusal_alone : e ≢ ReachedMaxNumberOfRemoteCommands → performed r t effects ≡ refused_on t effects e
  refusal_alone other =
      by_performed r t effects (λ (o : Outcome). o.answer ≡ Err e → o ≡ refused_on t effects e) (λ _ q. ap (λ (a : Answered). answering a t effects) q)
      (λ _ q. absurd (other (effect_refusal r t effects e q)))
      p

  -- no word and no data follow the number
  pub refused_values : given (performed r t effects).answer ≡ gives (number_of e) None []
  refused_values = ap given p

-- equal inputs allow one outcome: of one request on the same tables two that meet the promise are equal
pub one_outcome : (r : Request) (t : Tables) (effects : List ℕ) (o o' : Outcome) → o ≡ performed r t effects → o' ≡ performed r t effects → o ≡ o'
one_outcome r t effects o o' p q = p ∙ sym q

-- what a promise says of the answer: its number and values are those of the request
pub promised_given : (q : Request) (t : Tables) {t' : Tables} {r : Answered} → answering r t' [] ≡ performed q t [] → given r ≡ given (performed q t []).answer
promised_given q t p = ap (λ (o : Outcome). given o.answer) p

-- ---- which errors tests give

-- an error that a test may give: 0 is the number of none, 8 comes while receivers are visited, 12 is asked before every test, and 20 is given
-- by the trace program alone
abbrev pub of_test : Error → Bool
of_test e =
    not (eqb (number_of e) no_error)
    && not (eqb (number_of e) reached_max_number_of_remote_commands)
    && not (eqb (number_of e) tables_not_sound)
    && not (eqb (number_of e) bad_line)

-- the tests of a request give no other
pub tests_known : (r : Request) (t : Tables) (effects : List ℕ) → all_of (λ x. of_test x.error) (tests r t effects) ≡ true
unfolding tests all_of
tests_known (Steal hart on) t effects = refl
tests_known (Return on) t effects = refl
tests_known (Start hart address opaque) t effects = refl
tests_known (Suspend on) t effects = refl
tests_known (Stop on) t effects = refl
tests_known (Wake on address opaque) t effects = refl
tests_known (Off on) t effects = refl
tests_known (Await on kind x y) t effects = refl
tests_known (Status hart) t effects = refl
tests_known Home t effects = refl
tests_known (Send sender c) t effects = refl
tests_known (Allow bits) t effects = refl
tests_known (Add base size) t effects = refl
tests_known (Remove base size) t effects = refl
tests_known (Defined base size) t effects = refl
tests_known (Broadcast on c) t effects = refl
tests_known (Process on) t effects = refl
tests_known (Resume on) t effects = refl

-- an answer that refuses by such an error is no refusal by another
pub other_error : {e d : Error} → of_test e ≡ true → of_test d ≡ false → ◌≢◌ {A = Answered} (Err e) (Err d)
other_error {e} {d} given never p = let q : e ≡ d = cc in false≢true (sym never ∙ ap of_test (sym q) ∙ given)

-- what holds of 12 on tables that are not sound, of each refusal by a test, and of the effect where the tests are passed, holds of the outcome
pub by_outcome : (r : Request) (t : Tables) (effects : List ℕ) (P : Outcome → Type 0) → (sound t ≡ false → P (refused_on t effects TablesNotSound))
    → ((e : Error) → of_test e ≡ true → P (refused_on t effects e))
    → (Passed (unsound t ∷ tests r t effects) → P (effect r t effects))
    → P (performed r t effects)
unfolding performed
by_outcome r t effects P unsound-so refused passed =
    by_pick P (not (sound t)) _ _ (λ w. unsound-so (not-true _ w))
    (λ w.
    by_errors (refused_on t effects) (effect r t effects) P of_test refused (tests r t effects) (tests_known r t effects) (λ p. passed (w, p)))

-- ---- 12

module _ (r : Request) (t : Tables) (effects : List ℕ) where
  sound_otherwise : sound t ≡ true → (performed r t effects).answer ≢ Err TablesNotSound
  sound_otherwise s =
      by_outcome r t effects (λ (o : Outcome). o.answer ≢ Err TablesNotSound) (λ f _. false≢true (sym f ∙ s)) (λ e k. other_error k refl)
      (λ _ p.
      let z : ◌≡◌ {A = ℕ} 12 8 = ap number_of (effect_refusal r t effects TablesNotSound p) in
      absurd (omega arith))

  -- every request gives 12 exactly when the tables are not sound
  pub twelve_exactly : ((performed r t effects).answer ≡ Err TablesNotSound) ↔ (sound t ≡ false)
  twelve_exactly = (
    λ p. by_test (sound t) (λ s. absurd (sound_otherwise s p)) (λ s. s),
    λ s. ap (λ (o : Outcome). o.answer) (unsound_refused r t effects s),
  )

-- ---- what each request leaves of sound tables

-- the tables once the sender did its own command
abbrev pub own_done : HardwareHartId → ConfidentialHartRemoteCommand → Tables → Tables
own_done on c t = doing (own_commands c (held_id t on.0)) on.0 t

-- what holds of a request and of the tables that it leaves: those that stood, or once it is accepted those of its effect
pub record Cases (t : Tables) (P : Request → Tables → Type 0) : Type 0 where
  pub unchanged : (r : Request) → P r t
  pub steal : (hart : ConfidentialHartId) (on : HardwareHartId) → hart.0 < harts t → on.0 < hardware_harts t
      → P (Steal hart on) (exchanged hart.0 on.0 t)
  pub back : (on : HardwareHartId) → (hardware_hart t on.0).id < harts t → on.0 < hardware_harts t
      → P (Return on) (exchanged (hardware_hart t on.0).id on.0 t)
  pub start : (hart : ConfidentialHartId) (address opaque : ℕ) → hart.0 < harts t
      → (y : ConfidentialHart) → P (Start hart address opaque) (with_home (put hart_words t.home hart.0 (to_words y)) t)
  pub suspend : (on : HardwareHartId) → on.0 < hardware_harts t → (y : ConfidentialHart) → P (Suspend on) (with_held on.0 y t)
  pub stop : (on : HardwareHartId) → on.0 < hardware_harts t → (y : ConfidentialHart) → P (Stop on) (with_held on.0 y t)
  pub wake : (on : HardwareHartId) (address opaque : ℕ) → on.0 < hardware_harts t → (y : ConfidentialHart)
      → P (Wake on address opaque) (with_held on.0 y t)
  pub off : (on : HardwareHartId) → on.0 < hardware_harts t → (y : ConfidentialHart) → P (Off on) (with_held on.0 y t)
  pub await : (on : HardwareHartId) (kind x y : ℕ) → on.0 < hardware_harts t → (z : ConfidentialHart) → P (Await on kind x y) (with_held on.0 z t)
  pub send : (sender : ℕ) (c : ConfidentialHartRemoteCommand) → P (Send sender c) (with_queues (broadcast sender c t).queues t)
  pub allow : (bits mask : ℕ) → P (Allow bits) (with_head (set t.head allowed_word mask) t)
  pub add : (base size : ℕ) (rs : List ConfidentialVmMmioRegion) → length rs ≤ max_regions → P (Add base size) (with_regions rs t)
  pub remove : (base size : ℕ) (rs : List ConfidentialVmMmioRegion) → length rs ≤ max_regions → P (Remove base size) (with_regions rs t)
  pub sent_held : (on : HardwareHartId) (c : ConfidentialHartRemoteCommand) → Held t on.0
      → P (Broadcast on c) (with_queues (broadcast (held_id t on.0) c (own_done on c t)).queues (own_done on c t))
  pub process : (on : HardwareHartId) → Held t on.0 → P (Process on) (processed (held_commands t on.0) on.0 (held_id t on.0) t)
  pub resume : (on : HardwareHartId) → Held t on.0 → P (Resume on) (resumed on.0 (processed (held_commands t on.0) on.0 (held_id t on.0) t) []).after

module _ (t : Tables) (s : sound t ≡ true) (P : Request → Tables → Type 0) (c : Cases t P) (effects : List ℕ) where
  either : (r : Request) → (Passed (unsound t ∷ tests r t effects) → P r (effect r t effects).after) → P r (performed r t effects).after
  either r passed = by_performed r t effects (λ (o : Outcome). P r o.after) (λ _. c.unchanged r) passed

  -- what holds in each of these cases holds of every request
  pub by_request : (r : Request) → P r (performed r t effects).after
  unfolding tests effect
  by_request (Steal hart on) = either (Steal hart on) (λ p. c.steal hart on (leb-false _ _ p.1.1.1.0) (leb-false _ _ p.1.0))
  by_request (Return on) =
      either (Return on) (λ p.
      let l = leb-false _ _ p.1.0 in
      c.back on (held_names t s on.0 l p.1.1.0).there l)
  by_request (Start hart address opaque) = either (Start hart address opaque) (λ p. c.start hart address opaque (leb-false _ _ p.1.0) _)
  by_request (Suspend on) = either (Suspend on) (λ p. c.suspend on (leb-false _ _ p.1.0) _)
  by_request (Stop on) = either (Stop on) (λ p. c.stop on (leb-false _ _ p.1.0) _)
  by_request (Wake on address opaque) = either (Wake on address opaque) (λ p. c.wake on address opaque (leb-false _ _ p.1.0) _)
  by_request (Off on) = either (Off on) (λ p. c.off on (leb-false _ _ p.1.0) _)
  by_request (Await on kind x y) = either (Await on kind x y) (λ p. c.await on kind x y (leb-false _ _ p.1.1.0) _)
  by_request (Status hart) = either (Status hart) (λ _. c.unchanged (Status hart))
  by_request Home = either Home (λ _. c.unchanged Home)
  by_request (Send sender command) = either (Send sender command) (λ _. c.send sender command)
  by_request (Allow bits) = either (Allow bits) (λ _. c.allow bits _)
  by_request (Add base size) =
      either (Add base size) (λ p.
      let l : length (regions_of t) < max_regions = leb-false _ _ p.1.1.0 in
      c.add base size _ (simp length-append (omega arith)))
  by_request (Remove base size) =
      either (Remove base size) (λ _.
      c.remove base size _
      (omega (arith, removed_few (region_from base size) (regions_of t), standing_length t.regions (region_count t), (sound_sized t s).few_regions)))
  by_request (Defined base size) = either (Defined base size) (λ _. c.unchanged (Defined base size))
  by_request (Broadcast on command) = either (Broadcast on command) (λ p. c.sent_held on command (broadcast_held on command t effects p))
  by_request (Process on) = either (Process on) (λ p. c.process on (process_held on t effects p))
  by_request (Resume on) = either (Resume on) (λ p. c.resume on (process_held on t effects (resume_tests on t effects p)))

-- ---- lengths

-- each of the five is as long after as before
pub record SameLengths (t t' : Tables) : Type 0 where
  pub head_same : length t'.head ≡ length t.head
  pub home_same : length t'.home ≡ length t.home
  pub hardware_same : length t'.hardware ≡ length t.hardware
  pub queues_same : length t'.queues ≡ length t.queues
  pub regions_same : length t'.regions ≡ length t.regions

-- they are their own
pub same_lengths : (t : Tables) → SameLengths t t
same_lengths t = record { head_same = refl; home_same = refl; hardware_same = refl; queues_same = refl; regions_same = refl }

joined : {t t' t'' : Tables} → SameLengths t t' → SameLengths t' t'' → SameLengths t t''
joined a b =
    record {
      head_same = b.head_same ∙ a.head_same;
      home_same = b.home_same ∙ a.home_same;
      hardware_same = b.hardware_same ∙ a.hardware_same;
      queues_same = b.queues_same ∙ a.queues_same;
      regions_same = b.regions_same ∙ a.regions_same;
    }

module _ (t : Tables) (k : ℕ) (x : Held t k) (cs : List ConfidentialHartRemoteCommand) where
  -- the tables once the held hart did commands, and once its queue is empty
  abbrev pub done : Tables
  done = doing cs k t

  abbrev pub emptied_too : Tables
  emptied_too = processed cs k (held_id t k) t

  abbrev pub gone_on : Tables
  gone_on = (resumed k emptied_too []).after

  pub done_sound : sound done ≡ true
  done_sound = did_sound t x.tables_sound k x.k_below cs

  pub emptied_too_sound : sound emptied_too ≡ true
  emptied_too_sound = processed_sound t k x cs

  -- lengths
  done_lengths : SameLengths t done
  done_lengths =
      record {
        head_same = refl;
        home_same = refl;
        hardware_same = did_length t x.tables_sound k x.k_below cs;
        queues_same = refl;
        regions_same = refl;
      }

  emptied_lengths : SameLengths t emptied_too
  emptied_lengths =
      record {
        head_same = refl;
        home_same = refl;
        hardware_same = done_lengths.hardware_same;
        queues_same = emptied_long t x.tables_sound (held_id t k) x.id_below;
        regions_same = refl;
      }

  gone_lengths : SameLengths t gone_on
  gone_lengths =
      record {
        head_same = refl;
        home_same = refl;
        hardware_same = goes_length emptied_too emptied_too_sound k x.k_below ∙ done_lengths.hardware_same;
        queues_same = emptied_lengths.queues_same;
        regions_same = refl;
      }

module _ (t : Tables) (s : sound t ≡ true) where
  abbrev z : Sized t
  z = sound_sized t s

  exchanged_lengths : (h k : ℕ) → h < harts t → k < hardware_harts t → SameLengths t (exchanged h k t)
  exchanged_lengths h k lh lk =
      record {
        head_same = refl;
        home_same = home_long t s h k lh lk;
        hardware_same = hardware_long t s h k lh lk;
        queues_same = refl;
        regions_same = refl;
      }

  regions_lengths : (rs : List ConfidentialVmMmioRegion) → length rs ≤ max_regions → SameLengths t (with_regions rs t)
  regions_lengths rs few =
      record {
        head_same = length-set t.head regions_word (length rs);
        home_same = refl;
        hardware_same = refl;
        queues_same = refl;
        regions_same = laid_length t.regions (region_count t) rs
            (omega (arith, z.few_regions, z.long.regions_long)) (omega (arith, z.long.regions_long));
      }

  -- a hardware row written anew keeps them
  pub held_lengths : (k : ℕ) → k < hardware_harts t → (y : ConfidentialHart) → SameLengths t (with_held k y t)
  held_lengths k l y =
      record {
        head_same = refl;
        home_same = refl;
        hardware_same = put_length hart_words t.hardware k (hardware_fits t z k l) (to_words y) (to_length y);
        queues_same = refl;
        regions_same = refl;
      }

  -- every request keeps those of sound tables
  pub performed_lengths : (r : Request) (effects : List ℕ) → SameLengths t (performed r t effects).after
  performed_lengths r effects =
      by_request t s (λ _ t'. SameLengths t t') (record {
        unchanged = λ _. same_lengths t;
        steal = λ hart on lh lk. exchanged_lengths hart.0 on.0 lh lk;
        back = λ on lh lk. exchanged_lengths (hardware_hart t on.0).id on.0 lh lk;
        start = λ hart address opaque l y. record {
          head_same = refl;
          home_same = put_length hart_words t.home hart.0 (home_fits t z hart.0 l) (to_words y) (to_length y);
          hardware_same = refl;
          queues_same = refl;
          regions_same = refl;
        };
        suspend = λ on l y. held_lengths on.0 l y;
        stop = λ on l y. held_lengths on.0 l y;
        wake = λ on address opaque l y. held_lengths on.0 l y;
        off = λ on l y. held_lengths on.0 l y;
        await = λ on kind x y l held. held_lengths on.0 l held;
        send = λ sender c. record {
          head_same = refl;
          home_same = refl;
          hardware_same = refl;
          queues_same = broadcast_length sender c t s;
          regions_same = refl;
        };
        allow = λ bits mask. record {
          head_same = length-set t.head allowed_word mask;
          home_same = refl;
          hardware_same = refl;
          queues_same = refl;
          regions_same = refl;
        };
        add = λ base size rs few. regions_lengths rs few;
        remove = λ base size rs few. regions_lengths rs few;
        sent_held = λ on c x.
            joined (done_lengths t on.0 x (own_commands c (held_id t on.0)))
            (record {
              head_same = refl;
              home_same = refl;
              hardware_same = refl;
              queues_same = broadcast_length (held_id t on.0) c (own_done on c t) (done_sound t on.0 x (own_commands c (held_id t on.0)));
              regions_same = refl;
            });
        process = λ on x. emptied_lengths t on.0 x (held_commands t on.0);
        resume = λ on x. gone_lengths t on.0 x (held_commands t on.0);
      }) effects r

-- ---- setup

-- an accepted setup keeps them
fresh_lengths : (s : Setup) (t : Tables) → Accepted s t → SameLengths t (fresh s t)
fresh_lengths s t a =
    let l = a.long in
    record {
      head_same = head_length s t l;
      home_same = home_length s t l;
      hardware_same = hardware_length s t l;
      queues_same = queues_length s t l;
      regions_same = regions_length s t l;
    }

module _ (s : Setup) (t : Tables) where
  -- what holds of each refusal but by 12, and of the fresh tables once it is accepted, holds of a setup
  pub by_set_up : (P : Outcome → Type 0) → ((e : Error) → of_test e ≡ true → P (refused_on t [] e)) → (Accepted s t → P (answering (Ok Done) (fresh s t) []))
      → P (set_up s t)
  unfolding set_up setup_tests all_of
  by_set_up P refusal done =
      by_errors (refused_on t []) (answering (Ok Done) (fresh s t) []) P of_test refusal (setup_tests s t) refl
      (λ p. done (accepted s t (ap (λ (o : Outcome). o.answer) (judged_passed (refused_on t []) (answering (Ok Done) (fresh s t) []) (setup_tests s t) p))))

  -- it leaves sound tables sound
  pub set_up_sound : sound t ≡ true → sound (set_up s t).after ≡ true
  set_up_sound f = by_set_up (λ (o : Outcome). sound o.after ≡ true) (λ _ _. f) (λ a. fresh_sound s t a)

  -- it never gives 12
  pub twelve_never_for_setup : (set_up s t).answer ≢ Err TablesNotSound
  twelve_never_for_setup =
      by_set_up (λ (o : Outcome). o.answer ≢ Err TablesNotSound)
      (λ e k. other_error k refl)
      (λ _ p. absurd (false≢true (ap is_refused p)))

  -- a refusal changes nothing
  pub setup_refusal_alone : (e : Error) → (set_up s t).answer ≡ Err e → set_up s t ≡ refused_on t [] e
  setup_refusal_alone e =
      by_set_up (λ (o : Outcome). o.answer ≡ Err e → o ≡ refused_on t [] e) (λ _ _ q. ap (λ (a : Answered). answering a t []) q)
      (λ _ q. absurd (false≢true (ap is_refused q)))

  -- one that is done leaves the fresh tables
  pub setup_done_fresh : (set_up s t).answer ≡ Ok Done → set_up s t ≡ answering (Ok Done) (fresh s t) []
  setup_done_fresh =
      by_set_up (λ (o : Outcome). o.answer ≡ Ok Done → o ≡ answering (Ok Done) (fresh s t) []) (λ _ _ q. absurd (false≢true (sym (ap is_refused q)))) (λ _ _. refl)

  -- it keeps the lengths of any tables
  pub setup_lengths : SameLengths t (set_up s t).after
  setup_lengths = by_set_up (λ (o : Outcome). SameLengths t o.after) (λ _ _. same_lengths t) (λ a. fresh_lengths s t a)

-- ---- requests that do no command

-- where its tests do not ask for the room and its effect leaves it, the same is given and left in any room
in_room : (r : Request) (t : Tables) (effects : List ℕ)
    → judged (refused_on t effects) (unsound t ∷ tests r t []) (with_room effects (effect r t [])) ≡ with_room effects (performed r t [])
unfolding performed
in_room r t effects = sym (judged_map (with_room effects) (refused_on t []) (effect r t []) (unsound t ∷ tests r t []))

-- it keeps any effects room, and answers as with none
pub room_kept : (r : Request) (t : Tables) (effects : List ℕ) → does_no_command r ≡ true → performed r t effects ≡ with_room effects (performed r t [])
unfolding performed tests effect
room_kept (Steal hart on) t effects e = in_room (Steal hart on) t effects
room_kept (Return on) t effects e = in_room (Return on) t effects
room_kept (Start hart address opaque) t effects e = in_room (Start hart address opaque) t effects
room_kept (Suspend on) t effects e = in_room (Suspend on) t effects
room_kept (Stop on) t effects e = in_room (Stop on) t effects
room_kept (Wake on address opaque) t effects e = in_room (Wake on address opaque) t effects
room_kept (Off on) t effects e = in_room (Off on) t effects
room_kept (Await on kind x y) t effects e = in_room (Await on kind x y) t effects
room_kept (Status hart) t effects e = in_room (Status hart) t effects
room_kept Home t effects e = in_room Home t effects
room_kept (Send sender c) t effects e = in_room (Send sender c) t effects
room_kept (Allow bits) t effects e = in_room (Allow bits) t effects
room_kept (Add base size) t effects e = in_room (Add base size) t effects
room_kept (Remove base size) t effects e = in_room (Remove base size) t effects
room_kept (Defined base size) t effects e = in_room (Defined base size) t effects
room_kept (Broadcast on c) t effects e = absurd (false≢true e)
room_kept (Process on) t effects e = absurd (false≢true e)
room_kept (Resume on) t effects e = absurd (false≢true e)

-- a request does no command, or it is one of three
pub by_doing : (P : Request → Type 0) → ((r : Request) → does_no_command r ≡ true → P r)
    → ((on : HardwareHartId) (c : ConfidentialHartRemoteCommand) → P (Broadcast on c))
    → ((on : HardwareHartId) → P (Process on))
    → ((on : HardwareHartId) → P (Resume on))
    → (r : Request) → P r
by_doing P plain sent process resume (Steal hart on) = plain (Steal hart on) refl
by_doing P plain sent process resume (Return on) = plain (Return on) refl
by_doing P plain sent process resume (Start hart address opaque) = plain (Start hart address opaque) refl
by_doing P plain sent process resume (Suspend on) = plain (Suspend on) refl
by_doing P plain sent process resume (Stop on) = plain (Stop on) refl
by_doing P plain sent process resume (Wake on address opaque) = plain (Wake on address opaque) refl
by_doing P plain sent process resume (Off on) = plain (Off on) refl
by_doing P plain sent process resume (Await on kind x y) = plain (Await on kind x y) refl
by_doing P plain sent process resume (Status hart) = plain (Status hart) refl
by_doing P plain sent process resume Home = plain Home refl
by_doing P plain sent process resume (Send sender c) = plain (Send sender c) refl
by_doing P plain sent process resume (Allow bits) = plain (Allow bits) refl
by_doing P plain sent process resume (Add base size) = plain (Add base size) refl
by_doing P plain sent process resume (Remove base size) = plain (Remove base size) refl
by_doing P plain sent process resume (Defined base size) = plain (Defined base size) refl
by_doing P plain sent process resume (Broadcast on c) = sent on c
by_doing P plain sent process resume (Process on) = process on
by_doing P plain sent process resume (Resume on) = resume on
