-- What regions, the mask, broadcasts, process and resume make of where harts stand, their records and their queues. Assumes nothing.
use Prim.Native.Nat.{ℕ, ◌+◌, ◌≤◌, ◌<◌}
use mathlib.Core.Path.{◌≡◌, refl, sym, ap, ◌∙◌}
use mathlib.Core.Bool.{Bool, true, false, ◌&&◌, ◌||◌, not}
use mathlib.Core.List.{List, [], ◌∷◌, ◌++◌}
use native.Mathlib.Omega.{arith}
use lib.Bits.{bit_or}
use lib.ListN.{length, get_or, set}
use lib.Dec.{eqb, leb, ltb}
use lib.Seq.{get_or-set_same, get_or-set_other}
use borrow.Author.Tests.{not-true, not-false, ltb-true, ltb-false, lt-ltb, eqb-true}
use Rattle.error.specs.Error.{done, hardware_hart_idle}
use Rattle.table_rows.specs.Rows.{row, put}
use Rattle.table_rows.specs.Choice.{pick, every}
use Rattle.table_rows.specs.Lists.{any_of}
use Rattle.table_rows.proofs.PickLaws.{yes, no, by_pick, by_test, and_left, and_right, not_yes, not_no}
use Rattle.table_rows.proofs.EveryLaws.{every_at, every_of, every_fails}
use Rattle.table_rows.proofs.RowLaws.{row_length, put_row}
use Rattle.confidential_vm_mmio_region.specs.declared.ConfidentialVmMmioRegion.{ConfidentialVmMmioRegion}
use Rattle.mmio_regions.specs.Regions.{with_removed}
use Rattle.mmio_regions.specs.Table as regions
use Rattle.mmio_regions.proofs.TableLaws.{standing_laid}
use Rattle.confidential_hart_remote_command.specs.declared.ConfidentialHartRemoteCommand.{ConfidentialHartRemoteCommand}
use Rattle.confidential_hart_remote_command.specs.Command.{same}
use Rattle.remote_commands.specs.Queue.{max_commands, queue_words, commands, emptied, offered, with_offered}
use Rattle.remote_commands.proofs.OfferLaws.{commands_length, offer_commands, emptied_commands}
use Rattle.effects.specs.Effects.{shuts_down}
use Rattle.hart_lifecycle_state.specs.Lifecycle.{powered_off, off}
use Rattle.confidential_hart.specs.declared.ConfidentialHart.{ConfidentialHart}
use Rattle.confidential_hart.specs.declared.HardwareHartId.{HardwareHartId}
use Rattle.confidential_hart.specs.Transition.{Transition}
use Rattle.confidential_hart.specs.Hart.{register_count, no_operation, with_operation}
use Rattle.confidential_hart.proofs.TransitionLaws.{moves_is}
use Rattle.hart_rows.specs.HartRows.{hart_words}
use Rattle.hart_rows.proofs.HartRowLaws.{loaded_words}
use Rattle.monitor_requests.specs.declared.Request.TheVariants.{Send, Allow, Add, Remove, Broadcast, Process, Resume}
use Rattle.monitor_requests.specs.Answers.{Answered, given}
use Rattle.monitor_requests.specs.Tables.{
  Tables,
  tables,
  harts_word,
  hardware_word,
  allowed_word,
  regions_word,
  harts,
  hardware_harts,
  allowed,
  region_count,
  hardware_hart,
  queue,
  regions_of,
  sound,
}
use Rattle.confidential_vm_mmio_region.specs.Region.{region_from}
use Rattle.monitor_requests.specs.Requests.{with_hardware, with_held, with_queues, with_regions, receives, broadcast, unsound, tests, effect, did_rows, doing, own_commands, processed, Going, resumed, held_id, held_commands}
use Rattle.monitor_requests.proofs.JudgedLaws.{Passed}
use Rattle.monitor_requests.proofs.SoundLaws.{sound_sized, hardware_formed, held_names}
use Rattle.monitor_requests.proofs.BroadcastLaws.{refuses_at, refusing_does, refusing_first, refuser, delivers, queue_after, answer_is}
use Rattle.monitor_requests.proofs.MoveLaws.{hardware_fits, six_registers}
use Rattle.monitor_requests.proofs.DoingLaws.{by_going, did_sound, queue_fits, emptied_same, emptied_other}
use Rattle.monitor_requests.proofs.HeldLaws.{Held, broadcast_held, process_held, resume_tests, still_real, processed_sound}
use Rattle.monitor_requests.proofs.TellLaws.{after_doing}
use Rattle.hart_standing.specs.Standing.{is_on}
use Rattle.hart_standing.proofs.ChangedLaws.{standing, hart_now, view, view_of, having, Holds, is_taken}
use Rattle.hart_standing.proofs.StandLaws.{held_stands}
use Rattle.hart_standing.proofs.MoveLaws.{pick_both, held_becomes}

-- ---- regions and the mask

module _ (t : Tables) (head places : List ℕ) (n : get_or head harts_word 0 ≡ harts t) (m : get_or head hardware_word 0 ≡ hardware_harts t) where
  -- another head with the same two counts, and other regions: harts and queues are as they were
  head_holds : (rs : List ConfidentialVmMmioRegion) (mask : ℕ) → regions.standing places (get_or head regions_word 0) ≡ rs
      → get_or head allowed_word 0 ≡ mask
      → Holds (tables head t.home t.hardware t.queues places) (harts t) (hardware_harts t)
      (view (standing t) (hart_now t) (λ h. commands (queue t h)) rs mask)
  head_holds rs mask r a =
      record {
        harts_are = n;
        hardware_are = m;
        stands_at = λ h l. refl;
        hart_is = λ h l. refl;
        waits_are = λ h l. refl;
        regions_are = r;
        allowed_is = a;
      }

module _ (t : Tables) (s : sound t ≡ true) where
  -- regions laid into the tables are those that stand then
  laid_holds : (rs : List ConfidentialVmMmioRegion)
      → Holds (with_regions rs t) (harts t) (hardware_harts t) (view (standing t) (hart_now t) (λ h. commands (queue t h)) rs (allowed t))
  laid_holds rs =
      let head : List ℕ = set t.head regions_word (length rs) in
      let last : regions_word < length t.head = omega (arith, (sound_sized t s).long.head_long) in
      head_holds t head (regions.laid t.regions (region_count t) rs)
      (get_or-set_other t.head regions_word harts_word (length rs) 0 (λ e. omega arith))
      (get_or-set_other t.head regions_word hardware_word (length rs) 0 (λ e. omega arith))
      rs
      (allowed t)
      (ap (regions.standing (regions.laid t.regions (region_count t) rs)) (get_or-set_same t.head regions_word (length rs) 0 last)
      ∙ standing_laid t.regions (region_count t) rs)
      (get_or-set_other t.head regions_word allowed_word (length rs) 0 (λ e. omega arith))

-- allowing interrupts adds their bits to the mask, and changes nothing else
pub allow_holds : (bits : ℕ) (t : Tables) (effects : List ℕ) → Passed (unsound t ∷ tests (Allow bits) t effects)
    → Holds (effect (Allow bits) t effects).after (harts t) (hardware_harts t)
    (view (standing t) (hart_now t) (λ h. commands (queue t h)) (regions_of t) (bit_or (allowed t) bits))
unfolding tests effect
allow_holds bits t effects p =
    let mask : ℕ = bit_or (allowed t) bits in
    let there : allowed_word < length t.head = omega (arith, (sound_sized t (not-false _ p.0)).long.head_long) in
    head_holds t (set t.head allowed_word mask) t.regions
    (get_or-set_other t.head allowed_word harts_word mask 0 (λ e. omega arith))
    (get_or-set_other t.head allowed_word hardware_word mask 0 (λ e. omega arith))
    (regions_of t)
    mask
    (ap (regions.standing t.regions) (get_or-set_other t.head allowed_word regions_word mask 0 (λ e. omega arith)))
    (get_or-set_same t.head allowed_word mask 0 there)

-- a region that is added stands last, and nothing else changes
pub add_holds : (base size : ℕ) (t : Tables) (effects : List ℕ) → Passed (unsound t ∷ tests (Add base size) t effects)
    → Holds (effect (Add base size) t effects).after (harts t) (hardware_harts t)
    (view (standing t) (hart_now t) (λ h. commands (queue t h)) (regions_of t ++ (region_from base size ∷ [])) (allowed t))
unfolding tests effect
add_holds base size t effects p = laid_holds t (not-false _ p.0) (regions_of t ++ (region_from base size ∷ []))

-- a removal leaves the regions that do not overlap, and changes nothing else
pub remove_holds : (base size : ℕ) (t : Tables) (effects : List ℕ) → Passed (unsound t ∷ tests (Remove base size) t effects)
    → Holds (effect (Remove base size) t effects).after (harts t) (hardware_harts t)
    (view (standing t) (hart_now t) (λ h. commands (queue t h)) (with_removed (region_from base size) (regions_of t)) (allowed t))
unfolding tests effect
remove_holds base size t effects p = laid_holds t (not-false _ p.0) (with_removed (region_from base size) (regions_of t))

-- ---- a broadcast of the tables

-- hart h receives and has 64 already
abbrev pub refuses_now : Tables → ℕ → ConfidentialHartRemoteCommand → ℕ → Bool
refuses_now t sender c h = receives t.home sender c h && leb max_commands (length (commands (queue t h)))

-- a broadcast that is answered so delivers to hart h: one that is not refused to each that receives, one that is refused to those below the
-- hart that refuses
abbrev pub delivers_now : Answered → Tables → ℕ → ConfidentialHartRemoteCommand → ℕ → Bool
delivers_now a t sender c h =
    receives t.home sender c h && (eqb (given a).number done || every (λ g. not (refuses_now t sender c g)) (h + 1))

-- the commands that wait for hart h then
abbrev pub waiting_then : Answered → Tables → ℕ → ConfidentialHartRemoteCommand → ℕ → List ConfidentialHartRemoteCommand
waiting_then a t sender c h =
    pick (delivers_now a t sender c h)
    (pick (any_of (λ d. same d c) (commands (queue t h))) (commands (queue t h)) (commands (queue t h) ++ (c ∷ [])))
    (commands (queue t h))

-- other hardware rows and queues leave the harts where they stood, and the regions and the mask as they were
rows_hold : (t : Tables) (hardware queues : List ℕ) (hart : ℕ → ConfidentialHart) (waits : ℕ → List ConfidentialHartRemoteCommand)
    → ((h : ℕ) → h < harts t → hart_now (tables t.head t.home hardware queues t.regions) h ≡ hart h)
    → ((h : ℕ) → h < harts t → commands (row queue_words queues h) ≡ waits h)
    → Holds (tables t.head t.home hardware queues t.regions) (harts t) (hardware_harts t) (having hart waits (view_of t))
rows_hold t hardware queues hart waits a b =
    record {
      harts_are = refl;
      hardware_are = refl;
      stands_at = λ h l. refl;
      hart_is = a;
      waits_are = b;
      regions_are = refl;
      allowed_is = refl;
    }

module _ (sender : ℕ) (c : ConfidentialHartRemoteCommand) (t : Tables) (s : sound t ≡ true) where
  -- a hart refuses by the commands that wait as it does by their count
  refuses_alike : (h : ℕ) → refuses_now t sender c h ≡ refuses_at t.home sender c t.queues h
  refuses_alike h = ap (λ (n : ℕ). receives t.home sender c h && leb max_commands n) (commands_length (queue t h))

  -- none up to hart h refuses exactly when it is below the first that does
  none_refuses : (h : ℕ) → h < harts t → every (λ g. not (refuses_now t sender c g)) (h + 1) ≡ ltb h (refuser sender c t)
  none_refuses h l =
      by_test (ltb h (refuser sender c t))
      (λ b.
      let below : h < refuser sender c t = ltb-true _ _ b in
      every_of (λ g. not (refuses_now t sender c g)) (h + 1)
      (λ g m. not_yes _ (refuses_alike g ∙ refusing_first t.home sender c (harts t) 0 t.queues g (omega arith) (omega arith)))
      ∙ sym b)
      (λ b.
      let above : refuser sender c t ≤ h = ltb-false _ _ b in
      every_fails (λ g. not (refuses_now t sender c g)) (refuser sender c t) (h + 1) (omega arith)
      (not_no _ (refuses_alike (refuser sender c t) ∙ refusing_does t.home sender c (harts t) 0 t.queues (omega arith)))
      ∙ sym b)

  -- the answer and the commands that wait tell who has the command offered
  delivers_alike : (h : ℕ) → h < harts t → delivers_now (broadcast sender c t).answer t sender c h ≡ delivers sender c t h
  delivers_alike h l =
      ap (λ (b : Bool). receives t.home sender c h && b)
      (rw (answer_is sender c t s, none_refuses h l)
      (by_pick (λ (a : Answered). eqb (given a).number done || ltb h (refuser sender c t) ≡ ltb h (refuser sender c t))
      (ltb (refuser sender c t) (harts t)) _ _
      (λ b. refl)
      (λ b.
      let all : harts t ≤ refuser sender c t = ltb-false _ _ b in
      sym (lt-ltb h (refuser sender c t) (omega arith)))))

  -- one that has it offered has fewer than 64
  delivers_room : (h : ℕ) → h < harts t → delivers sender c t h ≡ true → leb max_commands (length (commands (queue t h))) ≡ false
  delivers_room h l d =
      let r : receives t.home sender c h ≡ true = and_left (receives t.home sender c h) _ d in
      let none = none_refuses h l ∙ and_right (receives t.home sender c h) _ d in
      sym (ap (λ (b : Bool). b && leb max_commands (length (commands (queue t h)))) r)
      ∙ not-true _ (every_at (λ g. not (refuses_now t sender c g)) h (h + 1) none (omega arith))

  -- the commands of a hart that has it offered: an equal one is not added again, else it is last
  offered_waits : (h : ℕ) → h < harts t → delivers sender c t h ≡ true
      → commands (offered (queue t h) c).queue
      ≡ pick (any_of (λ d. same d c) (commands (queue t h))) (commands (queue t h)) (commands (queue t h) ++ (c ∷ []))
  unfolding with_offered
  offered_waits h l d =
      offer_commands (queue t h) c (row_length queue_words t.queues h (queue_fits t s h l h l)) ∙ sym (no _ (delivers_room h l d) refl)

  -- the commands that wait then are told by the answer and those that waited
  sent_waits : (h : ℕ) → h < harts t
      → commands (row queue_words (broadcast sender c t).queues h) ≡ waiting_then (broadcast sender c t).answer t sender c h
  sent_waits h l =
      rw (queue_after sender c t s h l, delivers_alike h l)
      (by_test (delivers sender c t h)
      (λ d. yes _ d (ap commands (sym (yes _ d refl)) ∙ offered_waits h l d))
      (λ d. no _ d (ap commands (sym (no _ d refl)))))

  -- a broadcast changes what waits for the harts, and nothing else
  sent_holds : Holds (with_queues (broadcast sender c t).queues t) (harts t) (hardware_harts t)
      (having (hart_now t) (waiting_then (broadcast sender c t).answer t sender c) (view_of t))
  sent_holds = rows_hold t _ _ _ _ (λ h l. refl) sent_waits

-- the same of the request
pub send_holds : (sender : ℕ) (c : ConfidentialHartRemoteCommand) (t : Tables) (effects : List ℕ) → Passed (unsound t ∷ tests (Send sender c) t effects)
    → Holds (effect (Send sender c) t effects).after (harts t) (hardware_harts t)
    (having (hart_now t) (waiting_then (effect (Send sender c) t effects).answer t sender c) (view_of t))
unfolding tests effect
send_holds sender c t effects p = sent_holds sender c t (not-false _ p.0)

-- ---- a held hart with another record

module _ (t : Tables) (k : ℕ) (x : Held t k) where
  -- its row is written as it was
  held_same : with_held k (hardware_hart t k) t ≡ t
  held_same =
      let fits = hardware_fits t (sound_sized t x.tables_sound) k x.k_below in
      ap (λ (rows : List ℕ). with_hardware rows t)
      (ap (put hart_words t.hardware k) (loaded_words t.hardware k fits) ∙ put_row hart_words t.hardware k fits)

  -- the hart that stands on k has the record that is made of its number and its old one
  held_made : (made : ℕ → ConfidentialHart → ConfidentialHart) → length (made (held_id t k) (hardware_hart t k)).registers ≡ register_count
      → Holds (with_held k (made (held_id t k) (hardware_hart t k)) t) (harts t) (hardware_harts t)
      (having (λ h. pick (is_on k (standing t h)) (made h (hart_now t h)) (hart_now t h)) (λ h. commands (queue t h)) (view_of t))
  held_made made six = held_becomes t x.tables_sound k x.k_below x.real made (made (held_id t k) (hardware_hart t k)) refl six

  -- ---- the hart does commands

  -- the tables then: its row holds the record that the commands leave
  doing_is : (cs : List ConfidentialHartRemoteCommand) → doing cs k t ≡ with_held k (after_doing cs (hardware_hart t k)) t
  unfolding did_rows pick
  doing_is cs =
      by_test (shuts_down cs)
      (λ e.
      rw e
      (ap (λ (y : ConfidentialHart). with_held k y t)
      (ap (λ (y : Transition). y.hart)
      (moves_is off hardware_hart_idle (hardware_hart t k).registers (hardware_hart t k) (hardware_formed t x.tables_sound k x.k_below) x.real
      powered_off refl))))
      (λ e. rw e (sym held_same))

  -- the hart that stands on k does the commands that each hart would do, and nothing else changes
  did_holds : (cs : ℕ → List ConfidentialHartRemoteCommand)
      → Holds (doing (cs (held_id t k)) k t) (harts t) (hardware_harts t)
      (having (λ h. pick (is_on k (standing t h)) (after_doing (cs h) (hart_now t h)) (hart_now t h)) (λ h. commands (queue t h)) (view_of t))
  did_holds cs =
      rw (doing_is (cs (held_id t k))) (held_made (λ h y. after_doing (cs h) y) (six_registers t.hardware k))

  -- it does those that wait for it, and then none waits
  processed_holds : Holds (processed (held_commands t k) k (held_id t k) t) (harts t) (hardware_harts t)
      (having (λ h. pick (is_on k (standing t h)) (after_doing (commands (queue t h)) (hart_now t h)) (hart_now t h))
      (λ h. pick (is_on k (standing t h)) [] (commands (queue t h)))
      (view_of t))
  processed_holds =
      rows_hold t _ _ _ _ (did_holds (λ h. commands (queue t h))).hart_is
      (λ h l.
      let there = held_stands t x.tables_sound k x.k_below x.real h l in
      by_test (eqb h (held_id t k))
      (λ e.
      yes _ (there ∙ e)
      (ap (λ (j : ℕ). commands (row queue_words (put queue_words t.queues (held_id t k) emptied) j)) (eqb-true h (held_id t k) e)
      ∙ ap commands (emptied_same t x.tables_sound (held_id t k) x.id_below)
      ∙ emptied_commands))
      (λ e. no _ (there ∙ e) (ap commands (emptied_other t x.tables_sound (held_id t k) x.id_below h l e))))

  -- it is held as before then
  processed_held : Held (processed (held_commands t k) k (held_id t k) t) k
  processed_held =
      let s = processed_sound t k x (held_commands t k) in
      let real = still_real t k x (held_commands t k) in
      record {
        tables_sound = s;
        k_below = x.k_below;
        real = real;
        id_below = (held_names (processed (held_commands t k) k (held_id t k) t) s k x.k_below real).there;
      }

-- ---- process, resume and broadcast

-- a process: the hart that stands on k does what waits for it, and then nothing waits
pub process_holds : (k : HardwareHartId) (t : Tables) (effects : List ℕ) → Passed (unsound t ∷ tests (Process k) t effects)
    → Holds (effect (Process k) t effects).after (harts t) (hardware_harts t)
    (having (λ h. pick (is_on k.0 (standing t h)) (after_doing (commands (queue t h)) (hart_now t h)) (hart_now t h))
    (λ h. pick (is_on k.0 (standing t h)) [] (commands (queue t h)))
    (view_of t))
unfolding effect
process_holds k t effects p = processed_holds t k.0 (process_held k t effects p)

-- the record of a hart that is answered so: an operation that is given is taken
abbrev pub after_taking : Answered → ConfidentialHart → ConfidentialHart
after_taking a x = pick (is_taken a) (with_operation no_operation 0 0 x) x

module _ (t : Tables) (k : ℕ) (x : Held t k) where
  -- a held hart that goes on: its row holds the record with the operation taken where one is answered
  going_is : (resumed k t []).after ≡ with_held k (after_taking (resumed k t []).answer (hardware_hart t k)) t
  unfolding pick
  going_is =
      by_going t.hardware k (λ (g : Going). with_hardware g.hardware t ≡ with_held k (after_taking g.answer (hardware_hart t k)) t)
      (λ e. sym (held_same t k x))
      (λ e d. refl)
      (λ e d. sym (held_same t k x))

  -- so the hart that stands on k has that record
  going_holds : Holds (resumed k t []).after (harts t) (hardware_harts t)
      (having (λ h. pick (is_on k (standing t h)) (after_taking (resumed k t []).answer (hart_now t h)) (hart_now t h)) (λ h. commands (queue t h))
      (view_of t))
  going_holds =
      let a : Answered = (resumed k t []).answer in
      let y : ConfidentialHart = hardware_hart t k in
      let taken : ConfidentialHart = with_operation no_operation 0 0 y in
      rw going_is
      (held_made t k x (λ h z. after_taking a z)
      (by_pick (λ (z : ConfidentialHart). length z.registers ≡ register_count) (is_taken a) taken y (λ e. six_registers t.hardware k)
      (λ e. six_registers t.hardware k)))

-- a resume: the same, and an operation that is answered is taken
pub resume_holds : (k : HardwareHartId) (t : Tables) (effects : List ℕ) → Passed (unsound t ∷ tests (Resume k) t effects)
    → Holds (effect (Resume k) t effects).after (harts t) (hardware_harts t)
    (having
    (λ h.
    pick (is_on k.0 (standing t h)) (after_taking (effect (Resume k) t effects).answer (after_doing (commands (queue t h)) (hart_now t h)))
    (hart_now t h))
    (λ h. pick (is_on k.0 (standing t h)) [] (commands (queue t h)))
    (view_of t))
unfolding effect
resume_holds k t effects p =
    let x = process_held k t effects (resume_tests k t effects p) in
    let t' = processed (held_commands t k.0) k.0 (held_id t k.0) t in
    let before = processed_holds t k.0 x in
    let after = going_holds t' k.0 (processed_held t k.0 x) in
    rows_hold t _ _ _ _
    (λ h l.
    after.hart_is h l
    ∙ pick_both (is_on k.0 (standing t h))
    (λ e. ap (after_taking (resumed k.0 t' []).answer) (before.hart_is h l ∙ sym (yes _ e refl)))
    (λ e. before.hart_is h l ∙ sym (no _ e refl)))
    before.waits_are

-- a broadcast: the sender does the command itself where it is selected, and those that have it offered have it waiting
pub broadcast_holds : (k : HardwareHartId) (c : ConfidentialHartRemoteCommand) (t : Tables) (effects : List ℕ)
    → Passed (unsound t ∷ tests (Broadcast k c) t effects)
    → Holds (effect (Broadcast k c) t effects).after (harts t) (hardware_harts t)
    (having (λ h. pick (is_on k.0 (standing t h)) (after_doing (own_commands c h) (hart_now t h)) (hart_now t h))
    (waiting_then (effect (Broadcast k c) t effects).answer t (held_id t k.0) c)
    (view_of t))
unfolding effect
broadcast_holds k c t effects p =
    let x = broadcast_held k c t effects p in
    let sender : ℕ = held_id t k.0 in
    let t' = doing (own_commands c sender) k.0 t in
    let s = did_sound t x.tables_sound k.0 x.k_below (own_commands c sender) in
    rows_hold t _ _ _ _ (did_holds t k.0 x (own_commands c)).hart_is (sent_waits sender c t' s)
