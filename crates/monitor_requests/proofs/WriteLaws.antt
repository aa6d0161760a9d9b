-- Each request writes only where `writes` says, and no word past the tables; there are no other words. Assumes nothing.
use Prim.Native.Nat.{ℕ, zero, suc, ◌+◌, ◌-◌, ◌*◌, ◌≤◌, ◌<◌}
use mathlib.Core.Path.{◌≡◌, refl, sym, ap, ◌∙◌}
use mathlib.Core.Logic.{inr}
use mathlib.Core.Bool.{Bool, true, false, ◌&&◌, ◌||◌, not, or-false, false≢true}
use mathlib.Core.List.{List, [], ◌∷◌, ◌++◌}
use native.Mathlib.Nat.{zero-mul, suc-mul}
use native.Mathlib.Omega.{arith}
use lib.ListN.{length, take, drop, get_or, set, replicate, length-drop, length-replicate, take-append-drop}
use lib.Seq.{get_or-set_other, drop-set-lt, get_or-take, get_or-drop, length-take-le, take-add, ext_get_or, drop_at}
use lib.Dec.{eqb, ltb}
use borrow.Author.Tests.{eq-eqb, eqb-false, lt-ltb, ltb-true}
use Rattle.table_rows.specs.Rows.{put, row, rows_of, over}
use Rattle.table_rows.proofs.PickLaws.{by_pick, by_test}
use Rattle.table_rows.proofs.ExistsLaws.{exists_none}
use Rattle.table_rows.proofs.RowLaws as rows
use Rattle.table_rows.proofs.RowLaws.{words_all, row_length, put_length, put_elsewhere, row_put_other}
use Rattle.table_rows.proofs.RunLaws.{run_length}
use Rattle.confidential_vm_mmio_region.specs.declared.ConfidentialVmMmioRegion.{ConfidentialVmMmioRegion}
use Rattle.mmio_regions.specs.Regions.{max_regions}
use Rattle.mmio_regions.specs.Table.{region_words}
use Rattle.mmio_regions.proofs.TableLaws.{laid_past}
use Rattle.confidential_hart_remote_command.specs.declared.ConfidentialHartRemoteCommand.{ConfidentialHartRemoteCommand}
use Rattle.confidential_hart_remote_command.specs.Selection.{selects}
use Rattle.remote_commands.specs.Queue.{max_commands, queue_words, emptied}
use Rattle.remote_commands.proofs.OfferLaws.{commands_length, well_formed_count, emptied_length}
use Rattle.effects.specs.Effects.{effect_words, effects_of}
use Rattle.effects.proofs.EffectLaws.{over_as_long, over_kept}
use Rattle.confidential_hart.specs.declared.ConfidentialHart.{ConfidentialHart}
use Rattle.confidential_hart.specs.Hart.{no_operation, with_operation, dummy}
use Rattle.confidential_hart.specs.Transition.{after_off}
use Rattle.hart_rows.specs.HartRows.{hart_words, to_words}
use Rattle.hart_rows.proofs.HartRowLaws.{to_length}
use Rattle.monitor_requests.specs.declared.Setup.{Setup}
use Rattle.monitor_requests.specs.declared.Request.{Request}
use Rattle.monitor_requests.specs.declared.Request.TheVariants.{Send, Process, Resume}
use Rattle.monitor_requests.specs.Tables.{
  Tables,
  tables,
  harts_word,
  hardware_word,
  allowed_word,
  regions_word,
  head_words,
  harts,
  hardware_harts,
  allowed,
  region_count,
  hardware_hart,
  sound,
  Sized,
  queue,
}
use Rattle.monitor_requests.specs.Requests.{Outcome, with_head, with_home, with_held, with_queues, with_regions, exchanged, setup_hart, receives, broadcast, performed, set_up, with_hardware, did_rows, own_commands, Going, held_id, held_commands, effect}
use Rattle.monitor_requests.specs.Writes.{
  Place,
  home_row,
  hardware_row,
  queue_row,
  region_table,
  allowed_mask,
  counts,
  words_at,
  within,
  same,
  writes,
  past,
}
use Rattle.monitor_requests.proofs.SoundLaws.{sound_facts, sound_sized}
use Rattle.monitor_requests.proofs.MoveLaws.{home_fits, hardware_fits}
use Rattle.monitor_requests.proofs.BroadcastLaws.{broadcast_length, broadcast_past, passed_row}
use Rattle.monitor_requests.proofs.RequestLaws.{room_kept, by_doing, SameLengths, same_lengths, done, emptied_too, gone_on, done_sound, emptied_too_sound, own_done, by_request, performed_lengths, by_set_up}
use Rattle.monitor_requests.proofs.JudgedLaws.{by_performed, unsound_refused}
use Rattle.monitor_requests.proofs.DoingLaws.{by_going, queue_fits, emptied_other}
use Rattle.monitor_requests.proofs.HeldLaws.{Held, broadcast_room, by_broadcast, process_held, process_room, resume_tests}

-- ---- each request writes only its places

module _ (t : Tables) (s : sound t ≡ true) where
  abbrev z : Sized t
  z = sound_sized t s

  -- the places where a test is false hold in t' the words that they held
  abbrev Only : (Place → Bool) → Tables → Type 0
  Only written t' = (p : Place) → within p t ≡ true → written p ≡ false → words_at p t' ≡ words_at p t

  exchanged_only : (h k : ℕ) → h < harts t → k < hardware_harts t → Only (λ p. same p (home_row h) || same p (hardware_row k)) (exchanged h k t)
  exchanged_only h k lh lk (home_row i) l e =
      row_put_other hart_words t.home h (home_fits t z h lh) _ (row_length hart_words t.hardware k (hardware_fits t z k lk)) i
      (eqb-false i h (sym (or-false (eqb i h)) ∙ e))
      (home_fits t z i (ltb-true _ _ l))
  exchanged_only h k lh lk (hardware_row i) l e =
      row_put_other hart_words t.hardware k (hardware_fits t z k lk) _ (row_length hart_words t.home h (home_fits t z h lh)) i
      (eqb-false i k e)
      (hardware_fits t z i (ltb-true _ _ l))
  exchanged_only h k lh lk (queue_row i) l e = refl
  exchanged_only h k lh lk region_table l e = refl
  exchanged_only h k lh lk allowed_mask l e = refl
  exchanged_only h k lh lk counts l e = refl

  started_only : (h : ℕ) → h < harts t → (y : ConfidentialHart) → Only (λ p. same p (home_row h)) (with_home (put hart_words t.home h (to_words y)) t)
  started_only h lh y (home_row i) l e =
      row_put_other hart_words t.home h (home_fits t z h lh) (to_words y) (to_length y) i (eqb-false i h e) (home_fits t z i (ltb-true _ _ l))
  started_only h lh y (hardware_row i) l e = refl
  started_only h lh y (queue_row i) l e = refl
  started_only h lh y region_table l e = refl
  started_only h lh y allowed_mask l e = refl
  started_only h lh y counts l e = refl

  -- a hardware row written anew
  pub held_only : (k : ℕ) → k < hardware_harts t → (y : ConfidentialHart) → Only (λ p. same p (hardware_row k)) (with_held k y t)
  held_only k lk y (home_row i) l e = refl
  held_only k lk y (hardware_row i) l e =
      row_put_other hart_words t.hardware k (hardware_fits t z k lk) (to_words y) (to_length y) i (eqb-false i k e) (hardware_fits t z i (ltb-true _ _ l))
  held_only k lk y (queue_row i) l e = refl
  held_only k lk y region_table l e = refl
  held_only k lk y allowed_mask l e = refl
  held_only k lk y counts l e = refl

  -- a hart that is not selected, or that sends, does not receive
  receives_none : (sender : ℕ) (c : ConfidentialHartRemoteCommand) (h : ℕ) → eqb h h && selects c h && not (eqb h sender) ≡ false
      → receives t.home sender c h ≡ false
  unfolding receives
  receives_none sender c h e =
      let both : selects c h && not (eqb h sender) ≡ false = rw (eq-eqb h h refl) at e in
      rw both

  sent_only : (sender : ℕ) (c : ConfidentialHartRemoteCommand) → Only (writes (Send sender c) t) (with_queues (broadcast sender c t).queues t)
  unfolding writes
  sent_only sender c (home_row i) l e = refl
  sent_only sender c (hardware_row i) l e = refl
  sent_only sender c (queue_row i) l e =
      let b : i < harts t = ltb-true _ _ l in
      passed_row sender c t s i b
      (receives_none sender c i (exists_none (λ h. eqb i h && selects c h && not (eqb h sender)) i (harts t) b e))
  sent_only sender c region_table l e = refl
  sent_only sender c allowed_mask l e = refl
  sent_only sender c counts l e = refl

  -- another word of the head is as it was
  head_other : (i j v : ℕ) → eqb j i ≡ false → get_or (set t.head i v) j 0 ≡ get_or t.head j 0
  head_other i j v e = get_or-set_other t.head i j v 0 (eqb-false j i e)

  counts_other : (i v : ℕ) → eqb harts_word i ≡ false → eqb hardware_word i ≡ false → words_at counts (with_head (set t.head i v) t) ≡ words_at counts t
  counts_other i v a b = rw (head_other i harts_word v a, head_other i hardware_word v b) refl

  allowed_only : (mask : ℕ) → Only (λ p. same p allowed_mask) (with_head (set t.head allowed_word mask) t)
  allowed_only mask (home_row i) l e = refl
  allowed_only mask (hardware_row i) l e = refl
  allowed_only mask (queue_row i) l e = refl
  allowed_only mask region_table l e = ap (λ (n : ℕ). n ∷ take (max_regions * region_words) t.regions) (head_other allowed_word regions_word mask refl)
  allowed_only mask allowed_mask l e = absurd (false≢true (sym e))
  allowed_only mask counts l e = counts_other allowed_word mask refl refl

  regions_only : (rs : List ConfidentialVmMmioRegion) → Only (λ p. same p region_table) (with_regions rs t)
  regions_only rs (home_row i) l e = refl
  regions_only rs (hardware_row i) l e = refl
  regions_only rs (queue_row i) l e = refl
  regions_only rs region_table l e = absurd (false≢true (sym e))
  regions_only rs allowed_mask l e = ap (λ (n : ℕ). n ∷ []) (head_other regions_word allowed_word (length rs) refl)
  regions_only rs counts l e = counts_other regions_word (length rs) refl refl

-- which rows there are is said by the head alone
within_head : (p : Place) (t t' : Tables) → t.head ≡ t'.head → within p t ≡ true → within p t' ≡ true
within_head (home_row h) t t' e w = sym (ap (λ (head : List ℕ). ltb h (get_or head harts_word 0)) e) ∙ w
within_head (hardware_row k) t t' e w = sym (ap (λ (head : List ℕ). ltb k (get_or head hardware_word 0)) e) ∙ w
within_head (queue_row h) t t' e w = sym (ap (λ (head : List ℕ). ltb h (get_or head harts_word 0)) e) ∙ w
within_head region_table t t' e w = w
within_head allowed_mask t t' e w = w
within_head counts t t' e w = w

module _ (t : Tables) (k : ℕ) (x : Held t k) (cs : List ConfidentialHartRemoteCommand) where
  -- places
  done_only : (p : Place) → within p t ≡ true → same p (hardware_row k) ≡ false → words_at p (done t k x cs) ≡ words_at p t
  unfolding did_rows
  done_only p w e =
      by_pick (λ (rows : List ℕ). words_at p (with_hardware rows t) ≡ words_at p t) _ _ _
      (λ _. held_only t x.tables_sound k x.k_below (after_off (hardware_hart t k)).hart p w e)
      (λ _. refl)

  emptied_only : (p : Place) → within p t ≡ true → same p (queue_row (held_id t k)) ≡ false → words_at p (emptied_too t k x cs) ≡ words_at p (done t k x cs)
  emptied_only (home_row i) w e = refl
  emptied_only (hardware_row i) w e = refl
  emptied_only (queue_row i) w e = emptied_other t x.tables_sound (held_id t k) x.id_below i (ltb-true _ _ w) e
  emptied_only region_table w e = refl
  emptied_only allowed_mask w e = refl
  emptied_only counts w e = refl

  gone_only : (p : Place) → within p t ≡ true → same p (hardware_row k) ≡ false → words_at p (gone_on t k x cs) ≡ words_at p (emptied_too t k x cs)
  gone_only p w e =
      by_going (emptied_too t k x cs).hardware k (λ (g : Going). words_at p (with_hardware g.hardware (emptied_too t k x cs)) ≡ words_at p (emptied_too t k x cs)) (λ _. refl)
      (λ _ _.
      held_only (emptied_too t k x cs) (emptied_too_sound t k x cs) k x.k_below (with_operation no_operation 0 0 (hardware_hart (emptied_too t k x cs) k)) p
      (within_head p t (emptied_too t k x cs) refl w)
      e)
      (λ _ _. refl)

neither : (a b : Bool) → a || b ≡ false → (a ≡ false) × (b ≡ false)
neither true b e = absurd (false≢true (sym e))
neither false b e = (refl, e)

module _ (t : Tables) (s : sound t ≡ true) where
  -- the words of a place that the request does not write are as they were
  pub sound_writes_only : (r : Request) (effects : List ℕ) (p : Place) → within p t ≡ true → writes r t p ≡ false → words_at p (performed r t effects).after ≡ words_at p t
  unfolding writes
  sound_writes_only r effects =
      by_request t s (λ r t'. Only t s (writes r t) t') (record {
        unchanged = λ r p l e. refl;
        steal = λ hart on lh lk p l e. exchanged_only t s hart.0 on.0 lh lk p l e;
        back = λ on lh lk p l e. exchanged_only t s (hardware_hart t on.0).id on.0 lh lk p l e;
        start = λ hart address opaque lh y p l e. started_only t s hart.0 lh y p l e;
        suspend = λ on lk y p l e. held_only t s on.0 lk y p l e;
        stop = λ on lk y p l e. held_only t s on.0 lk y p l e;
        wake = λ on address opaque lk y p l e. held_only t s on.0 lk y p l e;
        off = λ on lk y p l e. held_only t s on.0 lk y p l e;
        await = λ on kind x y lk held p l e. held_only t s on.0 lk held p l e;
        send = sent_only t s;
        allow = λ bits mask p l e. allowed_only t s mask p l e;
        add = λ base size rs few p l e. regions_only t s rs p l e;
        remove = λ base size rs few p l e. regions_only t s rs p l e;
        sent_held = λ on c x p l e.
            let n = neither (same p (hardware_row on.0)) _ e in
            let h = held_id t on.0 in
            sent_only (own_done on c t) (done_sound t on.0 x (own_commands c h)) h c p (within_head p t (own_done on c t) refl l) n.1
            ∙ done_only t on.0 x (own_commands c h) p l n.0;
        process = λ on x p l e.
            let n = neither (same p (hardware_row on.0)) _ e in
            emptied_only t on.0 x (held_commands t on.0) p l n.1 ∙ done_only t on.0 x (held_commands t on.0) p l n.0;
        resume = λ on x p l e.
            let n = neither (same p (hardware_row on.0)) _ e in
            gone_only t on.0 x (held_commands t on.0) p l n.0
            ∙ emptied_only t on.0 x (held_commands t on.0) p l n.1
            ∙ done_only t on.0 x (held_commands t on.0) p l n.0;
      }) effects r

-- ---- words past the tables

-- lists of one length whose words from k on are the same
drop_same : (xs ys : List ℕ) (k : ℕ) → length ys ≡ length xs → ((j : ℕ) → k ≤ j → get_or ys j 0 ≡ get_or xs j 0) → drop k ys ≡ drop k xs
drop_same xs ys k e f =
    ext_get_or 0 (drop k ys) (drop k xs) (length-drop k ys ∙ ap (λ (n : ℕ). n - k) e ∙ sym (length-drop k xs))
    (λ i _. get_or-drop k ys i 0 ∙ f (k + i) (omega arith) ∙ sym (get_or-drop k xs i 0))

-- a row put among the first n
pub drop_put : (w : ℕ) (xs : List ℕ) (i n : ℕ) → i < n → i * w + w ≤ length xs → (ys : List ℕ) → length ys ≡ w
    → drop (n * w) (put w xs i ys) ≡ drop (n * w) xs
drop_put w xs i n l fits ys long =
    drop_same xs (put w xs i ys) (n * w) (put_length w xs i fits ys long)
    (λ j b. put_elsewhere w xs i fits ys long j (inr (omega (arith, rows.within w i n l))))

-- words laid over the front
drop_over : (front xs : List ℕ) (k : ℕ) → length front ≡ k → drop k (front ++ drop (length front) xs) ≡ drop k xs
drop_over front xs k e = drop_at front (drop (length front) xs) k e ∙ ap (λ (n : ℕ). drop n xs) e

module _ (t : Tables) (s : sound t ≡ true) where
  abbrev sized : Sized t
  sized = sound_sized t s

  abbrev Kept : Tables → Type 0
  Kept t' = past (harts t) (hardware_harts t) t' ≡ past (harts t) (hardware_harts t) t

  exchanged_kept : (h k : ℕ) → h < harts t → k < hardware_harts t → Kept (exchanged h k t)
  exchanged_kept h k lh lk =
      let f = home_fits t sized h lh in
      let g = hardware_fits t sized k lk in
      rw (
        drop_put hart_words t.home h (harts t) lh f (row hart_words t.hardware k) (row_length hart_words t.hardware k g),
        drop_put hart_words t.hardware k (hardware_harts t) lk g (row hart_words t.home h) (row_length hart_words t.home h f),
      )
      refl

  -- a hardware row written anew
  pub held_kept : (k : ℕ) → k < hardware_harts t → (y : ConfidentialHart) → Kept (with_held k y t)
  held_kept k l y =
      rw (drop_put hart_words t.hardware k (hardware_harts t) l (hardware_fits t sized k l) (to_words y) (to_length y)) refl

  regions_kept : (rs : List ConfidentialVmMmioRegion) → length rs ≤ max_regions → Kept (with_regions rs t)
  regions_kept rs few =
      rw (
        drop-set-lt head_words t.head regions_word (length rs) (omega arith),
        laid_past t.regions (region_count t) rs max_regions sized.few_regions few,
      )
      refl

  -- a broadcast of the tables
  sent_kept : (sender : ℕ) (c : ConfidentialHartRemoteCommand) → Kept (with_queues (broadcast sender c t).queues t)
  sent_kept sender c =
      rw (drop_same t.queues (broadcast sender c t).queues (harts t * queue_words) (broadcast_length sender c t s) (broadcast_past sender c t s))
      refl

module _ (t : Tables) (k : ℕ) (x : Held t k) (cs : List ConfidentialHartRemoteCommand) where
  -- words past the tables
  abbrev pasts : Tables → Tables
  pasts t' = past (harts t) (hardware_harts t) t'

  done_kept : pasts (done t k x cs) ≡ pasts t
  unfolding did_rows
  done_kept =
      by_pick (λ (rows : List ℕ). pasts (with_hardware rows t) ≡ pasts t) _ _ _
      (λ _. held_kept t x.tables_sound k x.k_below (after_off (hardware_hart t k)).hart)
      (λ _. refl)

  emptied_kept : pasts (emptied_too t k x cs) ≡ pasts (done t k x cs)
  emptied_kept =
      rw (drop_put queue_words t.queues (held_id t k) (harts t) x.id_below
      (queue_fits t x.tables_sound (held_id t k) x.id_below (held_id t k) x.id_below) emptied emptied_length) refl

  gone_kept : pasts (gone_on t k x cs) ≡ pasts (emptied_too t k x cs)
  gone_kept =
      by_going (emptied_too t k x cs).hardware k (λ (g : Going). pasts (with_hardware g.hardware (emptied_too t k x cs)) ≡ pasts (emptied_too t k x cs)) (λ _. refl)
      (λ _ _. held_kept (emptied_too t k x cs) (emptied_too_sound t k x cs) k x.k_below (with_operation no_operation 0 0 (hardware_hart (emptied_too t k x cs) k)))
      (λ _ _. refl)

module _ (t : Tables) (s : sound t ≡ true) where
  -- every request
  pub sound_past_kept : (r : Request) (effects : List ℕ) → past (harts t) (hardware_harts t) (performed r t effects).after ≡ past (harts t) (hardware_harts t) t
  sound_past_kept r effects =
      by_request t s (λ r t'. Kept t s t') (record {
        unchanged = λ r. refl;
        steal = λ hart on lh lk. exchanged_kept t s hart.0 on.0 lh lk;
        back = λ on lh lk. exchanged_kept t s (hardware_hart t on.0).id on.0 lh lk;
        start = λ hart address opaque l y.
            rw (drop_put hart_words t.home hart.0 (harts t) l (home_fits t (sized t s) hart.0 l) (to_words y) (to_length y)) refl;
        suspend = λ on l y. held_kept t s on.0 l y;
        stop = λ on l y. held_kept t s on.0 l y;
        wake = λ on address opaque l y. held_kept t s on.0 l y;
        off = λ on l y. held_kept t s on.0 l y;
        await = λ on kind x y l held. held_kept t s on.0 l held;
        send = λ sender c. sent_kept t s sender c;
        allow = λ bits mask. rw (drop-set-lt head_words t.head allowed_word mask (omega arith)) refl;
        add = λ base size rs few. regions_kept t s rs few;
        remove = λ base size rs few. regions_kept t s rs few;
        sent_held = λ on c x.
            let h = held_id t on.0 in
            sent_kept (own_done on c t) (done_sound t on.0 x (own_commands c h)) h c ∙ done_kept t on.0 x (own_commands c h);
        process = λ on x. emptied_kept t on.0 x (held_commands t on.0) ∙ done_kept t on.0 x (held_commands t on.0);
        resume = λ on x.
            gone_kept t on.0 x (held_commands t on.0)
            ∙ emptied_kept t on.0 x (held_commands t on.0)
            ∙ done_kept t on.0 x (held_commands t on.0);
      }) effects r

-- a setup of any tables: what lies past the tables of the new VM
pub setup_past_kept : (s : Setup) (t : Tables) → past s.harts s.hardware (set_up s t).after ≡ past s.harts s.hardware t
setup_past_kept s t =
    let n = s.harts in
    let m = s.hardware in
    by_set_up s t (λ (o : Outcome). past n m o.after ≡ past n m t) (λ _ _. refl)
    (λ _.
    rw (
      drop_over (rows_of (λ h. to_words (setup_hart s h)) n) t.home (n * hart_words)
          (run_length hart_words (λ h. to_words (setup_hart s h)) (λ h. to_length (setup_hart s h)) n),
      drop_over (rows_of (λ k. to_words (dummy k)) m) t.hardware (m * hart_words)
          (run_length hart_words (λ k. to_words (dummy k)) (λ k. to_length (dummy k)) m),
      drop_over (replicate (n * queue_words) 0) t.queues (n * queue_words) (length-replicate {A = ℕ} (n * queue_words) 0),
      drop_over (replicate (max_regions * region_words) 0) t.regions (max_regions * region_words) (length-replicate {A = ℕ} (max_regions * region_words) 0),
    )
    refl)

-- ---- the places and the words past the tables are all the words there are

-- two lists with the same rows, so many of them
rows_same : (w : ℕ) (xs ys : List ℕ) (n : ℕ) → ((i : ℕ) → i < n → row w ys i ≡ row w xs i) → take (n * w) ys ≡ take (n * w) xs
unfolding row
rows_same w xs ys zero f = rw (zero-mul w) refl
rows_same w xs ys (suc n) f =
    let k = n * w in
    rw (suc-mul n w)
    (take-add k w ys
    ∙ ap (λ (l : List ℕ). l ++ take w (drop k ys)) (rows_same w xs ys n (λ i l. f i (omega arith)))
    ∙ ap (λ (l : List ℕ). take k xs ++ l) (f n (omega arith))
    ∙ sym (take-add k w xs))

-- and then the same words
joined : (k : ℕ) (xs ys : List ℕ) → take k ys ≡ take k xs → drop k ys ≡ drop k xs → ys ≡ xs
joined k xs ys a b = sym (take-append-drop k ys) ∙ ap (λ (l : List ℕ). l ++ drop k ys) a ∙ ap (λ (l : List ℕ). take k xs ++ l) b ∙ take-append-drop k xs

-- the words of a head
head_words_lem : (xs : List ℕ) → head_words ≤ length xs
    → take head_words xs ≡ get_or xs harts_word 0 ∷ get_or xs hardware_word 0 ∷ get_or xs allowed_word 0 ∷ get_or xs regions_word 0 ∷ []
head_words_lem xs l =
    let at : (i : ℕ) → i < head_words → get_or (take head_words xs) i 0 ≡ get_or xs i 0 = λ i b. get_or-take head_words xs i 0 b in
    sym (words_all head_words (take head_words xs) (length-take-le head_words xs l))
    ∙ rw (at harts_word (omega arith), at hardware_word (omega arith), at allowed_word (omega arith), at regions_word (omega arith)) refl

module _ (t t' : Tables) (long : head_words ≤ length t.head) (long' : head_words ≤ length t'.head) where
  -- tables with the same words in every place and past the tables are the same
  pub places_all : ((p : Place) → within p t ≡ true → words_at p t' ≡ words_at p t)
      → past (harts t) (hardware_harts t) t' ≡ past (harts t) (hardware_harts t) t
      → t' ≡ t
  places_all f e =
      let first : List ℕ → ℕ = λ l. get_or l 0 0 in
      let n : harts t' ≡ harts t = ap first (f counts refl) in
      let m : hardware_harts t' ≡ hardware_harts t = ap (λ (l : List ℕ). get_or l 1 0) (f counts refl) in
      let a : allowed t' ≡ allowed t = ap first (f allowed_mask refl) in
      let c : region_count t' ≡ region_count t = ap first (f region_table refl) in
      let head : t'.head ≡ t.head =
      joined head_words t.head t'.head (head_words_lem t'.head long' ∙ rw (n, m, a, c) (sym (head_words_lem t.head long)))
      (ap (λ (x : Tables). x.head) e) in
      let home : t'.home ≡ t.home =
      joined (harts t * hart_words) t.home t'.home
      (rows_same hart_words t.home t'.home (harts t) (λ i l. f (home_row i) (lt-ltb _ _ l)))
      (ap (λ (x : Tables). x.home) e) in
      let hardware : t'.hardware ≡ t.hardware =
      joined (hardware_harts t * hart_words) t.hardware t'.hardware
      (rows_same hart_words t.hardware t'.hardware (hardware_harts t) (λ i l. f (hardware_row i) (lt-ltb _ _ l)))
      (ap (λ (x : Tables). x.hardware) e) in
      let queues : t'.queues ≡ t.queues =
      joined (harts t * queue_words) t.queues t'.queues
      (rows_same queue_words t.queues t'.queues (harts t) (λ i l. f (queue_row i) (lt-ltb _ _ l)))
      (ap (λ (x : Tables). x.queues) e) in
      let regions : t'.regions ≡ t.regions =
      joined (max_regions * region_words) t.regions t'.regions (ap (drop 1) (f region_table refl)) (ap (λ (x : Tables). x.regions) e) in
      λ i. tables (head i) (home i) (hardware i) (queues i) (regions i)

-- ---- the same of any tables: where they are not sound, 12 changes nothing

module _ (t : Tables) (effects : List ℕ) where
  by_soundness : (r : Request) (P : Tables → Type 0) → (sound t ≡ true → P (performed r t effects).after) → P t
      → P (performed r t effects).after
  by_soundness r P kept same_tables =
      by_test (sound t) kept (λ s. rw (unsound_refused r t effects s) same_tables)

  -- every request keeps the length of each table
  pub lengths_kept : (r : Request) → SameLengths t (performed r t effects).after
  lengths_kept r = by_soundness r (SameLengths t) (λ s. performed_lengths t s r effects) (same_lengths t)

  -- the words of a place that the request does not write are as they were
  pub writes_only : (r : Request) (p : Place) → within p t ≡ true → writes r t p ≡ false
      → words_at p (performed r t effects).after ≡ words_at p t
  writes_only r p w e = by_soundness r (λ t'. words_at p t' ≡ words_at p t) (λ s. sound_writes_only t s r effects p w e) refl

  -- words past the tables are as they were
  pub past_kept : (r : Request)
      → past (harts t) (hardware_harts t) (performed r t effects).after ≡ past (harts t) (hardware_harts t) t
  past_kept r =
      by_soundness r (λ t'. past (harts t) (hardware_harts t) t' ≡ past (harts t) (hardware_harts t) t) (λ s. sound_past_kept t s r effects) refl

-- ---- the effects room, of any tables

-- a sender does one command at most
pub own_few : (c : ConfidentialHartRemoteCommand) (h : ℕ) → length (own_commands c h) ≤ 1
unfolding own_commands
own_few c h = by_pick (λ (cs : List ConfidentialHartRemoteCommand). length cs ≤ 1) (selects c h) _ _ (λ _. omega arith) (λ _. omega arith)

-- 64 commands at most wait for a held hart
pub held_few : (t : Tables) (k : ℕ) → Held t k → length (held_commands t k) ≤ max_commands
held_few t k x =
    let q = queue t (held_id t k) in
    omega (arith, commands_length q, well_formed_count q ((sound_facts t x.tables_sound).queue_formed (held_id t k) x.id_below))

module _ (t : Tables) (effects : List ℕ) where
  -- what holds of the effects room as it was, with no record, and of records of commands over its front, holds of every request
  by_effects : (P : ℕ → List ℕ → Type 0) → P 0 effects
      → ((h : ℕ) (cs : List ConfidentialHartRemoteCommand) → length cs * effect_words ≤ length effects → P (length cs) (over (effects_of h cs) effects))
      → (r : Request) → P (performed r t effects).did (performed r t effects).effects
  unfolding effect
  by_effects P none some =
      by_doing (λ r. P (performed r t effects).did (performed r t effects).effects) (λ r e. rw (room_kept r t effects e) none)
      (λ on c.
      by_broadcast on c t effects (λ (o : Outcome). P o.did o.effects) (λ _. none)
      (λ o own p.
      let h = held_id t on.0 in
      rw (own.did_own, own.effects_own) (some h (own_commands c h) (omega (arith, own_few c h, broadcast_room on c t effects p)))))
      (λ on.
      by_performed (Process on) t effects (λ (o : Outcome). P o.did o.effects) (λ _. none)
      (λ p.
      some (held_id t on.0) (held_commands t on.0)
      (omega (arith, held_few t on.0 (process_held on t effects p), process_room on t effects p))))
      (λ on.
      by_performed (Resume on) t effects (λ (o : Outcome). P o.did o.effects) (λ _. none)
      (λ p.
      let q = resume_tests on t effects p in
      some (held_id t on.0) (held_commands t on.0)
      (omega (arith, held_few t on.0 (process_held on t effects q), process_room on t effects q))))

  -- the effects room is as long as before
  pub effects_length : (r : Request) → length (performed r t effects).effects ≡ length effects
  effects_length = by_effects (λ n e. length e ≡ length effects) refl (λ h cs l. over_as_long h cs effects l)

  -- beyond the records that are counted it is as it was
  pub effects_kept : (r : Request)
      → drop ((performed r t effects).did * effect_words) (performed r t effects).effects ≡ drop ((performed r t effects).did * effect_words) effects
  effects_kept = by_effects (λ n e. drop (n * effect_words) e ≡ drop (n * effect_words) effects) refl (λ h cs l. over_kept h cs effects)

  -- and the records that are counted lie within it
  pub effects_fit : (r : Request) → (performed r t effects).did * effect_words ≤ length effects
  effects_fit = by_effects (λ n e. n * effect_words ≤ length effects) (omega arith) (λ h cs l. l)
