-- What a broadcast answers, and what it leaves in the queues. Assumes nothing.
use Rattle.std.proofs.Common.{Ok, Err}
use mathlib.Core.Path.{◌≡◌, refl, sym, ap, ◌∙◌}
use mathlib.Core.Bool.{Bool, true, false, ◌&&◌, ◌||◌, not, and-false, or-true, or-false, false≢true}
use mathlib.Core.Logic.{inr, ⊎_elim, ◌≢◌}
use mathlib.Core.List.{List}
use Prim.Native.Nat.{ℕ, zero, suc, ◌+◌, ◌*◌, ◌^◌, ◌≤◌, ◌<◌}
use native.Mathlib.Nat.{eq-or-lt_of_le, le_antisymm, lt_of_lt_of_le, zero-add}
use native.Mathlib.Omega.{arith}
use lib.ListN.{length, get_or}
use lib.Dec.{eqb, leb, ltb}
use borrow.Author.Tests.{not-true, not-false, le-leb, lt-leb, leb-true, leb-false, ltb-true, ltb-false, lt-ltb, le-ltb, eq-eqb, ne_eqb, eqb-true, eqb-false}
use Rattle.error.specs.declared.Error.{Error}
use Rattle.error.specs.declared.Error.TheVariants.{TablesNotSound, UnknownKind, ReachedMaxNumberOfRemoteCommands}
use Rattle.bits.specs.Bit.{bit, set_bit}
use Rattle.bits.proofs.BitLaws.{set_same, set_other, set_lt, bit_above}
use Rattle.table_rows.specs.Rows.{row, put}
use Rattle.table_rows.specs.Choice.{pick, exists}
use Rattle.table_rows.proofs.PickLaws.{yes, no, by_pick, by_test, and_left, and_right, and_both, not_yes, not_no}
use Rattle.table_rows.proofs.ExistsLaws.{exists_is, exists_of, none_of, exists_at, exists_none}
use Rattle.table_rows.proofs.RowLaws.{row_length, put_length, row_put_same, row_put_other, put_elsewhere}
use Rattle.confidential_hart_remote_command.specs.declared.ConfidentialHartRemoteCommand.{ConfidentialHartRemoteCommand}
use Rattle.confidential_hart_remote_command.specs.Command.{well_formed}
use Rattle.confidential_hart_remote_command.specs.Selection.{xlen, selects}
use Rattle.remote_commands.specs.Queue.{max_commands, queue_words, count, offered, queue_well_formed}
use Rattle.remote_commands.proofs.OfferLaws.{offer_length, offer_well_formed}
use Rattle.confidential_hart.specs.Hart.{is_dummy}
use Rattle.confidential_hart.proofs.HartLaws.{formed_facts}
use Rattle.hart_lifecycle_state.specs.Lifecycle.{started}
use Rattle.hart_rows.specs.HartRows.{hart_at}
use Rattle.monitor_requests.specs.declared.Request.TheVariants.{Send}
use Rattle.monitor_requests.specs.declared.Answer.TheVariants.{Mask}
use Rattle.monitor_requests.specs.Answers.{Answered, given}
use Rattle.monitor_requests.specs.Tables.{Tables, harts, home_hart, queue, max_hardware_harts, sound}
use Rattle.monitor_requests.specs.Requests.{Outcome, answering, refused_on, sends, tests, with_queues, receives, interrupting, Delivery, delivery, deliver, broadcast, effect, performed}
use Rattle.monitor_requests.proofs.AnswerLaws.{is_mask, first_in}
use Rattle.monitor_requests.proofs.JudgedLaws.{unsound_refused}
use Rattle.monitor_requests.proofs.SoundLaws.{sound_facts, queues_sound, home_formed, away_names}

-- ---- the request on sound tables, by its two ways

module _ (sender : ℕ) (c : ConfidentialHartRemoteCommand) (t : Tables) (effects : List ℕ) where
  module _ (s : sound t ≡ true) where
    -- on sound tables a command that is not well formed gives 19, and nothing changes
    pub send_unknown : well_formed c ≡ false → performed (Send sender c) t effects ≡ refused_on t effects UnknownKind
    unfolding performed tests
    send_unknown w = sym (no _ (not_no _ s) (yes _ (not_yes _ w) refl))

    -- and a well-formed one gives what the broadcast gives
    pub send_known : well_formed c ≡ true
        → performed (Send sender c) t effects ≡ sends sender c t effects
    unfolding performed tests effect
    send_known w = sym (no _ (not_no _ s) (no _ (not_no _ w) refl))

    -- the same, for an answer and queues that are the broadcast's
    pub send_is : well_formed c ≡ true → (r : Answered) (queues : List ℕ) → delivery r queues ≡ broadcast sender c t
        → answering r (with_queues queues t) effects ≡ performed (Send sender c) t effects
    send_is w r queues e = ap (λ (d : Delivery). answering d.answer (with_queues d.queues t) effects) e ∙ sym (send_known w)

-- ---- a dummy in a home row

module _ (t : Tables) (s : sound t ≡ true) (h : ℕ) (l : h < harts t) (d : is_dummy (home_hart t h) ≡ true) where
  -- it has the number of a hardware hart
  pub dummy_number : (home_hart t h).id < max_hardware_harts
  dummy_number = lt_of_lt_of_le (away_names t s h l d).there (sound_facts t s).sized.few_hardware

  -- it is Started, whatever the stolen hart is: where it is selected and does not send, the hart receives
  pub stolen_receives : (sender : ℕ) (c : ConfidentialHartRemoteCommand) → selects c h ≡ true → h ≢ sender → receives t.home sender c h ≡ true
  unfolding receives
  stolen_receives sender c e ne =
      let k : (home_hart t h).lifecycle ≡ started = (formed_facts (home_hart t h) (home_formed t s h l)).dummy_started (eqb-true _ _ d) in
      rw (e, ne_eqb h sender ne, k)

-- ---- one bit of a choice

-- bit k after bit d is set, and of a number that is picked or stays
set_bit_lem : (k d x : ℕ) → eqb (bit k (set_bit d x)) 1 ≡ eqb (bit k x) 1 || eqb d k
set_bit_lem k d x =
    by_test (eqb d k)
    (λ e. rw (e, ← (eqb-true d k e)) (eq-eqb _ _ (set_same d x) ∙ sym (or-true (eqb (bit d x) 1))))
    (λ e. rw (e, set_other k d x (λ q. eqb-false d k e (sym q))) (sym (or-false (eqb (bit k x) 1))))

picked : (f : ℕ → Bool) (b : Bool) (x y : ℕ) (a : Bool) → f x ≡ f y || a → f (pick b x y) ≡ f y || (b && a)
unfolding pick
picked f true x y a e = e
picked f false x y a e = sym (or-false (f y))

-- ---- the harts in order

module _ (home : List ℕ) (sender : ℕ) (c : ConfidentialHartRemoteCommand) where
  -- the queues after hart h took the command
  abbrev taken : List ℕ → ℕ → List ℕ
  taken queues h = put queue_words queues h (offered (row queue_words queues h) c).queue

  -- what holds at the end, and over each of the three ways of a turn, holds of every delivery
  pub by_turns : (P : ℕ → ℕ → ℕ → List ℕ → Delivery → Type 0)
      → ((h mask : ℕ) (queues : List ℕ) → P zero h mask queues (delivery (Ok (Mask mask)) queues))
      → ((left h mask : ℕ) (queues : List ℕ) (d : Delivery) → receives home sender c h ≡ false → P left (h + 1) mask queues d
      → P (suc left) h mask queues d)
      → ((left h mask : ℕ) (queues : List ℕ) → receives home sender c h ≡ true → max_commands ≤ count (row queue_words queues h)
      → P (suc left) h mask queues (delivery (Err ReachedMaxNumberOfRemoteCommands) queues))
      → ((left h mask : ℕ) (queues : List ℕ) (d : Delivery) → receives home sender c h ≡ true → count (row queue_words queues h) < max_commands
      → P left (h + 1) (interrupting (hart_at home h) mask) (taken queues h) d → P (suc left) h mask queues d)
      → (left h mask : ℕ) (queues : List ℕ) → P left h mask queues (deliver home sender c left h mask queues)
  unfolding deliver
  by_turns P end passed full took zero h mask queues = end h mask queues
  by_turns P end passed full took (suc left) h mask queues =
      by_pick (P (suc left) h mask queues) (not (receives home sender c h)) _ _
      (λ e. passed left h mask queues _ (not-true _ e) (by_turns P end passed full took left (h + 1) mask queues))
      (λ e.
      by_pick (P (suc left) h mask queues) (leb max_commands (count (row queue_words queues h))) _ _
      (λ f. full left h mask queues (not-false _ e) (leb-true _ _ f))
      (λ f. took left h mask queues _ (not-false _ e) (leb-false _ _ f)
      (by_turns P end passed full took left (h + 1) (interrupting (hart_at home h) mask) (taken queues h))))

  -- ---- the hart that refuses

  -- hart h receives, and has 64 commands already
  abbrev pub refuses_at : List ℕ → ℕ → Bool
  refuses_at queues h = receives home sender c h && leb max_commands (count (row queue_words queues h))

  -- the first that refuses of so many harts from h on, or the one past the last
  unfoldable pub refusing : ℕ → ℕ → List ℕ → ℕ
  refusing zero h queues = h
  refusing (suc left) h queues = pick (refuses_at queues h) h (refusing left (h + 1) queues)

  -- it is h or above
  pub refusing_from : (left h : ℕ) (queues : List ℕ) → h ≤ refusing left h queues
  unfolding refusing
  refusing_from zero h queues = omega arith
  refusing_from (suc left) h queues =
      by_pick (λ r. h ≤ r) (refuses_at queues h) h (refusing left (h + 1) queues) (λ e. omega arith)
      (λ e. omega (arith, refusing_from left (h + 1) queues))

  -- it is at most the one past the last
  pub refusing_to : (left h : ℕ) (queues : List ℕ) → refusing left h queues ≤ h + left
  unfolding refusing
  refusing_to zero h queues = omega arith
  refusing_to (suc left) h queues =
      by_pick (λ r. r ≤ h + suc left) (refuses_at queues h) h (refusing left (h + 1) queues) (λ e. omega arith)
      (λ e. omega (arith, refusing_to left (h + 1) queues))

  -- it refuses, where it is one of them
  pub refusing_does : (left h : ℕ) (queues : List ℕ) → refusing left h queues < h + left → refuses_at queues (refusing left h queues) ≡ true
  unfolding refusing
  refusing_does zero h queues = λ l. absurd (omega arith)
  refusing_does (suc left) h queues =
      by_pick (λ r. r < h + suc left → refuses_at queues r ≡ true) (refuses_at queues h) h (refusing left (h + 1) queues) (λ e l. e)
      (λ e l. refusing_does left (h + 1) queues (omega arith))

  -- none from h to below it refuses
  pub refusing_first : (left h : ℕ) (queues : List ℕ) (j : ℕ) → h ≤ j → j < refusing left h queues → refuses_at queues j ≡ false
  unfolding refusing
  refusing_first zero h queues j a = λ b. absurd (omega arith)
  refusing_first (suc left) h queues j a =
      by_pick (λ r. j < r → refuses_at queues j ≡ false) (refuses_at queues h) h (refusing left (h + 1) queues) (λ e b. absurd (omega arith))
      (λ e b. ⊎_elim (λ q. rw (← q) e) (λ l. refusing_first left (h + 1) queues j (omega arith) b) (eq-or-lt_of_le a))

  -- queues whose rows from h on are the same have the same one
  refusing_same : (left h : ℕ) (queues others : List ℕ) → ((j : ℕ) → h ≤ j → j < h + left → row queue_words others j ≡ row queue_words queues j)
      → refusing left h others ≡ refusing left h queues
  unfolding refusing
  refusing_same zero h queues others same = refl
  refusing_same (suc left) h queues others same =
      rw (same h (omega arith) (omega arith))
      (ap (pick (refuses_at queues h) h) (refusing_same left (h + 1) queues others (λ j a b. same j (omega arith) (omega arith))))

  -- hart h is passed over or takes the command: then it is not the one
  refusing_later : (left h : ℕ) (queues : List ℕ) → refuses_at queues h ≡ false → refusing (suc left) h queues ≡ refusing left (h + 1) queues
  unfolding refusing
  refusing_later left h queues e = sym (no _ e refl)

  refusing_none : (h : ℕ) (queues : List ℕ) → refusing zero h queues ≡ h
  unfolding refusing
  refusing_none h queues = refl

  refusing_here : (left h : ℕ) (queues : List ℕ) → refuses_at queues h ≡ true → refusing (suc left) h queues ≡ h
  unfolding refusing
  refusing_here left h queues e = sym (yes _ e refl)

  passed_refuses : (queues : List ℕ) (h : ℕ) → receives home sender c h ≡ false → refuses_at queues h ≡ false
  passed_refuses queues h e = rw e

  room_refuses : (queues : List ℕ) (h : ℕ) → count (row queue_words queues h) < max_commands → refuses_at queues h ≡ false
  room_refuses queues h l = rw (lt-leb _ _ l) (and-false (receives home sender c h))

  full_refuses : (queues : List ℕ) (h : ℕ) → receives home sender c h ≡ true → max_commands ≤ count (row queue_words queues h) → refuses_at queues h ≡ true
  full_refuses queues h e l = and_both e (le-leb _ _ l)

  -- ---- the queues of one turn

  module _ (queues : List ℕ) (h : ℕ) (fits : h * queue_words + queue_words ≤ length queues) where
    long : length (offered (row queue_words queues h) c).queue ≡ queue_words
    long = offer_length (row queue_words queues h) c (row_length queue_words queues h fits)

    taken_length : length (taken queues h) ≡ length queues
    taken_length = put_length queue_words queues h fits _ long

    taken_row : row queue_words (taken queues h) h ≡ (offered (row queue_words queues h) c).queue
    taken_row = row_put_same queue_words queues h fits _ long

    taken_other : (j : ℕ) → j ≢ h → j * queue_words + queue_words ≤ length queues → row queue_words (taken queues h) j ≡ row queue_words queues j
    taken_other j ne l = row_put_other queue_words queues h fits _ long j ne l

    taken_past : (k : ℕ) → h * queue_words + queue_words ≤ k → get_or (taken queues h) k 0 ≡ get_or queues k 0
    taken_past k l = put_elsewhere queue_words queues h fits _ long k (inr l)

  -- ---- the queues of all turns

  -- there are queues for so many harts from h on
  abbrev Fits : ℕ → ℕ → List ℕ → Type 0
  Fits left h queues = (h + left) * queue_words ≤ length queues

  -- the queues keep their length
  pub deliver_length : (left h mask : ℕ) (queues : List ℕ) → Fits left h queues → length (deliver home sender c left h mask queues).queues ≡ length queues
  deliver_length =
      by_turns (λ left h mask queues d. Fits left h queues → length d.queues ≡ length queues) (λ h mask queues f. refl)
      (λ left h mask queues d r next f. next (omega arith))
      (λ left h mask queues r l f. refl)
      (λ left h mask queues d r l next f.
      let e = taken_length queues h (omega arith) in
      next (omega arith) ∙ e)

  -- what lies past the queues is as it was
  pub deliver_past : (k left h mask : ℕ) (queues : List ℕ) → Fits left h queues → (h + left) * queue_words ≤ k
      → get_or (deliver home sender c left h mask queues).queues k 0 ≡ get_or queues k 0
  deliver_past k =
      by_turns (λ left h mask queues d. Fits left h queues → (h + left) * queue_words ≤ k → get_or d.queues k 0 ≡ get_or queues k 0)
      (λ h mask queues f l. refl)
      (λ left h mask queues d r next f l. next (omega arith) (omega arith))
      (λ left h mask queues r m f l. refl)
      (λ left h mask queues d r m next f l.
      let e = taken_length queues h (omega arith) in
      next (omega arith) (omega arith) ∙ taken_past queues h (omega arith) k (omega arith))

  refusing_taken : (left h : ℕ) (queues : List ℕ) → Fits (suc left) h queues → count (row queue_words queues h) < max_commands
      → refusing left (h + 1) (taken queues h) ≡ refusing (suc left) h queues
  refusing_taken left h queues f l =
      refusing_same left (h + 1) queues (taken queues h) (λ j a b. taken_other queues h (omega arith) j (λ q. omega arith) (omega arith))
      ∙ sym (refusing_later left h queues (room_refuses queues h l))

  -- the queues afterwards, row by row: below the one that refuses, each that receives has the command offered; every other is as it was
  record Rows (left h : ℕ) (queues after : List ℕ) : Type 0 where
    before : (j : ℕ) → j * queue_words + queue_words ≤ length queues → j < h → row queue_words after j ≡ row queue_words queues j
    rest : (j : ℕ) → j * queue_words + queue_words ≤ length queues → refusing left h queues ≤ j → row queue_words after j ≡ row queue_words queues j
    passed : (j : ℕ) → j * queue_words + queue_words ≤ length queues → receives home sender c j ≡ false → row queue_words after j ≡ row queue_words queues j
    took : (j : ℕ) → h ≤ j → j < refusing left h queues → receives home sender c j ≡ true
        → row queue_words after j ≡ (offered (row queue_words queues j) c).queue

  as_it_was : (left h : ℕ) (queues : List ℕ) → refusing left h queues ≡ h → Rows left h queues queues
  as_it_was left h queues e =
      record { before = λ j m l. refl; rest = λ j m l. refl; passed = λ j m r. refl; took = λ j a b r. absurd (omega arith) }

  rows_passed : (left h : ℕ) (queues after : List ℕ) → receives home sender c h ≡ false → Rows left (h + 1) queues after → Rows (suc left) h queues after
  rows_passed left h queues after r next =
      let e = refusing_later left h queues (passed_refuses queues h r) in
      record {
        before = λ j m l. next.before j m (omega arith);
        rest = λ j m l. next.rest j m (omega arith);
        passed = next.passed;
        took = λ j a b s.
            ⊎_elim (λ q. absurd (false≢true (sym r ∙ ap (receives home sender c) q ∙ s)))
            (λ l. next.took j (omega arith) (omega arith) s)
            (eq-or-lt_of_le a);
      }

  rows_taken : (left h : ℕ) (queues after : List ℕ) → Fits (suc left) h queues → receives home sender c h ≡ true
      → count (row queue_words queues h) < max_commands
      → Rows left (h + 1) (taken queues h) after
      → Rows (suc left) h queues after
  rows_taken left h queues after f r l next =
      let here : h * queue_words + queue_words ≤ length queues = omega arith in
      let e = refusing_taken left h queues f l in
      let long = taken_length queues h here in
      record {
        before = λ j m b. next.before j (omega arith) (omega arith) ∙ taken_other queues h here j (λ q. omega arith) m;
        rest = λ j m b.
            next.rest j (omega arith) (omega arith)
            ∙ taken_other queues h here j (λ q. omega (arith, refusing_from left (h + 1) (taken queues h))) m;
        passed = λ j m s.
            next.passed j (omega arith) s
            ∙ taken_other queues h here j (λ q. false≢true (sym s ∙ ap (receives home sender c) q ∙ r)) m;
        took = λ j a b s.
            ⊎_elim (λ q. rw (← q) (next.before h (omega arith) (omega arith) ∙ taken_row queues h here))
            (λ g.
            next.took j (omega arith) (omega arith) s
            ∙ ap (λ (q : List ℕ). (offered q c).queue)
            (taken_other queues h here j (λ q. omega arith) (omega (arith, refusing_to (suc left) h queues))))
            (eq-or-lt_of_le a);
      }

  rows : (left h mask : ℕ) (queues : List ℕ) → Fits left h queues → Rows left h queues (deliver home sender c left h mask queues).queues
  rows =
      by_turns (λ left h mask queues d. Fits left h queues → Rows left h queues d.queues)
      (λ h mask queues f. as_it_was zero h queues (refusing_none h queues))
      (λ left h mask queues d r next f. rows_passed left h queues d.queues r (next (omega arith)))
      (λ left h mask queues r l f. as_it_was (suc left) h queues (refusing_here left h queues (full_refuses queues h r l)))
      (λ left h mask queues d r l next f.
      let e = taken_length queues h (omega arith) in
      rows_taken left h queues d.queues f r l (next (omega arith)))

  -- ---- the answer

  -- the mask after so many harts from h on, where none refuses
  unfoldable pub interrupted : ℕ → ℕ → ℕ → ℕ
  interrupted zero h mask = mask
  interrupted (suc left) h mask = interrupted left (h + 1) (pick (receives home sender c h) (interrupting (hart_at home h) mask) mask)

  abbrev told : ℕ → ℕ → ℕ → Answered
  told refuser end mask = pick (ltb refuser end) (Err ReachedMaxNumberOfRemoteCommands) (Ok (Mask mask))

  told_same : {a : Answered} {r r' end end' mask mask' : ℕ} → a ≡ told r end mask → r ≡ r' → end ≡ end' → mask ≡ mask' → a ≡ told r' end' mask'
  told_same e p q m = rw (← p, ← q, ← m) e

  interrupted_none : (h mask : ℕ) → mask ≡ interrupted zero h mask
  unfolding interrupted
  interrupted_none h mask = refl

  interrupted_passed : (left h mask : ℕ) → receives home sender c h ≡ false → interrupted left (h + 1) mask ≡ interrupted (suc left) h mask
  unfolding interrupted
  interrupted_passed left h mask e = ap (interrupted left (h + 1)) (no _ e refl)

  interrupted_took : (left h mask : ℕ) → receives home sender c h ≡ true
      → interrupted left (h + 1) (interrupting (hart_at home h) mask) ≡ interrupted (suc left) h mask
  unfolding interrupted
  interrupted_took left h mask e = ap (interrupted left (h + 1)) (yes _ e refl)

  -- 8 exactly when there is one that refuses, else the mask
  pub deliver_answer : (left h mask : ℕ) (queues : List ℕ) → Fits left h queues
      → (deliver home sender c left h mask queues).answer ≡ told (refusing left h queues) (h + left) (interrupted left h mask)
  deliver_answer =
      by_turns (λ left h mask queues d. Fits left h queues → d.answer ≡ told (refusing left h queues) (h + left) (interrupted left h mask))
      (λ h mask queues f. no _ (le-ltb (refusing zero h queues) (h + zero) (omega (arith, refusing_none h queues))) (ap (λ m. Ok (Mask m)) (interrupted_none h mask)))
      (λ left h mask queues d r next f.
      told_same (next (omega arith)) (sym (refusing_later left h queues (passed_refuses queues h r))) (omega arith) (interrupted_passed left h mask r))
      (λ left h mask queues r l f.
      yes _ (lt-ltb (refusing (suc left) h queues) (h + suc left) (omega (arith, refusing_here left h queues (full_refuses queues h r l)))) refl)
      (λ left h mask queues d r l next f.
      let here : h * queue_words + queue_words ≤ length queues = omega arith in
      let e = taken_length queues h here in
      told_same (next (omega arith)) (refusing_taken left h queues f l) (omega arith) (interrupted_took left h mask r))

  -- ---- the mask, bit by bit

  -- hart h receives, and its home row holds the dummy of hardware hart k
  abbrev pub interrupts_on : ℕ → ℕ → Bool
  interrupts_on k h = receives home sender c h && (is_dummy (hart_at home h) && eqb (hart_at home h).id k)

  turn_bit : (k h mask : ℕ)
      → eqb (bit k (pick (receives home sender c h) (interrupting (hart_at home h) mask) mask)) 1 ≡ eqb (bit k mask) 1 || interrupts_on k h
  turn_bit k h mask =
      picked (λ (x : ℕ). eqb (bit k x) 1) (receives home sender c h) _ mask _
      (picked (λ (x : ℕ). eqb (bit k x) 1) (is_dummy (hart_at home h)) _ mask _ (set_bit_lem k (hart_at home h).id mask))

  bit_stays : (k left h mask : ℕ) → eqb (bit k mask) 1 ≡ true → eqb (bit k (interrupted left h mask)) 1 ≡ true
  unfolding interrupted
  bit_stays k zero h mask e = e
  bit_stays k (suc left) h mask e = bit_stays k left (h + 1) _ (turn_bit k h mask ∙ rw e)

  bit_added : (k left h mask j : ℕ) → h ≤ j → j < h + left → interrupts_on k j ≡ true → eqb (bit k (interrupted left h mask)) 1 ≡ true
  unfolding interrupted
  bit_added k zero h mask j a b e = absurd (omega arith)
  bit_added k (suc left) h mask j a b e =
      ⊎_elim
      (λ q. bit_stays k left (h + 1) _ (turn_bit k h mask ∙ ap (λ (b : Bool). eqb (bit k mask) 1 || b) (ap (interrupts_on k) q ∙ e) ∙ or-true (eqb (bit k mask) 1)))
      (λ l. bit_added k left (h + 1) _ j (omega arith) (omega arith) e)
      (eq-or-lt_of_le a)

  bit_none : (k left h mask : ℕ) → eqb (bit k mask) 1 ≡ false → ((j : ℕ) → h ≤ j → j < h + left → interrupts_on k j ≡ false)
      → eqb (bit k (interrupted left h mask)) 1 ≡ false
  unfolding interrupted
  bit_none k zero h mask e none = e
  bit_none k (suc left) h mask e none =
      bit_none k left (h + 1) _ (turn_bit k h mask ∙ rw (e, none h (omega arith) (omega arith))) (λ j a b. none j (omega arith) (omega arith))

  -- bit k is 1 exactly when some hart that receives has its home row hold dummy k
  pub interrupted_bits : (k n : ℕ) → eqb (bit k (interrupted n 0 0)) 1 ≡ exists (interrupts_on k) n
  interrupted_bits k n =
      by_test (exists (interrupts_on k) n)
      (λ e. let w = exists_at (interrupts_on k) n e in bit_added k n 0 0 w.0 (omega arith) (omega (arith, w.1)) w.2 ∙ sym e)
      (λ e.
      bit_none k n 0 0 (ap (λ (b : ℕ). eqb b 1) (bit_above 0 k 0 (omega arith) (omega arith)))
      (λ j a b. exists_none (interrupts_on k) j n (omega arith) e)
      ∙ sym e)

  -- there is no bit from xlen on, where each dummy has a number below it
  pub interrupted_small : (left h mask : ℕ) → ((j : ℕ) → j < h + left → is_dummy (hart_at home j) ≡ true → (hart_at home j).id < xlen) → mask < 2 ^ xlen
      → interrupted left h mask < 2 ^ xlen
  unfolding interrupted
  interrupted_small zero h mask ids l = l
  interrupted_small (suc left) h mask ids l =
      interrupted_small left (h + 1) _ (λ j b. ids j (omega arith))
      (by_pick (λ (x : ℕ). x < 2 ^ xlen) (receives home sender c h) _ mask
      (λ r. by_pick (λ (x : ℕ). x < 2 ^ xlen) (is_dummy (hart_at home h)) _ mask
      (λ d. set_lt xlen (hart_at home h).id mask l (ids h (omega arith) d)) (λ d. l))
      (λ r. l))

-- ---- a broadcast over sound tables

told_mask : (b : Bool) (e : Error) (m mask : ℕ) → pick b (Err e) (Ok (Mask m)) ≡ Ok (Mask mask) → (b ≡ false) × (m ≡ mask)
unfolding pick
told_mask true e m mask p = absurd (false≢true (ap is_mask p))
told_mask false e m mask p = (refl, ap first_in p)

told_refused : (b : Bool) (e f : Error) (m : ℕ) → pick b (Err e) (Ok (Mask m)) ≡ Err f → (b ≡ true) × (◌≡◌ {A = Answered} (Err e) (Err f))
unfolding pick
told_refused true e f m p = (refl, p)
told_refused false e f m p = absurd (false≢true (sym (ap is_mask p)))

-- what 8 means, and how it leaves the queues: hart `hart` receives and has 64 already; each that receives below it had fewer and has the
-- command offered; the others below it, and all from it on, are as they were
pub record RefusedAt (sender : ℕ) (c : ConfidentialHartRemoteCommand) (t : Tables) (after : List ℕ) (hart : ℕ) : Type 0 where
  pub there : hart < harts t
  pub receiving : receives t.home sender c hart ≡ true
  pub full : max_commands ≤ count (queue t hart)
  pub room : (j : ℕ) → j < hart → receives t.home sender c j ≡ true → count (queue t j) < max_commands
  pub below : (j : ℕ) → j < hart → receives t.home sender c j ≡ true → row queue_words after j ≡ (offered (queue t j) c).queue
  pub passed : (j : ℕ) → j < hart → receives t.home sender c j ≡ false → row queue_words after j ≡ queue t j
  pub above : (j : ℕ) → j < harts t → hart ≤ j → row queue_words after j ≡ queue t j

module _ (sender : ℕ) (c : ConfidentialHartRemoteCommand) (t : Tables) where
  -- the hart that refuses, or n where none does
  abbrev pub refuser : ℕ
  refuser = refusing t.home sender c (harts t) 0 t.queues

  -- hart h has the command offered
  abbrev pub delivers : ℕ → Bool
  delivers h = receives t.home sender c h && ltb h refuser

  -- a hart that receives below the one that refuses has room
  below_room : (j : ℕ) → j < refuser → receives t.home sender c j ≡ true → count (queue t j) < max_commands
  below_room j l r =
      leb-false _ _
      (sym (ap (λ (x : Bool). x && leb max_commands (count (queue t j))) r)
      ∙ refusing_first t.home sender c (harts t) 0 t.queues j (omega arith) l)

  module _ (s : sound t ≡ true) where
    room_for : (0 + harts t) * queue_words ≤ length t.queues
    room_for = omega (arith, (sound_facts t s).sized.long.queues_long)

    turns : Rows t.home sender c (harts t) 0 t.queues (broadcast sender c t).queues
    turns = rows t.home sender c (harts t) 0 0 t.queues room_for

    row_fits : (j : ℕ) → j < harts t → j * queue_words + queue_words ≤ length t.queues
    row_fits j l = omega (arith, room_for)

    -- it is at most n
    pub refuser_bound : refuser ≤ harts t
    refuser_bound = omega (arith, refusing_to t.home sender c (harts t) 0 t.queues)

    -- the queues are as long as before
    pub broadcast_length : length (broadcast sender c t).queues ≡ length t.queues
    broadcast_length = deliver_length t.home sender c (harts t) 0 0 t.queues room_for

    -- the words past the queues are as they were
    pub broadcast_past : (k : ℕ) → harts t * queue_words ≤ k → get_or (broadcast sender c t).queues k 0 ≡ get_or t.queues k 0
    broadcast_past k l = deliver_past t.home sender c k (harts t) 0 0 t.queues room_for (omega arith)

    -- a hart that receives below the one that refuses has the command offered
    pub delivered_row : (j : ℕ) → j < refuser → receives t.home sender c j ≡ true
        → row queue_words (broadcast sender c t).queues j ≡ (offered (queue t j) c).queue
    delivered_row j l r = turns.took j (omega arith) l r

    -- the queue of a hart that does not receive is as it was
    pub passed_row : (j : ℕ) → j < harts t → receives t.home sender c j ≡ false → row queue_words (broadcast sender c t).queues j ≡ queue t j
    passed_row j l r = turns.passed j (row_fits j l) r

    -- so are those of the hart that refuses and of all above it
    pub rest_row : (j : ℕ) → j < harts t → refuser ≤ j → row queue_words (broadcast sender c t).queues j ≡ queue t j
    rest_row j l g = turns.rest j (row_fits j l) g

    -- all three in one: hart j's queue has the command offered where it is delivered, else it is as it was
    pub queue_after : (j : ℕ) → j < harts t
        → row queue_words (broadcast sender c t).queues j ≡ pick (delivers j) (offered (queue t j) c).queue (queue t j)
    queue_after j l =
        by_test (receives t.home sender c j)
        (λ r.
        by_test (ltb j refuser)
        (λ b. yes _ (and_both r b) (delivered_row j (ltb-true _ _ b) r))
        (λ b. no _ (rw b (and-false (receives t.home sender c j))) (rest_row j l (ltb-false _ _ b))))
        (λ r. no _ (rw r) (passed_row j l r))

    -- 8 exactly when there is one that refuses, else the mask
    pub answer_is : (broadcast sender c t).answer
        ≡ pick (ltb refuser (harts t)) (Err ReachedMaxNumberOfRemoteCommands) (Ok (Mask (interrupted t.home sender c (harts t) 0 0)))
    answer_is =
        deliver_answer t.home sender c (harts t) 0 0 t.queues room_for
        ∙ ap (λ (n : ℕ). pick (ltb refuser n) (Err ReachedMaxNumberOfRemoteCommands) (Ok (Mask (interrupted t.home sender c (harts t) 0 0))))
        (zero-add (harts t))

    -- there is one exactly when some hart that receives has 64 already
    pub refuses_exactly : exists (refuses_at t.home sender c t.queues) (harts t) ≡ ltb refuser (harts t)
    refuses_exactly =
        exists_is (refuses_at t.home sender c t.queues) (harts t) (ltb refuser (harts t)) refuser
        (λ b. let l = ltb-true _ _ b in (l, refusing_does t.home sender c (harts t) 0 t.queues (omega arith)))
        (λ j l e.
        by_test (ltb refuser (harts t)) (λ b. b)
        (λ b.
        let g : harts t ≤ refuser = ltb-false _ _ b in
        absurd (false≢true (sym (refusing_first t.home sender c (harts t) 0 t.queues j (omega arith) (omega arith)) ∙ e))))

    -- the first hart that refuses is that one
    pub refuser_is : (r : ℕ) → r < harts t → refuses_at t.home sender c t.queues r ≡ true
        → ((j : ℕ) → j < r → refuses_at t.home sender c t.queues j ≡ false) → refuser ≡ r
    refuser_is r l e none =
        le_antisymm
        (by_test (leb refuser r) (λ b. leb-true _ _ b)
        (λ b.
        let g : r < refuser = leb-false _ _ b in
        absurd (false≢true (sym (refusing_first t.home sender c (harts t) 0 t.queues r (omega arith) g) ∙ e))))
        (by_test (leb r refuser) (λ b. leb-true _ _ b)
        (λ b.
        let g : refuser < r = leb-false _ _ b in
        absurd (false≢true (sym (none refuser g) ∙ refusing_does t.home sender c (harts t) 0 t.queues (omega arith)))))

    -- a mask: none refuses, so each that receives has the command offered, and its bits are those of the stolen ones
    module _ (mask : ℕ) (e : (broadcast sender c t).answer ≡ Ok (Mask mask)) where
      found : (ltb refuser (harts t) ≡ false) × (interrupted t.home sender c (harts t) 0 0 ≡ mask)
      found = told_mask (ltb refuser (harts t)) ReachedMaxNumberOfRemoteCommands (interrupted t.home sender c (harts t) 0 0) mask (sym answer_is ∙ e)

      -- none refuses
      pub mask_none : refuser ≡ harts t
      mask_none = le_antisymm refuser_bound (ltb-false _ _ found.0)

      -- bit k is 1 exactly when the home row of some hart that receives holds dummy k
      pub mask_bits : (k : ℕ) → eqb (bit k mask) 1 ≡ exists (interrupts_on t.home sender c k) (harts t)
      mask_bits k = rw (← found.1) (interrupted_bits t.home sender c k (harts t))

      -- the mask is a word
      pub mask_small : mask < 2 ^ xlen
      mask_small =
          rw (← found.1)
          (interrupted_small t.home sender c (harts t) 0 0 (λ j b d. dummy_number t s j (omega arith) d) (omega arith))

    -- a refusal is 8, by a hart that receives
    module _ (f : Error) (e : (broadcast sender c t).answer ≡ Err f) where
      refused : (ltb refuser (harts t) ≡ true) × (◌≡◌ {A = Answered} (Err ReachedMaxNumberOfRemoteCommands) (Err f))
      refused = told_refused (ltb refuser (harts t)) ReachedMaxNumberOfRemoteCommands f (interrupted t.home sender c (harts t) 0 0) (sym answer_is ∙ e)

      -- it is 8
      pub refused_number : ◌≡◌ {A = Answered} (Err f) (Err ReachedMaxNumberOfRemoteCommands)
      refused_number = sym refused.1

      -- and the queues are as 8 leaves them
      pub refused_at : RefusedAt sender c t (broadcast sender c t).queues refuser
      refused_at =
          let l : refuser < harts t = ltb-true _ _ refused.0 in
          let d = refusing_does t.home sender c (harts t) 0 t.queues (omega arith) in
          record {
            there = l;
            receiving = and_left (receives t.home sender c refuser) _ d;
            full = leb-true _ _ (and_right (receives t.home sender c refuser) _ d);
            room = below_room;
            below = delivered_row;
            passed = λ j b r. passed_row j (omega arith) r;
            above = rest_row;
          }

    -- a broadcast of a well-formed command leaves the tables sound
    pub broadcast_sound : well_formed c ≡ true → sound (with_queues (broadcast sender c t).queues t) ≡ true
    broadcast_sound w =
        let f = sound_facts t s in
        queues_sound t s (broadcast sender c t).queues broadcast_length
        (λ h l.
        rw (queue_after h l)
        (by_pick (λ (q : List ℕ). queue_well_formed q ≡ true) (delivers h) _ _
        (λ d. offer_well_formed (queue t h) c (row_length queue_words t.queues h (row_fits h l)) w (f.queue_formed h l))
        (λ d. f.queue_formed h l)))

-- sound tables stay sound
pub send_sound : (sender : ℕ) (c : ConfidentialHartRemoteCommand) (t : Tables) (effects : List ℕ) → sound t ≡ true → sound (performed (Send sender c) t effects).after ≡ true
send_sound sender c t effects s =
    by_test (well_formed c) (λ w. rw (send_known sender c t effects s w) (broadcast_sound sender c t s w)) (λ w. rw (send_unknown sender c t effects s w) s)

-- ---- what an answer of the request tells

-- a mask tells that the tables are sound, that the command is well formed, and that no hart that receives had 64 already; bit k is 1
-- exactly when the home row of some hart that receives holds dummy k, and there are no bits past a word
pub record Masked (sender : ℕ) (c : ConfidentialHartRemoteCommand) (t : Tables) (mask : ℕ) : Type 0 where
  pub tables_sound : sound t ≡ true
  pub command_formed : well_formed c ≡ true
  pub room : (j : ℕ) → j < harts t → receives t.home sender c j ≡ true → count (queue t j) < max_commands
  pub bits : (k : ℕ) → eqb (bit k mask) 1 ≡ exists (interrupts_on t.home sender c k) (harts t)
  pub small : mask < 2 ^ xlen

module _ (sender : ℕ) (c : ConfidentialHartRemoteCommand) (t : Tables) (effects : List ℕ) where
  -- an answer that is neither 12 nor 19 is the broadcast's, over sound tables and with a well-formed command
  module _ (a : Answered) (p : (performed (Send sender c) t effects).answer ≡ a) (not-12 : Err TablesNotSound ≢ a) (not-19 : Err UnknownKind ≢ a) where
    went_sound : sound t ≡ true
    went_sound =
        by_test (sound t) (λ s. s)
        (λ s. absurd (not-12 (sym (ap (λ (o : Outcome). o.answer) (unsound_refused (Send sender c) t effects s)) ∙ p)))

    went_formed : well_formed c ≡ true
    went_formed =
        by_test (well_formed c) (λ w. w)
        (λ w. absurd (not-19 (sym (ap (λ (o : Outcome). o.answer) (send_unknown sender c t effects went_sound w)) ∙ p)))

    went : performed (Send sender c) t effects ≡ sends sender c t effects
    went = send_known sender c t effects went_sound went_formed

    went_answer : (broadcast sender c t).answer ≡ a
    went_answer = sym (ap (λ (o : Outcome). o.answer) went) ∙ p

    went_queues : (performed (Send sender c) t effects).after.queues ≡ (broadcast sender c t).queues
    went_queues = ap (λ (o : Outcome). o.after.queues) went

  module _ (mask : ℕ) (p : (performed (Send sender c) t effects).answer ≡ Ok (Mask mask)) where
    no_mask : (e : Error) → Err e ≢ Ok (Mask mask)
    no_mask e q = false≢true (ap is_mask q)

    s : sound t ≡ true
    s = went_sound (Ok (Mask mask)) p (no_mask TablesNotSound) (no_mask UnknownKind)

    replied : (broadcast sender c t).answer ≡ Ok (Mask mask)
    replied = went_answer (Ok (Mask mask)) p (no_mask TablesNotSound) (no_mask UnknownKind)

    all_below : (j : ℕ) → j < harts t → j < refuser sender c t
    all_below j l = rw (mask_none sender c t s mask replied) l

    -- the request gives a mask
    pub send_mask : Masked sender c t mask
    send_mask =
        record {
          tables_sound = s;
          command_formed = went_formed (Ok (Mask mask)) p (no_mask TablesNotSound) (no_mask UnknownKind);
          room = λ j l r. below_room sender c t j (all_below j l) r;
          bits = mask_bits sender c t s mask replied;
          small = mask_small sender c t s mask replied;
        }

    -- and then each hart that receives has the command offered, and the queue of every other is as it was
    pub send_queues : (j : ℕ) → j < harts t
        → queue (performed (Send sender c) t effects).after j ≡ pick (receives t.home sender c j) (offered (queue t j) c).queue (queue t j)
    send_queues j l =
        rw (went_queues (Ok (Mask mask)) p (no_mask TablesNotSound) (no_mask UnknownKind))
        (by_test (receives t.home sender c j)
        (λ r. yes _ r (delivered_row sender c t s j (all_below j l) r))
        (λ r. no _ r (passed_row sender c t s j l r)))

  -- the request gives 8: the hart that refuses is the first that receives and has 64 already
  pub send_eight : (performed (Send sender c) t effects).answer ≡ Err ReachedMaxNumberOfRemoteCommands
      → RefusedAt sender c t (performed (Send sender c) t effects).after.queues (refuser sender c t)
  send_eight p =
      let eight : Answered = Err ReachedMaxNumberOfRemoteCommands in
      let not-12 : Err TablesNotSound ≢ eight = λ q.
      let z : ◌≡◌ {A = ℕ} 12 8 = ap (λ (a : Answered). (given a).number) q in
      omega arith in
      let not-19 : Err UnknownKind ≢ eight = λ q.
      let z : ◌≡◌ {A = ℕ} 19 8 = ap (λ (a : Answered). (given a).number) q in
      omega arith in
      rw (went_queues eight p not-12 not-19)
      (refused_at sender c t (went_sound eight p not-12 not-19) ReachedMaxNumberOfRemoteCommands (went_answer eight p not-12 not-19))

-- ---- the answer of a well-formed command over sound tables

module _ (sender : ℕ) (c : ConfidentialHartRemoteCommand) (t : Tables) (effects : List ℕ) (s : sound t ≡ true) (w : well_formed c ≡ true) where
  answer_of : (performed (Send sender c) t effects).answer ≡ (broadcast sender c t).answer
  answer_of = ap (λ (o : Outcome). o.answer) (send_known sender c t effects s w)

  -- a mask where every hart that receives has room
  pub send_accepted : ((j : ℕ) → j < harts t → receives t.home sender c j ≡ true → count (queue t j) < max_commands)
      → (performed (Send sender c) t effects).answer ≡ Ok (Mask (interrupted t.home sender c (harts t) 0 0))
  send_accepted room =
      let none = none_of (refuses_at t.home sender c t.queues) (harts t) (λ j l.
      by_test (receives t.home sender c j)
      (λ r. room_refuses t.home sender c t.queues j (room j l r))
      (λ r. passed_refuses t.home sender c t.queues j r)) in
      answer_of ∙ answer_is sender c t s ∙ sym (no _ (sym (refuses_exactly sender c t s) ∙ none) refl)

  -- 8 where some hart that receives has 64 already
  pub send_full : (h : ℕ) → h < harts t → receives t.home sender c h ≡ true → max_commands ≤ count (queue t h)
      → (performed (Send sender c) t effects).answer ≡ Err ReachedMaxNumberOfRemoteCommands
  send_full h l r full =
      let one = exists_of (refuses_at t.home sender c t.queues) h (harts t) l (full_refuses t.home sender c t.queues h r full) in
      answer_of ∙ answer_is sender c t s ∙ sym (yes _ (sym (refuses_exactly sender c t s) ∙ one) refl)
