-- What a request says makes one view of another: of the log by its next entry, and equal views stay equal. Assumes nothing.
use Prim.Native.Nat.{ℕ, zero, suc, ◌<◌}
use mathlib.Core.Path.{◌≡◌, refl, sym, ap, ◌∙◌}
use mathlib.Core.Bool.{Bool, true, false, ◌&&◌, ◌||◌}
use mathlib.Core.List.{List, [], ◌∷◌, ◌++◌, append-nil}
use mathlib.Core.Option.{Option, none, some}
use native.Mathlib.Omega.{arith}
use Rattle.table_rows.specs.Choice.{pick, every}
use Rattle.table_rows.specs.Lists.{any_of}
use Rattle.table_rows.proofs.PickLaws.{by_pick, by_test}
use Rattle.confidential_vm_mmio_region.specs.declared.ConfidentialVmMmioRegion.{ConfidentialVmMmioRegion}
use Rattle.confidential_hart_remote_command.specs.declared.ConfidentialHartRemoteCommand.{ConfidentialHartRemoteCommand}
use Rattle.effects.specs.Effects.{shuts_down}
use Rattle.confidential_hart.specs.declared.ConfidentialHart.{ConfidentialHart}
use Rattle.confidential_hart.specs.Hart.{no_operation, with_operation}
use Rattle.confidential_hart.specs.Transition.{moved}
use Rattle.monitor_requests.specs.declared.Setup.{Setup}
use Rattle.monitor_requests.specs.Answers.{Answered}
use Rattle.monitor_requests.specs.Tables.{Tables}
use Rattle.monitor_requests.proofs.TellLaws.{after_doing}
use Rattle.hart_standing.specs.Standing.{Standing}
use Rattle.hart_standing.proofs.ChangedLaws.{View, view, standing_at, having, Holds, is_taken}
use Rattle.ledger.specs.Log.{Entry, log, accepted, Move, stays, Who, Wait, wait_for, Says, unchanged, saying, of_hart, nothing, moving, changing, waiting, emptying, sending, taken, heard}
use Rattle.ledger.specs.WorkedOut.{is_who, with_copy, receives, selected, unremoved, joined}
use Rattle.ledger.proofs.ReadLaws.{
  next_standing,
  place_next,
  changed,
  hart_next,
  next_waits,
  reaches,
  view_of_log,
  queue_next,
  unremoved_none,
  regions_next,
  allowed_next,
}

-- ---- equal views

-- two views of the first n harts
pub record Same (n : ℕ) (v w : View) : Type 0 where
  pub stands_same : (h : ℕ) → h < n → v.stands h ≡ w.stands h
  pub hart_same : (h : ℕ) → h < n → v.hart h ≡ w.hart h
  pub waits_same : (h : ℕ) → h < n → v.waits h ≡ w.waits h
  pub regions_same : v.regions ≡ w.regions
  pub allowed_same : v.allowed ≡ w.allowed

-- what tables hold, said otherwise
pub holds_same : {t : Tables} {n m : ℕ} {v w : View} → Holds t n m v → Same n v w → Holds t n m w
holds_same x e =
    record {
      harts_are = x.harts_are;
      hardware_are = x.hardware_are;
      stands_at = λ h l. x.stands_at h l ∙ e.stands_same h l;
      hart_is = λ h l. x.hart_is h l ∙ e.hart_same h l;
      waits_are = λ h l. x.waits_are h l ∙ e.waits_same h l;
      regions_are = x.regions_are ∙ e.regions_same;
      allowed_is = x.allowed_is ∙ e.allowed_same;
    }

-- one after the other
pub same_then : {n : ℕ} {u v w : View} → Same n u v → Same n v w → Same n u w
same_then x y =
    record {
      stands_same = λ h l. x.stands_same h l ∙ y.stands_same h l;
      hart_same = λ h l. x.hart_same h l ∙ y.hart_same h l;
      waits_same = λ h l. x.waits_same h l ∙ y.waits_same h l;
      regions_same = x.regions_same ∙ y.regions_same;
      allowed_same = x.allowed_same ∙ y.allowed_same;
    }

-- ---- the view after a request that is answered so

abbrev pub next_view : Answered → Says → View → View
next_view a u v =
    view (λ h. next_standing u.move h (v.stands h))
    (λ h. pick (is_who u.who (v.stands h) h) (changed u (v.waits h) h (v.hart h)) (v.hart h))
    (λ h. pick (u.empties && is_who u.who (v.stands h) h) [] (next_waits u.sends (λ c. reaches a u.who c v h) (v.waits h)))
    (unremoved u.removes v.regions ++ u.adds)
    (joined u.allows v.allowed)

-- the log with one more entry
pub log_next : (n : ℕ) (s : Setup) (e : Entry) (es : List Entry)
    → Same n (next_view e.answer (heard e) (view_of_log (log s es))) (view_of_log (log s (e ∷ es)))
log_next n s e es =
    record {
      stands_same = λ h l. sym (place_next e es h);
      hart_same = λ h l. sym (hart_next s e es h);
      waits_same = λ h l. sym (queue_next s e es h);
      regions_same = sym (regions_next e es);
      allowed_same = sym (allowed_next e es);
    }

-- a test that is the same below n
pub every_same : (f g : ℕ → Bool) (n : ℕ) → ((i : ℕ) → i < n → f i ≡ g i) → every f n ≡ every g n
unfolding every
every_same f g zero e = refl
every_same f g (suc n) e = rw (every_same f g n (λ i l. e i (omega arith)), e n (omega arith)) refl

module _ (n : ℕ) (v w : View) (e : Same n v w) where
  -- a broadcast reaches the same harts
  reaches_same : (a : Answered) (who : Who) (c : ConfidentialHartRemoteCommand) (h : ℕ) → h < n → reaches a who c v h ≡ reaches a who c w h
  reaches_same a who c h l =
      rw (gets h l)
      (ap (λ (b : Bool). receives c (is_who who (w.stands h) h) (w.stands h) (w.hart h).lifecycle h && (accepted a || b))
      (every_same _ _ _ (λ g b. rw (gets g (omega arith), e.waits_same g (omega arith)) refl)))
    where
      gets : (g : ℕ) → g < n
          → receives c (is_who who (v.stands g) g) (v.stands g) (v.hart g).lifecycle g
          ≡ receives c (is_who who (w.stands g) g) (w.stands g) (w.hart g).lifecycle g
      gets g b = rw (e.stands_same g b, e.hart_same g b) refl

  -- what is said makes equal views equal
  pub next_same : (a : Answered) (u : Says) → Same n (next_view a u v) (next_view a u w)
  next_same a u =
      record {
        stands_same = λ h l. ap (next_standing u.move h) (e.stands_same h l);
        hart_same = λ h l.
            ap (λ (at : Standing). pick (is_who u.who at h) (changed u (v.waits h) h (v.hart h)) (v.hart h)) (e.stands_same h l)
            ∙ ap
            (λ (q : List ConfidentialHartRemoteCommand). pick (is_who u.who (w.stands h) h) (changed u q h (v.hart h)) (v.hart h))
            (e.waits_same h l)
            ∙ ap (λ (x : ConfidentialHart). pick (is_who u.who (w.stands h) h) (changed u (w.waits h) h x) x) (e.hart_same h l);
        waits_same = λ h l.
            ap
            (λ (x : Standing). pick (u.empties && is_who u.who x h) [] (next_waits u.sends (λ c. reaches a u.who c v h) (v.waits h)))
            (e.stands_same h l)
            ∙ ap (λ (q : List ConfidentialHartRemoteCommand). pick (u.empties && is_who u.who (w.stands h) h) [] q)
            (ap (next_waits u.sends (λ c. reaches a u.who c v h)) (e.waits_same h l) ∙ sent u.sends h l);
        regions_same = ap (λ (rs : List ConfidentialVmMmioRegion). unremoved u.removes rs ++ u.adds) e.regions_same;
        allowed_same = ap (joined u.allows) e.allowed_same;
      }
    where
      sent : (o : Option ConfidentialHartRemoteCommand) (h : ℕ) → h < n
          → next_waits o (λ c. reaches a u.who c v h) (w.waits h) ≡ next_waits o (λ c. reaches a u.who c w h) (w.waits h)
      sent none h l = refl
      sent (some c) h l = rw (reaches_same a u.who c h l) refl

-- ---- what is said of no hart, and of one hart

-- nothing is removed and none added
pub same_regions : (rs : List ConfidentialVmMmioRegion) → rs ≡ unremoved [] rs ++ []
same_regions rs = sym (append-nil (unremoved [] rs) ∙ unremoved_none rs)

-- of no hart: moves, regions and the mask alone change
pub saying_next : (n : ℕ) (a : Answered) (move : Move) (adds removes : List ConfidentialVmMmioRegion) (bits : Option ℕ) (v : View)
    (regions : List ConfidentialVmMmioRegion) (mask : ℕ) → regions ≡ unremoved removes v.regions ++ adds → mask ≡ joined bits v.allowed
    → Same n (view (λ h. next_standing move h (v.stands h)) v.hart v.waits regions mask) (next_view a (saying move adds removes bits) v)
unfolding pick
saying_next n a move adds removes bits v regions mask p q =
    record { stands_same = λ h l. refl; hart_same = λ h l. refl; waits_same = λ h l. refl; regions_same = p; allowed_same = q }

-- a move alone
pub moving_next : (n : ℕ) (a : Answered) (move : Move) (v : View)
    → Same n (standing_at (λ h. next_standing move h (v.stands h)) v) (next_view a (moving move) v)
moving_next n a move v =
    saying_next n a move [] [] none v v.regions v.allowed (same_regions v.regions) refl

-- nothing at all
pub nothing_next : (n : ℕ) (a : Answered) (v : View) → Same n v (next_view a nothing v)
nothing_next n a v = moving_next n a stays v

-- of one hart: its record and the queues alone change
pub of_hart_next : (n : ℕ) (a : Answered) (who : Who) (lifecycle : Option ℕ) (registers : List ℕ → List ℕ) (wait : Option Wait) (empties : Bool)
    (does sends : Option ConfidentialHartRemoteCommand) (v : View)
    → Same n
    (having (λ h. pick (is_who who (v.stands h) h) (changed (of_hart who lifecycle registers wait empties does sends) (v.waits h) h (v.hart h)) (v.hart h))
    (λ h. pick (empties && is_who who (v.stands h) h) [] (next_waits sends (λ c. reaches a who c v h) (v.waits h)))
    v)
    (next_view a (of_hart who lifecycle registers wait empties does sends) v)
of_hart_next n a who lifecycle registers wait empties does sends v =
    record {
      stands_same = λ h l. refl;
      hart_same = λ h l. refl;
      waits_same = λ h l. refl;
      regions_same = same_regions v.regions;
      allowed_same = refl;
    }

module _ (n : ℕ) (a : Answered) (who : Who) (v : View) where
  -- a new lifecycle and other registers
  pub changing_next : (state : ℕ) (registers : List ℕ → List ℕ)
      → Same n
      (having (λ h. pick (is_who who (v.stands h) h) (moved state (registers (v.hart h).registers) (v.hart h)) (v.hart h)) v.waits v)
      (next_view a (changing who state registers) v)
  unfolding pick shuts_down any_of
  changing_next state registers =
      same_then
      (record { stands_same = λ h l. refl; hart_same = λ h l. refl; waits_same = λ h l. refl; regions_same = refl; allowed_same = refl })
      (of_hart_next n a who (some state) registers none false none none v)

  -- an operation to wait for
  pub waiting_next : (kind x y : ℕ)
      → Same n (having (λ h. pick (is_who who (v.stands h) h) (with_operation kind x y (v.hart h)) (v.hart h)) v.waits v)
      (next_view a (waiting who (wait_for kind x y)) v)
  unfolding pick shuts_down any_of
  waiting_next kind x y =
      same_then
      (record { stands_same = λ h l. refl; hart_same = λ h l. refl; waits_same = λ h l. refl; regions_same = refl; allowed_same = refl })
      (of_hart_next n a who none unchanged (some (wait_for kind x y)) false none none v)

  -- every queued command is done
  pub emptying_next
      : Same n
      (having (λ h. pick (is_who who (v.stands h) h) (after_doing (v.waits h) (v.hart h)) (v.hart h)) (λ h. pick (is_who who (v.stands h) h) [] (v.waits h)) v)
      (next_view a (emptying who none) v)
  unfolding pick
  emptying_next =
      same_then
      (record { stands_same = λ h l. refl; hart_same = λ h l. refl; waits_same = λ h l. refl; regions_same = refl; allowed_same = refl })
      (of_hart_next n a who none unchanged none true none none v)

  -- a command is sent, and the sender first does it
  pub broadcasting_next : (c : ConfidentialHartRemoteCommand)
      → Same n
      (having (λ h. pick (is_who who (v.stands h) h) (after_doing (selected (some c) h) (v.hart h)) (v.hart h))
      (λ h. pick (reaches a who c v h) (with_copy c (v.waits h)) (v.waits h))
      v)
      (next_view a (sending who (some c) c) v)
  unfolding pick
  broadcasting_next c =
      same_then
      (record { stands_same = λ h l. refl; hart_same = λ h l. refl; waits_same = λ h l. refl; regions_same = refl; allowed_same = refl })
      (of_hart_next n a who none unchanged none false (some c) (some c) v)

  -- a command is sent by one that does nothing itself
  pub sending_next : (c : ConfidentialHartRemoteCommand)
      → Same n (having v.hart (λ h. pick (reaches a who c v h) (with_copy c (v.waits h)) (v.waits h)) v)
      (next_view a (sending who none c) v)
  unfolding pick shuts_down any_of
  sending_next c =
      same_then
      (record {
        stands_same = λ h l. refl;
        hart_same = λ h l. by_pick (λ (x : ConfidentialHart). v.hart h ≡ x) (is_who who (v.stands h) h) _ _ (λ _. refl) (λ _. refl);
        waits_same = λ h l. refl;
        regions_same = refl;
        allowed_same = refl;
      })
      (of_hart_next n a who none unchanged none false none (some c) v)

-- every queued command is done, and an operation that is answered is taken
pub resuming_next : (n : ℕ) (a : Answered) (who : Who) (v : View)
    → Same n
    (having (λ h. pick (is_who who (v.stands h) h) (pick (is_taken a) (with_operation no_operation 0 0 (after_doing (v.waits h) (v.hart h))) (after_doing (v.waits h) (v.hart h))) (v.hart h))
    (λ h. pick (is_who who (v.stands h) h) [] (v.waits h))
    v)
    (next_view a (emptying who (taken a)) v)
unfolding pick
resuming_next n a who v =
    same_then
    (record {
      stands_same = λ h l. refl;
      hart_same = λ h l. ap (λ (x : ConfidentialHart). pick (is_who who (v.stands h) h) x (v.hart h)) (took a h);
      waits_same = λ h l. refl;
      regions_same = refl;
      allowed_same = refl;
    })
    (of_hart_next n a who none unchanged (taken a) true none none v)
  where
    took : (b : Answered) (h : ℕ)
        → pick (is_taken b) (with_operation no_operation 0 0 (after_doing (v.waits h) (v.hart h))) (after_doing (v.waits h) (v.hart h))
        ≡ changed (emptying who (taken b)) (v.waits h) h (v.hart h)
    took b h = by_test (is_taken b) (λ e. rw e) (λ e. rw e)
