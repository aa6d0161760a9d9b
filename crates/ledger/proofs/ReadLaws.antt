-- What one more entry makes of each row that is worked out. Assumes nothing.
use Prim.Native.Nat.{ℕ}
use mathlib.Core.Path.{◌≡◌, refl, sym, ap, ◌∙◌}
use mathlib.Core.Bool.{Bool, true, false, ◌&&◌, ◌||◌, or-false, or-true, or_assoc}
use mathlib.Core.List.{List, [], ◌∷◌, ◌++◌, append-nil}
use mathlib.Core.Option.{Option, none, some}
use lib.Dec.{eqb}
use Rattle.table_rows.specs.Choice.{pick}
use Rattle.table_rows.specs.Lists.{any_of}
use Rattle.table_rows.proofs.PickLaws.{by_test}
use Rattle.confidential_vm_mmio_region.specs.declared.ConfidentialVmMmioRegion.{ConfidentialVmMmioRegion}
use Rattle.mmio_regions.specs.Regions.{with_removed}
use Rattle.confidential_hart_remote_command.specs.declared.ConfidentialHartRemoteCommand.{ConfidentialHartRemoteCommand}
use Rattle.confidential_hart.specs.declared.ConfidentialHart.{ConfidentialHart}
use Rattle.confidential_hart.specs.Hart.{hart_of}
use Rattle.monitor_requests.specs.declared.Setup.{Setup}
use Rattle.monitor_requests.specs.Answers.{Answered}
use Rattle.hart_standing.specs.Standing.{Standing, at_home, on_hardware}
use Rattle.hart_standing.proofs.ChangedLaws.{View, view}
use Rattle.ledger.specs.Log.{Entry, Log, log, Move, stays, steals, returns, Who, wait_for, Says, is_some, heard}
use Rattle.ledger.specs.WorkedOut.{
  or_else,
  unwrap_or,
  latest,
  since,
  steals_hart,
  returns_by,
  unless_returned,
  place,
  is_who,
  about,
  with_copy,
  first_copies,
  full,
  receives,
  delivers,
  with_delivery,
  done_by,
  lifecycle_after,
  delivered,
  lifecycle,
  queue,
  registers,
  operation,
  drops,
  unremoved,
  added_until,
  regions,
  joined,
  allowed,
  real_hart,
}

-- ---- place

-- where a hart stands after a move
abbrev pub next_standing : Move → ℕ → Standing → Standing
next_standing stays h at = at
next_standing (steals g k) h at = pick (eqb g h) (on_hardware k) at
next_standing (returns k) h at_home = at_home
next_standing (returns k) h (on_hardware j) = pick (returns_by j (returns k)) at_home (on_hardware j)

-- a return after others: the hart is home, or it goes home
returned_after : (h j k : ℕ) (b : Bool) → pick (returns_by j (returns k) || b) at_home (on_hardware j) ≡ next_standing (returns k) h (pick b at_home (on_hardware j))
unfolding pick
returned_after h j k true = ap (λ (x : Bool). pick x at_home (on_hardware j)) (or-true (returns_by j (returns k)))
returned_after h j k false = ap (λ (x : Bool). pick x at_home (on_hardware j)) (or-false (returns_by j (returns k)))

module _ (h : ℕ) (e : Entry) (later : List Entry) where
  -- one more entry, by what was stolen last
  one_more : (u : Move) → (heard e).move ≡ u → (o : Option ℕ)
      → unless_returned (or_else (steals_hart h u) o) (pick (is_some (steals_hart h u)) [] (e ∷ later)) ≡ next_standing u h (unless_returned o later)
  unfolding any_of pick
  one_more stays q none = refl
  one_more stays q (some k) = ap (λ (u : Move). pick (returns_by k u || any_of (λ x. returns_by k (heard x).move) later) at_home (on_hardware k)) q
  one_more (steals g k) q o = by_test (eqb g h) (λ b. rw b refl) (λ b. rw b (again o))
    where
      again : (o : Option ℕ) → unless_returned o (e ∷ later) ≡ unless_returned o later
      again none = refl
      again (some j) = ap (λ (u : Move). pick (returns_by j u || any_of (λ x. returns_by j (heard x).move) later) at_home (on_hardware j)) q
  one_more (returns k) q none = refl
  one_more (returns k) q (some j) =
      ap (λ (u : Move). pick (returns_by j u || any_of (λ x. returns_by j (heard x).move) later) at_home (on_hardware j)) q
      ∙ returned_after h j k (any_of (λ x. returns_by j (heard x).move) later)

-- where hart h stands
pub place_next : (e : Entry) (es : List Entry) (h : ℕ) → place (e ∷ es) h ≡ next_standing (heard e).move h (place es h)
unfolding place latest since
place_next e es h =
    one_more h e (since (λ u. steals_hart h u.move) es) (heard e).move refl (latest (λ u. steals_hart h u.move) es)

-- ---- the record

-- the record of a hart after a request that is about it
abbrev pub changed : Says → List ConfidentialHartRemoteCommand → ℕ → ConfidentialHart → ConfidentialHart
changed u waits h x =
    hart_of x.vm x.id (lifecycle_after u (done_by u waits h) x.lifecycle)
    (unwrap_or u.wait (wait_for x.operation x.x x.y)).kind
    (unwrap_or u.wait (wait_for x.operation x.x x.y)).x
    (unwrap_or u.wait (wait_for x.operation x.x x.y)).y
    (u.registers x.registers)

-- hart h's record: changed where the entry is about it
pub hart_next : (s : Setup) (e : Entry) (es : List Entry) (h : ℕ)
    → real_hart (log s (e ∷ es)) h ≡ pick (about e es h) (changed (heard e) (queue s es h) h (real_hart (log s es) h)) (real_hart (log s es) h)
unfolding real_hart lifecycle registers operation queue pick
hart_next s e es h = by_test (about e es h) (λ b. rw b refl) (λ b. rw b refl)

-- ---- the queue

-- the commands of a hart with one more, where it is delivered
abbrev pub next_waits : Option ConfidentialHartRemoteCommand → (ConfidentialHartRemoteCommand → Bool) → List ConfidentialHartRemoteCommand
    → List ConfidentialHartRemoteCommand
next_waits none gets waits = waits
next_waits (some c) gets waits = pick (gets c) (with_copy c waits) waits

-- first copies of what is delivered
copies_next : (o : Option ConfidentialHartRemoteCommand) (gets : ConfidentialHartRemoteCommand → Bool) (before : List ConfidentialHartRemoteCommand)
    → first_copies (with_delivery o gets before) ≡ next_waits o gets (first_copies before)
unfolding first_copies pick
copies_next none gets before = refl
copies_next (some c) gets before = by_test (gets c) (λ b. rw b refl) (λ b. rw b refl)

-- whether a broadcast that is answered so delivers c to hart h, by where harts stand, their records and their commands
abbrev pub reaches : Answered → Who → ConfidentialHartRemoteCommand → View → ℕ → Bool
reaches a who c v h =
    delivers a (λ g. receives c (is_who who (v.stands g) g) (v.stands g) (v.hart g).lifecycle g) (λ g. full (v.waits g)) h

-- what is worked out, side by side
abbrev pub view_of_log : Log → View
view_of_log l = view (place l.entries) (real_hart l) (queue l.setup l.entries) (regions l.entries) (allowed l.entries)

-- hart h's queue
pub queue_next : (s : Setup) (e : Entry) (es : List Entry) (h : ℕ)
    → queue s (e ∷ es) h
    ≡ pick ((heard e).empties && about e es h) []
    (next_waits (heard e).sends (λ c. reaches e.answer (heard e).who c (view_of_log (log s es)) h) (queue s es h))
unfolding queue delivered real_hart first_copies pick
queue_next s e es h =
    by_test ((heard e).empties && about e es h) (λ b. rw b refl)
    (λ b.
    rw b
    (copies_next (heard e).sends (λ c. reaches e.answer (heard e).who c (view_of_log (log s es)) h) (delivered s es h)))

-- ---- regions

-- none is removed
pub unremoved_none : (rs : List ConfidentialVmMmioRegion) → unremoved [] rs ≡ rs
unfolding unremoved any_of pick
unremoved_none [] = refl
unremoved_none (r ∷ rs) = ap (λ (xs : List ConfidentialVmMmioRegion). r ∷ xs) (unremoved_none rs)

-- one of two lists
any_join : {A : Type 0} (p : A → Bool) (xs ys : List A) → any_of p (xs ++ ys) ≡ any_of p xs || any_of p ys
unfolding any_of
any_join p [] ys = refl
any_join p (x ∷ xs) ys = ap (λ (b : Bool). p x || b) (any_join p xs ys) ∙ sym (or_assoc (p x) (any_of p xs) (any_of p ys))

-- two lots of removes, one after the other
unremoved_twice : (a b : List ConfidentialVmMmioRegion) (rs : List ConfidentialVmMmioRegion) → unremoved (a ++ b) rs ≡ unremoved b (unremoved a rs)
unfolding unremoved pick
unremoved_twice a b [] = refl
unremoved_twice a b (r ∷ rs) =
    by_test (any_of (λ q. drops q r) a)
    (λ e. rw (any_join (λ q. drops q r) a b, e) (unremoved_twice a b rs))
    (λ e.
    by_test (any_of (λ q. drops q r) b)
    (λ d. rw (any_join (λ q. drops q r) a b, e, d) (unremoved_twice a b rs))
    (λ d. rw (any_join (λ q. drops q r) a b, e, d) (ap (λ (xs : List ConfidentialVmMmioRegion). r ∷ xs) (unremoved_twice a b rs))))

-- removes of two lots of regions
unremoved_join : (a : List ConfidentialVmMmioRegion) (rs qs : List ConfidentialVmMmioRegion) → unremoved a (rs ++ qs) ≡ unremoved a rs ++ unremoved a qs
unfolding unremoved pick
unremoved_join a [] qs = refl
unremoved_join a (r ∷ rs) qs =
    by_test (any_of (λ q. drops q r) a) (λ e. rw e (unremoved_join a rs qs))
    (λ e. rw e (ap (λ (xs : List ConfidentialVmMmioRegion). r ∷ xs) (unremoved_join a rs qs)))

-- removes that come later may as well be taken off at the end
until_is : (removes : List ConfidentialVmMmioRegion) (es : List Entry) → added_until removes es ≡ unremoved removes (added_until [] es)
unfolding added_until unremoved
until_is removes [] = refl
until_is removes (e ∷ es) =
    let R = (heard e).removes in
    let A = (heard e).adds in
    ap (λ (xs : List ConfidentialVmMmioRegion). xs ++ unremoved removes A)
    (until_is (R ++ removes) es
    ∙ unremoved_twice R removes (added_until [] es)
    ∙ ap (unremoved removes) (sym (until_is (R ++ []) es ∙ ap (λ (q : List ConfidentialVmMmioRegion). unremoved q (added_until [] es)) (append-nil R))))
    ∙ ap (λ (xs : List ConfidentialVmMmioRegion). unremoved removes (added_until (R ++ []) es) ++ xs)
    (ap (unremoved removes) (sym (unremoved_none A)))
    ∙ sym (unremoved_join removes (added_until (R ++ []) es) (unremoved [] A))

-- the regions after one more entry
pub regions_next : (e : Entry) (es : List Entry) → regions (e ∷ es) ≡ unremoved (heard e).removes (regions es) ++ (heard e).adds
unfolding added_until
regions_next e es =
    let R = (heard e).removes in
    ap (λ (xs : List ConfidentialVmMmioRegion). xs ++ unremoved [] (heard e).adds)
    (until_is (R ++ []) es ∙ ap (λ (q : List ConfidentialVmMmioRegion). unremoved q (added_until [] es)) (append-nil R))
    ∙ ap (λ (xs : List ConfidentialVmMmioRegion). unremoved R (added_until [] es) ++ xs) (unremoved_none (heard e).adds)

-- one remove is what the tables do
pub unremoved_one : (q : ConfidentialVmMmioRegion) (rs : List ConfidentialVmMmioRegion) → unremoved (q ∷ []) rs ≡ with_removed q rs
unfolding unremoved with_removed any_of
unremoved_one q [] = refl
unremoved_one q (r ∷ rs) =
    rw (or-false (drops q r), unremoved_one q rs)

-- ---- the mask

-- the mask after one more entry
pub allowed_next : (e : Entry) (es : List Entry) → allowed (e ∷ es) ≡ joined (heard e).allows (allowed es)
unfolding allowed
allowed_next e es = refl
