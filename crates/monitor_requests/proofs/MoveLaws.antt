-- A steal, a return, a start and what is asked of a held hart keep tables sound. Assumes nothing.
use Prim.Native.Nat.{ℕ, ◌+◌, ◌*◌, ◌≤◌, ◌<◌}
use mathlib.Core.Path.{◌≡◌, refl, sym, ap, ◌∙◌}
use mathlib.Core.Logic.{◌≢◌}
use mathlib.Core.Bool.{true, false, not}
use mathlib.Core.List.{List}
use native.Mathlib.Omega.{arith}
use lib.ListN.{length}
use lib.Dec.{eqb}
use borrow.Author.Tests.{eqb-true, eqb-false, leb-true, leb-false, not-true, not-false}
use Rattle.table_rows.specs.Rows.{row, put}
use Rattle.table_rows.proofs.PickLaws.{by_test, and_left, and_right}
use Rattle.table_rows.proofs.RowLaws.{within, row_length, put_length, row_put_same, row_put_other}
use Rattle.hart_lifecycle_state.specs.declared.LifecycleChange.{LifecycleChange}
use Rattle.hart_lifecycle_state.specs.declared.LifecycleChange.TheVariants as changes
use Rattle.hart_lifecycle_state.specs.Lifecycle.{change_of}
use Rattle.hart_lifecycle_state.proofs.LifecycleLaws.{told}
use Rattle.confidential_hart.specs.declared.ConfidentialHart.{ConfidentialHart}
use Rattle.confidential_hart.specs.declared.ConfidentialHartId.{ConfidentialHartId}
use Rattle.confidential_hart.specs.declared.HardwareHartId.{HardwareHartId}
use Rattle.confidential_hart.specs.Hart.{no_vm, the_vm, register_count, no_operation, last_operation, is_dummy, with_operation, well_formed}
use Rattle.confidential_hart.specs.Transition.{transition, after_off}
use Rattle.confidential_hart.proofs.HartLaws.{formed_facts, operation_formed}
use Rattle.confidential_hart.proofs.StartLaws.{start_length, wake_length}
use Rattle.confidential_hart.proofs.TransitionLaws.{transition_keeps, transition_length, transition_formed}
use Rattle.hart_rows.specs.HartRows.{hart_words, from_words, to_words, hart_at}
use Rattle.hart_rows.proofs.HartRowLaws.{to_length, load_store, load_store_other}
use Rattle.monitor_requests.specs.declared.Request.TheVariants.{Steal, Return, Start, Suspend, Stop, Wake, Off, Await}
use Rattle.monitor_requests.specs.Tables.{Tables, tables, harts, hardware_harts, home_hart, hardware_hart, row_sound, home_row_sound, hardware_row_sound, sound, Sized}
use Rattle.monitor_requests.specs.Requests.{with_home, with_held, exchanged, tests, effect, performed}
use Rattle.monitor_requests.proofs.JudgedLaws.{effect_sound}
use Rattle.monitor_requests.proofs.SoundLaws.{
  Names,
  row_formed,
  row_own,
  row_names,
  sound_own,
  sound_names,
  Sound,
  sound_facts,
  facts_sound,
  home_formed,
  hardware_formed,
  held_names,
}

-- ---- a row, once rows changed

-- two records that tie alike: they are of one VM and have one number
pub record Alike (x y : ConfidentialHart) : Type 0 where
  pub vm_same : y.vm ≡ x.vm
  pub id_same : y.id ≡ x.id

-- equal records tie alike
pub alike : {x y : ConfidentialHart} → y ≡ x → Alike x y
alike e = record { vm_same = ap (λ (r : ConfidentialHart). r.vm) e; id_same = ap (λ (r : ConfidentialHart). r.id) e }

-- a row stays sound where its record ties as before, and where the record that it names in the other table does
pub row_kept : (own : ℕ) (a b a' b' : List ℕ) (count i : ℕ) → row_sound own a b count i ≡ true → well_formed (hart_at a' i) ≡ true
    → Alike (hart_at a i) (hart_at a' i)
    → (Names own a b count i → Alike (hart_at b (hart_at a i).id) (hart_at b' (hart_at a i).id))
    → row_sound own a' b' count i ≡ true
row_kept own a b a' b' count i s w here other =
    by_test (eqb (hart_at a i).vm own)
    (λ e.
    let p : (hart_at a i).vm ≡ own = eqb-true _ _ e in
    sound_own own a' b' count i w (here.vm_same ∙ p) (here.id_same ∙ row_own own a b count i s p))
    (λ e.
    let p : (hart_at a i).vm ≢ own = eqb-false _ _ e in
    let n = row_names own a b count i s p in
    let o = other n in
    sound_names own a' b' count i w (λ q. p (sym here.vm_same ∙ q))
    (record {
      there = rw here.id_same n.there;
      held = rw here.id_same (o.vm_same ∙ n.held);
      back = rw here.id_same (o.id_same ∙ n.back);
    }))

-- ---- the exchange of two rows, said of one table: by turning the two about it is said of the other

-- row h of a and row k of b are exchanged, and the other rows are as they were
pub record Exchange (a b a' b' : List ℕ) (n m h k : ℕ) : Type 0 where
  pub h_below : h < n
  pub k_below : k < m
  pub h_holds : hart_at a' h ≡ hart_at b k
  pub k_holds : hart_at b' k ≡ hart_at a h
  pub a_others : (i : ℕ) → i < n → i ≢ h → hart_at a' i ≡ hart_at a i
  pub b_others : (i : ℕ) → i < m → i ≢ k → hart_at b' i ≡ hart_at b i

-- the same exchange, said of the other table
pub turned : {a b a' b' : List ℕ} {n m h k : ℕ} → Exchange a b a' b' n m h k → Exchange b a b' a' m n k h
turned x =
    record {
      h_below = x.k_below;
      k_below = x.h_below;
      h_holds = x.k_holds;
      k_holds = x.h_holds;
      a_others = x.b_others;
      b_others = x.a_others;
    }

module _ (own : ℕ) (a b a' b' : List ℕ) (n m h k : ℕ) (x : Exchange a b a' b' n m h k) (w : well_formed (hart_at b k) ≡ true) where
  -- what comes to row h is well formed
  w' : well_formed (hart_at a' h) ≡ true
  w' = rw x.h_holds w

  -- both rows held their own: now they name each other
  pub row_left : (hart_at a h).vm ≡ own → (hart_at a h).id ≡ h → (hart_at b k).vm ≢ own → (hart_at b k).id ≡ k → row_sound own a' b' m h ≡ true
  row_left p q r s =
      let id : (hart_at a' h).id ≡ k = ap (λ (y : ConfidentialHart). y.id) x.h_holds ∙ s in
      sound_names own a' b' m h w' (λ e. r (sym (ap (λ (y : ConfidentialHart). y.vm) x.h_holds) ∙ e))
      (record {
        there = rw id x.k_below;
        held = rw id (ap (λ (y : ConfidentialHart). y.vm) x.k_holds ∙ p);
        back = rw id (ap (λ (y : ConfidentialHart). y.id) x.k_holds ∙ q);
      })

  -- row k held what is row h's own: now row h holds it
  pub row_back : (hart_at b k).vm ≡ own → (hart_at b k).id ≡ h → row_sound own a' b' m h ≡ true
  row_back p q =
      sound_own own a' b' m h w'
      (ap (λ (y : ConfidentialHart). y.vm) x.h_holds ∙ p)
      (ap (λ (y : ConfidentialHart). y.id) x.h_holds ∙ q)

  -- so all rows are sound, where no other row names row k
  pub rows_kept : ((hart_at b k).vm ≡ own → (hart_at b k).id ≡ h) → ((i : ℕ) → i < n → row_sound own a b m i ≡ true)
      → row_sound own a' b' m h ≡ true
      → (i : ℕ) → i < n → row_sound own a' b' m i ≡ true
  rows_kept only s here i l =
      by_test (eqb i h)
      (λ e. rw (eqb-true i h e) here)
      (λ e.
      let ne : i ≢ h = eqb-false i h e in
      let same : hart_at a' i ≡ hart_at a i = x.a_others i l ne in
      row_kept own a b a' b' m i (s i l) (rw same (row_formed own a b m i (s i l))) (alike same)
      (λ r.
      alike (x.b_others (hart_at a i).id r.there
      (λ q.
      let v : (hart_at b k).vm ≡ own = rw q at r.held in
      let j : (hart_at b k).id ≡ i = rw q at r.back in
      ne (sym j ∙ only v)))))

-- ---- the rows of sound tables

module _ (t : Tables) (z : Sized t) (i : ℕ) where
  -- a home row lies within its table
  pub home_fits : i < harts t → i * hart_words + hart_words ≤ length t.home
  home_fits l = omega (arith, within hart_words i (harts t) l, z.long.home_long)

  -- so does a hardware row
  pub hardware_fits : i < hardware_harts t → i * hart_words + hart_words ≤ length t.hardware
  hardware_fits l = omega (arith, within hart_words i (hardware_harts t) l, z.long.hardware_long)

-- sound tables with other rows, as many words of them, are sound where each row is
pub rows_sound : (t : Tables) → Sound t → (home hardware : List ℕ) → length home ≡ length t.home → length hardware ≡ length t.hardware
    → ((h : ℕ) → h < harts t → row_sound the_vm home hardware (hardware_harts t) h ≡ true)
    → ((k : ℕ) → k < hardware_harts t → row_sound no_vm hardware home (harts t) k ≡ true)
    → sound (tables t.head home hardware t.queues t.regions) ≡ true
rows_sound t f home hardware e d at_home on_hardware_lem =
    let z = f.sized in
    facts_sound (tables t.head home hardware t.queues t.regions)
    (record {
      sized = record {
        some_harts = z.some_harts;
        few_harts = z.few_harts;
        some_hardware = z.some_hardware;
        few_hardware = z.few_hardware;
        few_regions = z.few_regions;
        long = record {
          head_long = z.long.head_long;
          home_long = rw e z.long.home_long;
          hardware_long = rw d z.long.hardware_long;
          queues_long = z.long.queues_long;
          regions_long = z.long.regions_long;
        };
      };
      home_row_lem = at_home;
      hardware_row_lem = on_hardware_lem;
      queue_formed = f.queue_formed;
      regions_sound_lem = f.regions_sound_lem;
    })

-- ---- the exchange of home row h and hardware row k

module _ (t : Tables) (s : sound t ≡ true) (h k : ℕ) (lh : h < harts t) (lk : k < hardware_harts t) where
  abbrev f : Sound t
  f = sound_facts t s

  abbrev z : Sized t
  z = f.sized

  home_row_long : length (row hart_words t.home h) ≡ hart_words
  home_row_long = row_length hart_words t.home h (home_fits t z h lh)

  hardware_row_long : length (row hart_words t.hardware k) ≡ hart_words
  hardware_row_long = row_length hart_words t.hardware k (hardware_fits t z k lk)

  -- the rows of the tables are exchanged so
  pub exchange : Exchange t.home t.hardware (exchanged h k t).home (exchanged h k t).hardware (harts t) (hardware_harts t) h k
  unfolding hart_at
  exchange =
      record {
        h_below = lh;
        k_below = lk;
        h_holds = ap from_words (row_put_same hart_words t.home h (home_fits t z h lh) (row hart_words t.hardware k) hardware_row_long);
        k_holds = ap from_words (row_put_same hart_words t.hardware k (hardware_fits t z k lk) (row hart_words t.home h) home_row_long);
        a_others = λ i l ne.
            ap from_words
            (row_put_other hart_words t.home h (home_fits t z h lh) (row hart_words t.hardware k) hardware_row_long i ne (home_fits t z i l));
        b_others = λ i l ne.
            ap from_words
            (row_put_other hart_words t.hardware k (hardware_fits t z k lk) (row hart_words t.home h) home_row_long i ne (hardware_fits t z i l));
      }

  -- the home rows are as long as before
  pub home_long : length (exchanged h k t).home ≡ length t.home
  home_long = put_length hart_words t.home h (home_fits t z h lh) (row hart_words t.hardware k) hardware_row_long

  -- so are the hardware rows
  pub hardware_long : length (exchanged h k t).hardware ≡ length t.hardware
  hardware_long = put_length hart_words t.hardware k (hardware_fits t z k lk) (row hart_words t.home h) home_row_long

  -- the tables are sound where the two rows are, and where no other row names them
  both_sound : ((hardware_hart t k).vm ≡ the_vm → (hardware_hart t k).id ≡ h) → ((home_hart t h).vm ≡ no_vm → (home_hart t h).id ≡ k)
      → home_row_sound (exchanged h k t) h ≡ true
      → hardware_row_sound (exchanged h k t) k ≡ true
      → sound (exchanged h k t) ≡ true
  both_sound only-h only-k here-h here-k =
      rows_sound t f (exchanged h k t).home (exchanged h k t).hardware home_long hardware_long
      (rows_kept the_vm t.home t.hardware (exchanged h k t).home (exchanged h k t).hardware (harts t) (hardware_harts t) h k
      exchange
      (hardware_formed t s k lk)
      only-h
      f.home_row_lem
      here-h)
      (rows_kept no_vm t.hardware t.home (exchanged h k t).hardware (exchanged h k t).home (hardware_harts t) (harts t) k h
      (turned exchange)
      (home_formed t s h lh)
      only-k
      f.hardware_row_lem
      here-k)

  -- a real hart at home and a dummy: they leave their rows
  pub left_sound : (home_hart t h).vm ≢ no_vm → (hardware_hart t k).vm ≡ no_vm → sound (exchanged h k t) ≡ true
  left_sound real idle =
      let one : (home_hart t h).vm ≡ the_vm = omega (arith, (formed_facts (home_hart t h) (home_formed t s h lh)).vm_known) in
      let ih : (home_hart t h).id ≡ h = row_own the_vm t.home t.hardware (hardware_harts t) h (f.home_row_lem h lh) one in
      let ik : (hardware_hart t k).id ≡ k = row_own no_vm t.hardware t.home (harts t) k (f.hardware_row_lem k lk) idle in
      both_sound (λ e. absurd (omega arith)) (λ e. absurd (real e))
      (row_left the_vm t.home t.hardware (exchanged h k t).home (exchanged h k t).hardware (harts t) (hardware_harts t) h k
      exchange
      (hardware_formed t s k lk)
      one
      ih
      (λ e. absurd (omega arith))
      ik)
      (row_left no_vm t.hardware t.home (exchanged h k t).hardware (exchanged h k t).home (hardware_harts t) (harts t) k h
      (turned exchange)
      (home_formed t s h lh)
      idle
      ik
      real
      ih)

  -- real hart h on hardware and dummy k at home: they come back to their rows
  pub back_sound : (hardware_hart t k).vm ≢ no_vm → (hardware_hart t k).id ≡ h → (home_hart t h).vm ≡ no_vm → (home_hart t h).id ≡ k
      → sound (exchanged h k t) ≡ true
  back_sound real ih idle ik =
      let one : (hardware_hart t k).vm ≡ the_vm = omega (arith, (formed_facts (hardware_hart t k) (hardware_formed t s k lk)).vm_known) in
      both_sound (λ e. ih) (λ e. ik)
      (row_back the_vm t.home t.hardware (exchanged h k t).home (exchanged h k t).hardware (harts t) (hardware_harts t) h k
      exchange
      (hardware_formed t s k lk)
      one
      ih)
      (row_back no_vm t.hardware t.home (exchanged h k t).hardware (exchanged h k t).home (hardware_harts t) (harts t) k h
      (turned exchange)
      (home_formed t s h lh)
      idle
      ik)

-- ---- a record written anew, said of one table: by turning the two about it is said of the other

module _ (own other : ℕ) (a b : List ℕ) (n m : ℕ) (fits : (i : ℕ) → i < n → i * hart_words + hart_words ≤ length a)
    (sound-a : (i : ℕ) → i < n → row_sound own a b m i ≡ true) (sound-b : (j : ℕ) → j < m → row_sound other b a n j ≡ true) (i : ℕ) (l : i < n)
    (y : ConfidentialHart) (six : length y.registers ≡ register_count) (w : well_formed y ≡ true) (same : Alike (hart_at a i) y) where
  -- the rows with y in row i
  abbrev a' : List ℕ
  a' = put hart_words a i (to_words y)

  all_alike : (j : ℕ) → j < n → Alike (hart_at a j) (hart_at a' j)
  all_alike j lj =
      by_test (eqb j i)
      (λ e. rw (eqb-true j i e, load_store a i (fits i l) y six) same)
      (λ e. alike (load_store_other a i (fits i l) y j (eqb-false j i e) (fits j lj)))

  all_formed : (j : ℕ) → j < n → well_formed (hart_at a' j) ≡ true
  all_formed j lj =
      by_test (eqb j i)
      (λ e. rw (eqb-true j i e, load_store a i (fits i l) y six) w)
      (λ e. rw (load_store_other a i (fits i l) y j (eqb-false j i e) (fits j lj)) (row_formed own a b m j (sound-a j lj)))

  -- they stay sound where y is well formed and ties as the old record
  pub written_rows : (j : ℕ) → j < n → row_sound own a' b m j ≡ true
  written_rows j lj = row_kept own a b a' b m j (sound-a j lj) (all_formed j lj) (all_alike j lj) (λ r. alike refl)

  -- so do those of the other table
  pub naming_rows : (j : ℕ) → j < m → row_sound other b a' n j ≡ true
  naming_rows j lj =
      row_kept other b a b a' n j (sound-b j lj) (row_formed other b a n j (sound-b j lj)) (alike refl)
      (λ r. all_alike (hart_at b j).id r.there)

  -- they are as long as before
  pub written_long : length a' ≡ length a
  written_long = put_length hart_words a i (fits i l) (to_words y) (to_length y)

module _ (t : Tables) (s : sound t ≡ true) (i : ℕ) (y : ConfidentialHart) (six : length y.registers ≡ register_count) (w : well_formed y ≡ true) where
  abbrev facts : Sound t
  facts = sound_facts t s

  -- a home row
  pub home_written_sound : i < harts t → Alike (home_hart t i) y → sound (with_home (put hart_words t.home i (to_words y)) t) ≡ true
  home_written_sound l same =
      let fits = home_fits t facts.sized in
      rows_sound t facts (put hart_words t.home i (to_words y)) t.hardware
      (written_long the_vm no_vm t.home t.hardware (harts t) (hardware_harts t) fits facts.home_row_lem facts.hardware_row_lem i l y six w same)
      refl
      (written_rows the_vm no_vm t.home t.hardware (harts t) (hardware_harts t) fits facts.home_row_lem facts.hardware_row_lem i l y six w same)
      (naming_rows the_vm no_vm t.home t.hardware (harts t) (hardware_harts t) fits facts.home_row_lem facts.hardware_row_lem i l y six w same)

  -- a hardware row
  pub held_written_sound : i < hardware_harts t → Alike (hardware_hart t i) y → sound (with_held i y t) ≡ true
  held_written_sound l same =
      let fits = hardware_fits t facts.sized in
      rows_sound t facts t.home (put hart_words t.hardware i (to_words y)) refl
      (written_long no_vm the_vm t.hardware t.home (hardware_harts t) (harts t) fits facts.hardware_row_lem facts.home_row_lem i l y six w same)
      (naming_rows no_vm the_vm t.hardware t.home (hardware_harts t) (harts t) fits facts.hardware_row_lem facts.home_row_lem i l y six w same)
      (written_rows no_vm the_vm t.hardware t.home (hardware_harts t) (harts t) fits facts.hardware_row_lem facts.home_row_lem i l y six w same)

-- a record of a table has six registers
pub six_registers : (rows : List ℕ) (i : ℕ) → length (hart_at rows i).registers ≡ register_count
unfolding hart_at
six_registers rows i = refl

-- a transition keeps the record's VM and its number, and the record stays well formed
module _ (t : Tables) (s : sound t ≡ true) (c : LifecycleChange) (idle : ℕ) (g : List ℕ) (i : ℕ) where
  changed_alike : (h : ConfidentialHart) → Alike h (transition (change_of c) idle g h).hart
  changed_alike h =
      let kept = transition_keeps (change_of c) idle h g in
      record { vm_same = kept.vm_kept; id_same = kept.id_kept }

  -- of a hart at home
  pub home_changed_sound : i < harts t → length g ≡ length (home_hart t i).registers
      → sound (with_home (put hart_words t.home i (to_words (transition (change_of c) idle g (home_hart t i)).hart)) t) ≡ true
  home_changed_sound l long =
      home_written_sound t s i (transition (change_of c) idle g (home_hart t i)).hart
      (transition_length (change_of c) idle (home_hart t i) g long ∙ six_registers t.home i)
      (transition_formed (change_of c) idle (home_hart t i) (told c (home_hart t i).lifecycle) g (home_formed t s i l))
      l
      (changed_alike (home_hart t i))

  -- of a held hart
  pub held_changed_sound : i < hardware_harts t → length g ≡ length (hardware_hart t i).registers
      → sound (with_held i (transition (change_of c) idle g (hardware_hart t i)).hart t) ≡ true
  held_changed_sound l long =
      held_written_sound t s i (transition (change_of c) idle g (hardware_hart t i)).hart
      (transition_length (change_of c) idle (hardware_hart t i) g long ∙ six_registers t.hardware i)
      (transition_formed (change_of c) idle (hardware_hart t i) (told c (hardware_hart t i).lifecycle) g (hardware_formed t s i l))
      l
      (changed_alike (hardware_hart t i))

module _ (t : Tables) (s : sound t ≡ true) (k : ℕ) (l : k < hardware_harts t) where
  -- a held hart that is powered off
  pub off_held_sound : sound (with_held k (after_off (hardware_hart t k)).hart t) ≡ true
  off_held_sound = held_changed_sound t s changes.Off _ _ k l refl

  -- a held hart with an operation there is, or with none and two zeros
  pub operation_held_sound : is_dummy (hardware_hart t k) ≡ false → (operation x y : ℕ) → operation ≤ last_operation → (operation ≡ no_operation → x ≡ 0)
      → (operation ≡ no_operation → y ≡ 0)
      → sound (with_held k (with_operation operation x y (hardware_hart t k)) t) ≡ true
  operation_held_sound real operation x y known no-x no-y =
      held_written_sound t s k (with_operation operation x y (hardware_hart t k)) (six_registers t.hardware k)
      (operation_formed (hardware_hart t k) (hardware_formed t s k l) real operation x y known no-x no-y)
      l
      (record { vm_same = refl; id_same = refl })

-- ---- the requests

-- a steal leaves sound tables sound
pub steal_sound : (hart : ConfidentialHartId) (on : HardwareHartId) (t : Tables) (effects : List ℕ) → sound t ≡ true
    → sound (performed (Steal hart on) t effects).after ≡ true
unfolding tests effect
steal_sound hart on t effects s =
    effect_sound (Steal hart on) t effects s (λ p.
    left_sound t s hart.0 on.0 (leb-false _ _ p.1.1.1.0) (leb-false _ _ p.1.0) (eqb-false _ _ p.1.1.1.1.0)
    (eqb-true _ _ (not-false _ p.1.1.0)))

-- a return leaves them sound
pub return_sound : (on : HardwareHartId) (t : Tables) (effects : List ℕ) → sound t ≡ true → sound (performed (Return on) t effects).after ≡ true
unfolding tests effect
return_sound on t effects s =
    effect_sound (Return on) t effects s (λ p.
    let l = leb-false _ _ p.1.0 in
    let n = held_names t s on.0 l p.1.1.0 in
    back_sound t s (hardware_hart t on.0).id on.0 n.there l (eqb-false _ _ p.1.1.0) refl n.held n.back)

-- a start leaves them sound
pub start_sound : (hart : ConfidentialHartId) (address opaque : ℕ) (t : Tables) (effects : List ℕ) → sound t ≡ true
    → sound (performed (Start hart address opaque) t effects).after ≡ true
unfolding tests effect
start_sound hart address opaque t effects s =
    effect_sound (Start hart address opaque) t effects s (λ p.
    home_changed_sound t s changes.Start _ _ hart.0 (leb-false _ _ p.1.0)
    (start_length (home_hart t hart.0).id address opaque (home_hart t hart.0).registers))

-- so does a suspend
pub suspend_sound : (on : HardwareHartId) (t : Tables) (effects : List ℕ) → sound t ≡ true → sound (performed (Suspend on) t effects).after ≡ true
unfolding tests effect
suspend_sound on t effects s = effect_sound (Suspend on) t effects s (λ p. held_changed_sound t s changes.Suspend _ _ on.0 (leb-false _ _ p.1.0) refl)

-- a stop
pub stop_sound : (on : HardwareHartId) (t : Tables) (effects : List ℕ) → sound t ≡ true → sound (performed (Stop on) t effects).after ≡ true
unfolding tests effect
stop_sound on t effects s = effect_sound (Stop on) t effects s (λ p. held_changed_sound t s changes.Stop _ _ on.0 (leb-false _ _ p.1.0) refl)

-- a wake
pub wake_sound : (on : HardwareHartId) (address opaque : ℕ) (t : Tables) (effects : List ℕ) → sound t ≡ true → sound (performed (Wake on address opaque) t effects).after ≡ true
unfolding tests effect
wake_sound on address opaque t effects s =
    effect_sound (Wake on address opaque) t effects s (λ p.
    held_changed_sound t s changes.Wake _ _ on.0 (leb-false _ _ p.1.0) (wake_length address opaque (hardware_hart t on.0).registers))

-- an off
pub off_sound : (on : HardwareHartId) (t : Tables) (effects : List ℕ) → sound t ≡ true → sound (performed (Off on) t effects).after ≡ true
unfolding tests effect
off_sound on t effects s = effect_sound (Off on) t effects s (λ p. off_held_sound t s on.0 (leb-false _ _ p.1.0))

-- and an await
pub await_sound : (on : HardwareHartId) (kind x y : ℕ) (t : Tables) (effects : List ℕ) → sound t ≡ true → sound (performed (Await on kind x y) t effects).after ≡ true
unfolding tests effect
await_sound on kind x y t effects s =
    effect_sound (Await on kind x y) t effects s (λ p.
    let known = not-false _ p.1.0 in
    let some = eqb-false _ _ (not-true _ (and_left (not (eqb kind no_operation)) _ known)) in
    operation_held_sound t s on.0 (leb-false _ _ p.1.1.0) p.1.1.1.0 kind x y
    (leb-true _ _ (and_right (not (eqb kind no_operation)) _ known))
    (λ e. absurd (some e))
    (λ e. absurd (some e)))
