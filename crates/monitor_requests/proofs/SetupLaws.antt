-- An accepted setup leaves sound tables, whatever stood there, and what they hold then. Assumes nothing.
use Rattle.std.proofs.Common.{Ok, Err}
use Prim.Native.Nat.{ℕ, zero, suc, ◌*◌, ◌<◌}
use mathlib.Core.Path.{◌≡◌, refl, sym, ap, ◌∙◌}
use mathlib.Core.Bool.{Bool, true, not, ◌&&◌}
use mathlib.Core.List.{List, [], ◌∷◌, ◌++◌}
use native.Mathlib.Nat.{zero-mul, suc-mul}
use native.Mathlib.Omega.{arith}
use lib.ListN.{length, replicate, length-append, length-replicate, replicate-append-replicate}
use lib.Seq.{take_at}
use lib.Dec.{ltb}
use borrow.Author.Tests.{ltb-true, not-false}
use Rattle.error.specs.declared.Error.{Error}
use Rattle.table_rows.specs.Rows.{row, rows_of}
use Rattle.table_rows.specs.Lists.{up_to, all_of}
use Rattle.table_rows.proofs.PickLaws.{yes, no, by_pick, by_test, and_left, and_right}
use Rattle.table_rows.proofs.RunLaws.{over_length, run_length, run_row}
use Rattle.table_rows.proofs.ZeroLaws.{zeros_all_zero}
use Rattle.confidential_hart.specs.declared.ConfidentialHart.{ConfidentialHart}
use Rattle.confidential_hart.specs.Hart.{no_vm, the_vm, register_count, well_formed, dummy}
use Rattle.confidential_hart.proofs.HartLaws.{dummy_formed, reset_formed, boot_formed}
use Rattle.hart_rows.specs.HartRows.{hart_words, from_words, to_words, hart_at}
use Rattle.hart_rows.proofs.HartRowLaws.{to_length, from_to}
use Rattle.remote_commands.specs.Queue.{queue_words, queue_well_formed, emptied}
use Rattle.remote_commands.proofs.OfferLaws.{emptied_well_formed}
use Rattle.mmio_regions.specs.Regions.{max_regions}
use Rattle.mmio_regions.specs.Table.{region_words, standing, regions_sound}
use Rattle.mmio_regions.proofs.SoundLaws as regions
use Rattle.monitor_requests.specs.declared.Setup.{Setup}
use Rattle.monitor_requests.specs.declared.Answer.TheVariants.{Done}
use Rattle.monitor_requests.specs.Tables.{
  Tables,
  harts,
  hardware_harts,
  allowed,
  home_hart,
  hardware_hart,
  queue,
  regions_of,
  counts_in_range,
  long_enough,
  Long,
  sound,
}
use Rattle.monitor_requests.specs.Requests.{Outcome, answering, setup_hart, fresh, setup_tests, set_up}
use Rattle.monitor_requests.proofs.SoundLaws.{
  sound_own,
  long_facts,
  range_some_harts,
  range_few_harts,
  range_some_hardware,
  range_few_hardware,
  facts_sound,
}

-- ---- a setup that is accepted

-- a refusal is not done
not_done : (e : Error) → Err e ≡ Ok Done → ⊥
not_done e p = let z : ◌≡◌ {A = ℕ} 0 1 = cc in omega arith

-- what an accepted setup tells: counts in range, a boot hart that is there, tables long enough, and the outcome
pub record Accepted (s : Setup) (t : Tables) : Type 0 where
  pub ranged : counts_in_range s.harts s.hardware ≡ true
  pub boots : s.boot < s.harts
  pub long : Long t s.harts s.hardware
  pub done : set_up s t ≡ answering (Ok Done) (fresh s t) []

module _ (s : Setup) (t : Tables) where
  abbrev range : Bool
  range = counts_in_range s.harts s.hardware

  abbrev below : Bool
  below = ltb s.boot s.harts

  abbrev roomy : Bool
  roomy = long_enough t s.harts s.hardware

  -- a setup that answers done is accepted
  pub accepted : (set_up s t).answer ≡ Ok Done → Accepted s t
  unfolding set_up setup_tests
  accepted e =
      by_test (not (range && below))
      (λ r. absurd (not_done _ (ap (λ (o : Outcome). o.answer) (yes _ r refl) ∙ e)))
      (λ in_range.
      by_test (not roomy)
      (λ r. absurd (not_done _ (ap (λ (o : Outcome). o.answer) (no _ in_range (yes _ r refl)) ∙ e)))
      (λ long.
      let both : range && below ≡ true = not-false _ in_range in
      record {
        ranged = and_left range below both;
        boots = ltb-true _ _ (and_right range below both);
        long = long_facts t s.harts s.hardware (not-false _ long);
        done = sym (no _ in_range (no _ long refl));
      }))

-- ---- the harts

module _ (s : Setup) (h : ℕ) where
  -- each hart of a setup, the boot hart or one after a reset, is well formed
  pub setup_formed : well_formed (setup_hart s h) ≡ true
  setup_formed =
      by_pick (λ (x : ConfidentialHart). well_formed x ≡ true) _ _ _
      (λ _. boot_formed h s.mepc s.a1 s.vsatp s.vsstatus)
      (λ _. reset_formed h)

  -- it is of the one VM
  pub setup_vm : (setup_hart s h).vm ≡ the_vm
  setup_vm = by_pick (λ (x : ConfidentialHart). x.vm ≡ the_vm) _ _ _ (λ _. refl) (λ _. refl)

  -- it has its row's number
  pub setup_id : (setup_hart s h).id ≡ h
  setup_id = by_pick (λ (x : ConfidentialHart). x.id ≡ h) _ _ _ (λ _. refl) (λ _. refl)

  -- it has six registers
  pub setup_registers : length (setup_hart s h).registers ≡ register_count
  setup_registers = by_pick (λ (x : ConfidentialHart). length x.registers ≡ register_count) _ _ _ (λ _. refl) (λ _. refl)

-- a row of records written one after the other, whatever follows
run_hart : (f : ℕ → ConfidentialHart) (n : ℕ) (ys : List ℕ) (i : ℕ) → i < n → length (f i).registers ≡ register_count
    → hart_at (rows_of (λ h. to_words (f h)) n ++ ys) i ≡ f i
unfolding hart_at
run_hart f n ys i l six =
    ap from_words (run_row hart_words (λ h. to_words (f h)) (λ h. to_length (f h)) n ys i l) ∙ from_to (f i) six

-- ---- zeros

-- they are rows of zeros
zeros_rows : (w n : ℕ) → replicate (n * w) 0 ≡ rows_of (λ _. replicate w 0) n
unfolding rows_of
zeros_rows w zero = ap (λ (k : ℕ). replicate k 0) (zero-mul w)
zeros_rows w (suc n) =
    ap (λ (k : ℕ). replicate k 0) (suc-mul n w)
    ∙ sym (replicate-append-replicate (n * w) w 0)
    ∙ ap (λ (zs : List ℕ). zs ++ replicate w 0) (zeros_rows w n)

zeros_row : (w n : ℕ) (ys : List ℕ) (i : ℕ) → i < n → row w (replicate (n * w) 0 ++ ys) i ≡ replicate w 0
zeros_row w n ys i l =
    ap (λ (zs : List ℕ). row w (zs ++ ys) i) (zeros_rows w n)
    ∙ run_row w (λ _. replicate w 0) (λ _. length-replicate {A = ℕ} w 0) n ys i l

-- they are a region table in which none stands
zeros_sound : (n : ℕ) (ys : List ℕ) → n ≡ max_regions * region_words → regions_sound (replicate n 0 ++ ys) 0 ≡ true
unfolding standing up_to all_of
zeros_sound n ys e =
    regions.sound_of (replicate n 0 ++ ys) 0 (record {
      sized = record { room = simp (length-append, length-replicate) (omega arith); few = omega arith };
      upright = refl;
      empty = rw (take_at (replicate n 0) ys (max_regions * region_words) (length-replicate n 0 ∙ e)) (zeros_all_zero n);
    })

-- ---- the tables at setup

-- what they hold
pub record SetUp (s : Setup) (t : Tables) : Type 0 where
  pub harts_set : harts t ≡ s.harts
  pub hardware_set : hardware_harts t ≡ s.hardware
  pub none_allowed : allowed t ≡ 0
  pub at_home_lem : (h : ℕ) → h < s.harts → home_hart t h ≡ setup_hart s h
  pub dummies : (k : ℕ) → k < s.hardware → hardware_hart t k ≡ dummy k
  pub none_waits : (h : ℕ) → h < s.harts → queue t h ≡ emptied
  pub none_stands : regions_of t ≡ []

-- the tables at setup hold it
pub fresh_rows : (s : Setup) (t : Tables) → SetUp s (fresh s t)
unfolding emptied standing up_to
fresh_rows s t = record {
  harts_set = refl;
  hardware_set = refl;
  none_allowed = refl;
  at_home_lem = λ h l. run_hart (setup_hart s) s.harts _ h l (setup_registers s h);
  dummies = λ k l. run_hart dummy s.hardware _ k l refl;
  none_waits = λ h l. zeros_row queue_words s.harts _ h l;
  none_stands = refl;
}

-- each is as long as it was
module _ (s : Setup) (t : Tables) (l : Long t s.harts s.hardware) where
  -- the head
  pub head_length : length (fresh s t).head ≡ length t.head
  head_length = over_length (s.harts ∷ s.hardware ∷ 0 ∷ 0 ∷ []) t.head l.head_long

  -- the home rows
  pub home_length : length (fresh s t).home ≡ length t.home
  home_length =
      over_length (rows_of (λ h. to_words (setup_hart s h)) s.harts) t.home
      (rw (run_length hart_words (λ h. to_words (setup_hart s h)) (λ h. to_length (setup_hart s h)) s.harts) l.home_long)

  -- the hardware rows
  pub hardware_length : length (fresh s t).hardware ≡ length t.hardware
  hardware_length =
      over_length (rows_of (λ k. to_words (dummy k)) s.hardware) t.hardware
      (rw (run_length hart_words (λ k. to_words (dummy k)) (λ k. to_length (dummy k)) s.hardware) l.hardware_long)

  -- the queues
  pub queues_length : length (fresh s t).queues ≡ length t.queues
  queues_length =
      over_length (replicate (s.harts * queue_words) 0) t.queues
      (rw (length-replicate {A = ℕ} (s.harts * queue_words) 0) l.queues_long)

  -- the regions
  pub regions_length : length (fresh s t).regions ≡ length t.regions
  regions_length =
      over_length (replicate (max_regions * region_words) 0) t.regions
      (rw (length-replicate {A = ℕ} (max_regions * region_words) 0) l.regions_long)

module _ (s : Setup) (t : Tables) (a : Accepted s t) where
  abbrev after : Tables
  after = fresh s t

  -- the tables at setup are sound
  pub fresh_sound : sound (fresh s t) ≡ true
  fresh_sound =
      let l = a.long in
      let rows = fresh_rows s t in
      let n = s.harts in
      let m = s.hardware in
      facts_sound after (record {
        sized = record {
          some_harts = range_some_harts n m a.ranged;
          few_harts = range_few_harts n m a.ranged;
          some_hardware = range_some_hardware n m a.ranged;
          few_hardware = range_few_hardware n m a.ranged;
          few_regions = omega arith;
          long = record {
            head_long = rw (head_length s t l) l.head_long;
            home_long = rw (home_length s t l) l.home_long;
            hardware_long = rw (hardware_length s t l) l.hardware_long;
            queues_long = rw (queues_length s t l) l.queues_long;
            regions_long = rw (regions_length s t l) l.regions_long;
          };
        };
        home_row_lem = λ h b.
            sound_own the_vm after.home after.hardware m h
            (ap well_formed (rows.at_home_lem h b) ∙ setup_formed s h)
            (ap (λ (x : ConfidentialHart). x.vm) (rows.at_home_lem h b) ∙ setup_vm s h)
            (ap (λ (x : ConfidentialHart). x.id) (rows.at_home_lem h b) ∙ setup_id s h);
        hardware_row_lem = λ k b.
            sound_own no_vm after.hardware after.home n k
            (ap well_formed (rows.dummies k b) ∙ dummy_formed k)
            (ap (λ (x : ConfidentialHart). x.vm) (rows.dummies k b))
            (ap (λ (x : ConfidentialHart). x.id) (rows.dummies k b));
        queue_formed = λ h b. ap queue_well_formed (rows.none_waits h b) ∙ emptied_well_formed;
        regions_sound_lem = zeros_sound (max_regions * region_words) _ refl;
      })

-- ---- an accepted setup

module _ (s : Setup) (t : Tables) (e : (set_up s t).answer ≡ Ok Done) where
  -- the tables are those at setup
  pub setup_done : (set_up s t).after ≡ fresh s t
  setup_done = ap (λ (o : Outcome). o.after) (accepted s t e).done

  -- they are sound
  pub setup_sound : sound (set_up s t).after ≡ true
  setup_sound = ap sound setup_done ∙ fresh_sound s t (accepted s t e)

  -- they hold what document 01 lists
  pub setup_rows : SetUp s (set_up s t).after
  setup_rows = rw setup_done (fresh_rows s t)
