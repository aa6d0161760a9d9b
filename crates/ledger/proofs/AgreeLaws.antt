-- After any run the tables hold what is worked out from the log. Assumes nothing.
use Rattle.std.proofs.Common.{Ok, Err}
use Prim.Native.Nat.{ℕ}
use mathlib.Core.Path.{◌≡◌, refl, sym, ap, ◌∙◌, subst}
use mathlib.Core.Bool.{Bool, true, false, ◌&&◌, ◌||◌, not, false≢true}
use mathlib.Core.List.{List, [], ◌∷◌}
use lib.Dec.{eqb}
use Rattle.error.specs.declared.Error.{Error}
use Rattle.error.specs.declared.Error.TheVariants.{TablesNotSound}
use Rattle.error.specs.Error.{number_of, done, reached_max_number_of_remote_commands}
use Rattle.table_rows.proofs.PickLaws.{yes, no, by_pick, and_left}
use Rattle.confidential_hart.specs.declared.ConfidentialHart.{ConfidentialHart}
use Rattle.confidential_hart.specs.Hart.{the_vm, no_operation, hart_of}
use Rattle.monitor_requests.specs.declared.Setup.{Setup}
use Rattle.monitor_requests.specs.Answers.{Answered}
use Rattle.monitor_requests.specs.declared.Answer.TheVariants.{Done}
use Rattle.monitor_requests.specs.Tables.{Tables, harts, sound}
use Rattle.monitor_requests.specs.Requests.{Outcome, setup_hart, set_up, unsound, tests, effect, refused_on, performed}
use Rattle.monitor_requests.proofs.JudgedLaws.{Passed}
use Rattle.monitor_requests.proofs.SetupLaws.{setup_sound}
use Rattle.monitor_requests.specs.declared.Request.{Request}
use Rattle.monitor_requests.proofs.RequestLaws.{performed_sound, of_test, by_outcome}
use Rattle.hart_standing.proofs.ChangedLaws.{view_of, Holds}
use Rattle.hart_standing.proofs.MoveLaws.{setup_holds}
use Rattle.ledger.specs.Log.{entry, Log, log, accepted, refused_with8, Says, nothing, says, is_heard, heard, noted}
use Rattle.ledger.specs.WorkedOut.{place, latest, first_copies, delivered, lifecycle, queue, registers, operation, added_until, allowed, real_hart}
use Rattle.ledger.specs.Statement.{Left, begins, asked}
use Rattle.ledger.proofs.ReadLaws.{view_of_log}
use Rattle.ledger.proofs.NextLaws.{Same, holds_same, next_view, log_next, next_same, nothing_next}
use Rattle.ledger.proofs.StepLaws.{said_holds, effect_heard}

-- sound tables that hold what is worked out from a log
pub record Agree (l : Log) (t : Tables) : Type 0 where
  pub tables_sound : sound t ≡ true
  pub holds : Holds t l.setup.harts l.setup.hardware (view_of_log l)

-- ---- a setup

-- a hart of a log without entries is as setup made it
setup_hart_lem : (s : Setup) (h : ℕ) → setup_hart s h ≡ real_hart (log s []) h
unfolding real_hart lifecycle registers operation
setup_hart_lem s h =
    by_pick (λ (x : ConfidentialHart). x ≡ hart_of the_vm h x.lifecycle no_operation 0 0 x.registers) (eqb h s.boot) _ _ (λ _. refl) (λ _. refl)

-- an accepted setup starts a log
setup_agrees : (s : Setup) (t : Tables) → (set_up s t).answer ≡ Ok Done → Agree (log s []) (set_up s t).after
unfolding place latest queue delivered first_copies added_until allowed
setup_agrees s t q =
    record {
      tables_sound = setup_sound s t q;
      holds = holds_same (setup_holds s t q)
          (record {
            stands_same = λ h l. refl;
            hart_same = λ h l. setup_hart_lem s h;
            waits_same = λ h l. refl;
            regions_same = refl;
            allowed_same = refl;
          });
    }

-- ---- a request

-- an answer that no log hears, whatever was asked: it is a refusal, and not by 8
abbrev pub silent : Answered → Bool
silent a = not (accepted a || refused_with8 a)

-- neither, so not the first either, and not the second with a third
neither : (a b c : Bool) → not (a || b) ≡ true → a || b && c ≡ false
neither true b c e = absurd (false≢true e)
neither false true c e = absurd (false≢true e)
neither false false c e = refl

both_not : (a b : Bool) → not a && not b ≡ true → not (a || b) ≡ true
both_not true b e = e
both_not false b e = e

-- no log hears it
pub silent_unheard : (r : Request) (a : Answered) → silent a ≡ true → is_heard (entry r a) ≡ false
silent_unheard r a e = neither (accepted a) (refused_with8 a) _ e

-- a refusal by a test is such an answer
test_silent : (e : Error) → of_test e ≡ true → silent (Err e) ≡ true
test_silent e k = both_not (eqb (number_of e) done) (eqb (number_of e) reached_max_number_of_remote_commands) (and_left _ _ (and_left _ _ k))

-- what holds of each such refusal, and of the effect where the tests are passed, holds of the outcome
pub by_silent : (r : Request) (t : Tables) (effects : List ℕ) (P : Outcome → Type 0) → ((e : Error) → silent (Err e) ≡ true → P (refused_on t effects e))
    → (Passed (unsound t ∷ tests r t effects) → P (effect r t effects))
    → P (performed r t effects)
by_silent r t effects P refused passed =
    by_outcome r t effects P (λ _. refused TablesNotSound refl) (λ e k. refused e (test_silent e k)) passed

-- what is heard of an entry
pub heard_says : (r : Request) (a : Answered) → is_heard (entry r a) ≡ true → heard (entry r a) ≡ says r a
unfolding heard
heard_says r a e = sym (yes _ e refl)

heard_nothing : (r : Request) (a : Answered) → is_heard (entry r a) ≡ false → heard (entry r a) ≡ nothing
unfolding heard
heard_nothing r a e = sym (no _ e refl)

-- tables and a log of which the log's setup is the one that counts
abbrev Matches : Log → Tables → Type 0
Matches l t = Holds t l.setup.harts l.setup.hardware (view_of_log l)

-- an entry stands before the others, and tables that hold what it says match the log then
one_more : (l : Log) (t : Tables) (r : Request) (a : Answered) (u : Says) → heard (entry r a) ≡ u
    → Holds t l.setup.harts l.setup.hardware (next_view a u (view_of_log l))
    → Matches (noted r a l) t
one_more l t r a u q x =
    holds_same (subst (λ (w : Says). Holds t l.setup.harts l.setup.hardware (next_view a w (view_of_log l))) (sym q) x)
    (log_next l.setup.harts l.setup (entry r a) l.entries)

module _ (l : Log) (t : Tables) (x : Agree l t) (effects : List ℕ) where
  -- tables and log are equal views
  views : Same (harts t) (view_of t) (view_of_log l)
  views =
      let H = x.holds in
      record {
        stands_same = λ h b. H.stands_at h (rw (← H.harts_are) b);
        hart_same = λ h b. H.hart_is h (rw (← H.harts_are) b);
        waits_same = λ h b. H.waits_are h (rw (← H.harts_are) b);
        regions_same = H.regions_are;
        allowed_same = H.allowed_is;
      }

  -- a refusal that is not heard
  refused_matches : (r : Request) (e : Error) → silent (Err e) ≡ true → Matches (noted r (Err e) l) t
  refused_matches r e q =
      one_more l t r (Err e) nothing (heard_nothing r (Err e) (silent_unheard r (Err e) q))
      (holds_same x.holds (nothing_next l.setup.harts (Err e) (view_of_log l)))

  -- a request that passes its tests
  goes_on_lem : (r : Request) → Passed (unsound t ∷ tests r t effects)
      → Matches (noted r (effect r t effects).answer l) (effect r t effects).after
  goes_on_lem r p =
      let a = (effect r t effects).answer in
      let t' = (effect r t effects).after in
      let H = holds_same (said_holds r t effects x.tables_sound p) (next_same (harts t) (view_of t) (view_of_log l) views a (says r a)) in
      one_more l t' r a (says r a)
      (heard_says r a (effect_heard r t effects p))
      (subst (λ (n : ℕ). Holds t' n l.setup.hardware (next_view a (says r a) (view_of_log l))) x.holds.harts_are
      (subst (λ (m : ℕ). Holds t' (harts t) m (next_view a (says r a) (view_of_log l))) x.holds.hardware_are H))

  -- any request
  asked_matches : (r : Request) → Matches (noted r (performed r t effects).answer l) (performed r t effects).after
  asked_matches r = by_silent r t effects (λ (o : Outcome). Matches (noted r o.answer l) o.after) (refused_matches r) (goes_on_lem r)

  -- so sound tables that hold what is worked out from the log do so after any request
  pub asked_agrees : (r : Request) → Agree (noted r (performed r t effects).answer l) (performed r t effects).after
  asked_agrees r = record { tables_sound = performed_sound r t effects x.tables_sound; holds = asked_matches r }

-- ---- a run

-- after any run the tables hold what is worked out from the log
pub left_agrees : {l : Log} {t : Tables} → Left l t → Agree l t
left_agrees (begins s lent o p q) =
    subst (λ (x : Outcome). Agree (log s []) x.after) (sym p) (setup_agrees s lent (ap (λ (x : Outcome). x.answer) (sym p) ∙ q))
left_agrees (asked l t run r effects o p) =
    subst (λ (x : Outcome). Agree (noted r x.answer l) x.after) (sym p) (asked_agrees l t (left_agrees run) effects r)
