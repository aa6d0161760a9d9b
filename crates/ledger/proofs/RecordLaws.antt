-- Which effect records an entry of the log leaves: none, or those of the one hart that it is about. Assumes nothing.
use Prim.Native.Nat.{ℕ, ◌<◌}
use mathlib.Core.Path.{◌≡◌, refl, sym, ◌∙◌, subst}
use mathlib.Core.Bool.{true, false, false≢true}
use mathlib.Core.List.{List, []}
use lib.Dec.{eqb}
use borrow.Author.Tests.{eqb-true, eq-eqb}
use Rattle.table_rows.specs.Choice.{pick, exists}
use Rattle.table_rows.proofs.PickLaws.{by_pick}
use Rattle.table_rows.proofs.ExistsLaws.{exists_of}
use Rattle.confidential_hart_remote_command.specs.declared.ConfidentialHartRemoteCommand.{ConfidentialHartRemoteCommand}
use Rattle.effects.specs.Effects.{effects_of}
use Rattle.monitor_requests.specs.declared.Request.{Request}
use Rattle.monitor_requests.specs.Answers.{Answered}
use Rattle.monitor_requests.specs.Requests.{Outcome, does_no_command}
use Rattle.ledger.specs.Log.{Entry, entry, Log, Says, is_heard, heard}
use Rattle.ledger.specs.WorkedOut.{about, done_by}
use Rattle.ledger.specs.Statement.{does_then, RecordsOf, RecordsAre}
use Rattle.ledger.proofs.StepLaws.{plain_says}

-- so no hart does one by its entry, be it heard or not
pub plain_does : (r : Request) (a : Answered) → does_no_command r ≡ true → (waiting : List ConfidentialHartRemoteCommand) (h : ℕ)
    → done_by (heard (entry r a)) waiting h ≡ []
unfolding heard pick
plain_does r a e waiting h =
    by_pick (λ (u : Says). done_by u waiting h ≡ []) (is_heard (entry r a)) _ _ (λ _. plain_says r a e waiting h) (λ _. refl)

-- nor by one that is not heard
pub unheard_does : (e : Entry) → is_heard e ≡ false → (l : Log) (h : ℕ) → does_then e l h ≡ []
unfolding heard pick
unheard_does e silent l h = rw silent refl

module _ (l : Log) (e : Entry) (effects : List ℕ) (o : Outcome) where
  -- an entry by which no hart does a command leaves no record
  pub no_records : ((h : ℕ) → does_then e l h ≡ []) → o.did ≡ 0 → o.effects ≡ effects → RecordsAre l e effects o
  unfolding effects_of
  no_records nothing-done did room =
      record {
        of_a_hart = λ h b is.
            subst (λ (cs : List ConfidentialHartRemoteCommand). RecordsOf h cs effects o) (sym (nothing-done h)) (record { did_is = did; room_is = room });
        did_none = λ _. did;
        room_kept = λ _. room;
      }

  -- one that is about hart g alone leaves the records of what g does
  pub own_records : (g : ℕ) → g < l.setup.harts → ((h : ℕ) → h < l.setup.harts → about e l.entries h ≡ eqb h g)
      → RecordsOf g (does_then e l g) effects o
      → RecordsAre l e effects o
  own_records g b only y =
      record {
        of_a_hart = λ h c is. rw (eqb-true h g (sym (only h c) ∙ is)) y;
        did_none = λ none. absurd (false≢true (sym none ∙ found));
        room_kept = λ none. absurd (false≢true (sym none ∙ found));
      }
    where
      found : exists (about e l.entries) l.setup.harts ≡ true
      found = exists_of (about e l.entries) g l.setup.harts b (only g b ∙ eq-eqb g g refl)
