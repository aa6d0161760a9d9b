-- Cases without asking soundness at each request: what a case prints is then computed. Assumes nothing.
use Rattle.std.proofs.Common.{Ok}
use mathlib.Core.Path.{◌≡◌, refl, ap, ◌∙◌}
use mathlib.Core.Bool.{Bool, true, false, ◌&&◌, not}
use mathlib.Core.List.{List, [], ◌∷◌, map}
use Prim.Native.Nat.{ℕ}
use lib.Dec.{eqb}
use borrow.Author.Tests.{not-true, eqb-true}
use Rattle.table_rows.specs.Lists.{all_of}
use Rattle.table_rows.proofs.PickLaws.{and_left, and_right}
use Rattle.monitor_requests.specs.declared.Setup.{Setup}
use Rattle.monitor_requests.specs.declared.Answer.TheVariants.{Done}
use Rattle.monitor_requests.specs.Tables.{Tables, sound}
use Rattle.monitor_requests.specs.Requests.{Outcome, set_up}
use Rattle.monitor_requests.proofs.AnswerLaws.{is_refused}
use Rattle.monitor_requests.proofs.SetupLaws.{setup_sound}
use Rattle.monitor_requests.proofs.RequestLaws.{by_set_up, performed_sound}
use Rattle.monitor_requests.specs.declared.Request.{Request}
use Rattle.monitor_requests.proofs.SureLaws.{sure, sure_is}
use Rattle.ledger.specs.Example.{room}
use Rattle.document_01.specs.Cases.{Case, Seen, told, Played, and_then, step, play, begun, seen}

-- ---- a case

-- one request more
abbrev sure_step : Played → Request → Played
sure_step p r = and_then p.text (sure r p.after p.effects)

-- requests one after the other
abbrev pub sure_play : Played → List Request → Played
sure_play p [] = p
sure_play p (r ∷ rs) = sure_play (sure_step p r) rs

play_is : (rs : List Request) (p : Played) → sound p.after ≡ true → play p rs ≡ sure_play p rs
play_is [] p s = refl
play_is (r ∷ rs) p s =
    play_is rs (step p r) (performed_sound r p.after p.effects s)
    ∙ ap (λ (o : Outcome). sure_play (and_then p.text o) rs) (sure_is r p.after p.effects s)

-- what a case prints and leaves
abbrev pub sure_seen : Case → Seen
sure_seen c =
    record {
      printed = (sure_play (begun c.setup) c.requests).text;
      shown = c.look (sure_play (begun c.setup) c.requests).after;
    }

-- a setup that is not refused is done
setup_done : (s : Setup) (t : Tables) → is_refused (set_up s t).answer ≡ false → (set_up s t).answer ≡ Ok Done
setup_done s t =
    by_set_up s t (λ (o : Outcome). is_refused o.answer ≡ false → o.answer ≡ Ok Done) (λ e other r. cc) (λ a r. refl)

-- the setup is accepted
abbrev pub proper : Case → Bool
proper c = not (is_refused (set_up c.setup (room c.setup)).answer)

module _ (c : Case) (p : proper c ≡ true) where
  accepts : (set_up c.setup (room c.setup)).answer ≡ Ok Done
  accepts =
      setup_done c.setup (room c.setup)
      (not-true _ p)

  ready : sound (begun c.setup).after ≡ true
  ready = setup_sound c.setup (room c.setup) accepts

  -- what it prints and leaves is what is computed
  seen_is : seen c ≡ sure_seen c
  seen_is =
      ap (λ (x : Played). record { printed = x.text; shown = c.look x.after })
      (play_is c.requests (begun c.setup) ready)

-- ---- a table

-- the lists are equal, by a test that computes
abbrev equal : List ℕ → List ℕ → Bool
equal [] [] = true
equal [] (y ∷ ys) = false
equal (x ∷ xs) [] = false
equal (x ∷ xs) (y ∷ ys) = eqb x y && equal xs ys

equal_lists : (xs ys : List ℕ) → equal xs ys ≡ true → xs ≡ ys
equal_lists [] [] e = refl
equal_lists [] (y ∷ ys) e = cc
equal_lists (x ∷ xs) [] e = cc
equal_lists (x ∷ xs) (y ∷ ys) e =
    ap (λ z. z ∷ xs) (eqb-true x y (and_left (eqb x y) (equal xs ys) e))
    ∙ ap (λ (zs : List ℕ). y ∷ zs) (equal_lists xs ys (and_right (eqb x y) (equal xs ys) e))

-- what is computed is what is told
abbrev pub as_told : Case → Bool
as_told c = equal (sure_seen c).printed c.prints && equal (sure_seen c).shown c.shows

as_told_lem : (c : Case) → as_told c ≡ true → sure_seen c ≡ told c
as_told_lem c e =
    let prints = equal_lists _ _ (and_left (equal (sure_seen c).printed c.prints) (equal (sure_seen c).shown c.shows) e) in
    let shows = equal_lists _ _ (and_right (equal (sure_seen c).printed c.prints) (equal (sure_seen c).shown c.shows) e) in
    λ i. record { printed = prints i; shown = shows i }

-- of each case of a table, what the definitions print and leave is what is told, where it is computed so
pub all_seen : (cs : List Case) → all_of proper cs ≡ true → all_of as_told cs ≡ true → map seen cs ≡ map told cs
unfolding all_of
all_seen [] p e = refl
all_seen (c ∷ cs) p e =
    ap (λ (x : Seen). x ∷ map seen cs)
    (seen_is c (and_left (proper c) (all_of proper cs) p) ∙ as_told_lem c (and_left (as_told c) (all_of as_told cs) e))
    ∙ ap (λ (xs : List Seen). told c ∷ xs)
    (all_seen cs (and_right (proper c) (all_of proper cs) p) (and_right (as_told c) (all_of as_told cs) e))
