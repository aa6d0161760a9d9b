-- The tests of a request in order, and that 12 comes before them. Assumes nothing.
use Prim.Native.Nat.{ℕ, ◌<◌}
use borrow.Author.Tests.{not-false, leb-false}
use mathlib.Core.Path.{◌≡◌, refl, sym, ap, ◌∙◌}
use mathlib.Core.Bool.{Bool, true, false}
use mathlib.Core.List.{List, [], ◌∷◌, ◌++◌}
use Rattle.std.proofs.Common.{Result, Ok, Err}
use Rattle.error.specs.declared.Error.{Error}
use Rattle.error.specs.declared.Error.TheVariants.{TablesNotSound}
use Rattle.table_rows.specs.Lists.{all_of}
use Rattle.table_rows.specs.Choice.{pick}
use Rattle.table_rows.proofs.PickLaws.{yes, no, by_pick, by_test, and_left, and_right, not_yes, not_no}
use Rattle.monitor_requests.specs.declared.Request.{Request}
use Rattle.confidential_hart.specs.Hart.{is_dummy}
use Rattle.monitor_requests.specs.Tables.{Tables, sound, hardware_harts, hardware_hart}
use Rattle.monitor_requests.specs.Requests.{Outcome, Test, judged, tried, refused_on, unsound, judgement, no_hardware_hart, idle, held_at, tests, effect, performed}

-- ---- tests in order

-- none of the tests holds
abbrev pub Passed : List Test → Type 0
Passed [] = Unit
Passed (x ∷ xs) = (x.when ≡ false) × Passed xs

module _ {A : Type 0} (refusal : Error → A) (next : A) where
  -- what holds of each refusal by one of these errors, and of what follows where no test holds, holds of the outcome
  pub by_errors : (P : A → Type 0) (known : Error → Bool) → ((e : Error) → known e ≡ true → P (refusal e)) → (xs : List Test)
      → all_of (λ x. known x.error) xs ≡ true → (Passed xs → P next) → P (judged refusal xs next)
  unfolding all_of
  by_errors P known refused [] k passed = passed tt
  by_errors P known refused (x ∷ xs) k passed =
      by_pick P x.when _ _ (λ _. refused x.error (and_left (known x.error) _ k))
      (λ w. by_errors P known refused xs (and_right (known x.error) _ k) (λ p. passed (w, p)))

  all_known : (xs : List Test) → all_of (λ (x : Test). true) xs ≡ true
  unfolding all_of
  all_known [] = refl
  all_known (x ∷ xs) = all_known xs

  -- the same, for refusals by any error
  pub by_tests : (P : A → Type 0) (xs : List Test) → ((e : Error) → P (refusal e)) → (Passed xs → P next) → P (judged refusal xs next)
  by_tests P xs refused passed = by_errors P (λ _. true) (λ e _. refused e) xs (all_known xs) passed

  -- where none of the tests holds, what follows them
  pub judged_passed : (xs : List Test) → Passed xs → judged refusal xs next ≡ next
  judged_passed [] p = refl
  judged_passed (x ∷ xs) p = sym (no _ p.0 (sym (judged_passed xs p.1)))

-- tests tried first, as a result: its error is the refusal of all tests, and where there is none the others decide
module _ {A B : Type 0} (refusal : Error → A) (next : A) (value : B) (ys : List Test) where
  pub tried_refuses : (xs : List Test) (e : Error) → tried xs value ≡ Err e → judged refusal (xs ++ ys) next ≡ refusal e
  tried_refuses [] e q = cc
  tried_refuses (x ∷ xs) e q =
      by_test x.when
      (λ w. let given : ◌≡◌ {A = Result B Error} (Err x.error) (Err e) = yes _ w refl ∙ q in
      let same : x.error ≡ e = cc in sym (yes _ w (ap refusal (sym same))))
      (λ w. sym (no _ w refl) ∙ tried_refuses xs e (no _ w refl ∙ q))

  pub tried_passes : (xs : List Test) (b : B) → tried xs value ≡ Ok b → (b ≡ value) × Passed xs × (judged refusal (xs ++ ys) next ≡ judged refusal ys next)
  tried_passes [] b q = let same : b ≡ value = cc in (same, tt, refl)
  tried_passes (x ∷ xs) b q =
      by_test x.when
      (λ w. let given : ◌≡◌ {A = Result B Error} (Err x.error) (Ok b) = yes _ w refl ∙ q in absurd cc)
      (λ w. let rest = tried_passes xs b (no _ w refl ∙ q) in (rest.0, (w, rest.1), sym (no _ w refl) ∙ rest.2))

map_pick : {A B : Type 0} (f : A → B) (b : Bool) (x y : A) → f (pick b x y) ≡ pick b (f x) (f y)
unfolding pick
map_pick f true x y = refl
map_pick f false x y = refl

-- what is made of the outcome is made of each refusal and of what follows
pub judged_map : {A B : Type 0} (f : A → B) (refusal : Error → A) (next : A) (xs : List Test)
    → f (judged refusal xs next) ≡ judged (λ e. f (refusal e)) xs (f next)
judged_map f refusal next [] = refl
judged_map f refusal next (x ∷ xs) =
    map_pick f x.when (refusal x.error) (judged refusal xs next)
    ∙ ap (pick x.when (f (refusal x.error))) (judged_map f refusal next xs)

-- ---- a request

module _ (r : Request) (t : Tables) (effects : List ℕ) where
  -- on tables that are not sound 12 is given, and nothing changes
  pub unsound_refused : sound t ≡ false → performed r t effects ≡ refused_on t effects TablesNotSound
  unfolding performed
  unsound_refused s = sym (yes _ (not_yes _ s) refl)

  -- on sound tables its tests decide
  pub sound_judged : sound t ≡ true → performed r t effects ≡ judged (refused_on t effects) (tests r t effects) (effect r t effects)
  unfolding performed
  sound_judged s = sym (no _ (not_no _ s) refl)

  -- what holds of each refusal, and of the effect where the tests are passed, holds of the outcome
  pub by_performed : (P : Outcome → Type 0) → ((e : Error) → P (refused_on t effects e)) → (Passed (unsound t ∷ tests r t effects) → P (effect r t effects)) → P (performed r t effects)
  unfolding performed
  by_performed P refusal passed = by_tests (refused_on t effects) (effect r t effects) P (unsound t ∷ tests r t effects) refusal passed

  -- sound tables stay sound where the effect keeps them so
  pub effect_sound : sound t ≡ true → (Passed (unsound t ∷ tests r t effects) → sound (effect r t effects).after ≡ true) → sound (performed r t effects).after ≡ true
  effect_sound s passed = by_performed (λ (o : Outcome). sound o.after ≡ true) (λ _. s) passed

-- ---- the parts that are tried first

module _ (t : Tables) {r : Result (Unit {0}) Error} (is : r ≡ judgement t) where
  -- tables that are judged unsound are the refusal
  pub judge_refuses : (request : Request) (effects : List ℕ) {e : Error} → r ≡ Err e → performed request t effects ≡ refused_on t effects e
  unfolding performed
  judge_refuses request effects {e} q =
      tried_refuses (refused_on t effects) (effect request t effects) tt (tests request t effects) (unsound t ∷ []) e (sym is ∙ q)

  -- and of the tests that are tried after it
  pub judge_tried : {A : Type 0} (ys : List Test) (value : A) {e : Error} → r ≡ Err e → tried (unsound t ∷ ys) value ≡ Err e
  judge_tried ys value {e} q = tried_refuses Err (Ok value) tt ys (unsound t ∷ []) e (sym is ∙ q)

  -- tables that pass are sound
  pub judge_passes : {u : Unit {0}} → r ≡ Ok u → sound t ≡ true
  judge_passes {u} q = not-false (sound t) (tried_passes (λ e. e) TablesNotSound tt [] (unsound t ∷ []) u (sym is ∙ q)).1.0

module _ {A : Type 0} (refusal : Error → A) (next : A) (ys : List Test) (t : Tables) (k : ℕ) {r : Result ℕ Error} (is : r ≡ held_at k t) where
  -- where no hart is held the error is the refusal
  pub held_refuses : {e : Error} → r ≡ Err e → judged refusal (no_hardware_hart k t ∷ idle k t ∷ ys) next ≡ refusal e
  held_refuses {e} q = tried_refuses refusal next k ys (no_hardware_hart k t ∷ idle k t ∷ []) e (sym is ∙ q)

  -- where one is, the other tests decide
  pub held_decides : {j : ℕ} → r ≡ Ok j → judged refusal (no_hardware_hart k t ∷ idle k t ∷ ys) next ≡ judged refusal ys next
  held_decides {j} q = (tried_passes refusal next k ys (no_hardware_hart k t ∷ idle k t ∷ []) j (sym is ∙ q)).2

module _ (t : Tables) (k : ℕ) {r : Result ℕ Error} (is : r ≡ held_at k t) {j : ℕ} (q : r ≡ Ok j) where
  passes : (j ≡ k) × Passed (no_hardware_hart k t ∷ idle k t ∷ []) × (judged (λ e. e) (no_hardware_hart k t ∷ idle k t ∷ []) TablesNotSound ≡ TablesNotSound)
  passes = tried_passes (λ e. e) TablesNotSound k [] (no_hardware_hart k t ∷ idle k t ∷ []) j (sym is ∙ q)

  -- the row is that of the hardware hart, which there is, and no dummy stands there
  pub held_row : j ≡ k
  held_row = passes.0

  pub held_below : k < hardware_harts t
  held_below = leb-false _ _ passes.1.0

  pub held_real : is_dummy (hardware_hart t k) ≡ false
  held_real = passes.1.1.0
