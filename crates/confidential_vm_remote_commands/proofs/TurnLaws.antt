-- One hart's turn in a broadcast, way by way, and the loop of turns: `deliver` with one hart left is a turn. Assumes nothing.
use mathlib.Core.Path.{◌≡◌, refl, sym, ap, ◌∙◌}
use mathlib.Core.Bool.{Bool, true, false, not}
use mathlib.Core.List.{List}
use Prim.Native.Nat.{ℕ, zero, suc, ◌+◌, ◌-◌, ◌*◌, ◌≤◌, ◌<◌}
use native.Mathlib.Nat.{sub-zero}
use native.Mathlib.Omega.{arith}
use lib.ListN.{length, take, drop}
use lib.Dec.{leb}
use borrow.Author.Tests.{le-leb, lt-leb}
use borrow.Rule.Slice.PartMut.{put_mid}
use Rattle.std.proofs.Common.{Result, Ok, Err}
use Rattle.error.specs.declared.Error.{Error}
use Rattle.error.specs.declared.Error.TheVariants.{ReachedMaxNumberOfRemoteCommands}
use Rattle.table_rows.specs.Rows.{row, put}
use Rattle.table_rows.specs.Choice.{pick}
use Rattle.table_rows.proofs.PickLaws.{yes, no, not_yes, not_no}
use Rattle.table_rows.proofs.PartLaws.{part_row, part_put}
use Rattle.table_rows.proofs.RowLaws.{put_row}
use Rattle.confidential_hart_remote_command.specs.declared.ConfidentialHartRemoteCommand.{ConfidentialHartRemoteCommand}
use Rattle.remote_commands.specs.Queue as Queue
use Rattle.remote_commands.specs.Queue.{max_commands, queue_words, count, offered}
use Rattle.remote_commands.proofs.OfferLaws.{by_offer}
use Rattle.hart_rows.specs.HartRows.{hart_at}
use Rattle.monitor_requests.specs.Answers.{Answered}
use Rattle.monitor_requests.specs.declared.Answer.TheVariants.{Mask}
use Rattle.monitor_requests.proofs.AnswerLaws.{is_mask, first_in}
use Rattle.monitor_requests.specs.Requests.{receives, interrupting, Delivery, delivery, masked, deliver}

-- ---- whether an offer is refused tells whether the queue was full

module _ (q : List ℕ) (c : ConfidentialHartRemoteCommand) where
  full_given : (e : Error) → (offered q c).given ≡ Err e → (leb max_commands (count q) ≡ true) × ((offered q c).queue ≡ q) × (e ≡ ReachedMaxNumberOfRemoteCommands)
  full_given e =
      by_offer q c (λ o. o.given ≡ Err e → (leb max_commands (count q) ≡ true) × (o.queue ≡ q) × (e ≡ ReachedMaxNumberOfRemoteCommands))
      (λ l r. (le-leb _ _ l, refl, cc)) (λ l _ r. absurd cc) (λ l _ r. absurd cc)

  room_given : {u : Unit {0}} → (offered q c).given ≡ Ok u → leb max_commands (count q) ≡ false
  room_given {u} =
      by_offer q c (λ o. o.given ≡ Ok u → leb max_commands (count q) ≡ false) (λ l r. absurd cc) (λ l _ r. lt-leb _ _ l)
      (λ l _ r. lt-leb _ _ l)

-- ---- a turn. The queue is lent as a part of the queues

abbrev lent : List ℕ → ℕ → List ℕ
lent queues i = take (i * queue_words + queue_words - i * queue_words) (drop (i * queue_words) queues)

abbrev back : List ℕ → ℕ → List ℕ → List ℕ
back queues i q = put_mid (i * queue_words) (i * queue_words + queue_words - i * queue_words) queues q

module _ (home : List ℕ) (sender : ℕ) (c : ConfidentialHartRemoteCommand) (i mask : ℕ) (queues : List ℕ) where
  pub passed_over : receives home sender c i ≡ false → delivery (Ok (Mask mask)) queues ≡ deliver home sender c 1 i mask queues
  unfolding deliver
  passed_over e = yes _ (not_yes _ e) refl

  module _ (here : receives home sender c i ≡ true) (r : Result (Unit {0}) Error) (q : List ℕ) (said : Queue.offer r q ≡ offered (lent queues i) c) where
    of_row : Queue.offer r q ≡ offered (row queue_words queues i) c
    of_row = said ∙ ap (λ (r : List ℕ). offered r c) (part_row queue_words queues i)

    given_is : r ≡ (offered (row queue_words queues i) c).given
    given_is = ap (λ (o : Queue.Offer). o.given) of_row

    queue_is : q ≡ (offered (row queue_words queues i) c).queue
    queue_is = ap (λ (o : Queue.Offer). o.queue) of_row

    pub full_refuses : i * queue_words + queue_words ≤ length queues → (e : Error) → r ≡ Err e
        → delivery (Err e) (back queues i q) ≡ deliver home sender c 1 i mask queues
    unfolding deliver
    full_refuses fits e is =
        let f = full_given (row queue_words queues i) c e (sym given_is ∙ is) in
        no _ (not_no _ here)
        (yes _ f.0
        (λ k. delivery (Err (f.2 k))
        ((part_put queue_words queues i q ∙ ap (put queue_words queues i) (queue_is ∙ f.1) ∙ put_row queue_words queues i fits) k)))

    pub takes : {u : Unit {0}} → r ≡ Ok u → (m : ℕ) → m ≡ interrupting (hart_at home i) mask
        → delivery (Ok (Mask m)) (back queues i q) ≡ deliver home sender c 1 i mask queues
    unfolding deliver
    takes d m e =
        no _ (not_no _ here)
        (no _ (room_given (row queue_words queues i) c (sym given_is ∙ d))
        (rw (e, part_put queue_words queues i q, queue_is) refl))

-- ---- the loop of turns

-- what follows a turn: the other harts with the mask so far, or nothing once a queue refused
unfoldable after : Answered → List ℕ → (ℕ → List ℕ → Delivery) → Delivery
after a queues rest = pick (is_mask a) (rest (first_in a) queues) (delivery a queues)

abbrev and_then : Delivery → (ℕ → List ℕ → Delivery) → Delivery
and_then d rest = after d.answer d.queues rest

then_pick : (b : Bool) (x y : Delivery) (rest : ℕ → List ℕ → Delivery) → pick b (and_then x rest) (and_then y rest) ≡ and_then (pick b x y) rest
unfolding pick
then_pick true x y rest = refl
then_pick false x y rest = refl

module _ (home : List ℕ) (sender : ℕ) (c : ConfidentialHartRemoteCommand) where
  -- a turn, and then the rest
  turn_first : (left i mask : ℕ) (queues : List ℕ)
      → deliver home sender c (suc left) i mask queues ≡ and_then (deliver home sender c 1 i mask queues) (deliver home sender c left (i + 1))
  unfolding deliver after pick
  turn_first left i mask queues =
      ap (λ (d : Delivery). pick (not (receives home sender c i)) (deliver home sender c left (i + 1) mask queues) d)
      (then_pick (leb max_commands (count (row queue_words queues i))) _ _ (deliver home sender c left (i + 1)))
      ∙ then_pick (not (receives home sender c i)) _ _ (deliver home sender c left (i + 1))

  module _ (n : ℕ) where
    pub turns_start : (mask : ℕ) (queues : List ℕ) → deliver home sender c (n - 0) 0 mask queues ≡ deliver home sender c n 0 mask queues
    turns_start mask queues = ap (λ (k : ℕ). deliver home sender c k 0 mask queues) (sub-zero n)

    module _ (i mask : ℕ) (queues : List ℕ) where
      pub turns_done : n ≤ i → deliver home sender c (n - i) i mask queues ≡ delivery (Ok (Mask mask)) queues
      unfolding deliver
      turns_done l =
          let e : n - i ≡ zero = omega arith in
          ap (λ (k : ℕ). deliver home sender c k i mask queues) e

      module _ (l : i < n) (r : Result ℕ Error) (queues' : List ℕ) (v : delivery (masked r) queues' ≡ deliver home sender c 1 i mask queues) where
        turn : deliver home sender c (n - i) i mask queues ≡ after (masked r) queues' (deliver home sender c (n - (i + 1)) (i + 1))
        turn =
            let e : n - i ≡ suc (n - (i + 1)) = omega arith in
            ap (λ (k : ℕ). deliver home sender c k i mask queues) e
            ∙ turn_first (n - (i + 1)) i mask queues
            ∙ ap (λ (d : Delivery). and_then d (deliver home sender c (n - (i + 1)) (i + 1))) (sym v)

        pub turn_taken : (m : ℕ) → r ≡ Ok m → deliver home sender c (n - i) i mask queues ≡ deliver home sender c (n - (i + 1)) (i + 1) m queues'
        unfolding after pick
        turn_taken m e = turn ∙ ap (λ (a : Result ℕ Error). after (masked a) queues' (deliver home sender c (n - (i + 1)) (i + 1))) e

        -- a refusal ends the loop
        pub turn_ends : (e : Error) → r ≡ Err e → deliver home sender c (n - i) i mask queues ≡ delivery (Err e) queues'
        unfolding after pick
        turn_ends e is = turn ∙ ap (λ (a : Result ℕ Error). after (masked a) queues' (deliver home sender c (n - (i + 1)) (i + 1))) is
