-- The example P8 of document 01, about the definitions. Assumes nothing.
use mathlib.Core.Path.{◌≡◌, ap, ◌∙◌}
use mathlib.Core.Bool.{true, false}
use mathlib.Core.List.{List}
use Prim.Native.Nat.{ℕ, ◌+◌}
use native.Mathlib.Omega.{arith}
use lib.ListN.{length}
use Rattle.std.proofs.Common.{Ok, Err}
use Rattle.error.specs.declared.Error.TheVariants.{ReachedMaxNumberOfRemoteCommands}
use Rattle.confidential_hart_remote_command.specs.declared.ConfidentialHartRemoteCommand.{ConfidentialHartRemoteCommand}
use Rattle.remote_commands.specs.Queue.{queue_words, count, queued, pushed, Offer, offer, offered}
use Rattle.remote_commands.proofs.OfferLaws.{offer_full, offer_duplicate, offer_new, push_count}

-- P8: a queue of 63 takes one more, a duplicate leaves 63, at 64 it is 8
module _ (q : List ℕ) (c : ConfidentialHartRemoteCommand) (long : length q ≡ queue_words) where
  pub p8_one_more : count q ≡ 63 → queued q c ≡ false → ((offered q c).given ≡ Ok tt) × (count (offered q c).queue ≡ 64)
  p8_one_more n e =
      let o : offered q c ≡ offer (Ok tt) (pushed q c) = offer_new q c (omega arith) e in
      (ap (λ (x : Offer). x.given) o, ap (λ (x : Offer). count x.queue) o ∙ push_count q c long (omega arith) ∙ ap (λ (m : ℕ). m + 1) n)

  pub p8_duplicate : count q ≡ 63 → queued q c ≡ true → offered q c ≡ offer (Ok tt) q
  p8_duplicate n e = offer_duplicate q c (omega arith) e

  pub p8_full : count q ≡ 64 → offered q c ≡ offer (Err ReachedMaxNumberOfRemoteCommands) q
  p8_full n = offer_full q c (omega arith)
