-- `confidential_hart::ConfidentialHart::change` meets its contract: the checks in their order, then what the lifecycle allows. Assumes nothing.
use mathlib.Core.Path.{sym}
use borrow.Author.Rules.{rules}
use native.Mathlib.Omega.{arith}
use Rattle.confidential_hart.proofs.HartLaws.{formed_facts}
use Rattle.confidential_hart.proofs.TransitionLaws.{malformed_is, dummy_is, turned_is}
use Rattle.confidential_hart.proofs.ConfidentialHart.change.Goals as goal

pub returns-then-not-is_well_formed : goal.returns-then-not-is_well_formed
returns-then-not-is_well_formed c g = sym (malformed_is _ _ g _ (search rules))

pub returns-then-is_dummy : goal.returns-then-is_dummy
returns-then-is_dummy c g = sym (dummy_is _ _ g _ (search rules) (search rules))

pub returns-in_err-try_from : goal.returns-in_err-try_from
returns-in_err-try_from c g =
    let known = (formed_facts c.args.self (search rules)).state_known in
    let past = c.in_err-try_from.ensures.1 in
    absurd (omega arith)

pub returns : goal.returns
returns c g = turned_is _ _ g _ (search rules) (search rules) _ (search rules)
