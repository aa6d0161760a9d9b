-- `hart_lifecycle_state::HartLifecycleState::after` meets its contract: the rule is tested at each place of the table. Assumes nothing.
use mathlib.Core.Path.{refl}
use Rattle.table_rows.specs.Choice.{pick}
use Rattle.hart_lifecycle_state.specs.Lifecycle.{only}
use Rattle.hart_lifecycle_state.proofs.LifecycleLaws.{by_state, by_change}
use Rattle.hart_lifecycle_state.proofs.HartLifecycleState.after.Goals as goal

pub returns : goal.returns
unfolding only pick
returns c =
    by_state c.args.self
    (λ p. by_change c.args.change (λ q. rw (p, q) refl) (λ q. rw (p, q) refl) (λ q. rw (p, q) refl) (λ q. rw (p, q) refl) (λ q. rw (p, q) refl))
    (λ p. by_change c.args.change (λ q. rw (p, q) refl) (λ q. rw (p, q) refl) (λ q. rw (p, q) refl) (λ q. rw (p, q) refl) (λ q. rw (p, q) refl))
    (λ p. by_change c.args.change (λ q. rw (p, q) refl) (λ q. rw (p, q) refl) (λ q. rw (p, q) refl) (λ q. rw (p, q) refl) (λ q. rw (p, q) refl))
    (λ p. by_change c.args.change (λ q. rw (p, q) refl) (λ q. rw (p, q) refl) (λ q. rw (p, q) refl) (λ q. rw (p, q) refl) (λ q. rw (p, q) refl))
