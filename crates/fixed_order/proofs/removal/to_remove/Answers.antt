-- The names that pass the test are those to be removed.
use Rattle.std.proofs.Common.{List, ℕ, map, subst}
use Rattle.std.specs.List.{Contains, filter}
use Rattle.rules.specs.Database.{Record}
use Rattle.plain.specs.Change.{IsToRemove}
use Rattle.plain.specs.Underway.{is_to_remove}
use Rattle.fixed_order.specs.Problem.{members_in}
use Rattle.fixed_order.specs.Names.{AreAllWith}
use Rattle.fixed_order.proofs.RemovalLemmas.{all_with, leaving_each}
use Rattle.fixed_order.proofs.removal.to_remove.Goals as goal

pub returns : goal.returns
returns c = all_with
    (Contains (map (λ (entry : Record). entry.name) (filter (is_to_remove (members_in c.args.problem.now)) c.args.db.now)))
    (IsToRemove (members_in c.args.problem.now) c.args.db.now) c.in_ok-ordered.ordered.items
    (leaving_each (members_in c.args.problem.now) c.args.db.now)
    (subst (λ (names : List (List ℕ)). AreAllWith (Contains names) c.in_ok-ordered.ordered.items) c.in_ok-keys.ensures
    c.in_ok-ordered.ensures)
