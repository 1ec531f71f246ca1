-- What Pre-Depends and Depends name is marked.
use Rattle.std.proofs.Common.{List, subst}
use Rattle.std.specs.List.{Any}
use Rattle.rules.specs.Package.{Atom, MatchesSome}
use Rattle.reach.specs.Reached.{HasAll}
use Rattle.reach.proofs.ReachLemmas.{all_needed}
use Rattle.reach.proofs.marks.Marks.mark_needed.Goals as goal

pub returns-clause-marked : goal.returns-clause-marked
returns-clause-marked c =
    let mid = c.mark_clauses.new.self in
    let last = c.mark_clauses-2.new.self in
    all_needed c.args.providers.now mid last c.args.pkg.now c.in_ok-mark_clauses-2.ensures.extends
    (subst (λ (clauses : List (List Atom)). HasAll c.args.providers.now mid.marks (λ pkg. Any (MatchesSome pkg) clauses))
    c.pre_depends.ensures c.in_ok-mark_clauses.ensures.marked)
    (subst (λ (clauses : List (List Atom)). HasAll c.args.providers.now last.marks (λ pkg. Any (MatchesSome pkg) clauses))
    c.depends.ensures c.in_ok-mark_clauses-2.ensures.marked)
