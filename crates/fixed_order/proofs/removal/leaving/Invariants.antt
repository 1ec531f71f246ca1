-- The names so far, and those of the records that are left, are the names of all.
use Rattle.std.proofs.Common.{◌≡◌, ◌++◌, drop, map}
use Rattle.std.specs.List.{filter}
use Rattle.rules.specs.Database.{Record}
use Rattle.plain.specs.Underway.{is_to_remove}
use Rattle.fixed_order.specs.Problem.{members_in}
use Rattle.fixed_order.proofs.removal.leaving.Given as goal

abbrev pub invariant-loop-entry : goal.invariant-loop-entry
invariant-loop-entry l = l.keys.items ++ map (λ (entry : Record). entry.name) (filter (is_to_remove (members_in l.problem)) (drop l.entry-index l.db))
    ≡ map (λ (entry : Record). entry.name) (filter (is_to_remove (members_in l.problem)) l.db)
