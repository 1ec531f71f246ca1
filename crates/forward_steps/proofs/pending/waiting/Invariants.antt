-- The names so far, and those of the records that are left, are the names of all.
use Rattle.std.proofs.Common.{◌≡◌, ◌++◌, drop, map}
use Rattle.std.specs.List.{filter}
use Rattle.rules.specs.Database.{Record}
use Rattle.forward_steps.specs.Selection.{is_waiting}
use Rattle.forward_steps.proofs.pending.waiting.Given as goal

abbrev pub invariant-loop-entry : goal.invariant-loop-entry
invariant-loop-entry l = l.names.items ++ map (λ (entry : Record). entry.name) (filter (is_waiting l.members) (drop l.entry-index l.db))
    ≡ map (λ (entry : Record). entry.name) (filter (is_waiting l.members) l.db)
