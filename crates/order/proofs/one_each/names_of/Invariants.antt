-- The names so far, and those of the numbers that are left, are those of all.
use Rattle.std.proofs.Common.{◌≡◌, ◌++◌, List, ℕ, Bor, drop, map}
use Rattle.std.specs.List.{filter_map}
use Rattle.forward_steps.specs.Selection.{name_at}
use Rattle.order.proofs.one_each.names_of.Given as goal

abbrev pub invariant-loop-number : goal.invariant-loop-number
invariant-loop-number l = map (λ (name : Bor (List ℕ)). name.now) l.names.items ++ filter_map (name_at l.universe) (drop l.number-index l.selection)
    ≡ filter_map (name_at l.universe) l.selection
