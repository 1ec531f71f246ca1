-- The stanzas so far, and those of the indices that are left that are asked about, are those of all.
use Rattle.std.proofs.Common.{◌≡◌, ◌++◌, drop, map}
use Rattle.std.specs.List.{filter}
use Rattle.candidates.specs.Inputs.{indices_of}
use Rattle.rules.specs.Available.{all_listed}
use Rattle.installable.specs.Asked.{is_asked}
use Rattle.installable.proofs.asked.asked_of_all.Given as goal

abbrev pub invariant-loop-index : goal.invariant-loop-index
invariant-loop-index l =
    l.asked.items ++ filter (is_asked (map (λ name. name.now) l.names)) (all_listed (indices_of (drop l.index-index l.indices)))
    ≡ filter (is_asked (map (λ name. name.now) l.names)) (all_listed (indices_of l.indices))
