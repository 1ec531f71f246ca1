-- The names so far, with those that the indices that are left mark, are the names of all.
use Rattle.std.proofs.Common.{◌≡◌, drop, fold}
use Rattle.candidates.specs.Inputs.{indices_of}
use Rattle.index.specs.Names.{with_name}
use Rattle.rules.specs.Available.{all_listed}
use Rattle.installable.specs.Essential.{essential_names, names_marked}
use Rattle.installable.proofs.essential.essential_names.Given as goal

abbrev pub invariant-loop-index : goal.invariant-loop-index
invariant-loop-index l = fold with_name l.names.items (names_marked (all_listed (indices_of (drop l.index-index l.indices))))
    ≡ essential_names (indices_of l.indices)
