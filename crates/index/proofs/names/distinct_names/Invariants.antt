use Rattle.std.proofs.Common.{◌≡◌, ℕ, List, drop, map, fold, Bor}
use Rattle.rules.specs.Step.{IndexPackage}
use Rattle.index.specs.Names.{names_of, with_name}
use Rattle.index.proofs.names.distinct_names.Given as goal

-- the names so far, and those of the packages that are left, are the names of all
abbrev pub invariant-loop-entry : goal.invariant-loop-entry
invariant-loop-entry l = names_of l.entries
    ≡ fold with_name (map (λ (name : Bor (List ℕ)). name.now) l.names.keys) (map (λ (item : IndexPackage). item.pkg.name) (drop l.entry-index l.entries))
