-- The names so far, and those of the pairs that are left, are the names of all.
use Rattle.std.proofs.Common.{◌≡◌, [], drop, fold, map}
use Rattle.index.specs.Names.{with_name}
use Rattle.rules.specs.Package.{Pkg}
use Rattle.fixed_order.specs.Selection.{pkgs_of}
use Rattle.fixed_order.proofs.members.Members.of_pairs.Given as goal

abbrev pub invariant-loop-pair : goal.invariant-loop-pair
invariant-loop-pair l = fold with_name l.members (map (λ (pkg : Pkg). pkg.name) (pkgs_of (drop l.pair-index l.pairs)))
    ≡ fold with_name [] (map (λ (pkg : Pkg). pkg.name) (pkgs_of l.pairs))
