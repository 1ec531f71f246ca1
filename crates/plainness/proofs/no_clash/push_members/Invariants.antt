-- The packages so far, and the members that are left, are all of them.
use Rattle.std.proofs.Common.{◌≡◌, ◌++◌, Bor, drop, map}
use Rattle.rules.specs.Package.{Pkg}
use Rattle.plainness.proofs.no_clash.push_members.Given as goal

abbrev pub invariant-loop-member : goal.invariant-loop-member
invariant-loop-member l =
    map (λ (pkg : Bor Pkg). pkg.now) l.packages.items ++ map (λ (pkg : Bor Pkg). pkg.now) (drop l.member-index l.members)
    ≡ map (λ (pkg : Bor Pkg). pkg.now) l.fn.packages.items ++ map (λ (pkg : Bor Pkg). pkg.now) l.members
