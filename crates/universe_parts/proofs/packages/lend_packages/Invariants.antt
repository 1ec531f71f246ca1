-- The packages that were lent so far.
use Rattle.std.proofs.Common.{◌≡◌, Bor, map, take}
use Rattle.rules.specs.Package.{Pkg}
use Rattle.universe_parts.proofs.packages.lend_packages.Given as goal

abbrev pub invariant-loop-pkg : goal.invariant-loop-pkg
invariant-loop-pkg l = map (λ (pkg : Bor Pkg). pkg.now) l.lent.items ≡ take l.pkg-index l.packages
