-- The packages so far clash with none.
use Rattle.std.proofs.Common.{Bor, take}
use Rattle.std.specs.List.{All}
use Rattle.rules.specs.Package.{Pkg}
use Rattle.plainness.specs.Parts.{ClashesWithNone}
use Rattle.plainness.proofs.no_clash.all_clash_with_none.Given as goal

abbrev pub invariant-loop-pkg : goal.invariant-loop-pkg
invariant-loop-pkg l = All (λ (pkg : Bor Pkg). ClashesWithNone l.packages pkg.now) (take l.pkg-index l.each)
