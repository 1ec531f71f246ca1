-- None of the atoms so far is matched.
use Rattle.std.proofs.Common.{take}
use Rattle.std.specs.List.{All}
use Rattle.plainness.proofs.PackageLemmas.{IsUnmatched}
use Rattle.plainness.proofs.packages.Packages.have_match.Given as goal

abbrev pub invariant-loop-atom : goal.invariant-loop-atom
invariant-loop-atom l = All (IsUnmatched l.self l.name) (take l.atom-index l.atoms)
