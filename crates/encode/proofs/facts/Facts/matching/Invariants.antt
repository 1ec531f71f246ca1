-- The numbers are those of the atoms so far.
use Rattle.std.proofs.Common.{take}
use Rattle.rules.specs.Package.{MatchesSome}
use Rattle.encode.specs.Numbers.{AreNumbersOf}
use Rattle.encode.proofs.facts.Facts.matching.Given as goal

abbrev pub invariant-loop-atom : goal.invariant-loop-atom
invariant-loop-atom l = AreNumbersOf l.self (λ pkg. MatchesSome pkg (take l.atom-index l.atoms)) l.numbers.keys
