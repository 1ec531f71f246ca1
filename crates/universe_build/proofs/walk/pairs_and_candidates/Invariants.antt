-- The pairs and the candidates so far are those of the names that aren't left.
use Rattle.std.proofs.Common.{◌+◌, length}
use Rattle.universe_build.specs.ByName.{AreAscending, AreBefore, AreBehind, AreGiven, Given, given_inputs}
use Rattle.universe_build.proofs.WalkLemmas.{AreRest}
use Rattle.universe_build.proofs.walk.pairs_and_candidates.Given as goal

abbrev pub invariant-loop-own : goal.invariant-loop-own
invariant-loop-own l = record {
  rest : AreRest l.names l.left;
  ascending : AreAscending l.pairs.items l.candidates.items;
  before : AreBefore l.left l.pairs.items l.candidates.items;
  behind : (given : Given) → AreGiven given l.names l.asked l.asks_all_versions
      → AreBehind (given_inputs given l.prefs) l.left l.pairs.items l.candidates.items;
}

abbrev pub decreases-loop-own : goal.decreases-loop-own
decreases-loop-own l = length l.left.known + length l.left.ordered
