-- What may be chosen, apart from what is asked for.
use Rattle.std.specs.Prelude.{List}
use Rattle.rules.specs.Universe.{Candidate, Pair, Start, Universe}
use Rattle.rules.specs.declared.goal.Goal.{Goal}

-- the admitted pairs, the facts of the start and the candidates
pub record Admitted : Type 0 where
  pub pairs : List Pair
  pub starts : List Start
  pub candidates : List Candidate

-- the universe of these goals
abbrev pub asked_of : Admitted → List Goal → Universe
asked_of admitted goals =
    record { pairs = admitted.pairs; goals = goals; starts = admitted.starts; candidates = admitted.candidates }
