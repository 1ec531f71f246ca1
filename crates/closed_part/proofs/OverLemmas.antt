-- A part of a universe is the universe with other pairs.
use Rattle.std.proofs.Common.{◌≡◌, ℕ, List, refl, sym, ap, ◌∙◌}
use Rattle.rules.specs.Universe.{Universe, Pair, Start, Candidate}
use Rattle.rules.specs.declared.goal.Goal.{Goal}
use Rattle.closed_part.specs.Part.{IsPart}

-- the universe of these
abbrev made : List Pair → List Goal → List Start → List Candidate → Universe
made pairs goals starts candidates = record { pairs = pairs; goals = goals; starts = starts; candidates = candidates }

-- the universe with these pairs in place of its own
abbrev pub over : Universe → List Pair → Universe
over u pairs = made pairs u.goals u.starts u.candidates

pub is_over : (u : Universe) (numbers : List ℕ) (part : Universe) → IsPart u numbers part → over u part.pairs ≡ part
is_over u numbers part is =
    ap (λ goals. made part.pairs goals u.starts u.candidates) (sym is.goals)
    ∙ ap (λ starts. made part.pairs part.goals starts u.candidates) (sym is.starts)
    ∙ ap (λ candidates. made part.pairs part.goals part.starts candidates) (sym is.candidates)

-- with the same numbers it is a part of the universe
pub over_part : (u : Universe) (numbers : List ℕ) (part : Universe) → IsPart u numbers part → IsPart u numbers (over u part.pairs)
over_part u numbers part is = record {
  ascending = is.ascending;
  pairs = is.pairs;
  goals = refl;
  starts = refl;
  candidates = refl;
}
