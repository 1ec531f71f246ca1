-- The pairs of all admitted versions and the candidates of all names, in their orders, make the universe of a request.
use Rattle.std.proofs.Common.{◌≡◌, Bool, List, [], Some, refl, arith}
use Rattle.std.proofs.lemmas.List.Sorted.{IsPermutation-refl}
use Rattle.pins.specs.Prefs.{Preferences}
use Rattle.rules.specs.Available.{Index, counting_package, index_package}
use Rattle.rules.specs.Database.{HasDistinctNames, Record}
use Rattle.rules.specs.ElementLaws.{All-intro, Any-elim}
use Rattle.rules.specs.Universe.{Candidate, IsAdmitted, IsKeptCandidate, IsOf, IsUniverse, Pair, candidate_cmp, pair_cmp}
use Rattle.rules.specs.declared.goal.GoalLine.{GoalLine}
use Rattle.std.proofs.lemmas.Map.Keys.{Less-from_sorted}
use Rattle.candidates.specs.Inputs.{inputs_of}
use Rattle.candidates.specs.Names.{AreNames, NameTable}
use Rattle.universe_build.specs.Build.{goals_of, request_of, universe_with}
use Rattle.universe_build.specs.ByName.{AreAdmitted, AreAscending, AreGiven, Given}
use Rattle.universe_build.specs.Choice.{AreExacts, Exact, exacts_of}

pub IsUniverse-made : (start : List Record) (indices : List Index) (prefs : Preferences) (lines : List GoalLine) (all : Bool)
    (pairs : List Pair) (candidates : List Candidate) → AreAdmitted (inputs_of start indices prefs (request_of lines all)) pairs candidates
    → AreAscending pairs candidates
    → IsUniverse (inputs_of start indices prefs (request_of lines all)) (universe_with start lines pairs candidates)
IsUniverse-made start indices prefs lines all pairs candidates are up = record {
  ascending = λ i j d before within. Less-from_sorted pair_cmp pairs i j d up.of_pairs before within;
  admitted = λ name version. (
    λ admitted. are.pairs_covered name version admitted,
    λ some. Any-elim (λ (pair : Pair). IsOf name version pair.pkg) pairs (IsAdmitted (inputs_of start indices prefs (request_of lines all)) name version)
        (λ pair within of. (are.drawn.pairs_are pair within).admitted name version of) some,
  );
  counting = All-intro (λ (pair : Pair). counting_package (inputs_of start indices prefs (request_of lines all)) pair.pkg.name pair.pkg.version ≡ Some pair.pkg)
      pairs (λ pair within. (are.drawn.pairs_are pair within).counting);
  listed = All-intro (λ (pair : Pair). index_package indices pair.pkg.name pair.pkg.version ≡ pair.listed) pairs
      (λ pair within. (are.drawn.pairs_are pair within).listed);
  goals = refl;
  starts = refl;
  candidates = All-intro (IsKeptCandidate (inputs_of start indices prefs (request_of lines all))) candidates
      (λ one within. are.drawn.candidates_are one within);
  every_candidate = λ name version priority top. are.candidates_covered name version priority top;
  candidates_ascending = λ i j d before within. Less-from_sorted candidate_cmp candidates i j d up.of_candidates before within;
}

-- what a request is answered from
abbrev pub given_by : List Record → List Index → List GoalLine → Bool → Given
given_by start indices lines all = record { start = start; indices = indices; request = request_of lines all }

pub AreGiven-by : (start : List Record) (indices : List Index) (lines : List GoalLine) (all : Bool) (names : NameTable) (asked : List Exact)
    → HasDistinctNames start → AreNames start indices names → AreExacts (exacts_of (goals_of lines)) asked
    → AreGiven (given_by start indices lines all) names asked all
AreGiven-by start indices lines all names asked distinct are exacts = record {
  distinct = distinct;
  names_are = are;
  asked_is = exacts;
  all_is = refl;
}

-- what is asked for where there is no goal
pub none_asked : AreExacts (exacts_of (goals_of [])) []
none_asked = record { ascending = λ k d a b. absurd (omega (arith, b)); same = IsPermutation-refl [] }
