-- What is admitted without goals is what is admitted beside goals that ask for no other version.
use Rattle.std.proofs.Common.{◌≡◌, ℕ, ℤ, Bool, true, ◌&&◌, List, [], ◌∷◌, map, Option, refl, sym, ap, subst, ◌∙◌}
use Rattle.std.specs.Prelude.{◌⊎◌}
use Rattle.std.specs.Option.{option_map_or}
use Rattle.std.specs.List.{Any, Contains, list_all, list_any}
use Rattle.std.proofs.lemmas.Bool.{and_parts}
use Rattle.std.proofs.lemmas.List.Elements.{All-weaker}
use Rattle.pins.specs.Prefs.{Preferences}
use Rattle.rules.specs.Available.{Index, Inputs, Request, all_listed, is_of}
use Rattle.rules.specs.Database.{Record}
use Rattle.rules.specs.ElementLaws.{Any-elim, Any-from_list_any, Any-weaker, Contains-cons, Contains-map, Contains-nil}
use Rattle.rules.specs.Priority.{HasPriority, IsCandidate, IsDowngrade, IsEligible}
use Rattle.rules.specs.Universe.{Candidate, IsAdmitted, IsKeptCandidate, IsKeptText, IsOf, IsOffered, IsUniverse, NamesExactly, Pair}
use Rattle.rules.specs.VersionOrderLaws.{SameVersion-symm, SameVersion-trans}
use Rattle.rules.specs.declared.goal.Goal.{Goal}
use Rattle.rules.specs.declared.goal.GoalLine.{GoalLine}
use Rattle.candidates.specs.Names.{AreNames, NameTable}
use Rattle.universe.specs.Admitted.{Admitted, asked_of}
use Rattle.universe_parts.specs.PairLaws.{is_of-parts}
use Rattle.universe_build.specs.Build.{first_unknown, goals_of, inputs_of, request_of}
use Rattle.universe_build.specs.Choice.{Exact}
use Rattle.universe_build.specs.Listing.{IsListing, Listing, are_among, is_among}
use Rattle.universe_build.proofs.Searching.{first_unknown-ordered}
use Rattle.universe_build.proofs.Sought.{NamesExactly-is}
use mathlib.Core.Logic.{inl, inr}

-- requests change nothing of what may be chosen by itself
eligible : (inputs : Inputs) (other : Request) (name version : List ℕ) (priority : ℤ) → IsEligible inputs name version priority
    → IsEligible (record inputs { request = other }) name version priority
unfolding IsEligible HasPriority IsDowngrade
eligible inputs other name version priority is = is

candidate : (inputs : Inputs) (other : Request) (name version : List ℕ) (priority : ℤ) → IsCandidate inputs name version priority
    → IsCandidate (record inputs { request = other }) name version priority
candidate inputs other name version priority is = record {
  eligible = eligible inputs other name version priority is.eligible;
  greatest = λ beside beside_priority may. is.greatest beside beside_priority
      (eligible (record inputs { request = other }) inputs.request name beside beside_priority may);
}

kept : (inputs : Inputs) (other : Request) (own : Candidate) → IsKeptCandidate inputs own
    → IsKeptCandidate (record inputs { request = other }) own
unfolding IsKeptCandidate IsKeptText
kept inputs other own is = ((is.0.0, candidate inputs other own.name own.version is.0.0 is.0.1), is.1)

-- a version that a goal of the lines asks for is that of a pair
at_line : (pairs : List Pair) (lines : List GoalLine) (asked : GoalLine) → Contains lines asked → are_among pairs lines ≡ true
    → is_among pairs asked.goal ≡ true
at_line pairs [] asked within are = absurd (Contains-nil asked within)
at_line pairs (line ∷ lines) asked within are =
    let both = and_parts (is_among pairs line.goal) (are_among pairs lines) are in
    elim (Contains-cons line lines asked within) [
      | inl same ↦ subst (λ (one : GoalLine). is_among pairs one.goal ≡ true) same both.0
      | inr later ↦ at_line pairs lines asked later both.1
    ]

of_goal : (pairs : List Pair) (asked : Goal) → is_among pairs asked ≡ true → (name version : List ℕ) → NamesExactly name version asked
    → Any (λ pair. IsOf name version pair.pkg) pairs
of_goal pairs asked is name version names =
    let exact = NamesExactly-is name version asked names in
    let among : list_any (λ pair. is_of exact.0.name exact.0.version pair.pkg) pairs ≡ true =
    sym (ap (λ o. option_map_or (λ (one : Exact). list_any (λ (pair : Pair). is_of one.name one.version pair.pkg) pairs) o true) exact.1) ∙ is in
    Any-weaker (λ (pair : Pair). is_of exact.0.name exact.0.version pair.pkg ≡ true) (λ (pair : Pair). IsOf name version pair.pkg) pairs
    (λ pair within passes.
    let own = is_of-parts exact.0.name exact.0.version pair.pkg passes in (
      own.0 ∙ exact.2,
      SameVersion-trans pair.pkg.version exact.0.version version own.1 (SameVersion-symm version exact.0.version exact.3),
    ))
    (Any-from_list_any (λ (pair : Pair). is_of exact.0.name exact.0.version pair.pkg) pairs among)

asked_for : (pairs : List Pair) (lines : List GoalLine) → are_among pairs lines ≡ true → (name version : List ℕ)
    → Any (NamesExactly name version) (goals_of lines) → Any (λ pair. IsOf name version pair.pkg) pairs
asked_for pairs lines are name version some =
    Any-elim (NamesExactly name version) (goals_of lines) (Any (λ pair. IsOf name version pair.pkg) pairs)
    (λ asked within names.
    let line = Contains-map (λ (line : GoalLine). line.goal) lines asked within in
    of_goal pairs asked (subst (λ (one : Goal). is_among pairs one ≡ true) line.2 (at_line pairs lines line.0 line.1 are)) name version names)
    some

-- what is admitted without goals is admitted beside them
more : (start : List Record) (indices : List Index) (prefs : Preferences) (lines : List GoalLine) (all : Bool) (name version : List ℕ)
    → IsAdmitted (inputs_of start indices prefs (request_of [] all)) name version
    → IsAdmitted (inputs_of start indices prefs (request_of lines all)) name version
unfolding IsAdmitted IsOffered
more start indices prefs lines all name version (inl stands) = inl stands
more start indices prefs lines all name version (inr (free, inl (priority, is))) =
    inr (free, inl (priority, candidate (inputs_of start indices prefs (request_of [] all)) (request_of lines all) name version priority is))
more start indices prefs lines all name version (inr (free, inr (inl (available, exact)))) =
    absurd (Any-elim (NamesExactly name version) [] ⊥ (λ asked within names. Contains-nil asked within) exact)
more start indices prefs lines all name version (inr (free, inr (inr (every, (priority, is))))) =
    inr (free, inr (inr (every, (priority, eligible (inputs_of start indices prefs (request_of [] all)) (request_of lines all) name version priority is))))

-- what is admitted beside goals is admitted without them, or a goal asks for it
fewer : (start : List Record) (indices : List Index) (prefs : Preferences) (lines : List GoalLine) (all : Bool) (name version : List ℕ)
    → IsAdmitted (inputs_of start indices prefs (request_of lines all)) name version
    → IsAdmitted (inputs_of start indices prefs (request_of [] all)) name version ⊎ Any (NamesExactly name version) (goals_of lines)
unfolding IsAdmitted IsOffered
fewer start indices prefs lines all name version (inl stands) = inl (inl stands)
fewer start indices prefs lines all name version (inr (free, inl (priority, is))) =
    inl (inr (free, inl (priority, candidate (inputs_of start indices prefs (request_of lines all)) (request_of [] all) name version priority is)))
fewer start indices prefs lines all name version (inr (free, inr (inl (available, exact)))) = inr exact
fewer start indices prefs lines all name version (inr (free, inr (inr (every, (priority, is))))) =
    inl (inr (free, inr (inr (every, (priority, eligible (inputs_of start indices prefs (request_of lines all)) (request_of [] all) name version priority is)))))

-- the universe of no goals, with goals that ask for its versions alone, is theirs
pub of_covered : (start : List Record) (indices : List Index) (prefs : Preferences) (lines : List GoalLine) (all : Bool) (admitted : Admitted)
    → are_among admitted.pairs lines ≡ true
    → IsUniverse (inputs_of start indices prefs (request_of [] all)) (asked_of admitted [])
    → IsUniverse (inputs_of start indices prefs (request_of lines all)) (asked_of admitted (goals_of lines))
of_covered start indices prefs lines all admitted are is = record {
  ascending = is.ascending;
  admitted = λ name version. (
    λ may. elim (fewer start indices prefs lines all name version may) [
      | inl without ↦ (is.admitted name version).0 without
      | inr exact ↦ asked_for admitted.pairs lines are name version exact
    ],
    λ some. more start indices prefs lines all name version ((is.admitted name version).1 some),
  );
  counting = is.counting;
  listed = is.listed;
  goals = refl;
  starts = is.starts;
  candidates = All-weaker (IsKeptCandidate bare) (IsKeptCandidate (inputs_of start indices prefs (request_of lines all)))
      (kept bare (request_of lines all)) admitted.candidates is.candidates;
  every_candidate = λ name version priority may. is.every_candidate name version priority
      (candidate (inputs_of start indices prefs (request_of lines all)) (request_of [] all) name version priority may);
  candidates_ascending = is.candidates_ascending;
}
  where
    bare : Inputs
    bare = inputs_of start indices prefs (request_of [] all)

-- what is unknown among the names of a listing is unknown among the start and the indices
pub unknown_among : (start : List Record) (indices : List Index) (prefs : Preferences) (listing : Listing) (names : NameTable) → names ≡ listing.names
    → IsListing start indices prefs listing → (lines goals : List GoalLine) → lines ≡ goals → (line : Option ℕ)
    → line ≡ first_unknown names.known names.ordered lines → first_unknown start (all_listed indices) goals ≡ line
unknown_among start indices prefs listing names same is lines goals are line known =
    let of : AreNames start indices names = subst (AreNames start indices) (sym same) is.names in
    subst (λ (asked : List GoalLine). first_unknown start (all_listed indices) asked ≡ line) are
    (sym (first_unknown-ordered start names.known (all_listed indices) names.ordered of.known of.ordered lines) ∙ sym known)
