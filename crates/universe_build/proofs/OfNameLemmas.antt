-- What is made of one name: in order, of the name, and all that is admitted of it.
use Rattle.std.proofs.Common.{◌≡◌, ℕ, ℤ, Bool, List, [], Option, Some, None, if◌then◌else◌, refl, sym, ap, subst, ◌∙◌}
use Rattle.std.specs.List.{Contains, filter}
use Rattle.std.specs.List.Sorted.{IsStrictlySortedBy}
use Rattle.std.proofs.lemmas.List.Elements.{Contains-append_cases}
use Rattle.pins.specs.Prefs.{Preferences}
use Rattle.rules.specs.ElementLaws.{Any-intro, Contains-cons, Contains-filter, Contains-head, Contains-map, Contains-nil}
use Rattle.rules.specs.Priority.{IsCandidate}
use Rattle.rules.specs.Universe.{Candidate, IsKeptCandidate, Pair, candidate_cmp}
use Rattle.rules.specs.Version.{SameVersion}
use Rattle.candidates.specs.Candidates.{IsCandidateOf}
use Rattle.candidates.specs.Eligible.{AreEligibleOf}
use Rattle.candidates.specs.Names.{OfName, part_of}
use Rattle.candidates.specs.Offer.{Offer}
use Rattle.universe_build.specs.ByName.{AreNamed, AreOfName, ArePairs, Given, HasCandidate, IsGiven, IsOfName, chosen_pairs, given_inputs, is_chosen, listed_pair, listed_pairs, standing_pair, standing_pairs}
use Rattle.universe_build.specs.Choice.{Exact, candidates_at}
use Rattle.universe_build.proofs.PairsOfName.{IsPair-made, pairs_covered, standing_pair-is}
use Rattle.universe_build.proofs.Sought.{Contains-filter_map}
use Rattle.universe_build.proofs.Texts.{one_candidate}
use mathlib.Core.Logic.{inl, inr}

-- no more than one candidate is in order
pub candidates_ascend : (name : List ℕ) (candidate : Option Offer) → IsStrictlySortedBy candidate_cmp (candidates_at name candidate)
unfolding IsStrictlySortedBy
candidates_ascend name None = tt
candidates_ascend name (Some offer) = (tt, tt)

-- the candidate is of the name
candidates_named : (name : List ℕ) (candidate : Option Offer) (one : Candidate) → Contains (candidates_at name candidate) one → one.name ≡ name
candidates_named name None one within = absurd (Contains-nil one within)
candidates_named name (Some offer) one within = elim (Contains-cons (record { name = name; version = offer.version }) [] one within) [
  | inl same ↦ ap (λ (c : Candidate). c.name) (sym same)
  | inr later ↦ absurd (Contains-nil one later)
]

-- the pairs that are made of what is of the name are of the name
made_named : (own : OfName) (candidate : Option Offer) (versions : List Offer) (asked : List Exact) → IsOfName own → (pair : Pair)
    → Contains (chosen_pairs own candidate versions asked) pair → pair.pkg.name ≡ own.name
made_named own candidate versions asked is pair within = elim (Contains-append_cases (standing_pairs own.ordered own.known)
    (listed_pairs own.known own.ordered candidate versions asked) pair within) [
      | inl here ↦
          let from = Contains-filter_map (standing_pair own.ordered) own.known pair here in
          let parts = standing_pair-is own.ordered from.0 pair from.2 in
          subst (λ (p : Pair). p.pkg.name ≡ own.name) parts.1 (is.records from.0 from.1)
      | inr later ↦
          let from = Contains-map listed_pair (filter (is_chosen own.known candidate versions asked) own.ordered) pair later in
          let kept = Contains-filter (is_chosen own.known candidate versions asked) own.ordered from.0 from.1 in
          subst (λ (p : Pair). p.pkg.name ≡ own.name) from.2 (is.stanzas from.0 kept.0)
    ]

pub AreNamed-made : (own : OfName) (candidate : Option Offer) (versions : List Offer) (asked : List Exact) (pairs : List Pair) → IsOfName own
    → ArePairs (chosen_pairs own candidate versions asked) pairs → AreNamed own.name pairs (candidates_at own.name candidate)
AreNamed-made own candidate versions asked pairs is ordered = record {
  pairs_are = λ pair within. made_named own candidate versions asked is pair (ordered.drawn pair within);
  candidates_are = λ one within. candidates_named own.name candidate one within;
}

module _ (given : Given) (prefs : Preferences) (name : List ℕ) where
  -- the candidate is that of the name
  candidates_kept : (candidate : Option Offer) → IsCandidateOf (given_inputs given prefs) name candidate → (one : Candidate)
      → Contains (candidates_at name candidate) one → IsKeptCandidate (given_inputs given prefs) one
  unfolding IsKeptCandidate
  candidates_kept None is one within = absurd (Contains-nil one within)
  candidates_kept (Some offer) is one within = elim (Contains-cons (record { name = name; version = offer.version }) [] one within) [
    | inl same ↦ subst (IsKeptCandidate (given_inputs given prefs)) same ((offer.priority, is.1), is.2)
    | inr later ↦ absurd (Contains-nil one later)
  ]

  candidates_covered : (candidate : Option Offer) → IsCandidateOf (given_inputs given prefs) name candidate → (version : List ℕ) (priority : ℤ)
      → IsCandidate (given_inputs given prefs) name version priority → HasCandidate name version (candidates_at name candidate)
  candidates_covered None is version priority top = absurd (is version priority top)
  candidates_covered (Some offer) is version priority top =
      Any-intro (λ (one : Candidate). (one.name ≡ name) × SameVersion one.version version) (candidates_at name (Some offer))
      (record { name = name; version = offer.version }) (Contains-head (record { name = name; version = offer.version }) [])
      (refl, one_candidate (given_inputs given prefs) name offer.version version offer.priority priority is.1 top)

-- all that is admitted of the name
pub AreOfName-made : (given : Given) (prefs : Preferences) (own : OfName) (asked : List Exact) (all : Bool) (offers : List Offer)
    (candidate : Option Offer) (versions : List Offer) (pairs : List Pair) → IsGiven given own asked all
    → AreEligibleOf (given_inputs given prefs) own.name offers → IsCandidateOf (given_inputs given prefs) own.name candidate
    → versions ≡ (if all then offers else []) → ArePairs (chosen_pairs own candidate versions asked) pairs
    → AreOfName (given_inputs given prefs) own.name pairs (candidates_at own.name candidate)
AreOfName-made given prefs own asked all offers candidate versions pairs is may top versions_are ordered = record {
  drawn = record {
    pairs_are = λ pair within. IsPair-made given.start given.indices prefs given.request is.names is.of.distinct is.of.names_are own.name
        candidate offers versions asked top may every is.of.asked_is pairs made pair within;
    candidates_are = λ one within. candidates_kept given prefs own.name candidate top one within;
  };
  pairs_covered = λ version admitted. pairs_covered given.start given.indices prefs given.request is.names is.of.distinct is.of.names_are own.name
      candidate offers versions asked top may every is.of.asked_is pairs made version admitted;
  candidates_covered = λ version priority candidate_is. candidates_covered given prefs own.name candidate top version priority candidate_is;
}
  where
    made : ArePairs (chosen_pairs (part_of is.names own.name) candidate versions asked) pairs
    made = subst (λ (o : OfName). ArePairs (chosen_pairs o candidate versions asked) pairs) is.own_is ordered

    every : versions ≡ (if given.request.asks_all_versions then offers else [])
    every = versions_are ∙ ap (λ (b : Bool). if b then offers else []) (sym is.of.all_is)
