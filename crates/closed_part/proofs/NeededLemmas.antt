-- The pairs of a closed part ascend, and those that must be selected are there.
use Rattle.std.proofs.Common.{◌≡◌, ℕ, suc, ◌<◌, false, List, Option, Some, None, MatchOption, get_or, sym, subst, arith}
use Rattle.std.specs.Prelude.{IsTrue, ⊤}
use Rattle.std.specs.List.{Any, Contains}
use Rattle.std.specs.declared.cmp.Ordering.TheVariants.{Less}
use Rattle.std.proofs.lemmas.List.Elements.{All-contains}
use Rattle.std.proofs.lemmas.Option.{slice_get-get_or}
use Rattle.rules.specs.ElementLaws.{All-intro, Any-elim, Any-intro}
use Rattle.rules.specs.Minimal.{IsWanted, WasPresent}
use Rattle.rules.specs.Universe.{Universe, Pair, Start, IsOf, candidate_of, pair_cmp}
use Rattle.rules.specs.Verdict.{HasPair}
use Rattle.refutation.specs.Laws.{CandidateHasPair, HasAscendingPairs, HasNeededPairs}
use Rattle.closed_part.specs.Laws.{PartHasNeededPairs}
use Rattle.closed_part.specs.Part.{IsClosedPart, IsPart, StandingWerePresent}
use Rattle.closed_part.proofs.OverLemmas.{over, is_over, over_part}
use Rattle.closed_part.proofs.PkgLemmas.{lowered_pair, pkg_of_pair, raised_pair}
use Rattle.closed_part.proofs.PlaceLemmas.{item_within, numbered, rising}
use mathlib.Core.Logic.{inl}

-- what follows of a value that is there
match_weaker : {X : Type 0} (o : Option X) (P Q : X → Type 0) → ((x : X) → P x → Q x) → MatchOption o ⊤ P → MatchOption o ⊤ Q
match_weaker None P Q weaker holds = tt
match_weaker (Some x) P Q weaker holds = weaker x holds

-- and of one that is there of which two things hold
pub match_both : {X : Type 0} (o : Option X) (P Q R : X → Type 0) → ((x : X) → P x → Q x → R x) → MatchOption o ⊤ P → MatchOption o ⊤ Q
    → MatchOption o ⊤ R
match_both None P Q R gives one two = tt
match_both (Some x) P Q R gives one two = gives x one two

part_ascends : (u part : Universe) (numbers : List ℕ) → HasAscendingPairs u → IsPart u numbers part → HasAscendingPairs part
unfolding HasAscendingPairs
part_ascends u part numbers ascending is i j d less within =
    let one = raised_pair u part numbers is.pairs (suc i) (get_or part.pairs i d) (slice_get-get_or part.pairs i d (omega (arith, less, within))) in
    let two = raised_pair u part numbers is.pairs (suc j) (get_or part.pairs j d) (slice_get-get_or part.pairs j d within) in
    rising (λ earlier later. pair_cmp earlier later ≡ Less) u.pairs ascending one.0 two.0 (get_or part.pairs i d) (get_or part.pairs j d)
    (rising (λ earlier later. earlier < later) numbers is.ascending (suc i) (suc j) one.0 two.0 (omega (arith, less)) one.1 two.1)
    one.2 two.2

module _ (u : Universe) (numbers : List ℕ) (pairs : List Pair) (is : IsPart u numbers (over u pairs)) (closed : IsClosedPart u numbers)
    (standing : StandingWerePresent u) where
  abbrev part : Universe
  part = over u pairs

  -- a pair of a name that was present is in the part
  has_pair : (start : Start) → Contains u.starts start → IsTrue start.is_present → (version : List ℕ) → HasPair u start.name version
      → HasPair part start.name version
  unfolding HasPair IsWanted WasPresent
  has_pair start within present version has = Any-elim (λ (pair : Pair). IsOf start.name version pair.pkg) u.pairs
      (Any (λ (pair : Pair). IsOf start.name version pair.pkg) pairs) (λ pair among of.
      let at = numbered u.pairs pair among in
      let place = numbered numbers at.0 (closed.wanted at.0 pair.pkg (pkg_of_pair u at.0 pair at.1)
      (inl (Any-intro (λ (fact : Start). (fact.name ≡ pair.pkg.name) × IsTrue fact.is_present) u.starts start within (sym of.0, present)))) in
      Any-intro (λ (pair : Pair). IsOf start.name version pair.pkg) pairs pair
      (item_within pairs place.0 pair (lowered_pair u part numbers is.pairs place.0 at.0 pair place.1 at.1)) of) has

  -- a start that stands was present
  was_present : (start : Start) → Contains u.starts start → MatchOption start.standing ⊤ (λ _. IsTrue start.is_present)
  was_present start within = All-contains (λ (start : Start). MatchOption start.standing ⊤ (λ _. IsTrue start.is_present))
      u.starts start standing within

  has_needed : HasNeededPairs u → HasNeededPairs part
  has_needed needed = record {
    held = All-intro (λ (start : Start). IsTrue start.is_held → MatchOption start.standing ⊤ (HasPair part start.name)) u.starts
        (λ start within held. match_both start.standing (λ _. IsTrue start.is_present) (HasPair u start.name) (HasPair part start.name)
        (λ version present has. has_pair start within present version has) (was_present start within)
        (All-contains (λ (start : Start). IsTrue start.is_held → MatchOption start.standing ⊤ (HasPair u start.name)) u.starts start
        needed.held within held));
    candidates = All-intro (λ (start : Start). (start.is_held ≡ false) → MatchOption start.standing ⊤ (λ _. CandidateHasPair part start.name))
        u.starts (λ start within free. match_both start.standing (λ _. IsTrue start.is_present) (λ _. CandidateHasPair u start.name)
        (λ _. CandidateHasPair part start.name) (λ _ present has. match_weaker (candidate_of u start.name) (HasPair u start.name)
        (HasPair part start.name) (λ version. has_pair start within present version) has) (was_present start within)
        (All-contains (λ (start : Start). (start.is_held ≡ false) → MatchOption start.standing ⊤ (λ _. CandidateHasPair u start.name))
        u.starts start needed.candidates within free));
  }

pub part_has_needed_pairs : PartHasNeededPairs
part_has_needed_pairs u part numbers ascending needed standing is closed = (
  part_ascends u part numbers ascending is,
  subst HasNeededPairs (is_over u numbers part is)
      (has_needed u numbers part.pairs (over_part u numbers part is) closed standing needed),
)
