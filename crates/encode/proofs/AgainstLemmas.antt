-- What a pair is against, as premises.
use Rattle.std.proofs.Common.{◌≡◌, ◌≢◌, ℕ, ◌+◌, ◌<◌, ◌⊎◌, List, None, length, refl, sym, subst, nat_lt}
use Rattle.std.proofs.lemmas.Bool.{lt-ltb, ltb-true}
use Rattle.std.specs.Prelude.{◌↔◌, ⊤, slice_get}
use Rattle.std.specs.List.{Any, Contains, filter}
use Rattle.rules.specs.ElementLaws.{Any-elim, Any-intro, Contains-filter, Contains-filter_intro}
use Rattle.rules.specs.Package.{Atom, BreaksOther, ConflictsWith, MatchesSome, Pkg}
use Rattle.rules.specs.Universe.{Universe}
use Rattle.refutation.specs.Clause.{IsListOf}
use Rattle.refutation.specs.Premise.{BreaksAnother, ConflictsWithOther, IsEitherOut, IsInPremise, IsPremise, PairHas, PairsAre}
use Rattle.refutation.specs.declared.literal.Literal.{Literal}
use Rattle.refutation.specs.declared.line.Premise.{Premise}
use Rattle.refutation.specs.declared.line.Premise.TheVariants as premise
use Rattle.universe_parts.specs.Parts.{packages_of}
use Rattle.encode.specs.Against.{IsAgainstBy, IsAgainstEach, premise_against}
use Rattle.encode.specs.Growing.{IsAgainst, IsAgainstOf, IsOfFirst, PkgIsAt}
use Rattle.encode.specs.declared.against.Against.{Against}
use Rattle.encode.specs.declared.against.Against.TheVariants as against
use Rattle.encode.specs.Numbers.{AreNumbersOf}
use Rattle.encode.proofs.NumberLemmas.{none_in}
use Rattle.encode.proofs.PairLemmas.{has_pkg, within_pairs}
use mathlib.Core.Logic.{inl, inr}

-- what a package stands to, where it is at the number
pub others_are : (u : Universe) (number other : ℕ) (pkg : Pkg) (R : Pkg → Pkg → Type 0) → PkgIsAt u number pkg
    → PairHas u other (R pkg) ↔ PairsAre u number other R
others_are u number other pkg R is = has_pkg u number pkg (λ p. PairHas u other (R p)) is

-- the premises of each of a list of others
pub each_other : (why : Against) (number : ℕ) (others : List ℕ) (reason : Premise)
    → Any (λ other. reason ≡ premise_against why number other) others ↔ IsAgainstEach why number others reason
each_other why number others reason = (
  λ some. Any-elim (λ other. reason ≡ premise_against why number other) others (IsAgainstEach why number others reason)
      (λ other within same. (other, within, same)) some,
  λ (other, within, same). Any-intro (λ one. reason ≡ premise_against why number one) others other within same,
)

-- that one of two pairs isn't selected is the clause of each kind
pub either_list : (u : Universe) (why : Against) (number other : ℕ) (literals slice : List Literal) (made : Premise)
    → made ≡ premise_against why number other → slice ≡ literals → IsListOf (IsEitherOut number other) literals
    → IsListOf (IsInPremise u made) slice
either_list u why number other literals slice made is same list =
    let Made : Premise → Type 0 = λ p. IsListOf (IsInPremise u p) slice in
    let Over : List Literal → Type 0 = λ xs. IsListOf (IsEitherOut number other) xs in
    subst Made (sym is) (by why (subst Over (sym same) list))
  where
    by : (kind : Against) → IsListOf (IsEitherOut number other) slice → IsListOf (IsInPremise u (premise_against kind number other)) slice
    by against.Same so = so
    by against.Conflicts so = so
    by against.Breaks so = so

-- where the others are just those of premises, so are the premises
pub each_premise : (u : Universe) (why : Against) (number : ℕ) (others slice : List ℕ) → slice ≡ others
    → ((other : ℕ) → Contains others other ↔ IsPremise u (premise_against why number other)) → (reason : Premise)
    → IsAgainstEach why number slice reason ↔ (IsPremise u reason × IsAgainstBy why number reason)
each_premise u why number others slice is all reason =
    let Over : List ℕ → Type 0 = λ xs. IsAgainstEach why number xs reason ↔ (IsPremise u reason × IsAgainstBy why number reason) in
    subst Over (sym is) (
      λ (other, within, same). (subst (IsPremise u) (sym same) ((all other).0 within), (other, same)),
      λ (so, (other, same)). (other, (all other).1 (subst (IsPremise u) same so), same),
    )

-- the three kinds of premises are what the pair is against
pub three_kinds : (u : Universe) (number : ℕ) (reason : Premise)
    → (((IsPremise u reason × IsAgainstBy against.Same number reason) ⊎ (IsPremise u reason × IsAgainstBy against.Conflicts number reason))
    ⊎ (IsPremise u reason × IsAgainstBy against.Breaks number reason))
    ↔ (IsPremise u reason × IsAgainstOf number reason)
three_kinds u number reason = (to, from reason)
  where
    by : (why : Against) (f : Premise) → IsPremise u f × IsAgainstBy why number f → IsPremise u f × IsAgainstOf number f
    by against.Same f (so, (other, same)) = (so, subst (IsAgainstOf number) (sym same) refl)
    by against.Conflicts f (so, (other, same)) = (so, subst (IsAgainstOf number) (sym same) refl)
    by against.Breaks f (so, (other, same)) = (so, subst (IsAgainstOf number) (sym same) refl)

    to : ((IsPremise u reason × IsAgainstBy against.Same number reason) ⊎ (IsPremise u reason × IsAgainstBy against.Conflicts number reason))
        ⊎ (IsPremise u reason × IsAgainstBy against.Breaks number reason) → IsPremise u reason × IsAgainstOf number reason
    to (inl (inl so)) = by against.Same reason so
    to (inl (inr so)) = by against.Conflicts reason so
    to (inr so) = by against.Breaks reason so

    from : (f : Premise) → IsPremise u f × IsAgainstOf number f
        → ((IsPremise u f × IsAgainstBy against.Same number f) ⊎ (IsPremise u f × IsAgainstBy against.Conflicts number f))
        ⊎ (IsPremise u f × IsAgainstBy against.Breaks number f)
    from (premise.Same pair other) (so, of) =
        let Of : ℕ → Type 0 = λ n. premise.Same pair other ≡ premise.Same n other in inl (inl (so, (other, subst Of of refl)))
    from (premise.PreDepends pair clause) (so, of) = absurd of
    from (premise.Depends pair clause) (so, of) = absurd of
    from (premise.Conflicts pair other) (so, of) =
        let Of : ℕ → Type 0 = λ n. premise.Conflicts pair other ≡ premise.Conflicts n other in inl (inr (so, (other, subst Of of refl)))
    from (premise.Breaks pair other) (so, of) =
        let Of : ℕ → Type 0 = λ n. premise.Breaks pair other ≡ premise.Breaks n other in inr (so, (other, subst Of of refl))
    from (premise.Goal asked) (so, of) = absurd of
    from (premise.GoalOn asked pair) (so, of) = absurd of
    from (premise.Hold pair) (so, of) = absurd of
    from (premise.Essential name) (so, of) = absurd of
    from (premise.Keep name) (so, of) = absurd of

-- a premise of what a pair is against speaks of that pair
pub against_has : (u : Universe) (number : ℕ) (reason : Premise) → IsPremise u reason → IsAgainstOf number reason → PairHas u number (λ _. ⊤)
against_has u number (premise.Same pair other) (less, (here, there, has)) of =
    let Has : ℕ → Type 0 = λ n. PairHas u n (λ _. ⊤) in subst Has of (here, there, tt)
against_has u number (premise.PreDepends pair clause) so of = absurd of
against_has u number (premise.Depends pair clause) so of = absurd of
against_has u number (premise.Conflicts pair other) (here, there, has) of =
    let Has : ℕ → Type 0 = λ n. PairHas u n (λ _. ⊤) in subst Has of (here, there, tt)
against_has u number (premise.Breaks pair other) (here, there, has) of =
    let Has : ℕ → Type 0 = λ n. PairHas u n (λ _. ⊤) in subst Has of (here, there, tt)
against_has u number (premise.Goal asked) so of = absurd of
against_has u number (premise.GoalOn asked pair) so of = absurd of
against_has u number (premise.Hold pair) so of = absurd of
against_has u number (premise.Essential name) so of = absurd of
against_has u number (premise.Keep name) so of = absurd of

pub against_none : (u : Universe) (place : ℕ) → None ≡ slice_get (packages_of u.pairs) place → (reason : Premise)
    → ¬ (IsPremise u reason × IsAgainstOf (place + 1) reason)
against_none u place is reason (so, of) = none_in u place (λ _. ⊤) is (against_has u (place + 1) reason so of)

-- what the pairs at all places are against is what pairs are against
pub all_pairs_against : (u : Universe) (reason : Premise)
    → IsOfFirst (λ place one. IsPremise u one × IsAgainstOf (place + 1) one) (length u.pairs) reason ↔ (IsPremise u reason × IsAgainst reason)
all_pairs_against u reason = (
  λ (place, within, (so, of)). (so, (place + 1, of)),
  λ (so, (number, of)).
      let (place, next, within) = within_pairs u number (λ _. ⊤) (against_has u number reason so of) in
      let Of : ℕ → Type 0 = λ n. IsAgainstOf n reason in
      (place, within, (so, subst Of next of)),
)

-- of numbers those behind a number, where the numbers are those of the pairs of a name
pub behind_are : (u : Universe) (number : ℕ) (P : Pkg → Type 0) (numbers slice others : List ℕ) → slice ≡ numbers → AreNumbersOf u P numbers
    → others ≡ filter (λ other. nat_lt number other) slice → (other : ℕ) → Contains others other ↔ ((number < other) × PairHas u other P)
behind_are u number P numbers slice others is are passed other =
    let Over : List ℕ → Type 0 = λ xs. Contains xs other ↔ ((number < other) × PairHas u other P) in
    let Of : List ℕ → Type 0 = λ xs. Contains (filter (λ o. nat_lt number o) xs) other ↔ ((number < other) × PairHas u other P) in
    subst Over (sym passed) (subst Of (sym is) (
      λ within. let both = Contains-filter (λ o. nat_lt number o) numbers other within in (ltb-true number other both.1, (are other).0 both.0),
      λ (less, has). Contains-filter_intro (λ o. nat_lt number o) numbers other ((are other).1 has) (lt-ltb number other less),
    ))

-- the pairs behind it of its name are those of which it is the same name
pub same_premises : (u : Universe) (number : ℕ) (pkg : Pkg) (name : List ℕ) (why : Against) (others : List ℕ) → PkgIsAt u number pkg
    → name ≡ pkg.name → why ≡ against.Same
    → ((other : ℕ) → Contains others other ↔ ((number < other) × PairHas u other (λ p. p.name ≡ name)))
    → (other : ℕ) → Contains others other ↔ IsPremise u (premise_against why number other)
same_premises u number pkg name why others at called is are other =
    let Why : Against → Type 0 = λ w. Contains others other ↔ IsPremise u (premise_against w number other) in
    let Name : List ℕ → Type 0 = λ n. Contains others other ↔ ((number < other) × PairHas u other (λ p. p.name ≡ n)) in
    let here = subst Name called (are other) in
    let all = others_are u number other pkg (λ p other_pkg. other_pkg.name ≡ p.name) at in
    subst Why (sym is) (
      λ within. let both = here.0 within in (both.0, all.0 both.1),
      λ (less, pairs). here.1 (less, all.1 pairs),
    )

-- the pairs of other names that match an atom of its Conflicts, or of its Breaks, are those that it is against
pub conflicts_premises : (u : Universe) (number : ℕ) (pkg : Pkg) (name : List ℕ) (atoms : List Atom) (why : Against) (others : List ℕ)
    → PkgIsAt u number pkg → name ≡ pkg.name → atoms ≡ pkg.relations.conflicts → why ≡ against.Conflicts
    → AreNumbersOf u (λ p. (p.name ≢ name) × MatchesSome p atoms) others
    → (other : ℕ) → Contains others other ↔ IsPremise u (premise_against why number other)
unfolding ConflictsWith
conflicts_premises u number pkg name atoms why others at called listed is are other =
    let Why : Against → Type 0 = λ w. Contains others other ↔ IsPremise u (premise_against w number other) in
    let Name : List ℕ → Type 0 = λ n. Contains others other ↔ PairHas u other (λ p. (p.name ≢ n) × MatchesSome p atoms) in
    let Of : List Atom → Type 0 = λ xs. Contains others other ↔ PairHas u other (λ p. (p.name ≢ pkg.name) × MatchesSome p xs) in
    let here = subst Of listed (subst Name called (are other)) in
    let all = others_are u number other pkg ConflictsWithOther at in
    subst Why (sym is) (λ within. all.0 (here.0 within), λ pairs. here.1 (all.1 pairs))

pub breaks_premises : (u : Universe) (number : ℕ) (pkg : Pkg) (name : List ℕ) (atoms : List Atom) (why : Against) (others : List ℕ)
    → PkgIsAt u number pkg → name ≡ pkg.name → atoms ≡ pkg.relations.breaks → why ≡ against.Breaks
    → AreNumbersOf u (λ p. (p.name ≢ name) × MatchesSome p atoms) others
    → (other : ℕ) → Contains others other ↔ IsPremise u (premise_against why number other)
unfolding BreaksOther
breaks_premises u number pkg name atoms why others at called listed is are other =
    let Why : Against → Type 0 = λ w. Contains others other ↔ IsPremise u (premise_against w number other) in
    let Name : List ℕ → Type 0 = λ n. Contains others other ↔ PairHas u other (λ p. (p.name ≢ n) × MatchesSome p atoms) in
    let Of : List Atom → Type 0 = λ xs. Contains others other ↔ PairHas u other (λ p. (p.name ≢ pkg.name) × MatchesSome p xs) in
    let here = subst Of listed (subst Name called (are other)) in
    let all = others_are u number other pkg BreaksAnother at in
    subst Why (sym is) (λ within. all.0 (here.0 within), λ pairs. here.1 (all.1 pairs))
