-- Over a closed part the clause of a premise has the same literals as in the universe.
use Rattle.std.proofs.Common.{◌≡◌, ℕ, List, ◌⊎◌, Some, refl, sym, ap, subst}
use Rattle.std.specs.Prelude.{◌↔◌, ⊤}
use Rattle.std.specs.List.{Any, Contains}
use Rattle.rules.specs.ElementLaws.{Any-intro}
use Rattle.rules.specs.Minimal.{IsWanted, Needs, pkg_at}
use Rattle.rules.specs.Package.{Pkg, Atom, MatchesSome}
use Rattle.rules.specs.Universe.{Universe, Pair}
use Rattle.rules.specs.PlanLaws.{IsEssentialIn}
use Rattle.rules.specs.declared.goal.Goal.{Goal}
use Rattle.rules.specs.declared.goal.Goal.TheVariants as goal
use Rattle.refutation.specs.Clause.{HasAt, item_at}
use Rattle.refutation.specs.Premise.{IsAskedBy, IsEitherOut, IsInPremise, IsPremise, IsSaidBy, PairHas, Selects}
use Rattle.refutation.specs.declared.line.Premise.{Premise}
use Rattle.refutation.specs.declared.line.Premise.TheVariants as premise
use Rattle.refutation.specs.declared.literal.Literal.{Literal}
use Rattle.refutation.specs.declared.literal.Literal.TheVariants as literal
use Rattle.closed_part.specs.Laws.{ClausesOfPart}
use Rattle.closed_part.specs.Part.{IsClosedPart, IsPart, StandingWerePresent, number_in}
use Rattle.closed_part.specs.Premises.{literal_in, premise_in}
use Rattle.closed_part.proofs.OverLemmas.{over, is_over, over_part}
use Rattle.closed_part.proofs.PkgLemmas.{lowered_pair, number_is, pkg_of_pair}
use Rattle.closed_part.proofs.PlaceLemmas.{item_within, numbered}
use Rattle.closed_part.proofs.PremiseLemmas.{place_of, raised_literal}
use Rattle.closed_part.proofs.WantedLemmas.{asked_wanted, asks_for, depends_need, essential_wanted, pre_depends_need, standing_wanted}
use mathlib.Core.Logic.{inl, inr}

-- the literal is that of a literal of the clause of the part's premise
abbrev IsFrom : List ℕ → (Literal → Type 0) → Literal → Type 0
IsFrom numbers clause disjunct = (one : Literal) × (disjunct ≡ literal_in numbers one) × clause one

-- one of two that says that a pair isn't selected
lowered_out : (numbers : List ℕ) (number other : ℕ) (disjunct : Literal) → IsEitherOut (number_in numbers number) (number_in numbers other) disjunct
    → IsFrom numbers (IsEitherOut number other) disjunct
lowered_out numbers number other disjunct (inl same) = (literal.Unselected number, same, inl refl)
lowered_out numbers number other disjunct (inr same) = (literal.Unselected other, same, inr refl)

-- what a goal says of a pair
lowered_said : (numbers : List ℕ) (asked : Goal) (pair : ℕ) (disjunct : Literal) → IsSaidBy asked (number_in numbers pair) disjunct
    → IsFrom numbers (IsSaidBy asked pair) disjunct
lowered_said numbers (goal.Install name restriction) pair disjunct said = absurd said
lowered_said numbers (goal.Remove name) pair disjunct said = (literal.Unselected pair, said, refl)
lowered_said numbers (goal.Purge name) pair disjunct said = (literal.Unselected pair, said, refl)
lowered_said numbers (goal.Upgrade name) pair disjunct said = absurd said
lowered_said numbers goal.UpgradeAll pair disjunct said = (literal.Selected pair, said, refl)
lowered_said numbers goal.NoRemove pair disjunct said = absurd said

module _ (u : Universe) (numbers : List ℕ) (pairs : List Pair) (is : IsPart u numbers (over u pairs)) (closed : IsClosedPart u numbers)
    (standing : StandingWerePresent u) where
  abbrev part : Universe
  part = over u pairs

  -- a selected pair of the universe is one of the part, where its number is there
  lowered_selects : (P Q : Pkg → Type 0) → ((number : ℕ) (pkg : Pkg) → pkg_at u number ≡ Some pkg → Q pkg → Contains numbers number × P pkg)
      → (disjunct : Literal) → Selects u Q disjunct → IsFrom numbers (Selects part P) disjunct
  lowered_selects P Q gives (literal.Selected number) (pair, there, holds) =
      let given = gives number pair.pkg (pkg_of_pair u number pair there) holds in
      let place = numbered numbers number given.0 in (
        literal.Selected place.0,
        ap (λ n. literal.Selected n) (sym (number_is numbers place.0 number place.1)),
        (pair, lowered_pair u part numbers is.pairs place.0 number pair place.1 there, given.1),
      )
  lowered_selects P Q gives (literal.Unselected number) has = absurd has

  -- so it is of a pair that is wanted
  lowered_wanted : (Q : Pkg → Type 0) → ((pkg : Pkg) → Q pkg → IsWanted u pkg) → (disjunct : Literal) → Selects u Q disjunct
      → IsFrom numbers (Selects part Q) disjunct
  lowered_wanted Q wanted disjunct has =
      lowered_selects Q Q (λ number pkg there holds. (closed.wanted number pkg there (wanted pkg holds), holds)) disjunct has

  -- and of the literals of a field's clause
  lowered_met : (number clause : ℕ) (field : Pkg → List (List Atom))
      → ((pkg needed : Pkg) → Any (MatchesSome needed) (field pkg) → Needs pkg needed)
      → PairHas part number (λ pkg. HasAt (field pkg) clause (λ _. ⊤)) → (disjunct : Literal)
      → (disjunct ≡ literal.Unselected (number_in numbers number))
      ⊎ Selects u (λ other. PairHas u (number_in numbers number) (λ pkg. HasAt (field pkg) clause (MatchesSome other))) disjunct
      → IsFrom numbers (λ one. (one ≡ literal.Unselected number)
      ⊎ Selects part (λ other. PairHas part number (λ pkg. HasAt (field pkg) clause (MatchesSome other))) one) disjunct
  lowered_met number clause field need has disjunct (inl same) = (literal.Unselected number, same, inl refl)
  lowered_met number clause field need has disjunct (inr selects) = matched (lowered_selects
      (λ other. PairHas part number (λ pkg. HasAt (field pkg) clause (MatchesSome other)))
      (λ other. PairHas u (number_in numbers number) (λ pkg. HasAt (field pkg) clause (MatchesSome other))) gives disjunct selects)
    where
      matched : IsFrom numbers (Selects part (λ other. PairHas part number (λ pkg. HasAt (field pkg) clause (MatchesSome other)))) disjunct
          → IsFrom numbers (λ one. (one ≡ literal.Unselected number)
          ⊎ Selects part (λ other. PairHas part number (λ pkg. HasAt (field pkg) clause (MatchesSome other))) one) disjunct
      matched (one, same, holds) = (one, same, inr holds)

      gives : (m : ℕ) (other : Pkg) → pkg_at u m ≡ Some other
          → PairHas u (number_in numbers number) (λ pkg. HasAt (field pkg) clause (MatchesSome other))
          → Contains numbers m × PairHas part number (λ pkg. HasAt (field pkg) clause (MatchesSome other))
      gives m other there (pair, also, (atoms, at, matches)) =
          let place = place_of u numbers pairs is number (λ pkg. HasAt (field pkg) clause (λ _. ⊤)) has in
          let here : item_at u.pairs place.0 ≡ Some pair =
          subst (λ n. item_at u.pairs n ≡ Some pair) (number_is numbers number place.0 place.1) also in (
            closed.needed place.0 m pair.pkg other (pkg_of_pair u place.0 pair here) there (item_within numbers number place.0 place.1)
                (need pair.pkg other (Any-intro (MatchesSome other) (field pair.pkg) atoms (item_within (field pair.pkg) clause atoms at) matches)),
            (pair, lowered_pair u part numbers is.pairs number place.0 pair place.1 here, (atoms, at, matches)),
          )

  lowered_literal : (one : Premise) → IsPremise part one → (disjunct : Literal) → IsInPremise u (premise_in numbers one) disjunct
      → IsFrom numbers (IsInPremise part one) disjunct
  unfolding IsEssentialIn
  lowered_literal (premise.Same number other) are disjunct within = lowered_out numbers number other disjunct within
  lowered_literal (premise.PreDepends number clause) has disjunct within =
      lowered_met number clause (λ pkg. pkg.relations.pre_depends) pre_depends_need has disjunct within
  lowered_literal (premise.Depends number clause) has disjunct within =
      lowered_met number clause (λ pkg. pkg.relations.depends) depends_need has disjunct within
  lowered_literal (premise.Conflicts number other) are disjunct within = lowered_out numbers number other disjunct within
  lowered_literal (premise.Breaks number other) are disjunct within = lowered_out numbers number other disjunct within
  lowered_literal (premise.Goal number) asks disjunct within =
      lowered_wanted (λ pkg. HasAt u.goals number (λ asked. IsAskedBy u asked pkg)) (λ pkg of. asked_wanted u pkg of.0
      (item_within u.goals number of.0 of.1) (asks_for u of.0 pkg of.2)) disjunct within
  lowered_literal (premise.GoalOn number pair) has disjunct (asked, there, said) =
      let one = lowered_said numbers asked pair disjunct said in (one.0, one.1, (asked, there, one.2))
  lowered_literal (premise.Hold number) has disjunct within = (literal.Selected number, within, refl)
  lowered_literal (premise.Essential name) essential disjunct within =
      lowered_wanted (λ pkg. pkg.name ≡ name) (λ pkg named. essential_wanted u pkg name named essential) disjunct within
  lowered_literal (premise.Keep name) keep disjunct within =
      lowered_wanted (λ pkg. pkg.name ≡ name) (λ pkg named. standing_wanted u pkg name standing named keep.1) disjunct within

pub clauses_of_part : ClausesOfPart
clauses_of_part u part numbers one is closed standing holds disjunct = subst Q (is_over u numbers part is) both holds
  where
    Q : Universe → Type 0
    Q p = IsPremise p one → IsInPremise u (premise_in numbers one) disjunct
        ↔ ((other : Literal) × (disjunct ≡ literal_in numbers other) × IsInPremise p one other)

    both : Q (over u part.pairs)
    both is_premise = (
      lowered_literal u numbers part.pairs (over_part u numbers part is) closed standing one is_premise disjunct,
      λ from. subst (IsInPremise u (premise_in numbers one)) (sym from.1)
          (raised_literal u numbers part.pairs (over_part u numbers part is) one from.0 from.2),
    )
