-- A premise of a part is one of the universe, with its literals in its clause.
use Rattle.std.proofs.Common.{◌≡◌, ℕ, ◌<◌, List, ◌⊎◌, Some, sym, ap, subst, ◌∙◌}
use Rattle.std.specs.Prelude.{⊤}
use Rattle.rules.specs.ElementLaws.{Any-weaker}
use Rattle.rules.specs.Package.{Pkg, Atom, MatchesSome}
use Rattle.rules.specs.PlanLaws.{IsEssentialIn}
use Rattle.rules.specs.Universe.{Universe, Pair}
use Rattle.rules.specs.declared.goal.Goal.{Goal}
use Rattle.rules.specs.declared.goal.Goal.TheVariants as goal
use Rattle.refutation.specs.Clause.{HasAt, item_at}
use Rattle.refutation.specs.Premise.{ConflictsWithOther, BreaksAnother, IsAskedBy, IsEitherOut, IsHeldVersion, IsInPremise, IsPremise, IsSaidBy, IsUpgradeFrom, PairHas, PairsAre, Selects, SpeaksOf}
use Rattle.refutation.specs.declared.line.Premise.{Premise}
use Rattle.refutation.specs.declared.line.Premise.TheVariants as premise
use Rattle.refutation.specs.declared.literal.Literal.{Literal}
use Rattle.refutation.specs.declared.literal.Literal.TheVariants as literal
use Rattle.closed_part.specs.Laws.{ChoiceOfPart, PremisesOfPart}
use Rattle.closed_part.specs.Part.{IsPart, number_in}
use Rattle.closed_part.specs.Premises.{LeavesChoice, literal_in, premise_in}
use Rattle.closed_part.proofs.OverLemmas.{over, is_over, over_part}
use Rattle.closed_part.proofs.PkgLemmas.{number_is, raised_pair}
use Rattle.closed_part.proofs.PlaceLemmas.{one_place, rising}
use mathlib.Core.Logic.{inl, inr}

-- one of two that says that a pair isn't selected says so of its number in the universe
raised_out : (numbers : List ℕ) (number other : ℕ) (disjunct : Literal) → IsEitherOut number other disjunct
    → IsEitherOut (number_in numbers number) (number_in numbers other) (literal_in numbers disjunct)
raised_out numbers number other disjunct (inl same) = inl (ap (literal_in numbers) same)
raised_out numbers number other disjunct (inr same) = inr (ap (literal_in numbers) same)

-- and what a goal says of a pair
raised_said : (numbers : List ℕ) (asked : Goal) (pair : ℕ) (disjunct : Literal) → IsSaidBy asked pair disjunct
    → IsSaidBy asked (number_in numbers pair) (literal_in numbers disjunct)
raised_said numbers (goal.Install name restriction) pair disjunct said = said
raised_said numbers (goal.Remove name) pair disjunct said = ap (literal_in numbers) said
raised_said numbers (goal.Purge name) pair disjunct said = ap (literal_in numbers) said
raised_said numbers (goal.Upgrade name) pair disjunct said = said
raised_said numbers goal.UpgradeAll pair disjunct said = ap (literal_in numbers) said
raised_said numbers goal.NoRemove pair disjunct said = said

-- a goal that selects a pair selects the one that it speaks of
said_number : (asked : Goal) (pair number : ℕ) → IsSaidBy asked pair (literal.Selected number) → number ≡ pair
said_number (goal.Install name restriction) pair number said = absurd said
said_number (goal.Remove name) pair number said = absurd (cc)
said_number (goal.Purge name) pair number said = absurd (cc)
said_number (goal.Upgrade name) pair number said = absurd said
said_number goal.UpgradeAll pair number said = cc
said_number goal.NoRemove pair number said = absurd said

-- nothing that says that a pair isn't selected selects one
not_out : (number one other : ℕ) → IsEitherOut one other (literal.Selected number) → ⊥
not_out number one other (inl same) = absurd (cc)
not_out number one other (inr same) = absurd (cc)

-- a goal speaks of a package whatever the pairs are
speaks_over : (u : Universe) (pairs : List Pair) (asked : Goal) (pkg : Pkg) → SpeaksOf (over u pairs) asked pkg → SpeaksOf u asked pkg
speaks_over u pairs (goal.Install name restriction) pkg of = of
speaks_over u pairs (goal.Remove name) pkg of = of
speaks_over u pairs (goal.Purge name) pkg of = of
speaks_over u pairs (goal.Upgrade name) pkg of = of
speaks_over u pairs goal.UpgradeAll pkg of = Any-weaker (IsUpgradeFrom (over u pairs) pkg) (IsUpgradeFrom u pkg) u.starts
    (λ start within from. record {
      name = from.name;
      unheld = from.unheld;
      standing = from.standing;
      candidate = from.candidate;
      stands = from.stands;
      is_candidate = from.is_candidate;
      lower = from.lower;
      version = from.version;
    }) of
speaks_over u pairs goal.NoRemove pkg of = of

module _ (u : Universe) (numbers : List ℕ) (pairs : List Pair) (is : IsPart u numbers (over u pairs)) where
  abbrev part : Universe
  part = over u pairs

  -- a pair of the part has its properties in the universe
  raised_has : (place : ℕ) (P Q : Pkg → Type 0) → ((pkg : Pkg) → P pkg → Q pkg) → PairHas part place P
      → PairHas u (number_in numbers place) Q
  raised_has place P Q weaker (pair, there, holds) =
      let counterpart = raised_pair u part numbers is.pairs place pair there in
      (pair, subst (λ n. item_at u.pairs n ≡ Some pair) (sym (number_is numbers place counterpart.0 counterpart.1)) counterpart.2, weaker pair.pkg holds)

  raised_are : (place other : ℕ) (R : Pkg → Pkg → Type 0) → PairsAre part place other R
      → PairsAre u (number_in numbers place) (number_in numbers other) R
  raised_are place other R are = raised_has place (λ pkg. PairHas part other (R pkg)) (λ pkg. PairHas u (number_in numbers other) (R pkg))
      (λ pkg. raised_has other (R pkg) (R pkg) (λ other_pkg holds. holds)) are

  raised_selects : (P Q : Pkg → Type 0) → ((pkg : Pkg) → P pkg → Q pkg) → (disjunct : Literal) → Selects part P disjunct
      → Selects u Q (literal_in numbers disjunct)
  raised_selects P Q weaker (literal.Selected place) has = raised_has place P Q weaker has
  raised_selects P Q weaker (literal.Unselected place) has = absurd has

  -- the number of a pair of the part
  pub place_of : (place : ℕ) (P : Pkg → Type 0) → PairHas part place P → (number : ℕ) × (item_at numbers place ≡ Some number)
  place_of place P (pair, there, holds) = let counterpart = raised_pair u part numbers is.pairs place pair there in (counterpart.0, counterpart.1)

  pub raised_premise : (premise : Premise) → IsPremise part premise → IsPremise u (premise_in numbers premise)
  unfolding IsEssentialIn
  raised_premise (premise.Same number other) (below, are) =
      let one = place_of number (λ pkg. PairHas part other (λ other_pkg. other_pkg.name ≡ pkg.name)) are in
      let two = place_of other (λ other_pkg. other_pkg.name ≡ are.0.pkg.name) are.2 in (
        subst (λ n. n < number_in numbers other) (sym (number_is numbers number one.0 one.1))
            (subst (λ n. one.0 < n) (sym (number_is numbers other two.0 two.1))
            (rising (λ earlier later. earlier < later) numbers is.ascending number other one.0 two.0 below one.1 two.1)),
        raised_are number other (λ pkg other_pkg. other_pkg.name ≡ pkg.name) are,
      )
  raised_premise (premise.PreDepends number clause) has = raised_has number (λ pkg. HasAt pkg.relations.pre_depends clause (λ _. ⊤))
      (λ pkg. HasAt pkg.relations.pre_depends clause (λ _. ⊤)) (λ pkg holds. holds) has
  raised_premise (premise.Depends number clause) has = raised_has number (λ pkg. HasAt pkg.relations.depends clause (λ _. ⊤))
      (λ pkg. HasAt pkg.relations.depends clause (λ _. ⊤)) (λ pkg holds. holds) has
  raised_premise (premise.Conflicts number other) are = raised_are number other ConflictsWithOther are
  raised_premise (premise.Breaks number other) are = raised_are number other BreaksAnother are
  raised_premise (premise.Goal number) asks = asks
  raised_premise (premise.GoalOn number pair) (asked, there, has) =
      (asked, there, raised_has pair (SpeaksOf part asked) (SpeaksOf u asked) (speaks_over u pairs asked) has)
  raised_premise (premise.Hold number) has = raised_has number (IsHeldVersion part) (IsHeldVersion u) (λ pkg holds. holds) has
  raised_premise (premise.Essential name) essential = essential
  raised_premise (premise.Keep name) keep = keep

  -- the literals of a field's clause
  raised_met : (number clause : ℕ) (field : Pkg → List (List Atom)) (disjunct : Literal) → (disjunct ≡ literal.Unselected number)
      ⊎ Selects part (λ other. PairHas part number (λ pkg. HasAt (field pkg) clause (MatchesSome other))) disjunct
      → (literal_in numbers disjunct ≡ literal.Unselected (number_in numbers number))
      ⊎ Selects u (λ other. PairHas u (number_in numbers number) (λ pkg. HasAt (field pkg) clause (MatchesSome other))) (literal_in numbers disjunct)
  raised_met number clause field disjunct (inl same) = inl (ap (literal_in numbers) same)
  raised_met number clause field disjunct (inr selects) = inr (raised_selects
      (λ other. PairHas part number (λ pkg. HasAt (field pkg) clause (MatchesSome other)))
      (λ other. PairHas u (number_in numbers number) (λ pkg. HasAt (field pkg) clause (MatchesSome other)))
      (λ other. raised_has number (λ pkg. HasAt (field pkg) clause (MatchesSome other)) (λ pkg. HasAt (field pkg) clause (MatchesSome other))
      (λ pkg holds. holds)) disjunct selects)

  pub raised_literal : (premise : Premise) (one : Literal) → IsInPremise part premise one
      → IsInPremise u (premise_in numbers premise) (literal_in numbers one)
  raised_literal (premise.Same number other) one within = raised_out numbers number other one within
  raised_literal (premise.PreDepends number clause) one within = raised_met number clause (λ pkg. pkg.relations.pre_depends) one within
  raised_literal (premise.Depends number clause) one within = raised_met number clause (λ pkg. pkg.relations.depends) one within
  raised_literal (premise.Conflicts number other) one within = raised_out numbers number other one within
  raised_literal (premise.Breaks number other) one within = raised_out numbers number other one within
  raised_literal (premise.Goal number) one within = raised_selects (λ pkg. HasAt u.goals number (λ asked. IsAskedBy part asked pkg))
      (λ pkg. HasAt u.goals number (λ asked. IsAskedBy u asked pkg)) (λ pkg holds. holds) one within
  raised_literal (premise.GoalOn number pair) one (asked, there, said) = (asked, there, raised_said numbers asked pair one said)
  raised_literal (premise.Hold number) one within = ap (literal_in numbers) within
  raised_literal (premise.Essential name) one within = raised_selects (λ pkg. pkg.name ≡ name) (λ pkg. pkg.name ≡ name)
      (λ pkg holds. holds) one within
  raised_literal (premise.Keep name) one within = raised_selects (λ pkg. pkg.name ≡ name) (λ pkg. pkg.name ≡ name)
      (λ pkg holds. holds) one within

  -- a pair that a clause of the part selects is in the part
  met_place : (number clause place : ℕ) (field : Pkg → List (List Atom)) → (literal.Selected place ≡ literal.Unselected number)
      ⊎ Selects part (λ other. PairHas part number (λ pkg. HasAt (field pkg) clause (MatchesSome other))) (literal.Selected place)
      → (number : ℕ) × (item_at numbers place ≡ Some number)
  met_place number clause place field (inl same) = absurd (cc)
  met_place number clause place field (inr has) =
      place_of place (λ other. PairHas part number (λ pkg. HasAt (field pkg) clause (MatchesSome other))) has

  selected_place : (premise : Premise) (place : ℕ) → IsPremise part premise → IsInPremise part premise (literal.Selected place)
      → (number : ℕ) × (item_at numbers place ≡ Some number)
  selected_place (premise.Same number other) place are within = absurd (not_out place number other within)
  selected_place (premise.PreDepends number clause) place has within = met_place number clause place (λ pkg. pkg.relations.pre_depends) within
  selected_place (premise.Depends number clause) place has within = met_place number clause place (λ pkg. pkg.relations.depends) within
  selected_place (premise.Conflicts number other) place are within = absurd (not_out place number other within)
  selected_place (premise.Breaks number other) place are within = absurd (not_out place number other within)
  selected_place (premise.Goal number) place asks within =
      place_of place (λ pkg. HasAt u.goals number (λ asked. IsAskedBy part asked pkg)) within
  selected_place (premise.GoalOn number pair) place (asked, there, has) (also, at, said) =
      subst (λ k. (n : ℕ) × (item_at numbers k ≡ Some n)) (sym (said_number also pair place said)) (place_of pair (SpeaksOf part asked) has)
  selected_place (premise.Hold number) place has within =
      let e : number ≡ place = cc in
      subst (λ k. (n : ℕ) × (item_at numbers k ≡ Some n)) e (place_of number (IsHeldVersion part) has)
  selected_place (premise.Essential name) place essential within = place_of place (λ pkg. pkg.name ≡ name) within
  selected_place (premise.Keep name) place keep within = place_of place (λ pkg. pkg.name ≡ name) within

  raised_choice : LeavesChoice part → LeavesChoice u
  raised_choice (premise, one, two, is_premise, differ, first, second) = (
    premise_in numbers premise,
    number_in numbers one,
    number_in numbers two,
    raised_premise premise is_premise,
    (λ same. differ (at (selected_place premise one is_premise first) (selected_place premise two is_premise second) same)),
    raised_literal premise (literal.Selected one) first,
    raised_literal premise (literal.Selected two) second,
  )
    where
      at : (number : ℕ) × (item_at numbers one ≡ Some number) → (number : ℕ) × (item_at numbers two ≡ Some number)
          → number_in numbers one ≡ number_in numbers two → one ≡ two
      at (n, there) (m, also) same =
          let e : n ≡ m = sym (number_is numbers one n there) ∙ same ∙ number_is numbers two m also in
          one_place numbers is.ascending one two m (there ∙ ap (λ k. Some k) e) also

pub premises_of_part : PremisesOfPart
premises_of_part u part numbers premise is holds =
    raised_premise u numbers part.pairs (over_part u numbers part is) premise
    (subst (λ p. IsPremise p premise) (sym (is_over u numbers part is)) holds)

pub choice_of_part : ChoiceOfPart
choice_of_part u part numbers is choice =
    raised_choice u numbers part.pairs (over_part u numbers part is) (subst LeavesChoice (sym (is_over u numbers part is)) choice)
