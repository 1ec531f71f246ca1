-- The part of a selection that is reached keeps every premise true.
use Rattle.std.proofs.Common.{◌≡◌, ℕ, ◌≤◌, Bool, true, false, List, length, Option, Some, None, MatchOption, refl, sym, ap, subst, ◌∙◌, arith, zero, suc}
use Rattle.std.specs.Prelude.{◌&&◌, ◌==◌, IsTrue, ⊤, slice_get}
use Rattle.std.specs.List.{Any, All, Contains}
use Rattle.std.specs.Option.{option_map_or}
use Rattle.std.proofs.lemmas.Bool.Decides.{eqb_tells}
use Rattle.std.proofs.lemmas.List.Elements.{All-contains}
use Rattle.std.proofs.lemmas.Option.{slice_get_within}
use Rattle.rules.specs.ElementLaws.{Any-elim, Any-intro}
use Rattle.rules.specs.Minimal.{AsksFor, IsWanted, WasPresent, pkg_at}
use Rattle.rules.specs.Package.{Pkg}
use Rattle.rules.specs.PlanLaws.{IsEssentialIn}
use Rattle.rules.specs.Universe.{Universe, Pair, Start, candidate_of}
use Rattle.rules.specs.declared.goal.Goal.{Goal}
use Rattle.rules.specs.declared.goal.Goal.TheVariants as goal
use Rattle.refutation.specs.Clause.{IsClauseTrue, IsTrueOf, item_at}
use Rattle.refutation.specs.Premise.{IsAskedBy, IsEitherOut, IsHeldVersion, IsInPremise, IsPremise, IsSaidBy, IsUpgradeFrom, SpeaksOf, StandsAtStart}
use Rattle.refutation.specs.declared.line.Premise.{Premise}
use Rattle.refutation.specs.declared.line.Premise.TheVariants as premise
use Rattle.refutation.specs.declared.literal.Literal.{Literal}
use Rattle.refutation.specs.declared.literal.Literal.TheVariants as literal
use Rattle.search_settle.specs.Encoded.{IsGivenBy, IsKnown, StandingArePresent}
use Rattle.search_settle.specs.Given.{Given, clause_at, is_need_of, role_of}
use Rattle.search_settle.specs.Moves.{Known}
use Rattle.search_settle.specs.Reach.{HasNeeds, IsClosedIn, PartsAreTrue, part_of}
use Rattle.search_settle.specs.declared.role.Role.{Role}
use Rattle.search_settle.proofs.EncodedLemmas.{clause_of, clauses_true, found_in, literal_in, mapped_at, not_zero, premises_true, without_in}
use mathlib.Core.Logic.{inl, inr}

-- a pair that is there has its package at its number
pub pkg_there : (u : Universe) (number : ℕ) (pair : Pair) → item_at u.pairs number ≡ Some pair → pkg_at u number ≡ Some pair.pkg
pkg_there u zero pair there = absurd (let e : None ≡ Some pair = there in cc)
pkg_there u (suc place) pair there = ap (λ (o : Option Pair). Rattle.std.specs.Option.option_map (λ (p : Pair). p.pkg) o) there

pub number_within : (u : Universe) (number : ℕ) (pair : Pair) → item_at u.pairs number ≡ Some pair → number ≤ length u.pairs
number_within u zero pair there = omega arith
number_within u (suc place) pair there = omega (arith, slice_get_within u.pairs place pair there)

-- a start with a standing version was present
stands_present : (start : Start) (P : List ℕ → Type 0) → MatchOption start.standing ⊤ (λ _. IsTrue start.is_present) → MatchOption start.standing ⊥ P
    → IsTrue start.is_present
stands_present start P present stands = at start.standing present stands
  where
    at : (o : Option (List ℕ)) → MatchOption o ⊤ (λ _. IsTrue start.is_present) → MatchOption o ⊥ P → IsTrue start.is_present
    at None present stands = absurd stands
    at (Some version) present stands = present

-- a name that an install or upgrade asks for
asked_for : (u : Universe) (asked : Goal) (pkg : Pkg) → IsAskedBy u asked pkg → AsksFor pkg.name asked
asked_for u (goal.Install name restriction) pkg is = sym is.0
asked_for u (goal.Remove name) pkg is = absurd is
asked_for u (goal.Purge name) pkg is = absurd is
asked_for u (goal.Upgrade name) pkg is = at (candidate_of u name) is
  where
    at : (o : Option (List ℕ)) → MatchOption o ⊥ (λ candidate. Rattle.rules.specs.Universe.IsOf name candidate pkg) → name ≡ pkg.name
    at None is = absurd is
    at (Some candidate) is = sym is.0
asked_for u goal.UpgradeAll pkg is = absurd is
asked_for u goal.NoRemove pkg is = absurd is

module _ (u : Universe) (present : StandingArePresent u) where
  -- what says of a start of the name that it stands says that it was present
  was_present : (name : List ℕ) (P : Start → Type 0) → ((start : Start) → P start → start.name ≡ name)
      → ((start : Start) → P start → MatchOption start.standing ⊤ (λ _. IsTrue start.is_present) → IsTrue start.is_present)
      → Any P u.starts → WasPresent u name
  unfolding WasPresent StandingArePresent
  was_present name P named stands some = Any-elim P u.starts (Any (λ (start : Start). (start.name ≡ name) × IsTrue start.is_present) u.starts)
      (λ start within holds. Any-intro (λ (start : Start). (start.name ≡ name) × IsTrue start.is_present) u.starts start within
      (named start holds, stands start holds (All-contains (λ (start : Start). MatchOption start.standing ⊤ (λ _. IsTrue start.is_present)) u.starts start present within))) some

  held_present : (pkg : Pkg) → IsHeldVersion u pkg → WasPresent u pkg.name
  held_present pkg = was_present pkg.name
      (λ start. (start.name ≡ pkg.name) × IsTrue start.is_held × MatchOption start.standing ⊥ (Rattle.rules.specs.Version.SameVersion pkg.version))
      (λ start is. is.0) (λ start is here. stands_present start (Rattle.rules.specs.Version.SameVersion pkg.version) here is.2)

  standing_present : (name : List ℕ) → StandsAtStart u name → WasPresent u name
  standing_present name = was_present name (λ start. (start.name ≡ name) × MatchOption start.standing ⊥ (λ _. ⊤))
      (λ start is. is.0) (λ start is here. stands_present start (λ _. ⊤) here is.1)

  upgrade_present : (pkg : Pkg) → Any (IsUpgradeFrom u pkg) u.starts → WasPresent u pkg.name
  upgrade_present pkg = was_present pkg.name (IsUpgradeFrom u pkg) (λ start is. is.name)
      (λ start is here. stands_present start (λ _. ⊤) here (subst (λ (o : Option (List ℕ)). MatchOption o ⊥ (λ _. ⊤)) (sym is.stands) tt))

  essential_present : (name : List ℕ) → IsEssentialIn u name → WasPresent u name
  unfolding IsEssentialIn WasPresent
  essential_present name some = Any-elim (λ (start : Start). (start.name ≡ name) × IsTrue start.is_essential × IsTrue start.is_present) u.starts
      (Any (λ (start : Start). (start.name ≡ name) × IsTrue start.is_present) u.starts)
      (λ start within is. Any-intro (λ (start : Start). (start.name ≡ name) × IsTrue start.is_present) u.starts start within (is.0, is.2)) some

module _ (u : Universe) (premises : List Premise) (given : Given) (by : IsGivenBy u premises given) (known : Known) (knows : IsKnown u known)
    (present : StandingArePresent u) (selection set : ℕ → Bool) (closed : IsClosedIn given known selection set) where
  -- a literal that selects stays true where its package is wanted
  wanted_in : (number : ℕ) (pair : Pair) → item_at u.pairs number ≡ Some pair → IsWanted u pair.pkg → selection number ≡ true
      → part_of selection set number ≡ true
  wanted_in number pair there wanted chosen = rw chosen (closed.wanted number (omega (arith, number_within u number pair there, by.numbers)) chosen
      ((knows.wanted number pair.pkg (pkg_there u number pair there)).1 wanted))

  present_in : (number : ℕ) (pair : Pair) → item_at u.pairs number ≡ Some pair → WasPresent u pair.pkg.name → selection number ≡ true
      → part_of selection set number ≡ true
  unfolding IsWanted
  present_in number pair there was chosen = wanted_in number pair there (inl was) chosen

  -- a number that isn't selected isn't in the part
  still_out : (number : ℕ) → selection number ≡ false → part_of selection set number ≡ false
  still_out number out = ap (λ (b : Bool). b && set number) out

  -- where a number and one that it needs are selected the clause is true of the part
  need_part : (reason : Premise) (number other : ℕ) (pair : Pair) → IsPremise u reason → item_at u.pairs number ≡ Some pair
      → is_need_of number (role_of reason) ≡ true → IsInPremise u reason (literal.Unselected number)
      → IsInPremise u reason (literal.Selected other) → selection other ≡ true → IsClauseTrue (part_of selection set) (IsInPremise u reason)
  unfolding HasNeeds
  need_part reason number other pair is there need without with chosen = at (selection number) (set number) refl refl
    where
      at : (b c : Bool) → selection number ≡ b → set number ≡ c → IsClauseTrue (part_of selection set) (IsInPremise u reason)
      at false c out also = (literal.Unselected number, without, still_out number out)
      at true false in_it out = (literal.Unselected number, without, both)
        where
          both : part_of selection set number ≡ false
          both = rw in_it out
      at true true in_it also =
          let place = clause_of u premises given by reason is in
          let needs = closed.needed number in_it also place.0 other
          (without_in u premises given by reason place.0 number (not_zero u.pairs number pair there)
          (omega (arith, number_within u number pair there, by.numbers)) place.2 place.3 without)
          (ap (λ (o : Option Role). option_map_or (is_need_of number) o false)
          (ap (λ (roles : List Role). slice_get roles place.0) by.roles ∙ mapped_at role_of premises place.0 reason place.1) ∙ need)
          (literal_in u premises given by reason (clause_at given place.0) (literal.Selected other) place.3 with) chosen in
          (literal.Selected other, with, rw chosen needs)

  same_number : (number : ℕ) → (number == number) ≡ true
  same_number number = elim (eqb_tells number number) [ inl same ↦ same.0 | inr other ↦ absurd (other.1 refl) ]

  -- a literal of a premise that is true leaves the premise's clause true of the part
  literal_part : (reason : Premise) (item : Literal) → IsPremise u reason → IsInPremise u reason item → IsTrueOf selection item
      → IsClauseTrue (part_of selection set) (IsInPremise u reason)
  unfolding IsWanted
  literal_part reason (literal.Unselected number) is within out = (literal.Unselected number, within, still_out number out)
  literal_part (premise.Same pair other) (literal.Selected number) is within chosen = absurd (neither pair other number within)
    where
      neither : (pair other number : ℕ) → IsEitherOut pair other (literal.Selected number) → ⊥
      neither pair other number (inl same) = absurd (cc)
      neither pair other number (inr same) = absurd (cc)
  literal_part (premise.PreDepends pair clause) (literal.Selected number) is within chosen =
      need_part (premise.PreDepends pair clause) pair number is.0 is is.1 (same_number pair) (inl refl) within chosen
  literal_part (premise.Depends pair clause) (literal.Selected number) is within chosen =
      need_part (premise.Depends pair clause) pair number is.0 is is.1 (same_number pair) (inl refl) within chosen
  literal_part (premise.Conflicts pair other) (literal.Selected number) is within chosen = absurd (neither pair other number within)
    where
      neither : (pair other number : ℕ) → IsEitherOut pair other (literal.Selected number) → ⊥
      neither pair other number (inl same) = absurd (cc)
      neither pair other number (inr same) = absurd (cc)
  literal_part (premise.Breaks pair other) (literal.Selected number) is within chosen = absurd (neither pair other number within)
    where
      neither : (pair other number : ℕ) → IsEitherOut pair other (literal.Selected number) → ⊥
      neither pair other number (inl same) = absurd (cc)
      neither pair other number (inr same) = absurd (cc)
  literal_part (premise.Goal asked) (literal.Selected number) is within chosen = (
    literal.Selected number,
    within,
    wanted_in number within.0 within.1
        (inr (Any-intro (AsksFor within.0.pkg.name) u.goals within.2.0 (goal_in within.2.0 asked within.2.1) (asked_for u within.2.0 within.0.pkg within.2.2))) chosen,
  )
    where
      goal_in : (item : Goal) (number : ℕ) → item_at u.goals number ≡ Some item → Contains u.goals item
      goal_in item zero there = absurd (let e : None ≡ Some item = there in cc)
      goal_in item (suc place) there = found_in u.goals place item there
  literal_part (premise.GoalOn asked pair) (literal.Selected number) is within chosen =
      said is.0 (subst (λ (one : Goal). IsSaidBy one pair (literal.Selected number)) (same_goal asked within.0 is.0 within.1 is.1) within.2) is.2.2
    where
      same_goal : (place : ℕ) (one other : Goal) → item_at u.goals place ≡ Some one → item_at u.goals place ≡ Some other → one ≡ other
      same_goal place one other first second = let e : Some one ≡ Some other = sym first ∙ second in cc

      said : (one : Goal) → IsSaidBy one pair (literal.Selected number) → SpeaksOf u one is.2.0.pkg
          → IsClauseTrue (part_of selection set) (IsInPremise u (premise.GoalOn asked pair))
      said (goal.Install name restriction) says speaks = absurd says
      said (goal.Remove name) says speaks = absurd (cc)
      said (goal.Purge name) says speaks = absurd (cc)
      said (goal.Upgrade name) says speaks = absurd says
      said goal.UpgradeAll says speaks =
          let e : number ≡ pair = cc in
          (literal.Selected number, within, present_in number is.2.0 (ap (item_at u.pairs) e ∙ is.2.1) (upgrade_present u present is.2.0.pkg speaks) chosen)
      said goal.NoRemove says speaks = absurd says
  literal_part (premise.Hold pair) (literal.Selected number) is within chosen =
      let e : number ≡ pair = cc in
      (literal.Selected number, within, present_in number is.0 (ap (item_at u.pairs) e ∙ is.1) (held_present u present is.0.pkg is.2) chosen)
  literal_part (premise.Essential name) (literal.Selected number) is within chosen = (
    literal.Selected number,
    within,
    present_in number within.0 within.1
        (subst (WasPresent u) (sym within.2) (essential_present u present name is)) chosen,
  )
  literal_part (premise.Keep name) (literal.Selected number) is within chosen = (
    literal.Selected number,
    within,
    present_in number within.0 within.1
        (subst (WasPresent u) (sym within.2) (standing_present u present name is.1)) chosen,
  )

-- a closed part of a selection that makes all clauses true makes them true
pub parts_are_true : (u : Universe) (premises : List Premise) (given : Given) → IsGivenBy u premises given → (known : Known) → IsKnown u known
    → StandingArePresent u → PartsAreTrue given known
unfolding PartsAreTrue
parts_are_true u premises given by known knows present selection set all closed =
    clauses_true u premises given by (part_of selection set) (λ reason is.
    let item = premises_true u premises given by selection all reason is in
    literal_part u premises given by known knows present selection set closed reason item.0 is item.1 item.2)
