-- Which parts of a small universe are closed, and what is what in such a part: `a 1; Depends: c`, `b 1` and `c 1` are in an index,
-- `d 1` is installed, and `a` is to be installed. The pairs a, c and d are a closed part; b isn't needed.
use Rattle.std.proofs.Common.{◌≡◌, ℕ, zero, suc, ◌==◌, ◌<◌, Bool, true, ◌++◌, List, [], ◌∷◌, Some, None, refl, sym, subst, arith}
use Rattle.std.specs.Prelude.{codes}
use Rattle.std.specs.List.{Contains, list_any}
use Rattle.std.proofs.lemmas.List.Elements.{All-cons, All-nil}
use Rattle.std.proofs.lemmas.List.Kept.{AllPairs-cons}
use Rattle.std.proofs.lemmas.Option.{same_Some}
use Rattle.rules.specs.Database.{Record}
use Rattle.rules.specs.ElementLaws.{Contains-head, Contains-rest}
use Rattle.rules.specs.Minimal.{AsksFor, IsWanted, Needs, WasPresent, pkg_at}
use Rattle.rules.specs.Package.{Pkg, MatchesSome}
use Rattle.rules.specs.Sound.{selected}
use Rattle.rules.specs.Step.{no_relations}
use Rattle.rules.specs.Universe.{Universe, Start}
use Rattle.rules.specs.declared.goal.Goal.{Goal}
use Rattle.rules.specs.declared.goal.Goal.TheVariants as goal
use Rattle.rules.specs.declared.status.State.TheVariants.{Installed}
use Rattle.rules.proofs.Decided.{dec_Decides, dec_IsTrue, dec_IsFalse, dec_and, dec_and3, dec_or, dec_like, dec_Any, dec_text}
use Rattle.rules.proofs.DecidedPackages.{dec_MeetsRestriction, dec_Meets, dec_MeetsAsProvided, dec_FitsByName, dec_FitsProvided, dec_FitsByProvides, dec_Matches, dec_MatchesSome}
use Rattle.rules.proofs.Rows.{so, not_so, any_of, package_of, record_of, indexed, unindexed, universe_of}
use Rattle.refutation.specs.declared.line.Premise.TheVariants as premise
use Rattle.refutation.specs.declared.literal.Literal.TheVariants as literal
use Rattle.closed_part.specs.Part.{IsClosedPart, IsLifted, IsPart, lowered, number_in}
use Rattle.closed_part.specs.Premises.{LeavesChoice, literal_in, premise_in}
use Rattle.closed_part.proofs.ListLemmas.{list_is_lifted}

abbrev a_1 : Pkg
a_1 = package_of (codes "a") (codes "1") (record no_relations { depends = (any_of (codes "c") ∷ []) ∷ [] })

abbrev b_1 : Pkg
b_1 = package_of (codes "b") (codes "1") no_relations

abbrev c_1 : Pkg
c_1 = package_of (codes "c") (codes "1") no_relations

abbrev d_1 : Pkg
d_1 = package_of (codes "d") (codes "1") no_relations

abbrev start : List Record
start = record_of Installed (Some (codes "1")) d_1 ∷ []

abbrev goals : List Goal
goals = goal.Install (codes "a") None ∷ []

abbrev u : Universe
u = universe_of start (indexed a_1 ∷ indexed b_1 ∷ indexed c_1 ∷ unindexed d_1 ∷ []) goals

abbrev part : Universe
part = universe_of start (indexed a_1 ∷ indexed c_1 ∷ unindexed d_1 ∷ []) goals

abbrev numbers : List ℕ
numbers = 1 ∷ 3 ∷ 4 ∷ []

-- whether a goal asks for a name, a package is wanted, and one needs another
unfoldable dec_AsksFor : (name : List ℕ) (asked : Goal) → Dec (AsksFor name asked)
dec_AsksFor name (goal.Install asked restriction) = dec_text asked name
dec_AsksFor name (goal.Remove asked) = no (λ e. e)
dec_AsksFor name (goal.Purge asked) = no (λ e. e)
dec_AsksFor name (goal.Upgrade asked) = dec_text asked name
dec_AsksFor name goal.UpgradeAll = no (λ e. e)
dec_AsksFor name goal.NoRemove = no (λ e. e)

unfoldable dec_IsWanted : (u : Universe) (pkg : Pkg) → Dec (IsWanted u pkg)
unfolding IsWanted WasPresent
dec_IsWanted u pkg = dec_or
    (dec_Any (λ (start : Start). (start.name ≡ pkg.name) × (start.is_present ≡ true))
    (λ (start : Start). dec_and (dec_text start.name pkg.name) (dec_IsTrue start.is_present)) u.starts)
    (dec_Any (AsksFor pkg.name) (dec_AsksFor pkg.name) u.goals)

unfoldable dec_Needs : (pkg needed : Pkg) → Dec (Needs pkg needed)
unfolding Needs
dec_Needs pkg needed = dec_Any (MatchesSome needed) (dec_MatchesSome needed) (pkg.relations.pre_depends ++ pkg.relations.depends)

-- a is asked for, d was present, and there is no reason for b; a needs c, and none needs b
reasons : IsWanted u a_1 × IsWanted u d_1 × (¬ IsWanted u b_1) × Needs a_1 c_1 × (¬ Needs a_1 b_1) × (¬ Needs c_1 b_1) × (¬ Needs d_1 b_1)
unfolding dec_Decides dec_IsTrue dec_IsFalse dec_and dec_and3 dec_or dec_like dec_Any dec_text dec_MeetsRestriction dec_Meets dec_MeetsAsProvided dec_FitsByName dec_FitsProvided dec_FitsByProvides dec_Matches dec_MatchesSome dec_AsksFor dec_IsWanted dec_Needs
reasons = (
  so (dec_IsWanted u a_1) refl,
  so (dec_IsWanted u d_1) refl,
  not_so (dec_IsWanted u b_1) refl,
  so (dec_Needs a_1 c_1) refl,
  not_so (dec_Needs a_1 b_1) refl,
  not_so (dec_Needs c_1 b_1) refl,
  not_so (dec_Needs d_1 b_1) refl,
)

-- numbers of a list are those that stand in it
has_1 : Contains numbers 1
has_1 = Contains-head 1 (3 ∷ 4 ∷ [])

has_3 : Contains numbers 3
has_3 = Contains-rest 1 (3 ∷ 4 ∷ []) 3 (Contains-head 3 (4 ∷ []))

has_4 : Contains numbers 4
has_4 = Contains-rest 1 (3 ∷ 4 ∷ []) 4 (Contains-rest 3 (4 ∷ []) 4 (Contains-head 4 []))

-- a number that is neither of two isn't in their list
neither : (one two number : ℕ) → (one ≡ number → ⊥) → (two ≡ number → ⊥) → Contains (one ∷ two ∷ []) number → ⊥
neither one two number not_one not_two (zero, within, same) = not_one same
neither one two number not_one not_two (suc zero, within, same) = not_two same
neither one two number not_one not_two (suc (suc place), within, same) = omega (arith, within)

hasnt_2 : Contains numbers 2 → ⊥
hasnt_2 (zero, within, same) = omega (arith, same)
hasnt_2 (suc place, within, same) = neither 3 4 2 (λ e. omega (arith, e)) (λ e. omega (arith, e)) (place, omega (arith, within), same)

-- the pairs a, c and d are a part, told by ascending numbers
is_part : IsPart u numbers part
is_part = record {
  ascending = AllPairs-cons below 1 (3 ∷ 4 ∷ [])
      (All-cons (below 1) 3 (4 ∷ []) (omega arith) (All-cons (below 1) 4 [] (omega arith) (All-nil (below 1))))
      (AllPairs-cons below 3 (4 ∷ []) (All-cons (below 3) 4 [] (omega arith) (All-nil (below 3)))
      (AllPairs-cons below 4 [] (All-nil (below 4)) (λ i j d less within. omega (arith, less, within))));
  pairs = (refl, (refl, (refl, tt)));
  goals = refl;
  starts = refl;
  candidates = refl;
}
  where
    below : ℕ → ℕ → Type 0
    below earlier later = earlier < later

-- the same pairs in another order aren't
other_order : (other : Universe) → ¬ IsPart u (3 ∷ 1 ∷ []) other
other_order other is = omega (arith, is.ascending 0 1 0 (omega arith) (omega arith))

-- that part is closed
each_wanted : (number : ℕ) (pkg : Pkg) → pkg_at u number ≡ Some pkg → IsWanted u pkg → Contains numbers number
each_wanted zero pkg there is = absurd (let e : None ≡ Some pkg = there in cc)
each_wanted (suc zero) pkg there is = has_1
each_wanted (suc (suc zero)) pkg there is = absurd (reasons.2 (subst (IsWanted u) (sym (same_Some b_1 pkg there)) is))
each_wanted (suc (suc (suc zero))) pkg there is = has_3
each_wanted (suc (suc (suc (suc zero)))) pkg there is = has_4
each_wanted (suc (suc (suc (suc (suc number))))) pkg there is = absurd (let e : None ≡ Some pkg = there in cc)

none_needs_b : (number : ℕ) (pkg : Pkg) → pkg_at u number ≡ Some pkg → Contains numbers number → ¬ Needs pkg b_1
none_needs_b zero pkg there within needs = absurd (let e : None ≡ Some pkg = there in cc)
none_needs_b (suc zero) pkg there within needs = reasons.4 (subst (λ p. Needs p b_1) (sym (same_Some a_1 pkg there)) needs)
none_needs_b (suc (suc zero)) pkg there within needs = hasnt_2 within
none_needs_b (suc (suc (suc zero))) pkg there within needs = reasons.5 (subst (λ p. Needs p b_1) (sym (same_Some c_1 pkg there)) needs)
none_needs_b (suc (suc (suc (suc zero)))) pkg there within needs = reasons.6 (subst (λ p. Needs p b_1) (sym (same_Some d_1 pkg there)) needs)
none_needs_b (suc (suc (suc (suc (suc number))))) pkg there within needs = absurd (let e : None ≡ Some pkg = there in cc)

each_needed : (number other : ℕ) (pkg needed : Pkg) → pkg_at u number ≡ Some pkg → pkg_at u other ≡ Some needed → Contains numbers number
    → Needs pkg needed → Contains numbers other
each_needed number zero pkg needed there also within needs = absurd (let e : None ≡ Some needed = also in cc)
each_needed number (suc zero) pkg needed there also within needs = has_1
each_needed number (suc (suc zero)) pkg needed there also within needs =
    absurd (none_needs_b number pkg there within (subst (Needs pkg) (sym (same_Some b_1 needed also)) needs))
each_needed number (suc (suc (suc zero))) pkg needed there also within needs = has_3
each_needed number (suc (suc (suc (suc zero)))) pkg needed there also within needs = has_4
each_needed number (suc (suc (suc (suc (suc other))))) pkg needed there also within needs = absurd (let e : None ≡ Some needed = also in cc)

is_closed : IsClosedPart u numbers
is_closed = record { wanted = each_wanted; needed = each_needed }

-- without c, which a needs, without a, which is asked for, and without d, which was present, it isn't closed
unclosed : (¬ IsClosedPart u (1 ∷ 4 ∷ [])) × (¬ IsClosedPart u (3 ∷ 4 ∷ [])) × (¬ IsClosedPart u (1 ∷ 3 ∷ []))
unclosed = (
  (λ closed. neither 1 4 3 (λ e. omega (arith, e)) (λ e. omega (arith, e))
      (closed.needed 1 3 a_1 c_1 refl refl (Contains-head 1 (4 ∷ [])) reasons.3)),
  (λ closed. neither 3 4 1 (λ e. omega (arith, e)) (λ e. omega (arith, e)) (closed.wanted 1 a_1 refl reasons.0)),
  (λ closed. neither 1 3 4 (λ e. omega (arith, e)) (λ e. omega (arith, e)) (closed.wanted 4 d_1 refl reasons.1)),
)

-- a and c of the part, its pairs 1 and 2, are 1 and 3 of the universe, and the same packages
abbrev chosen : ℕ → Bool
chosen place = list_any (λ one. one == place) (1 ∷ 2 ∷ [])

abbrev in_universe : ℕ → Bool
in_universe number = list_any (λ one. one == number) (1 ∷ 3 ∷ [])

lifted_row : IsLifted numbers chosen in_universe × (selected part chosen ≡ a_1 ∷ c_1 ∷ []) × (selected u in_universe ≡ a_1 ∷ c_1 ∷ [])
unfolding selected
lifted_row = (list_is_lifted numbers (1 ∷ 2 ∷ []) (1 ∷ 3 ∷ []) (refl, (refl, tt)), refl, refl)

-- of a, b and d of the universe the part has a and d
lowered_row : selected part (lowered numbers (λ number. list_any (λ one. one == number) (1 ∷ 2 ∷ 4 ∷ []))) ≡ a_1 ∷ d_1 ∷ []
unfolding selected
lowered_row = refl

-- the Depends of a is met by pair 2 of the part, which is pair 3 of the universe; the part has no pair 4
premise_row : (premise_in numbers (premise.Depends 1 1) ≡ premise.Depends 1 1)
    × (literal_in numbers (literal.Selected 2) ≡ literal.Selected 3)
    × (literal_in numbers (literal.Unselected 3) ≡ literal.Unselected 4)
    × (premise_in numbers (premise.GoalOn 2 3) ≡ premise.GoalOn 2 4)
    × (number_in numbers 4 ≡ 0)
premise_row = (refl, refl, refl, refl, refl)

-- a name with two pairs that a goal asks for leaves a choice
two_pairs : LeavesChoice (universe_of [] (indexed b_1 ∷ indexed (record b_1 { version = codes "2" }) ∷ []) (goal.Install (codes "b") None ∷ []))
two_pairs = (
  premise.Goal 1,
  1,
  2,
  (goal.Install (codes "b") None, refl, tt),
  (λ e. omega (arith, e)),
  (indexed b_1, refl, (goal.Install (codes "b") None, refl, (refl, tt))),
  (indexed (record b_1 { version = codes "2" }), refl, (goal.Install (codes "b") None, refl, (refl, tt))),
)
