-- A refutation of `install a` and `install b` where each conflicts with what the other provides is accepted, and
-- with a hint left out its last line is the first bad one. `a 1; Provides: v; Conflicts: v`, `b 1; Provides: v; Conflicts: v`.
use Rattle.std.proofs.Common.{◌≡◌, ◌≢◌, ℕ, zero, suc, Bool, length, List, [], ◌∷◌, ◌++◌, Some, None, refl, sym, ap, subst, ◌∙◌, arith, length-append}
use Rattle.std.specs.Prelude.{codes}
use Rattle.std.specs.List.{AllPairs, Contains}
use Rattle.std.specs.declared.cmp.Ordering.TheVariants.{Less}
use Rattle.std.proofs.lemmas.Option.{same_Some}
use Rattle.rules.specs.ElementLaws.{Contains-nil}
use Rattle.rules.specs.Package.{Pkg}
use Rattle.rules.specs.Sound.{IsAcceptable}
use Rattle.rules.specs.Step.{no_relations}
use Rattle.rules.specs.Universe.{Universe, Pair, pair_cmp}
use Rattle.rules.specs.declared.goal.Goal.{Goal}
use Rattle.rules.specs.declared.goal.Goal.TheVariants as goal
use Rattle.rules.proofs.Decided.{dec_Decides, dec_IsTrue, dec_IsFalse, dec_and, dec_and3, dec_or, dec_like, dec_Any, dec_text}
use Rattle.rules.proofs.DecidedPackages.{dec_MeetsRestriction, dec_Meets, dec_MeetsAsProvided, dec_FitsByName, dec_FitsProvided, dec_FitsByProvides, dec_Matches, dec_MatchesSome, dec_ConflictsWith}
use Rattle.rules.proofs.Rows.{so, not_so, any_of, provided, package_of, indexed, universe_of}
use Rattle.refutation.specs.Laws.{HasAscendingPairs}
use Rattle.refutation.specs.Premise.{ConflictsWithOther, IsAskedBy}
use Rattle.refutation.specs.Following.{FalseAfter, IsAllFalse}
use Rattle.refutation.specs.Refutation.{AreGoodLines, EndsEmpty, IsAccepted, IsFirstBad, IsGoodLine, IsInLine}
use Rattle.refutation.specs.declared.line.Line.{Line}
use Rattle.refutation.specs.declared.line.Line.TheVariants as line
use Rattle.refutation.specs.declared.line.Premise.TheVariants as premise
use Rattle.refutation.specs.declared.literal.Literal.{Literal}
use Rattle.refutation.specs.declared.literal.Literal.TheVariants as literal
use Rattle.refutation.proofs.LineLemmas.{empty_list_is_good, good_lines_grow, same_split}
use Rattle.refutation.proofs.PremiseLemmas.{none_is_acceptable}
use mathlib.Core.Logic.{inl, inr}

abbrev a_1 : Pkg
a_1 = package_of (codes "a") (codes "1") (record no_relations { provides = provided (codes "v") ∷ []; conflicts = any_of (codes "v") ∷ [] })

abbrev b_1 : Pkg
b_1 = package_of (codes "b") (codes "1") (record no_relations { provides = provided (codes "v") ∷ []; conflicts = any_of (codes "v") ∷ [] })

abbrev u : Universe
u = universe_of [] (indexed a_1 ∷ indexed b_1 ∷ []) (goal.Install (codes "a") None ∷ goal.Install (codes "b") None ∷ [])

-- the three premises, and the empty clause by all of them and by two
abbrev premises : List Line
premises = line.Premise (premise.Goal 1) ∷ line.Premise (premise.Goal 2) ∷ line.Premise (premise.Conflicts 1 2) ∷ []

abbrev by_all : Line
by_all = line.Derived [] (1 ∷ 2 ∷ 3 ∷ [])

abbrev by_two : Line
by_two = line.Derived [] (1 ∷ 2 ∷ [])

-- a isn't b
a_not_b : codes "b" ≢ codes "a"
unfolding dec_Decides dec_text
a_not_b = not_so (dec_text (codes "b") (codes "a")) refl

-- the first package provides what the second conflicts with
conflict : ConflictsWithOther a_1 b_1
unfolding dec_Decides dec_IsTrue dec_IsFalse dec_and dec_and3 dec_or dec_like dec_Any dec_text dec_MeetsRestriction dec_Meets dec_MeetsAsProvided dec_FitsByName dec_FitsProvided dec_FitsByProvides dec_Matches dec_MatchesSome dec_ConflictsWith
conflict = (a_not_b, so (dec_ConflictsWith a_1 b_1) refl)

good_premises : AreGoodLines u premises
good_premises = good_lines_grow u (line.Premise (premise.Goal 1) ∷ line.Premise (premise.Goal 2) ∷ []) (line.Premise (premise.Conflicts 1 2))
    (good_lines_grow u (line.Premise (premise.Goal 1) ∷ []) (line.Premise (premise.Goal 2))
    (good_lines_grow u [] (line.Premise (premise.Goal 1)) (empty_list_is_good u) (goal.Install (codes "a") None, refl, tt))
    (goal.Install (codes "b") None, refl, tt))
    (indexed a_1, refl, (indexed b_1, refl, conflict))

-- the clause of each goal has the one pair of its name alone
abbrev clause_a : Literal → Type 0
clause_a = IsInLine u (line.Premise (premise.Goal 1))

abbrev clause_b : Literal → Type 0
clause_b = IsInLine u (line.Premise (premise.Goal 2))

-- what a goal to install a name asks for has it
asked_name : (name : List ℕ) (asked : Goal) (pair other_pair : Pair) → Some (goal.Install name None) ≡ Some asked → Some other_pair ≡ Some pair
    → IsAskedBy u asked pair.pkg → other_pair.pkg.name ≡ name
asked_name name asked pair other_pair goals pairs by =
    let here : IsAskedBy u (goal.Install name None) pair.pkg =
    subst (λ g. IsAskedBy u g pair.pkg) (sym (same_Some (goal.Install name None) asked goals)) by in
    ap (λ (p : Pair). p.pkg.name) (same_Some other_pair pair pairs) ∙ here.0

only_a : (disjunct : Literal) → clause_a disjunct → disjunct ≡ literal.Selected 1
only_a (literal.Unselected number) within = absurd within
only_a (literal.Selected zero) within = absurd (let e : None ≡ Some within.0 = within.1 in cc)
only_a (literal.Selected (suc zero)) within = refl
only_a (literal.Selected (suc (suc zero))) within =
    absurd (a_not_b (asked_name (codes "a") within.2.0 within.0 (indexed b_1) within.2.1 within.1 within.2.2))
only_a (literal.Selected (suc (suc (suc number)))) within = absurd (let e : None ≡ Some within.0 = within.1 in cc)

only_b : (disjunct : Literal) → clause_b disjunct → disjunct ≡ literal.Selected 2
only_b (literal.Unselected number) within = absurd within
only_b (literal.Selected zero) within = absurd (let e : None ≡ Some within.0 = within.1 in cc)
only_b (literal.Selected (suc zero)) within =
    absurd (a_not_b (sym (asked_name (codes "b") within.2.0 within.0 (indexed a_1) within.2.1 within.1 within.2.2)))
only_b (literal.Selected (suc (suc zero))) within = refl
only_b (literal.Selected (suc (suc (suc number)))) within = absurd (let e : None ≡ Some within.0 = within.1 in cc)

-- at the start nothing is false; behind the goal for a, that a isn't selected is
abbrev nothing : Literal → Type 0
nothing = Contains []

abbrev behind_a : Literal → Type 0
behind_a = FalseAfter nothing clause_a

in_a : clause_a (literal.Selected 1)
in_a = (indexed a_1, refl, (goal.Install (codes "a") None, refl, (refl, tt)))

in_b : clause_b (literal.Selected 2)
in_b = (indexed b_1, refl, (goal.Install (codes "b") None, refl, (refl, tt)))

-- that b is selected isn't false behind the goal for a
b_open : ¬ behind_a (literal.Selected 2)
b_open (inl before) = Contains-nil (literal.Selected 2) before
b_open (inr opened) = opened.0

-- behind both goals the clause of the conflict is all false
all_false : IsAllFalse (FalseAfter behind_a clause_b) (IsInLine u (line.Premise (premise.Conflicts 1 2)))
all_false disjunct (inl one) = subst (FalseAfter behind_a clause_b) (sym one) (inl (inr (in_a, Contains-nil (literal.Selected 1))))
all_false disjunct (inr two) = subst (FalseAfter behind_a clause_b) (sym two) (inr (in_b, b_open))

pub by_all_follows : IsGoodLine u premises by_all
by_all_follows = (
  line.Premise (premise.Goal 1),
  refl,
  (
    (λ disjunct other one two. only_a disjunct one.0 ∙ sym (only_a other two.0)),
    (
      line.Premise (premise.Goal 2),
      refl,
      (
        (λ disjunct other one two. only_b disjunct one.0 ∙ sym (only_b other two.0)),
        (line.Premise (premise.Conflicts 1 2), refl, all_false),
      ),
    ),
  ),
)

-- the refutation is accepted, and so no selection is acceptable
pub accepted : IsAccepted u (premises ++ by_all ∷ [])
accepted = record {
  good = good_lines_grow u premises by_all good_premises by_all_follows;
  ends = record { earlier = premises; last = by_all; place = refl; empty = Contains-nil };
}

pub none : (selection : ℕ → Bool) → ¬ IsAcceptable u selection
unfolding HasAscendingPairs
none = none_is_acceptable u (premises ++ by_all ∷ []) ascending accepted
  where
    ascending : AllPairs (λ earlier later. pair_cmp earlier later ≡ Less) u.pairs
    ascending zero zero d before within = absurd (omega arith)
    ascending zero (suc zero) d before within = refl
    ascending zero (suc (suc j)) d before within = absurd (omega (arith, within))
    ascending (suc i) zero d before within = absurd (omega (arith, before))
    ascending (suc i) (suc zero) d before within = absurd (omega (arith, before))
    ascending (suc i) (suc (suc j)) d before within = absurd (omega (arith, within))

-- with the conflict left out the last hint has a literal that is not false yet: the fourth line is the first bad one
by_two_not : ¬ IsGoodLine u premises by_two
by_two_not follows =
    let first : line.Premise (premise.Goal 1) ≡ follows.0 = same_Some (line.Premise (premise.Goal 1)) follows.0 follows.1 in
    let last = follows.2.1 in
    let second : line.Premise (premise.Goal 2) ≡ last.0 = same_Some (line.Premise (premise.Goal 2)) last.0 last.1 in
    let all : IsAllFalse (FalseAfter nothing (IsInLine u follows.0)) clause_b =
    subst (λ l. IsAllFalse (FalseAfter nothing (IsInLine u follows.0)) (IsInLine u l)) (sym second) last.2 in
    b_open (subst (λ l. FalseAfter nothing (IsInLine u l) (literal.Selected 2)) (sym first) (all (literal.Selected 2) in_b))

pub first_bad_is_4 : IsFirstBad u (premises ++ by_two ∷ []) 4
unfolding IsFirstBad
first_bad_is_4 = inl (record {
  earlier = premises;
  line = by_two;
  rest = [];
  place = refl;
  number_is = refl;
  good = good_premises;
  bad = by_two_not;
})

-- without the last line nothing is derived: the missing fourth line is the first bad one
pub unfinished_is_4 : IsFirstBad u premises 4
unfolding IsFirstBad
unfinished_is_4 = inr (record { good = good_premises; unfinished = unfinished; number_is = refl })
  where
    unfinished : ¬ EndsEmpty u premises
    unfinished ends =
        let split = same_split ends.earlier ends.last [] (line.Premise (premise.Goal 1) ∷ line.Premise (premise.Goal 2) ∷ [])
        (line.Premise (premise.Conflicts 1 2)) [] (sym ends.place) (omega (arith, length-append ends.earlier (ends.last ∷ []), ap length ends.place)) in
        ends.empty (literal.Unselected 1)
        (subst (λ l. IsInLine u l (literal.Unselected 1)) (sym split.1) (inl refl))
