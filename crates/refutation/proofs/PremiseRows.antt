-- Which premises a universe has, and which literals their clauses have, row by row.
use Rattle.std.proofs.Common.{◌≡◌, ◌≢◌, ℕ, zero, suc, List, [], ◌∷◌, ◌⊎◌, Some, None, refl, sym, subst}
use Rattle.std.specs.Prelude.{◌↔◌, IsTrue, MatchOption, codes, true, false}
use Rattle.std.proofs.lemmas.Option.{same_Some}
use Rattle.rules.specs.Database.{Record}
use Rattle.rules.specs.ElementLaws.{Any-elim, Any-intro, Contains-cons, Contains-head, Contains-nil}
use Rattle.rules.specs.Package.{Atom, Pkg, MatchesSome}
use Rattle.rules.specs.Step.{no_relations}
use Rattle.rules.specs.Universe.{Pair, Start, Universe, start_of}
use Rattle.rules.specs.Version.{SameVersion, version_cmp}
use Rattle.rules.specs.declared.goal.Goal.TheVariants as goal
use Rattle.rules.specs.declared.status.State.TheVariants.{Installed}
use Rattle.rules.specs.declared.status.Want.TheVariants as want
use Rattle.rules.proofs.Decided.{dec_Decides, dec_IsTrue, dec_IsFalse, dec_and, dec_and3, dec_or, dec_like, dec_Any, dec_text}
use Rattle.rules.proofs.DecidedPackages.{dec_MeetsRestriction, dec_Meets, dec_MeetsAsProvided, dec_FitsByName, dec_FitsProvided, dec_FitsByProvides, dec_Matches, dec_MatchesSome}
use Rattle.rules.proofs.Rows.{so, not_so, any_of, provided, package_of, record_of, indexed, universe_of}
use Rattle.refutation.specs.Clause.{item_at}
use Rattle.refutation.specs.Premise.{AsksForMember, IsAskedBy, IsInPremise, IsPremise, IsUpgradeFrom, SpeaksOf}
use Rattle.refutation.specs.Refutation.{IsAccepted}
use Rattle.refutation.specs.declared.line.Line.TheVariants as line
use Rattle.refutation.specs.declared.line.Premise.TheVariants as premise
use Rattle.refutation.specs.declared.literal.Literal.{Literal}
use Rattle.refutation.specs.declared.literal.Literal.TheVariants as literal
use Rattle.refutation.proofs.LineLemmas.{empty_list_is_good, good_lines_grow}
use mathlib.Core.Logic.{inl, inr}

-- `a 1; Provides: v` and `foo 1; Depends: v`
abbrev a_1 : Pkg
a_1 = package_of (codes "a") (codes "1") (record no_relations { provides = provided (codes "v") ∷ [] })

abbrev v : List Atom
v = any_of (codes "v") ∷ []

abbrev foo_1 : Pkg
foo_1 = package_of (codes "foo") (codes "1") (record no_relations { depends = v ∷ [] })

-- `upgrade foo`, which has no candidate, and `remove a`
abbrev u : Universe
u = universe_of [] (indexed a_1 ∷ indexed foo_1 ∷ []) (goal.Upgrade (codes "foo") ∷ goal.Remove (codes "a") ∷ [])

provider_matches : MatchesSome a_1 v
unfolding dec_Decides dec_IsTrue dec_IsFalse dec_and dec_and3 dec_or dec_like dec_Any dec_text dec_MeetsRestriction dec_Meets dec_MeetsAsProvided dec_FitsByName dec_FitsProvided dec_FitsByProvides dec_Matches dec_MatchesSome
provider_matches = so (dec_MatchesSome a_1 v) refl

itself_doesnt : ¬ MatchesSome foo_1 v
unfolding dec_Decides dec_IsTrue dec_IsFalse dec_and dec_and3 dec_or dec_like dec_Any dec_text dec_MeetsRestriction dec_Meets dec_MeetsAsProvided dec_FitsByName dec_FitsProvided dec_FitsByProvides dec_Matches dec_MatchesSome
itself_doesnt = not_so (dec_MatchesSome foo_1 v) refl

foo_not_a : codes "foo" ≢ codes "a"
unfolding dec_Decides dec_text
foo_not_a = not_so (dec_text (codes "foo") (codes "a")) refl

-- the clause of `depends 2 1` is `-2` and the provider: foo isn't selected, or a is
pub depends_has_the_provider : (disjunct : Literal) → IsInPremise u (premise.Depends 2 1) disjunct
    ↔ ((disjunct ≡ literal.Unselected 2) ⊎ (disjunct ≡ literal.Selected 1))
depends_has_the_provider disjunct = (to disjunct, back)
  where
    to : (disjunct : Literal) → IsInPremise u (premise.Depends 2 1) disjunct → (disjunct ≡ literal.Unselected 2) ⊎ (disjunct ≡ literal.Selected 1)
    to disjunct (inl out) = inl out
    to (literal.Unselected number) (inr selects) = absurd selects
    to (literal.Selected zero) (inr selects) = absurd (let e : None ≡ Some selects.0 = selects.1 in cc)
    to (literal.Selected (suc zero)) (inr selects) = inr refl
    to (literal.Selected (suc (suc zero))) (inr selects) =
        let of = selects.2 in
        let has : Some v ≡ Some of.2.0 = subst (λ (p : Pair). item_at p.pkg.relations.depends 1 ≡ Some of.2.0)
        (sym (same_Some (indexed foo_1) of.0 of.1)) of.2.1 in
        absurd (itself_doesnt (subst (λ (p : Pair). MatchesSome p.pkg v) (sym (same_Some (indexed foo_1) selects.0 selects.1))
        (subst (MatchesSome selects.0.pkg) (sym (same_Some v of.2.0 has)) of.2.2)))
    to (literal.Selected (suc (suc (suc number)))) (inr selects) = absurd (let e : None ≡ Some selects.0 = selects.1 in cc)

    back : (disjunct ≡ literal.Unselected 2) ⊎ (disjunct ≡ literal.Selected 1) → IsInPremise u (premise.Depends 2 1) disjunct
    back (inl out) = inl out
    back (inr selected) = subst (IsInPremise u (premise.Depends 2 1)) (sym selected)
        (inr (indexed a_1, refl, (indexed foo_1, refl, (v, refl, provider_matches))))

-- an upgrade of a name without a candidate is a refutation by itself: the clause of `goal 1` is empty
pub upgrade_of_nothing : IsAccepted u (line.Premise (premise.Goal 1) ∷ [])
upgrade_of_nothing = record {
  good = good_lines_grow u [] (line.Premise (premise.Goal 1)) (empty_list_is_good u) (goal.Upgrade (codes "foo"), refl, tt);
  ends = record { earlier = []; last = line.Premise (premise.Goal 1); place = refl; empty = none };
}
  where
    none : (disjunct : Literal) → ¬ IsInPremise u (premise.Goal 1) disjunct
    none (literal.Selected number) within =
        subst (λ g. IsAskedBy u g within.0.pkg) (sym (same_Some (goal.Upgrade (codes "foo")) within.2.0 within.2.1)) within.2.2
    none (literal.Unselected number) within = within

-- not premises: two pairs of two names, a remove as a goal that asks for a member, and a name kept where no goal is `no-remove`
pub no_same : ¬ IsPremise u (premise.Same 1 2)
no_same is = foo_not_a (subst (λ (p : Pair). foo_1.name ≡ p.pkg.name) (sym (same_Some (indexed a_1) is.1.0 is.1.1))
    (subst (λ (p : Pair). p.pkg.name ≡ is.1.0.pkg.name) (sym (same_Some (indexed foo_1) is.1.2.0 is.1.2.1)) is.1.2.2))

pub no_goal : ¬ IsPremise u (premise.Goal 2)
no_goal is = subst AsksForMember (sym (same_Some (goal.Remove (codes "a")) is.0 is.1)) is.2

pub no_keep : (name : List ℕ) → ¬ IsPremise u (premise.Keep name)
no_keep name is = elim (Contains-cons (goal.Upgrade (codes "foo")) (goal.Remove (codes "a") ∷ []) goal.NoRemove is.0) [
  | inl same ↦ absurd (cc)
  | inr later ↦ elim (Contains-cons (goal.Remove (codes "a")) [] goal.NoRemove later) [
    | inl same ↦ absurd (cc)
    | inr none ↦ Contains-nil goal.NoRemove none
  ]
]

-- `foo 1` stands, `foo 2` is the candidate, and all are to be upgraded
abbrev foo_2 : Pkg
foo_2 = package_of (codes "foo") (codes "2") no_relations

abbrev upgrading : List Record → Universe
upgrading start = record (universe_of start (indexed foo_1 ∷ indexed foo_2 ∷ []) (goal.UpgradeAll ∷ [])) {
  candidates = (record { name = codes "foo"; version = codes "2" }) ∷ [];
}

abbrev unheld : Record
unheld = record_of Installed (Some (codes "1")) foo_1

abbrev held : Record
held = record unheld { want = want.Hold }

-- unheld, foo is upgraded: `goal 1 2` is a premise
pub goal_upgrades : IsPremise (upgrading (unheld ∷ [])) (premise.GoalOn 1 2)
unfolding version_cmp
goal_upgrades = (
  goal.UpgradeAll,
  refl,
  (
    indexed foo_2,
    refl,
    Any-intro (IsUpgradeFrom (upgrading (unheld ∷ [])) foo_2) (start_of unheld ∷ []) (start_of unheld) (Contains-head (start_of unheld) [])
        (record {
          name = refl;
          unheld = refl;
          standing = codes "1";
          candidate = codes "2";
          stands = refl;
          is_candidate = refl;
          lower = refl;
          version = refl;
        }),
  ),
)

-- held, foo stays: `hold 1` is a premise, and `goal 1 2` isn't
pub hold_holds : IsPremise (upgrading (held ∷ [])) (premise.Hold 1)
unfolding version_cmp
hold_holds = (
  indexed foo_1,
  refl,
  Any-intro
      (λ (start : Start). (start.name ≡ codes "foo") × IsTrue start.is_held × MatchOption start.standing ⊥ (SameVersion (codes "1")))
      (start_of held ∷ []) (start_of held) (Contains-head (start_of held) []) (refl, refl, refl),
)

pub hold_isnt_upgraded : ¬ IsPremise (upgrading (held ∷ [])) (premise.GoalOn 1 2)
hold_isnt_upgraded is =
    let speaks : SpeaksOf (upgrading (held ∷ [])) goal.UpgradeAll is.2.0.pkg =
    subst (λ g. SpeaksOf (upgrading (held ∷ [])) g is.2.0.pkg) (sym (same_Some goal.UpgradeAll is.0 is.1)) is.2.2 in
    Any-elim (IsUpgradeFrom (upgrading (held ∷ [])) is.2.0.pkg) (start_of held ∷ []) ⊥ (λ start within from.
    elim (Contains-cons (start_of held) [] start within) [
      | inl same ↦ let e : true ≡ false = subst (λ (s : Start). s.is_held ≡ false) (sym same) from.unheld in absurd (cc)
      | inr none ↦ Contains-nil start none
    ]) speaks
