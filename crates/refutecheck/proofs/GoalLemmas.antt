-- Goals, as tests and as facts.
use Rattle.std.proofs.Common.{◌≡◌, ℕ, Bool, true, false, List, Option, Some, None, refl, sym, subst, ◌∙◌}
use Rattle.std.specs.Prelude.{◌↔◌, IsTrue}
use Rattle.std.specs.List.{Contains, list_any}
use Rattle.std.proofs.lemmas.Bool.{cases_Bool}
use Rattle.std.proofs.lemmas.Option.{same_Some}
use Rattle.rules.specs.ElementLaws.{Any-elim, Any-from_list_any, list_any-from_contains}
use Rattle.rules.specs.Package.{Pkg}
use Rattle.rules.specs.Universe.{Start, Universe, candidate_of}
use Rattle.rules.specs.declared.goal.Goal.{Goal}
use Rattle.rules.specs.declared.goal.Goal.TheVariants as goal
use Rattle.refutation.specs.Clause.{item_at}
use Rattle.refutation.specs.Premise.{AsksForMember, IsAskedBy, IsUpgradeFrom, Selects}
use Rattle.refutation.specs.declared.line.Premise.TheVariants as premise
use Rattle.refutation.specs.declared.literal.Literal.{Literal}
use Rattle.refutecheck.specs.Answer.{IsAnswer, IsClauseWhere, IsLowerThanCandidate}
use Rattle.refutecheck.specs.Sought.{is_no_remove}
use Rattle.refutecheck.proofs.AnswerLemmas.{selects_alike}
use mathlib.Core.Logic.{inl, inr}

-- only one goal passes the test
is_that : (asked : Goal) → is_no_remove asked ≡ true → goal.NoRemove ≡ asked
is_that (goal.Install name restriction) passes = absurd (let e : false ≡ true = passes in cc)
is_that (goal.Remove name) passes = absurd (let e : false ≡ true = passes in cc)
is_that (goal.Purge name) passes = absurd (let e : false ≡ true = passes in cc)
is_that (goal.Upgrade name) passes = absurd (let e : false ≡ true = passes in cc)
is_that goal.UpgradeAll passes = absurd (let e : false ≡ true = passes in cc)
is_that goal.NoRemove passes = refl

-- whether a goal is that nothing is removed
pub no_remove_decides : (goals : List Goal) (answer : Bool) → answer ≡ list_any is_no_remove goals
    → IsTrue answer ↔ Contains goals goal.NoRemove
no_remove_decides goals answer is = (
  λ so. Any-elim (λ asked. is_no_remove asked ≡ true) goals (Contains goals goal.NoRemove)
      (λ asked within passes. subst (Contains goals) (sym (is_that asked passes)) within)
      (Any-from_list_any is_no_remove goals (sym is ∙ so)),
  λ within. is ∙ list_any-from_contains is_no_remove goals goal.NoRemove within refl,
)

-- what the goal of the number asks for is what the premise says
pub asked_there : (u : Universe) (number : ℕ) (asked : Goal) (answer : Option (List Literal)) → Some asked ≡ item_at u.goals number
    → IsClauseWhere (AsksForMember asked) (Selects u (IsAskedBy u asked)) answer → IsAnswer u (premise.Goal number) answer
asked_there u number asked None is isnt = λ (goal, there, asks).
    isnt (subst AsksForMember (same_Some goal asked (sym there ∙ sym is)) asks)
asked_there u number asked (Some literals) is (asks, all) = (
  (asked, sym is, asks),
  λ literal.
      let same = selects_alike u (IsAskedBy u asked) There alike literal in
      (λ within. same.0 ((all literal).0 within), λ in_premise. (all literal).1 (same.1 in_premise)),
)
  where
    There : Pkg → Type 0
    There pkg = (goal : Goal) × (item_at u.goals number ≡ Some goal) × IsAskedBy u goal pkg

    alike : (pkg : Pkg) → IsAskedBy u asked pkg ↔ There pkg
    alike pkg = (
      λ is_asked. (asked, sym is, is_asked),
      λ (goal, there, is_asked).
          let P : Goal → Type 0 = λ g. IsAskedBy u g pkg in subst P (same_Some goal asked (sym there ∙ sym is)) is_asked,
    )

-- an upgrade, by what was tested
upgrade_from : (u : Universe) (pkg : Pkg) (start : Start) → start.name ≡ pkg.name → start.is_held ≡ false
    → (standing candidate : Option (List ℕ)) → start.standing ≡ standing → candidate_of u start.name ≡ candidate
    → IsLowerThanCandidate standing candidate pkg.version → IsUpgradeFrom u pkg start
upgrade_from u pkg start name unheld None candidate stands is lower = absurd lower
upgrade_from u pkg start name unheld (Some standing) None stands is lower = absurd lower
upgrade_from u pkg start name unheld (Some standing) (Some candidate) stands is lower = record {
  name = name;
  unheld = unheld;
  standing = standing;
  candidate = candidate;
  stands = stands;
  is_candidate = is;
  lower = lower.0;
  version = lower.1;
}

pub by_record : (u : Universe) (pkg : Pkg) (start : Start) (answer : Bool)
    → IsTrue answer ↔ ((start.name ≡ pkg.name) × (IsTrue start.is_held → ⊥)
    × IsLowerThanCandidate start.standing (candidate_of u start.name) pkg.version)
    → IsTrue answer ↔ IsUpgradeFrom u pkg start
by_record u pkg start answer decides = (
  λ so.
      let (name, unheld, lower) = decides.0 so in
      upgrade_from u pkg start name (isnt unheld) start.standing (candidate_of u start.name) refl refl lower,
  λ upgrade. decides.1 (
    upgrade.name,
    (λ held. absurd (let e : false ≡ true = sym upgrade.unheld ∙ held in cc)),
    (let Standing : Option (List ℕ) → Type 0 = λ standing. IsLowerThanCandidate standing (candidate_of u start.name) pkg.version in
        let Higher : Option (List ℕ) → Type 0 = λ candidate. IsLowerThanCandidate (Some upgrade.standing) candidate pkg.version in
        subst Standing (sym upgrade.stands) (subst Higher (sym upgrade.is_candidate) (upgrade.lower, upgrade.version))),
  ),
)
  where
    isnt : (IsTrue start.is_held → ⊥) → start.is_held ≡ false
    isnt unheld = elim (cases_Bool start.is_held) [ inl is ↦ absurd (unheld is) | inr fails ↦ fails ]
