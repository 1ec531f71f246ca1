-- Which names goals ask for is told by the table of them.
use Rattle.std.proofs.Common.{◌≡◌, ◌⊎◌, ℕ, Bool, true, false, List, [], ◌∷◌, map, fold, bytes_eq, Bor, refl, sym, ap, subst, ◌∙◌}
use Rattle.std.specs.Prelude.{◌↔◌, ◌||◌}
use Rattle.std.specs.List.{Any, list_any}
use Rattle.std.proofs.lemmas.Bool.{cases_Bool}
use Rattle.std.proofs.lemmas.List.Folds.{list_any-append}
use Rattle.index.proofs.NameLemmas.{list_any-map}
use Rattle.index.specs.Names.{with_name}
use Rattle.rules.specs.ElementLaws.{Any-elim, Any-intro, Contains-cons, Contains-head, Contains-nil, Contains-rest}
use Rattle.rules.specs.Minimal.{AsksFor}
use Rattle.rules.specs.NamedLaws.{bytes_eq-same, bytes_eq-true}
use Rattle.rules.specs.declared.goal.Goal.{Goal}
use Rattle.rules.specs.declared.goal.Goal.TheVariants as goal
use Rattle.search_settle.specs.Asked.{asked_in, with_asked}
use mathlib.Core.Logic.{inl, inr}

-- the name is one of these
abbrev pub IsOne : List ℕ → List (List ℕ) → Type 0
IsOne name names = list_any (bytes_eq name) names ≡ true

split_or : (b c : Bool) → (b || (c || false)) ≡ true → (b ≡ true) ⊎ (c ≡ true)
split_or true c is = inl refl
split_or false true is = inr refl
split_or false false is = absurd (let e : false ≡ true = is in cc)

left_or : (b c : Bool) → b ≡ true → (b || c) ≡ true
left_or true c is = refl
left_or false c is = absurd (let e : false ≡ true = is in cc)

right_or : (b c : Bool) → c ≡ true → (b || (c || false)) ≡ true
right_or true c is = refl
right_or false true is = refl
right_or false false is = absurd (let e : false ≡ true = is in cc)

-- one name more
one_more : (name added : List ℕ) (names : List (List ℕ)) → IsOne name (with_name names added) ↔ (IsOne name names ⊎ (added ≡ name))
one_more name added names = elim (cases_Bool (list_any (bytes_eq added) names)) [
  | inl there ↦ rw there (
    λ is. inl is,
    λ either. elim either [
      | inl is ↦ is
      | inr same ↦ subst (λ (n : List ℕ). IsOne n names) same there
    ],
  )
  | inr absent ↦ rw absent (
    λ is. elim (split_or (list_any (bytes_eq name) names) (bytes_eq name added) (sym (list_any-append (bytes_eq name) names (added ∷ [])) ∙ is)) [
      | inl before ↦ inl before
      | inr same ↦ inr (sym (bytes_eq-true name added same))
    ],
    λ either. list_any-append (bytes_eq name) names (added ∷ []) ∙ elim either [
      | inl is ↦ left_or (list_any (bytes_eq name) names) (bytes_eq name added || false) is
      | inr same ↦ right_or (list_any (bytes_eq name) names) (bytes_eq name added) (bytes_eq-same name added (sym same))
    ],
  )
]

-- what one goal asks for
one_goal : (name : List ℕ) (names : List (List ℕ)) (asked : Goal) → IsOne name (with_asked names asked) ↔ (IsOne name names ⊎ AsksFor name asked)
one_goal name names (goal.Install asked restriction) = one_more name asked names
one_goal name names (goal.Remove asked) = ((λ is. inl is), (λ either. elim either [ inl is ↦ is | inr none ↦ absurd none ]))
one_goal name names (goal.Purge asked) = ((λ is. inl is), (λ either. elim either [ inl is ↦ is | inr none ↦ absurd none ]))
one_goal name names (goal.Upgrade asked) = one_more name asked names
one_goal name names goal.UpgradeAll = ((λ is. inl is), (λ either. elim either [ inl is ↦ is | inr none ↦ absurd none ]))
one_goal name names goal.NoRemove = ((λ is. inl is), (λ either. elim either [ inl is ↦ is | inr none ↦ absurd none ]))

-- some goal asks for it: the first, or another
asks_first : (name : List ℕ) (first : Goal) (goals : List Goal) → AsksFor name first → Any (AsksFor name) (first ∷ goals)
asks_first name first goals asks = Any-intro (AsksFor name) (first ∷ goals) first (Contains-head first goals) asks

asks_later : (name : List ℕ) (first : Goal) (goals : List Goal) → Any (AsksFor name) goals → Any (AsksFor name) (first ∷ goals)
asks_later name first goals some = Any-elim (AsksFor name) goals (Any (AsksFor name) (first ∷ goals))
    (λ asked within asks. Any-intro (AsksFor name) (first ∷ goals) asked (Contains-rest first goals asked within) asks) some

first_or_later : (name : List ℕ) (first : Goal) (goals : List Goal) → Any (AsksFor name) (first ∷ goals) → AsksFor name first ⊎ Any (AsksFor name) goals
first_or_later name first goals some = Any-elim (AsksFor name) (first ∷ goals) (AsksFor name first ⊎ Any (AsksFor name) goals)
    (λ asked within asks. elim (Contains-cons first goals asked within) [
      | inl same ↦ inl (subst (AsksFor name) (sym same) asks)
      | inr later ↦ inr (Any-intro (AsksFor name) goals asked later asks)
    ]) some

all_goals : (name : List ℕ) (names : List (List ℕ)) (goals : List Goal) → IsOne name (fold with_asked names goals) ↔ (IsOne name names ⊎ Any (AsksFor name) goals)
all_goals name names [] = (
  λ is. inl is,
  λ either. elim either [
    | inl is ↦ is
    | inr some ↦ absurd (Any-elim (AsksFor name) [] ⊥ (λ asked within asks. Contains-nil asked within) some)
  ],
)
all_goals name names (first ∷ goals) =
    let rest = all_goals name (with_asked names first) goals in
    let here = one_goal name names first in (
      λ is. elim (rest.0 is) [
        | inl one ↦ elim (here.0 one) [
          | inl before ↦ inl before
          | inr asks ↦ inr (asks_first name first goals asks)
        ]
        | inr later ↦ inr (asks_later name first goals later)
      ],
      λ either. elim either [
        | inl before ↦ rest.1 (inl (here.1 (inl before)))
        | inr some ↦ elim (first_or_later name first goals some) [
          | inl asks ↦ rest.1 (inl (here.1 (inr asks)))
          | inr later ↦ rest.1 (inr later)
        ]
      ],
    )

-- a name is in the table of the goals exactly where one of them asks for it
pub asked_decides : (name : List ℕ) (goals : List Goal) (keys : List (Bor (List ℕ))) (names : List (List ℕ)) (answer : Bool)
    → answer ≡ list_any (λ (key : Bor (List ℕ)). bytes_eq name key.now) keys → map (λ (key : Bor (List ℕ)). key.now) keys ≡ names
    → names ≡ asked_in goals → (answer ≡ true) ↔ Any (AsksFor name) goals
asked_decides name goals keys names answer is view same =
    let at : answer ≡ list_any (bytes_eq name) (asked_in goals) =
    is ∙ sym (list_any-map (bytes_eq name) (λ (key : Bor (List ℕ)). key.now) keys) ∙ ap (list_any (bytes_eq name)) (view ∙ same) in
    let all = all_goals name [] goals in (
      λ so. elim (all.0 (sym at ∙ so)) [
        | inl none ↦ absurd (let e : false ≡ true = none in cc)
        | inr some ↦ some
      ],
      λ some. at ∙ all.1 (inr some),
    )
