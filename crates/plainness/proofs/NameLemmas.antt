-- Which names a table has that was put together name by name.
use Rattle.std.proofs.Common.{◌≡◌, ◌⊎◌, ℕ, Bool, true, List, [], ◌∷◌, map, fold, bytes_eq, Bor, refl, sym, ap, subst, ◌∙◌}
use Rattle.std.specs.Prelude.{◌↔◌}
use Rattle.std.specs.List.{Contains, list_any}
use Rattle.std.proofs.lemmas.Bool.{cases_Bool}
use Rattle.std.proofs.lemmas.List.Elements.{Contains-append_cases, Contains-append_left, Contains-append_right}
use Rattle.index.proofs.NameLemmas.{list_any-map}
use Rattle.index.specs.Names.{with_name}
use Rattle.rules.specs.ElementLaws.{Any-elim, Any-from_list_any, Any-intro, Contains-cons, Contains-head, Contains-map, Contains-map_intro, Contains-nil, Contains-rest, list_any-from_contains}
use Rattle.rules.specs.NamedLaws.{bytes_eq-same, bytes_eq-true}
use Rattle.rules.specs.Package.{Pkg}
use Rattle.rules.specs.Sound.{HasMember}
use Rattle.rules.specs.declared.goal.Goal.{Goal}
use Rattle.rules.specs.declared.goal.Goal.TheVariants as goal
use Rattle.plainness.specs.Names.{with_purge}
use mathlib.Core.Logic.{inl, inr}

-- the test finds a name that is there, and only such a one
pub tells : (name : List ℕ) (names : List (List ℕ)) → (list_any (bytes_eq name) names ≡ true) ↔ Contains names name
tells name names = (
  λ passes. Any-elim (λ other. bytes_eq name other ≡ true) names (Contains names name)
      (λ other within same. subst (Contains names) (sym (bytes_eq-true name other same)) within)
      (Any-from_list_any (bytes_eq name) names passes),
  λ within. list_any-from_contains (bytes_eq name) names name within (bytes_eq-same name name refl),
)

-- one name more
one_more : (name added : List ℕ) (names : List (List ℕ)) → Contains (with_name names added) name ↔ (Contains names name ⊎ (added ≡ name))
one_more name added names = elim (cases_Bool (list_any (bytes_eq added) names)) [
  | inl there ↦ rw there (
    λ is. inl is,
    λ either. elim either [
      | inl is ↦ is
      | inr same ↦ subst (Contains names) same ((tells added names).0 there)
    ],
  )
  | inr absent ↦ rw absent (
    λ is. elim (Contains-append_cases names (added ∷ []) name is) [
      | inl before ↦ inl before
      | inr here ↦ elim (Contains-cons added [] name here) [ inl same ↦ inr same | inr none ↦ absurd (Contains-nil name none) ]
    ],
    λ either. elim either [
      | inl is ↦ Contains-append_left names (added ∷ []) name is
      | inr same ↦ Contains-append_right names (added ∷ []) name (subst (Contains (added ∷ [])) same (Contains-head added []))
    ],
  )
]

-- names put in one after another
all_names : (name : List ℕ) (names rest : List (List ℕ)) → Contains (fold with_name names rest) name ↔ (Contains names name ⊎ Contains rest name)
all_names name names [] = (
  λ is. inl is,
  λ either. elim either [ inl is ↦ is | inr none ↦ absurd (Contains-nil name none) ],
)
all_names name names (first ∷ rest) =
    let later = all_names name (with_name names first) rest in
    let here = one_more name first names in (
      λ is. elim (later.0 is) [
        | inl one ↦ elim (here.0 one) [
          | inl before ↦ inl before
          | inr same ↦ inr (subst (Contains (first ∷ rest)) same (Contains-head first rest))
        ]
        | inr behind ↦ inr (Contains-rest first rest name behind)
      ],
      λ either. elim either [
        | inl before ↦ later.1 (inl (here.1 (inl before)))
        | inr within ↦ elim (Contains-cons first rest name within) [
          | inl same ↦ later.1 (inl (here.1 (inr same)))
          | inr behind ↦ later.1 (inr behind)
        ]
      ],
    )

-- the table of the names of packages has those of which a package is
pub of_members : (members : List (Bor Pkg)) (names : List (List ℕ))
    → names ≡ fold with_name [] (map (λ (member : Bor Pkg). member.now.name) members) → (name : List ℕ)
    → Contains names name ↔ HasMember name (map (λ (member : Bor Pkg). member.now) members)
unfolding HasMember
of_members members names is name =
    let all = all_names name [] (map (λ (member : Bor Pkg). member.now.name) members) in (
      λ within. elim (all.0 (subst (λ (ns : List (List ℕ)). Contains ns name) is within)) [
        | inl none ↦ absurd (Contains-nil name none)
        | inr there ↦
            let from = Contains-map (λ (member : Bor Pkg). member.now.name) members name there in
            Any-intro (λ (member : Pkg). member.name ≡ name) (map (λ (member : Bor Pkg). member.now) members) from.0.now
            (Contains-map_intro (λ (member : Bor Pkg). member.now) members from.0 from.1) from.2
      ],
      λ some. Any-elim (λ (member : Pkg). member.name ≡ name) (map (λ (member : Bor Pkg). member.now) members) (Contains names name)
          (λ member within named.
          let from = Contains-map (λ (m : Bor Pkg). m.now) members member within in
          let same : from.0.now.name ≡ name = ap (λ (m : Pkg). m.name) from.2 ∙ named in
          subst (λ (ns : List (List ℕ)). Contains ns name) (sym is) (all.1 (inr
          (subst (Contains (map (λ (m : Bor Pkg). m.now.name) members)) same
          (Contains-map_intro (λ (m : Bor Pkg). m.now.name) members from.0 from.1))))) some,
    )

no_purge : (name : List ℕ) (names : List (List ℕ)) (asked : Goal) → ¬ (asked ≡ goal.Purge name)
    → Contains names name ↔ (Contains names name ⊎ (asked ≡ goal.Purge name))
no_purge name names asked none = (λ is. inl is, λ either. elim either [ inl is ↦ is | inr same ↦ absurd (none same) ])

-- what one goal puts in
one_goal : (name : List ℕ) (names : List (List ℕ)) (asked : Goal) → Contains (with_purge names asked) name ↔ (Contains names name ⊎ (asked ≡ goal.Purge name))
one_goal name names (goal.Install asked restriction) = no_purge name names (goal.Install asked restriction) (λ e. cc)
one_goal name names (goal.Remove asked) = no_purge name names (goal.Remove asked) (λ e. cc)
one_goal name names (goal.Purge asked) = let more = one_more name asked names in (
  λ is. elim (more.0 is) [ inl before ↦ inl before | inr same ↦ inr (ap goal.Purge same) ],
  λ either. elim either [ inl before ↦ more.1 (inl before) | inr same ↦ more.1 (inr (cc)) ],
)
one_goal name names (goal.Upgrade asked) = no_purge name names (goal.Upgrade asked) (λ e. cc)
one_goal name names goal.UpgradeAll = no_purge name names goal.UpgradeAll (λ e. cc)
one_goal name names goal.NoRemove = no_purge name names goal.NoRemove (λ e. cc)

all_goals : (name : List ℕ) (names : List (List ℕ)) (goals : List Goal)
    → Contains (fold with_purge names goals) name ↔ (Contains names name ⊎ Contains goals (goal.Purge name))
all_goals name names [] = (
  λ is. inl is,
  λ either. elim either [ inl is ↦ is | inr none ↦ absurd (Contains-nil (goal.Purge name) none) ],
)
all_goals name names (first ∷ goals) =
    let later = all_goals name (with_purge names first) goals in
    let here = one_goal name names first in (
      λ is. elim (later.0 is) [
        | inl one ↦ elim (here.0 one) [
          | inl before ↦ inl before
          | inr same ↦ inr (subst (Contains (first ∷ goals)) same (Contains-head first goals))
        ]
        | inr behind ↦ inr (Contains-rest first goals (goal.Purge name) behind)
      ],
      λ either. elim either [
        | inl before ↦ later.1 (inl (here.1 (inl before)))
        | inr within ↦ elim (Contains-cons first goals (goal.Purge name) within) [
          | inl same ↦ later.1 (inl (here.1 (inr same)))
          | inr behind ↦ later.1 (inr behind)
        ]
      ],
    )

-- the table of what goals are to purge has those that one of them is to purge
pub of_purges : (goals : List Goal) (names : List (List ℕ)) → names ≡ fold with_purge [] goals → (name : List ℕ)
    → Contains names name ↔ Contains goals (goal.Purge name)
of_purges goals names is name =
    let all = all_goals name [] goals in (
      λ within. elim (all.0 (subst (λ (ns : List (List ℕ)). Contains ns name) is within)) [
        | inl none ↦ absurd (Contains-nil name none)
        | inr there ↦ there
      ],
      λ there. subst (λ (ns : List (List ℕ)). Contains ns name) (sym is) (all.1 (inr there)),
    )

-- what the table tells of a name
pub table_tells : (name : List ℕ) (keys : List (Bor (List ℕ))) (names : List (List ℕ)) (answer : Bool)
    → answer ≡ list_any (λ (key : Bor (List ℕ)). bytes_eq name key.now) keys → map (λ (key : Bor (List ℕ)). key.now) keys ≡ names
    → (answer ≡ true) ↔ Contains names name
table_tells name keys names answer is view =
    let at : answer ≡ list_any (bytes_eq name) names =
    is ∙ sym (list_any-map (bytes_eq name) (λ (key : Bor (List ℕ)). key.now) keys) ∙ ap (list_any (bytes_eq name)) view in
    let both = tells name names in (
      λ so. both.0 (sym at ∙ so),
      λ within. at ∙ both.1 within,
    )
