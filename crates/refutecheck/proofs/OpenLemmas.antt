-- What of a clause isn't false with one literal more, and what is false afterwards.
use Rattle.std.proofs.Common.{◌≡◌, true, List, [], ◌∷◌, ◌++◌, ◌⊎◌, refl, sym, ap, subst, ◌∙◌}
use Rattle.std.specs.List.{Contains}
use Rattle.std.proofs.lemmas.List.Elements.{Contains-append_left, Contains-push, Contains-push_cases}
use Rattle.refutation.specs.Clause.{negation}
use Rattle.refutation.specs.Following.{IsOpen, HasOneOpen, IsAllFalse}
use Rattle.refutation.specs.declared.literal.Literal.{Literal}
use Rattle.refutation.specs.declared.literal.Literal.TheVariants as literal
use Rattle.refutecheck.specs.Following.{AreAlike, Narrows}
use Rattle.refutecheck.specs.Open.{IsOpenOf}
use Rattle.refutecheck.specs.declared.open.Open.{Open}
use Rattle.refutecheck.specs.declared.open.Open.TheVariants as rest
use mathlib.Core.Logic.{inl, inr}

-- what is open is still open in a longer clause
still : (falses : Literal → Type 0) (clause : List Literal) (last literal : Literal) → IsOpen falses (Contains clause) literal
    → IsOpen falses (Contains (clause ++ last ∷ [])) literal
still falses clause last literal opened = (Contains-append_left clause (last ∷ []) literal opened.0, opened.1)

-- where what is open in the longer clause was so before, one open literal stays the only one
one_kept : (falses : Literal → Type 0) (clause : List Literal) (last only : Literal)
    → ((literal : Literal) → IsOpen falses (Contains (clause ++ last ∷ [])) literal → IsOpen falses (Contains clause) literal)
    → IsOpenOf falses (Contains clause) (rest.One only) → IsOpenOf falses (Contains (clause ++ last ∷ [])) (rest.One only)
one_kept falses clause last only before is = (
  still falses clause last only is.0,
  λ literal other opened opens. is.1 literal other (before literal opened) (before other opens),
)

-- more than one stay more than one
pub with_more : (falses : Literal → Type 0) (clause : List Literal) (last : Literal)
    → ¬ HasOneOpen falses (Contains clause) → ¬ HasOneOpen falses (Contains (clause ++ last ∷ []))
with_more falses clause last many only = many (λ literal other opened opens.
    only literal other (still falses clause last literal opened) (still falses clause last other opens))

-- one more that is false
pub with_false : (falses : Literal → Type 0) (clause : List Literal) (last : Literal) (opens : Open) → falses last
    → IsOpenOf falses (Contains clause) opens → IsOpenOf falses (Contains (clause ++ last ∷ [])) opens
with_false falses clause last rest.Nothing lasts all = λ literal within. elim (Contains-push_cases clause last literal within) [
  | inl before ↦ all literal before
  | inr is ↦ subst falses is lasts
]
with_false falses clause last (rest.One only) lasts is = one_kept falses clause last only
    (λ literal opened. elim (Contains-push_cases clause last literal opened.0) [
      | inl before ↦ (before, opened.1)
      | inr same ↦ absurd (opened.1 (subst falses same lasts))
    ]) is
with_false falses clause last rest.More lasts many = with_more falses clause last many

-- the first that isn't false
pub with_first : (falses : Literal → Type 0) (clause : List Literal) (last : Literal) → ¬ falses last
    → IsAllFalse falses (Contains clause) → IsOpenOf falses (Contains (clause ++ last ∷ [])) (rest.One last)
with_first falses clause last isnt all =
    ((Contains-push clause last, isnt), λ literal other opened opens. sym (is_last literal opened) ∙ is_last other opens)
  where
    is_last : (literal : Literal) → IsOpen falses (Contains (clause ++ last ∷ [])) literal → last ≡ literal
    is_last literal opened = elim (Contains-push_cases clause last literal opened.0) [
      | inl before ↦ absurd (opened.1 (all literal before))
      | inr is ↦ is
    ]

-- the one that isn't false, again
pub with_same : (falses : Literal → Type 0) (clause : List Literal) (last only : Literal) → only ≡ last
    → IsOpenOf falses (Contains clause) (rest.One only) → IsOpenOf falses (Contains (clause ++ last ∷ [])) (rest.One only)
with_same falses clause last only same is = one_kept falses clause last only
    (λ literal opened. elim (Contains-push_cases clause last literal opened.0) [
      | inl before ↦ (before, opened.1)
      | inr here ↦ subst (IsOpen falses (Contains clause)) (same ∙ here) is.0
    ]) is

-- a second one that isn't false
pub with_second : (falses : Literal → Type 0) (clause : List Literal) (last only : Literal) → ¬ falses last → ¬ (only ≡ last)
    → IsOpenOf falses (Contains clause) (rest.One only) → ¬ HasOneOpen falses (Contains (clause ++ last ∷ []))
with_second falses clause last only isnt differ is single =
    differ (single only last (still falses clause last only is.0) (Contains-push clause last, isnt))

-- the contrary of the contrary
twice : (literal : Literal) → negation (negation literal) ≡ literal
twice (literal.Selected number) = refl
twice (literal.Unselected number) = refl

-- one is open: its negation is false too
pub narrow_one : (falses clause after : Literal → Type 0) (only : Literal) → IsOpenOf falses clause (rest.One only)
    → AreAlike after (λ literal. falses literal ⊎ (literal ≡ negation only)) → Narrows falses clause true after
narrow_one falses clause after only is alike = (
  (λ _. is.1, λ _. refl),
  λ _ literal. (
    λ now. elim ((alike literal).0 now) [
      | inl before ↦ inl before
      | inr same ↦ inr (subst (IsOpen falses clause) (sym (ap negation same ∙ twice only)) is.0)
    ],
    λ either. elim either [
      | inl before ↦ (alike literal).1 (inl before)
      | inr opened ↦ (alike literal).1 (inr (sym (twice literal) ∙ ap negation (is.1 (negation literal) only opened is.0)))
    ],
  ),
)
