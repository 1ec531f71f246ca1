-- Literals that become false one after another.
use Rattle.std.proofs.Common.{◌≡◌, ℕ, ◌+◌, ◌<◌, ◌≤◌, List, [], ◌∷◌, ◌++◌, ◌⊎◌, length, take, get_or, sym, subst}
use Rattle.std.specs.Prelude.{◌↔◌}
use Rattle.std.specs.List.{Contains}
use Rattle.std.proofs.lemmas.List.{take_more, take_all}
use Rattle.std.proofs.lemmas.List.Elements.{Contains-append_left, Contains-push, Contains-push_cases}
use Rattle.refutation.specs.declared.literal.Literal.{Literal}
use Rattle.refutecheck.specs.Following.{AreAlike}
use mathlib.Core.Logic.{inl, inr}

-- one literal more
pub one_more : (before after : Literal → Type 0) (literals : List Literal) (place : ℕ) (d : Literal) → place < length literals
    → AreAlike before (Contains (take place literals))
    → AreAlike after (λ literal. before literal ⊎ (literal ≡ get_or literals place d))
    → AreAlike after (Contains (take (place + 1) literals))
one_more before after literals place d within so_far alike literal =
    let With : List Literal → Type 0 = λ items. after literal ↔ Contains items literal in
    subst With (sym (take_more literals place d within)) (to, from)
  where
    last : Literal
    last = get_or literals place d

    to : after literal → Contains (take place literals ++ last ∷ []) literal
    to now = elim ((alike literal).0 now) [
      | inl earlier ↦ Contains-append_left (take place literals) (last ∷ []) literal ((so_far literal).0 earlier)
      | inr is ↦ subst (Contains (take place literals ++ last ∷ [])) (sym is) (Contains-push (take place literals) last)
    ]

    from : Contains (take place literals ++ last ∷ []) literal → after literal
    from there = elim (Contains-push_cases (take place literals) last literal there) [
      | inl earlier ↦ (alike literal).1 (inl ((so_far literal).1 earlier))
      | inr is ↦ (alike literal).1 (inr (sym is))
    ]

-- no literal is left
pub all_in : (falses : Literal → Type 0) (literals : List Literal) (place : ℕ) → length literals ≤ place
    → AreAlike falses (Contains (take place literals)) → AreAlike falses (Contains literals)
all_in falses literals place past so_far =
    let With : List Literal → Type 0 = λ items. AreAlike falses (Contains items) in subst With (take_all place literals past) so_far
