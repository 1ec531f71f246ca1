-- The numbers of the pairs that literals select, one after another.
use Rattle.std.proofs.Common.{◌≡◌, ◌∙◌, ℕ, ◌+◌, ◌<◌, ◌≤◌, Bool, true, false, List, [], ◌∷◌, ◌++◌, ◌⊎◌, eqb, length, take, get_or, if◌then◌else◌, ap, refl, sym, subst}
use Rattle.std.specs.Prelude.{◌↔◌}
use Rattle.std.specs.List.{Contains, list_any}
use Rattle.std.proofs.lemmas.Bool.{eqb-true}
use Rattle.std.proofs.lemmas.List.{take_more, take_all}
use Rattle.std.proofs.lemmas.List.Elements.{Contains-append_left, Contains-push, Contains-push_cases}
use Rattle.indexmap.specs.IndexSet.{insert_key}
use Rattle.indexmap.proofs.CallerLemmas.{Contains-list_any}
use Rattle.refutation.specs.declared.literal.Literal.{Literal}
use Rattle.refutation.specs.declared.literal.Literal.TheVariants as literal
use mathlib.Core.Logic.{inl, inr}

-- a number in a set with one more
pub key_more : (keys more : List ℕ) (new : ℕ) → more ≡ insert_key eqb keys new → (number : ℕ)
    → Contains more number ↔ (Contains keys number ⊎ (number ≡ new))
key_more keys more new is = by (list_any (eqb new) keys) refl
  where
    by : (b : Bool) → list_any (eqb new) keys ≡ b → (number : ℕ) → Contains more number ↔ (Contains keys number ⊎ (number ≡ new))
    by true there number =
        let Over : List ℕ → Type 0 = λ xs. Contains xs number ↔ (Contains keys number ⊎ (number ≡ new)) in
        subst Over (sym (is ∙ ap (λ b. if b then keys else keys ++ new ∷ []) there)) (
          λ within. inl within,
          λ either. elim either [
            | inl within ↦ within
            | inr same ↦ subst (Contains keys) (sym same) (Contains-list_any eqb eqb-true keys new there)
          ],
        )
    by false there number =
        let Over : List ℕ → Type 0 = λ xs. Contains xs number ↔ (Contains keys number ⊎ (number ≡ new)) in
        subst Over (sym (is ∙ ap (λ b. if b then keys else keys ++ new ∷ []) there)) (
          λ within. elim (Contains-push_cases keys new number within) [ inl before ↦ inl before | inr same ↦ inr (sym same) ],
          λ either. elim either [
            | inl before ↦ Contains-append_left keys (new ∷ []) number before
            | inr same ↦ subst (Contains (keys ++ new ∷ [])) (sym same) (Contains-push keys new)
          ],
        )

-- the numbers of a set, with that of a literal that selects
pub with_selected : (keys more : List ℕ) (number : ℕ) → ((other : ℕ) → Contains more other ↔ (Contains keys other ⊎ (other ≡ number)))
    → (other : ℕ) → Contains more other ↔ (Contains keys other ⊎ (literal.Selected number ≡ literal.Selected other))
with_selected keys more number adds other = (
  λ now. elim ((adds other).0 now) [ inl before ↦ inl before | inr same ↦ inr (ap literal.Selected (sym same)) ],
  λ either. elim either [
    | inl before ↦ (adds other).1 (inl before)
    | inr is ↦ (adds other).1 (inr (let e : literal.Selected number ≡ literal.Selected other = is in cc))
  ],
)

-- the same numbers, with none of a literal that doesn't select
pub without_selected : (keys : List ℕ) (number other : ℕ)
    → Contains keys other ↔ (Contains keys other ⊎ (literal.Unselected number ≡ literal.Selected other))
without_selected keys number other = (
  λ now. inl now,
  λ either. elim either [
    | inl before ↦ before
    | inr is ↦ absurd (let e : literal.Unselected number ≡ literal.Selected other = is in cc)
  ],
)

-- one literal more
pub selected_more : (keys more : List ℕ) (clause : List Literal) (place : ℕ) (d : Literal) → place < length clause
    → ((number : ℕ) → Contains keys number ↔ Contains (take place clause) (literal.Selected number))
    → ((number : ℕ) → Contains more number ↔ (Contains keys number ⊎ (get_or clause place d ≡ literal.Selected number)))
    → (number : ℕ) → Contains more number ↔ Contains (take (place + 1) clause) (literal.Selected number)
selected_more keys more clause place d within so_far adds number =
    let With : List Literal → Type 0 = λ items. Contains more number ↔ Contains items (literal.Selected number) in
    subst With (sym (take_more clause place d within)) (to, from)
  where
    last : Literal
    last = get_or clause place d

    to : Contains more number → Contains (take place clause ++ last ∷ []) (literal.Selected number)
    to now = elim ((adds number).0 now) [
      | inl earlier ↦ Contains-append_left (take place clause) (last ∷ []) (literal.Selected number) ((so_far number).0 earlier)
      | inr is ↦ subst (Contains (take place clause ++ last ∷ [])) is (Contains-push (take place clause) last)
    ]

    from : Contains (take place clause ++ last ∷ []) (literal.Selected number) → Contains more number
    from there = elim (Contains-push_cases (take place clause) last (literal.Selected number) there) [
      | inl earlier ↦ (adds number).1 (inl ((so_far number).1 earlier))
      | inr is ↦ (adds number).1 (inr is)
    ]

-- no literal is left
pub all_selected : (keys : List ℕ) (clause : List Literal) (place : ℕ) → length clause ≤ place
    → ((number : ℕ) → Contains keys number ↔ Contains (take place clause) (literal.Selected number))
    → (number : ℕ) → Contains keys number ↔ Contains clause (literal.Selected number)
all_selected keys clause place past so_far =
    let With : List Literal → Type 0 = λ items. (number : ℕ) → Contains keys number ↔ Contains items (literal.Selected number) in
    subst With (take_all place clause past) so_far
