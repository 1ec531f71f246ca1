-- A group of one name has no proper part.
use Rattle.std.proofs.Common.{◌≡◌, ℕ, List, [], ◌∷◌, length, sym, subst, ◌∙◌, arith}
use Rattle.std.specs.List.{Contains}
use Rattle.std.proofs.lemmas.List.Elements.{All-contains}
use Rattle.rules.specs.Configure.{IsIndivisible, IsProperPart}
use Rattle.rules.specs.Database.{Record}
use Rattle.rules.specs.ElementLaws.{Any-elim, Contains-cons, Contains-head, Contains-nil}
use mathlib.Core.Logic.{inl, inr}

-- a name of a list of one is that one
pub only_name : (name other : List ℕ) → Contains (name ∷ []) other → name ≡ other
only_name name other within = elim (Contains-cons name [] other within)
    [ inl same ↦ same | inr none ↦ absurd (Contains-nil other none) ]

-- a list of one name has no proper part
pub no_proper_part : (name : List ℕ) (part : List (List ℕ)) → ¬ IsProperPart part (name ∷ [])
no_proper_part name [] proper = absurd (let e = proper.some in omega arith)
no_proper_part name (first ∷ rest) proper = Any-elim (λ other. ¬ Contains (first ∷ rest) other) (name ∷ []) ⊥
    (λ other within lacks. lacks (subst (Contains (first ∷ rest))
    (sym (only_name name first (All-contains (Contains (name ∷ [])) (first ∷ rest) first proper.within (Contains-head first rest)))
    ∙ only_name name other within)
    (Contains-head first rest))) proper.proper

pub single_is_indivisible : (db : List Record) (names : List (List ℕ)) → length names ≡ 1 → IsIndivisible db names
unfolding IsIndivisible
single_is_indivisible db [] single part proper passes = absurd (omega arith)
single_is_indivisible db (name ∷ []) single part proper passes = no_proper_part name part proper
single_is_indivisible db (name ∷ other ∷ rest) single part proper passes = absurd (omega arith)
