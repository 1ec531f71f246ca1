-- What the start says of a name is found by the name, as no two facts are about one.
use Rattle.std.proofs.Common.{◌≡◌, ◌≢◌, ℕ, ◌⊎◌, Bool, true, false, List, [], ◌∷◌, Some, None, sym, ap, subst, ◌∙◌}
use Rattle.std.specs.Prelude.{◌↔◌, IsTrue}
use Rattle.std.specs.List.{Any, Contains, find}
use Rattle.std.proofs.lemmas.List.Elements.{All-contains}
use Rattle.rules.specs.ElementLaws.{Any-elim, Any-intro, Contains-cons, Contains-nil}
use Rattle.rules.specs.NamedLaws.{bytes_eq-same, bytes_eq-true}
use Rattle.rules.specs.Universe.{Start, is_start_of}
use Rattle.rules.proofs.Rising.{pairs_head, pairs_tail}
use Rattle.universe_parts.specs.FindLaws.{find-none, find-some}
use Rattle.universe_parts.specs.Parts.{HaveDistinctNames}
use mathlib.Core.Logic.{inl, inr}

-- the facts are about two names
abbrev AreOfTwo : Start → Start → Type 0
AreOfTwo earlier later = earlier.name ≢ later.name

-- of two facts about one name there is one
one_start : (starts : List Start) → HaveDistinctNames starts → (fact other : Start) → Contains starts fact → Contains starts other
    → other.name ≡ fact.name → other ≡ fact
unfolding HaveDistinctNames
one_start [] distinct fact other within there same = absurd (Contains-nil fact within)
one_start (first ∷ rest) distinct fact other within there same =
    at (Contains-cons first rest fact within) (Contains-cons first rest other there)
    (λ later behind. one_start rest (pairs_tail AreOfTwo first rest distinct) fact other later behind same)
  where
    alone : (start : Start) → Contains rest start → first.name ≢ start.name
    alone start behind = All-contains (AreOfTwo first) rest start (pairs_head AreOfTwo first rest distinct) behind

    at : (first ≡ fact) ⊎ Contains rest fact → (first ≡ other) ⊎ Contains rest other
        → (Contains rest fact → Contains rest other → other ≡ fact) → other ≡ fact
    at (inl here) (inl also) later = sym also ∙ here
    at (inl here) (inr behind) later = absurd (alone other behind (ap (λ (s : Start). s.name) here ∙ sym same))
    at (inr behind) (inl also) later = absurd (alone fact behind (ap (λ (s : Start). s.name) also ∙ same))
    at (inr behind) (inr further) later = later behind further

-- what decides of the facts about a name decides of some facts about it
pub decides_start : (starts : List Start) → HaveDistinctNames starts → (name : List ℕ) (fact : Start) (P : Start → Type 0)
    (answer : Bool) → Some fact ≡ find (is_start_of name) starts → ((start : Start) → P start → start.name ≡ name)
    → (IsTrue answer ↔ P fact) → IsTrue answer ↔ Any P starts
decides_start starts distinct name fact P answer is named decides =
    let here = find-some (is_start_of name) starts fact (sym is) in
    let called : fact.name ≡ name = bytes_eq-true fact.name name here.1 in (
      λ so. Any-intro P starts fact here.0 (decides.0 so),
      λ some. decides.1 (Any-elim P starts (P fact)
          (λ other there holds. subst P (one_start starts distinct fact other here.0 there (named other holds ∙ sym called)) holds) some),
    )

-- where nothing is said of the name, there are no facts about it
pub decides_no_start : (starts : List Start) (name : List ℕ) (P : Start → Type 0) → None ≡ find (is_start_of name) starts
    → ((start : Start) → P start → start.name ≡ name) → IsTrue false ↔ Any P starts
decides_no_start starts name P is named = (
  λ so. absurd (let e : false ≡ true = so in cc),
  λ some. absurd (Any-elim P starts ⊥ (λ start within holds.
      let passes : is_start_of name start ≡ true = bytes_eq-same start.name name (named start holds) in
      let fails : is_start_of name start ≡ false = find-none (is_start_of name) starts (sym is) start within in
      let e : false ≡ true = sym fails ∙ passes in cc) some),
)
