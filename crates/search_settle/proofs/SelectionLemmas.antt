-- Selections as lists of numbers and as sets: the same clauses are true of both, and a settled one doesn't hold 0.
use Rattle.std.proofs.Common.{◌≡◌, ℕ, ℤ, pos, negsuc, zero, suc, ◌+◌, ◌*◌, ◌<◌, ◌≤◌, Bool, true, false, List, [], ◌∷◌, length, get_or, map, refl, sym, ap, subst, ◌∙◌, arith}
use Rattle.std.specs.Prelude.{not, ◌==◌}
use Rattle.std.specs.List.{AllZip, Contains}
use Rattle.std.proofs.lemmas.Bool.Decides.{eqb_tells}
use Rattle.std.proofs.lemmas.List.{get_or_default}
use Rattle.clauses.specs.Clause.{IsTrueLiteral, IsTrueOf, MakesAllTrue}
use Rattle.rules.specs.ElementLaws.{Any-from_list_any, list_any-from_contains}
use Rattle.rules.specs.Universe.{Universe}
use Rattle.refutation.specs.Premise.{IsInPremise}
use Rattle.refutation.specs.declared.line.Premise.{Premise}
use Rattle.refutation.specs.declared.literal.Literal.TheVariants as literal
use Rattle.encode.specs.Basis.{premise_of}
use Rattle.encode.specs.declared.basis.Basis.{Basis}
use Rattle.encode.specs.Encoding.{Encoding, IsClauseOf, IsEncoding}
use Rattle.refutation.specs.Selection.{selects}
use Rattle.refutation.proofs.SelectionLemmas.{contained_selects, selects_contained, selects_not}
use Rattle.search_settle.specs.Encoded.{IsGivenBy}
use Rattle.search_settle.specs.Given.{Given, IsIndexed, clause_at, role_of}
use Rattle.search_settle.specs.Moves.{Known}
use Rattle.search_settle.specs.Reach.{AllReached, HasNeeds}
use Rattle.search_settle.specs.Selected.{IsSelection, numbers_from}
use Rattle.search_settle.specs.Truth.{AreTrue, holds, is_true_of}
use Rattle.search_settle.proofs.EncodedLemmas.{positive, selected_in}
use Rattle.search_settle.proofs.EncodedLemmas as encoded
use mathlib.Core.Logic.{inl, inr}

-- the roles of premises that are told by their bases
pub roles_mapped : (bases : List Basis) → map (λ (basis : Basis). role_of (premise_of basis)) bases ≡ map role_of (map premise_of bases)
roles_mapped [] = refl
roles_mapped (basis ∷ bases) = ap (λ rest. role_of (premise_of basis) ∷ rest) (roles_mapped bases)

-- what is given of an encoding of the universe are its clauses
pub given_by : (u : Universe) (encoding : Encoding) (given : Given) → IsEncoding u encoding → IsIndexed given → given.roles ≡ map role_of encoding.premises
    → given.clauses ≡ encoding.clauses.clauses → given.numbers ≡ encoding.clauses.numbers → IsGivenBy u encoding.premises given
given_by u encoding given is indexed roles clauses numbers = record {
  indexed = indexed;
  roles = roles;
  numbers = numbers ∙ is.numbers;
  clauses = subst (λ (cs : List (List ℤ)). AllZip (IsClauseOf u) encoding.premises cs) (sym clauses) is.clauses;
  sound = is.sound;
  every = is.every;
}

-- a literal that is true of a list of numbers is true of the set that holds the same
literal_true : (numbers : List ℕ) (set : ℕ → Bool) → ((number : ℕ) → set number ≡ selects numbers number) → (item : ℤ) → IsTrueLiteral numbers item
    → is_true_of set item ≡ true
literal_true numbers set same (pos number) is = same number ∙ selects_contained numbers number is
literal_true numbers set same (negsuc below) is = ap not (same (below + 1) ∙ selects_not numbers (below + 1) is)

-- and the other way round
true_literal : (numbers : List ℕ) (set : ℕ → Bool) → ((number : ℕ) → set number ≡ selects numbers number) → (item : ℤ) → is_true_of set item ≡ true
    → IsTrueLiteral numbers item
true_literal numbers set same (pos number) is = contained_selects numbers number (sym (same number) ∙ is)
true_literal numbers set same (negsuc below) is = λ within.
    let held : set (below + 1) ≡ true = same (below + 1) ∙ selects_contained numbers (below + 1) within in
    let e : not true ≡ true = ap not (sym held) ∙ is in absurd (let f : false ≡ true = e in cc)

-- what is true of a list of numbers is true of the set
pub clauses_of_list : (numbers : List ℕ) (set : ℕ → Bool) (clauses : List (List ℤ)) → ((number : ℕ) → set number ≡ selects numbers number)
    → MakesAllTrue numbers clauses → AreTrue set clauses
unfolding AreTrue
clauses_of_list numbers set clauses same makes place within =
    let made = makes place [] within in
    list_any-from_contains (is_true_of set) (get_or clauses place []) made.1 (made.0, made.2, made.3) (literal_true numbers set same made.1 made.4)

-- what is true of the set is true of the list
pub clauses_of_set : (numbers : List ℕ) (set : ℕ → Bool) (clauses : List (List ℤ)) → ((number : ℕ) → set number ≡ selects numbers number)
    → AreTrue set clauses → MakesAllTrue numbers clauses
unfolding AreTrue
clauses_of_set numbers set clauses same all = λ place d within.
    let made = Any-from_list_any (is_true_of set) (get_or clauses place []) (all place within) in
    subst (IsTrueOf numbers) (get_or_default clauses place [] d within) (made.0, made.1, made.2, made.3, true_literal numbers set same made.1 made.4)

-- each number has its place in the set, which holds it
number_at : (start : ℕ) (set : List Bool) (k d : ℕ) → k < length (numbers_from start set)
    → (place : ℕ) × (get_or (numbers_from start set) k d ≡ start + place) × (place < length set) × (holds set place ≡ true)
number_at start [] k d within = absurd (omega arith)
number_at start (true ∷ set) zero d within = (0, omega arith, omega arith, refl)
number_at start (true ∷ set) (suc k) d within =
    let its_place = number_at (start + 1) set k d (omega arith) in
    (suc its_place.0, omega (arith, its_place.1), omega (arith, its_place.2), its_place.3)
number_at start (false ∷ set) k d within =
    let its_place = number_at (start + 1) set k d within in
    (suc its_place.0, omega (arith, its_place.1), omega (arith, its_place.2), its_place.3)

-- the numbers ascend
numbers_ascend : (start : ℕ) (set : List Bool) (i j d : ℕ) → i < j → j < length (numbers_from start set)
    → get_or (numbers_from start set) i d < get_or (numbers_from start set) j d
numbers_ascend start [] i j d earlier within = absurd (omega arith)
numbers_ascend start (true ∷ set) i zero d earlier within = absurd (omega arith)
numbers_ascend start (true ∷ set) zero (suc j) d earlier within =
    let its_place = number_at (start + 1) set j d (omega arith) in omega (arith, its_place.1)
numbers_ascend start (true ∷ set) (suc i) (suc j) d earlier within = numbers_ascend (start + 1) set i j d (omega arith) (omega arith)
numbers_ascend start (false ∷ set) i j d earlier within = numbers_ascend (start + 1) set i j d earlier within

-- what the set holds is among the numbers
held_is_listed : (start : ℕ) (set : List Bool) (place number : ℕ) → number ≡ start + place → holds set place ≡ true
    → Contains (numbers_from start set) number
held_is_listed start [] place number is held = absurd (let e : false ≡ true = held in cc)
held_is_listed start (true ∷ set) zero number is held = (0, omega arith, omega arith)
held_is_listed start (true ∷ set) (suc place) number is held =
    let its_place = held_is_listed (start + 1) set place number (omega arith) held in (suc its_place.0, omega (arith, its_place.1), its_place.2)
held_is_listed start (false ∷ set) zero number is held = absurd (let e : false ≡ true = held in cc)
held_is_listed start (false ∷ set) (suc place) number is held = held_is_listed (start + 1) set place number (omega arith) held

-- what is among the numbers is held by the set
listed_is_held : (set : List Bool) (number : ℕ) → Contains (numbers_from 0 set) number → holds set number ≡ true
listed_is_held set number listed =
    let its_place = number_at 0 set listed.0 number listed.1 in
    let place : its_place.0 ≡ number = omega (arith, its_place.1, listed.2) in
    subst (λ (n : ℕ). holds set n ≡ true) place its_place.3

-- the set and its numbers say the same of each number
pub same_numbers : (set : List Bool) (number : ℕ) → holds set number ≡ selects (numbers_from 0 set) number
same_numbers set number = at (holds set number) refl
  where
    at : (b : Bool) → holds set number ≡ b → holds set number ≡ selects (numbers_from 0 set) number
    at true is = is ∙ sym (selects_contained (numbers_from 0 set) number (held_is_listed 0 set number number (omega arith) is))
    at false is = is ∙ sym (selects_not (numbers_from 0 set) number
        (λ within. let e : false ≡ true = sym is ∙ listed_is_held set number within in cc))

-- a number that is held isn't one that isn't
is_positive : (set : List Bool) (number : ℕ) → holds set 0 ≡ false → holds set number ≡ true → 1 ≤ number
is_positive set zero none held = absurd (let e : false ≡ true = sym none ∙ held in cc)
is_positive set (suc below) none held = omega arith

-- the numbers of a set of the right length without 0 are as a selection has them
pub numbers_are_selection : (greatest : ℕ) (set : List Bool) → length set ≡ greatest + 1 → holds set 0 ≡ false → IsSelection greatest (numbers_from 0 set)
numbers_are_selection greatest set long none = (
  numbers_ascend 0 set,
  λ k d within. let its_place = number_at 0 set k d within in
      let first : 1 ≤ its_place.0 = is_positive set its_place.0 none its_place.3 in
      (omega (arith, its_place.1, first), omega (arith, its_place.1, its_place.2, long)),
)

-- all numbers but 0
abbrev but_zero : ℕ → Bool
but_zero number = not (number == 0)

-- a number besides 0 is among them
others_in : (number : ℕ) → (number ≡ 0 → ⊥) → but_zero number ≡ true
others_in number other = elim (eqb_tells number 0) [
  | inl same ↦ absurd (other same.1)
  | inr is ↦ ap not is.0
]

-- the number 0 isn't reached, as no clause says that it is needed
pub zero_out : (u : Universe) (premises : List Premise) (given : Given) → IsGivenBy u premises given → (known : Known) (selection : ℕ → Bool)
    → holds known.wanted 0 ≡ false → AllReached given known selection → selection 0 ≡ false
unfolding AllReached HasNeeds
zero_out u premises given by known selection unwanted reached = at (selection 0) refl
  where
    needs : (number : ℕ) → HasNeeds given selection but_zero number
    needs number = λ place other listed need within chosen. others_in other (λ same.
        let below : place < length given.clauses = by.indexed.lists.within (2 * number + 1) place listed in
        let reason = encoded.premise_of u premises given by place below in
        let has : IsInPremise u reason.0 (literal.Selected 0) = selected_in u premises given by reason.0 (clause_at given place) 0 reason.2 reason.3
        (subst (λ (n : ℕ). Contains (clause_at given place) (pos n)) same within) in
        let one : 1 ≤ 0 = positive u reason.0 (literal.Selected 0) reason.2 has in
        omega (arith, one))

    at : (b : Bool) → selection 0 ≡ b → selection 0 ≡ false
    at false is = is
    at true is = absurd (let e : false ≡ true = reached but_zero (record {
      wanted = λ number within chosen wants. others_in number (λ same.
          let e : false ≡ true = sym unwanted ∙ subst (λ (n : ℕ). holds known.wanted n ≡ true) same wants in cc);
      needed = λ number chosen within. needs number;
    }) 0 (omega arith) is in cc)
