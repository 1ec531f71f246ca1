-- A list of numbers of the part's pairs, as the list of the numbers that these have in the universe.
use Rattle.std.proofs.Common.{◌≡◌, ℕ, ◌==◌, Bool, true, List, Some, refl, sym, subst, ◌∙◌}
use Rattle.std.specs.Prelude.{IsTrue}
use Rattle.std.specs.List.{Contains, list_any}
use Rattle.std.proofs.lemmas.Bool.{eq-eqb, eqb-true}
use Rattle.std.proofs.lemmas.Option.{same_Some}
use Rattle.rules.specs.ElementLaws.{Any-elim, Any-from_list_any, list_any-from_contains}
use Rattle.refutation.specs.Clause.{item_at}
use Rattle.closed_part.specs.Laws.{ListIsLifted}
use Rattle.closed_part.proofs.PlaceLemmas.{item_within, left_item, numbered, right_item}

-- a list of numbers as a selection
abbrev has : List ℕ → ℕ → Bool
has numbers number = list_any (λ one. one == number) numbers

from_has : (numbers : List ℕ) (number : ℕ) → IsTrue (has numbers number) → Contains numbers number
from_has numbers number is = Any-elim (λ one. (one == number) ≡ true) numbers (Contains numbers number)
    (λ one within same. subst (Contains numbers) (eqb-true one number same) within) (Any-from_list_any (λ one. one == number) numbers is)

to_has : (numbers : List ℕ) (number : ℕ) → Contains numbers number → IsTrue (has numbers number)
to_has numbers number within = list_any-from_contains (λ one. one == number) numbers number within (eq-eqb number number refl)

-- the number stands at the place
abbrev StandsAt : List ℕ → ℕ → ℕ → Type 0
StandsAt numbers place number = item_at numbers place ≡ Some number

pub list_is_lifted : ListIsLifted
list_is_lifted numbers chosen lifted zip number = (to, from)
  where
    to : IsTrue (has lifted number) → (place : ℕ) × (item_at numbers place ≡ Some number) × IsTrue (has chosen place)
    to is =
        let at = numbered lifted number (from_has lifted number is) in
        let counterpart = right_item (StandsAt numbers) chosen lifted zip at.0 number at.1 in
        (counterpart.0, counterpart.2, to_has chosen counterpart.0 (item_within chosen at.0 counterpart.0 counterpart.1))

    from : (place : ℕ) × (item_at numbers place ≡ Some number) × IsTrue (has chosen place) → IsTrue (has lifted number)
    from one =
        let at = numbered chosen one.0 (from_has chosen one.0 one.2) in
        let counterpart = left_item (StandsAt numbers) chosen lifted zip at.0 one.0 at.1 in
        to_has lifted number (subst (Contains lifted) (same_Some counterpart.0 number (sym counterpart.2 ∙ one.1))
        (item_within lifted at.0 counterpart.0 counterpart.1))
