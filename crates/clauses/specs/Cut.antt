-- Lists that lie one behind another, by the places at which they end.
use Rattle.std.specs.Prelude.{ℕ, ◌≤◌, List, [], ◌∷◌, drop}
use Rattle.std.specs.List.{slice_range}

-- lists that were ended, and the items of the one that wasn't
pub record Cut (A : Type 0) : Type 0 where
  pub closed : List (List A)
  pub open_items : List A

-- the lists that end at these places, the first of which begins at a place
abbrev pub lists_from : {A : Type 0} → ℕ → List ℕ → List A → List (List A)
lists_from start [] items = []
lists_from start (end ∷ ends) items = slice_range items start end ∷ lists_from end ends items

-- where the list behind the last one begins
abbrev pub last_end : ℕ → List ℕ → ℕ
last_end start [] = start
last_end start (end ∷ ends) = last_end end ends

-- the places ascend from one to another
abbrev pub IsAscending : ℕ → List ℕ → ℕ → Type 0
IsAscending start [] bound = start ≤ bound
IsAscending start (end ∷ ends) bound = (start ≤ end) × IsAscending end ends bound

-- items cut at these places
abbrev pub cut_at : {A : Type 0} → List ℕ → List A → Cut A
cut_at ends items = record { closed = lists_from 0 ends items; open_items = drop (last_end 0 ends) items }
