-- The least name among those of items at fault, by bytes.
use Rattle.std.specs.Prelude.{◌≡◌, ℕ, Bool, true, false, List, if◌then◌else◌, Option, Some, None}
use Rattle.std.specs.List.{All, Any}
use Rattle.std.specs.Ordering.{is_lt}
use Rattle.std.specs.declared.cmp.Ordering.TheVariants.{Less}
use Rattle.rules.specs.Name.{name_cmp}

-- the least of the names of the items that lack the property; no name where each item has it
abbrev pub IsLeastWithout : {X : Type 0} → (X → Type 0) → (X → List ℕ) → List X → Option (List ℕ) → Type 0
IsLeastWithout P name_of items None = All P items
IsLeastWithout P name_of items (Some least) = Any (λ item. (name_of item ≡ least) × ¬ P item) items
    × All (λ item. ¬ P item → ¬ (name_cmp (name_of item) least ≡ Less)) items

-- the lesser of two names, the second where they are equal
abbrev pub lesser : List ℕ → List ℕ → List ℕ
lesser name least = if is_lt (name_cmp name least) then name else least

-- the least name with that of one more item, which doesn't count where the item is fine
abbrev pub least_with : Option (List ℕ) → Bool → List ℕ → Option (List ℕ)
least_with least true name = least
least_with None false name = Some name
least_with (Some least) false name = Some (lesser name least)
