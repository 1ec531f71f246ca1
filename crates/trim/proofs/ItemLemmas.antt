-- Items by their places, counted from 0, and by their numbers, counted from 1.
use Rattle.std.proofs.Common.{◌≡◌, ℕ, zero, suc, ◌+◌, ◌<◌, ◌≤◌, List, [], ◌∷◌, ◌++◌, Some, length, take, map, refl, sym, ap, subst, ◌∙◌, arith, add-one}
use Rattle.std.specs.Prelude.{slice_get, slice_index}
use Rattle.std.specs.List.{Contains}
use Rattle.std.proofs.lemmas.List.{length-map, get_or-map, get_or_append_left, get_or_push, take_more}
use Rattle.std.proofs.lemmas.List.Elements.{Contains-get_or}
use Rattle.std.proofs.lemmas.Option.{get_or_from_slice_get, none-some, same_Some, slice_get_within}
use Rattle.refutation.specs.Clause.{HasAt, item_at}

-- what is at a place stays there with one more behind
place_push : {X : Type 0} (xs : List X) (y : X) (place : ℕ) (x : X) → slice_get xs place ≡ Some x
    → slice_get (xs ++ y ∷ []) place ≡ Some x
place_push [] y place x there = absurd (none-some x there)
place_push (z ∷ xs) y zero x there = there
place_push (z ∷ xs) y (suc place) x there = place_push xs y place x there

pub item_push : {X : Type 0} (xs : List X) (y : X) (number : ℕ) (x : X) → item_at xs number ≡ Some x
    → item_at (xs ++ y ∷ []) number ≡ Some x
item_push xs y zero x there = absurd (none-some x there)
item_push xs y (suc place) x there = place_push xs y place x there

place_last : {X : Type 0} (xs : List X) (y : X) → slice_get (xs ++ y ∷ []) (length xs) ≡ Some y
place_last [] y = refl
place_last (z ∷ xs) y = place_last xs y

-- the one more has the next number
pub item_last : {X : Type 0} (xs : List X) (y : X) (number : ℕ) → number ≡ length xs + 1 → item_at (xs ++ y ∷ []) number ≡ Some y
item_last xs y number is =
    let e : suc (length xs) ≡ number = omega (arith, is) in
    subst (λ (n : ℕ). item_at (xs ++ y ∷ []) n ≡ Some y) e (place_last xs y)

-- the number of an item is one of the list
pub item_within : {X : Type 0} (xs : List X) (number : ℕ) (x : X) → item_at xs number ≡ Some x → (0 < number) × (number ≤ length xs)
item_within xs zero x there = absurd (none-some x there)
item_within xs (suc place) x there =
    let within : place < length xs = slice_get_within xs place x there in (omega (arith, within), omega (arith, within))

-- the item at a place has the next number
pub item_of_place : {X : Type 0} (xs : List X) (place : ℕ) (x : X) → slice_get xs place ≡ Some x → item_at xs (place + 1) ≡ Some x
item_of_place xs place x there = subst (λ (n : ℕ). item_at xs n ≡ Some x) (sym (add-one place)) there

-- two items of one number are the same
pub same_item : {X : Type 0} (xs : List X) (number : ℕ) (x y : X) → item_at xs number ≡ Some x → item_at xs number ≡ Some y → x ≡ y
same_item xs number x y one other = same_Some x y (sym one ∙ other)

place_of_take : {X : Type 0} (count : ℕ) (xs : List X) (place : ℕ) (x : X) → slice_get (take count xs) place ≡ Some x
    → (slice_get xs place ≡ Some x) × (place < count)
place_of_take zero xs place x there = absurd (none-some x there)
place_of_take (suc count) [] place x there = absurd (none-some x there)
place_of_take (suc count) (z ∷ xs) zero x there = (there, omega arith)
place_of_take (suc count) (z ∷ xs) (suc place) x there =
    let before = place_of_take count xs place x there in
    let below : place < count = before.1 in (before.0, omega (arith, below))

-- an item of the first ones is one of all
pub item_of_take : {X : Type 0} (count : ℕ) (xs : List X) (number : ℕ) (x : X) → item_at (take count xs) number ≡ Some x
    → (item_at xs number ≡ Some x) × (number ≤ count)
item_of_take count xs zero x there = absurd (none-some x there)
item_of_take count xs (suc place) x there =
    let before = place_of_take count xs place x there in
    let below : place < count = before.1 in (before.0, omega (arith, below))

-- a list that has an item of its last number ends with it
pub last_split : {X : Type 0} (xs : List X) (x : X) → item_at xs (length xs) ≡ Some x → (front : List X) × (xs ≡ front ++ x ∷ [])
last_split [] x there = absurd (none-some x there)
last_split {X} (y ∷ []) x there =
    ([], ap (λ (z : X). z ∷ []) (same_Some y x there))
last_split {X} (y ∷ z ∷ xs) x there =
    let before = last_split (z ∷ xs) x there in (y ∷ before.0, ap (λ (ws : List X). y ∷ ws) before.1)

-- an item with a property stays with one more behind
pub has_push : {X : Type 0} (P : X → Type 0) (xs : List X) (y : X) (number : ℕ) → HasAt xs number P → HasAt (xs ++ y ∷ []) number P
has_push P xs y number has = (has.0, item_push xs y number has.0 has.1, has.2)

-- the first ones and the next
pub take_next : {X : Type 0} (xs : List X) (place : ℕ) (x : X) → slice_get xs place ≡ Some x → take (place + 1) xs ≡ take place xs ++ x ∷ []
take_next {X} xs place x there =
    let within : place < length xs = slice_get_within xs place x there in
    take_more xs place x within ∙ ap (λ (y : X). take place xs ++ y ∷ []) (get_or_from_slice_get xs place x x there)

-- an item at a place is in the list
pub place_contained : {X : Type 0} (xs : List X) (place : ℕ) (x : X) → slice_get xs place ≡ Some x → Contains xs x
place_contained {X} xs place x there =
    subst (λ (y : X). Contains xs y) (get_or_from_slice_get xs place x x there)
    (Contains-get_or xs place x (slice_get_within xs place x there))

-- what a list has is told by the list of what is told
pub mapped : {X Y : Type 0} (f : X → Y) (xs : List X) (x : X) → Contains xs x → Contains (map f xs) (f x)
mapped f xs x within =
    let long : length (map f xs) ≡ length xs = length-map xs f in
    let below : within.0 < length xs = within.1 in
    (within.0, omega (arith, long, below), get_or-map f xs within.0 x (f x) below ∙ ap f within.2)

-- a table has its earlier numbers with one more behind
pub old_number : (numbers : List ℕ) (more number : ℕ) → number < length numbers → slice_index (numbers ++ more ∷ []) number ≡ slice_index numbers number
old_number numbers more number within = get_or_append_left numbers (more ∷ []) 0 number within

-- the one more
pub new_number : (numbers : List ℕ) (more number : ℕ) → length numbers ≡ number → slice_index (numbers ++ more ∷ []) number ≡ more
new_number numbers more number long = get_or_push numbers more 0 number long
