-- The places of a part's pairs among its numbers, and the numbers that they have in the universe.
use Rattle.std.proofs.Common.{◌≡◌, ℕ, zero, suc, ◌<◌, List, length, Option, Some, None, ◌⊎◌, slice_index_or, refl, sym, subst, arith}
use Rattle.std.specs.Prelude.{slice_get}
use Rattle.std.specs.List.{AllPairs, AllZip, Contains}
use Rattle.std.specs.Option.{IsSomeAnd}
use Rattle.std.proofs.lemmas.Bool.{cases_order}
use Rattle.std.proofs.lemmas.Option.{MatchOption-at_some, get_or_from_slice_get, slice_get_read, slice_get_within}
use Rattle.std.proofs.lemmas.Slice.Zip.{AllZip-left, AllZip-right}
use Rattle.refutation.specs.Clause.{item_at}
use mathlib.Core.Logic.{inl, inr}

-- a value that is there
some_and : {X : Type 0} (o : Option X) (P : X → Type 0) → IsSomeAnd o P → (x : X) × (o ≡ Some x) × P x
some_and None P is = absurd is
some_and (Some x) P is = (x, refl, is)

-- the items of two lists that stand so to each other place by place
pub left_item : {X Y : Type 0} (R : X → Y → Type 0) (xs : List X) (ys : List Y) → AllZip R xs ys → (number : ℕ) (x : X)
    → item_at xs number ≡ Some x → (y : Y) × (item_at ys number ≡ Some y) × R x y
left_item R xs ys all zero x there = absurd (let e : None ≡ Some x = there in cc)
left_item {X} {Y} R xs ys all (suc place) x there = some_and (slice_get ys place) (R x)
    (MatchOption-at_some (Unit {0}) (λ (z : X). IsSomeAnd (slice_get ys place) (R z)) x there (AllZip-left R xs ys all place))

pub right_item : {X Y : Type 0} (R : X → Y → Type 0) (xs : List X) (ys : List Y) → AllZip R xs ys → (number : ℕ) (y : Y)
    → item_at ys number ≡ Some y → (x : X) × (item_at xs number ≡ Some x) × R x y
right_item R xs ys all zero y there = absurd (let e : None ≡ Some y = there in cc)
right_item {X} {Y} R xs ys all (suc place) y there = some_and (slice_get xs place) (λ (x : X). R x y)
    (MatchOption-at_some (Unit {0}) (λ (z : Y). IsSomeAnd (slice_get xs place) (λ (x : X). R x z)) y there (AllZip-right R xs ys all place))

-- an element has a number, and what has a number is an element
pub numbered : {X : Type 0} (items : List X) (item : X) → Contains items item → (number : ℕ) × (item_at items number ≡ Some item)
numbered items item within = (suc within.0, slice_get_read items (length items) within.0 item refl within.1 (sym within.2))

pub item_within : {X : Type 0} (items : List X) (number : ℕ) (item : X) → item_at items number ≡ Some item → Contains items item
item_within items zero item there = absurd (let e : None ≡ Some item = there in cc)
item_within items (suc place) item there =
    (place, slice_get_within items place item there, get_or_from_slice_get items place item item there)

-- of two items of a list that rises the later is in relation to the earlier
pub rising : {X : Type 0} (R : X → X → Type 0) (items : List X) → AllPairs R items → (number other : ℕ) (item other_item : X) → number < other
    → item_at items number ≡ Some item → item_at items other ≡ Some other_item → R item other_item
rising R items ascending zero other item other_item below there also = absurd (let e : None ≡ Some item = there in cc)
rising R items ascending (suc place) zero item other_item below there also = absurd (let e : None ≡ Some other_item = also in cc)
rising {X} R items ascending (suc place) (suc further) item other_item below there also =
    subst (λ (x : X). R x other_item) (get_or_from_slice_get items place item item there)
    (subst (λ (x : X). R (slice_index_or items place item) x) (get_or_from_slice_get items further other_item item also)
    (ascending place further item (omega (arith, below)) (slice_get_within items further other_item also)))

-- a number stands at one place of numbers that ascend
pub one_place : (numbers : List ℕ) → AllPairs (λ earlier later. earlier < later) numbers → (place other number : ℕ)
    → item_at numbers place ≡ Some number → item_at numbers other ≡ Some number → place ≡ other
one_place numbers ascending place other number there also = at (cases_order place other)
  where
    below : (a b : ℕ) → item_at numbers a ≡ Some number → item_at numbers b ≡ Some number → a < b → ⊥
    below a b one two less = omega (arith, rising (λ earlier later. earlier < later) numbers ascending a b number number less one two)

    at : (place ≡ other) ⊎ ((place < other) ⊎ (other < place)) → place ≡ other
    at (inl same) = same
    at (inr (inl less)) = absurd (below place other there also less)
    at (inr (inr more)) = absurd (below other place also there more)
