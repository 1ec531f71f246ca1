-- The package that is at a number, and the places of pairs.
use Rattle.std.proofs.Common.{◌≡◌, ℕ, zero, suc, ◌+◌, ◌<◌, List, [], ◌∷◌, Some, None, length, refl, sym, subst, ◌∙◌, add-one, arith}
use Rattle.std.specs.Prelude.{◌↔◌, slice_get}
use Rattle.rules.specs.Package.{Pkg}
use Rattle.rules.specs.Universe.{Universe}
use Rattle.refutation.specs.Clause.{item_at}
use Rattle.refutation.specs.Premise.{PairHas}
use Rattle.encode.specs.Growing.{PkgIsAt}
use Rattle.encode.proofs.NumberLemmas.{has_in}

-- the package at a number has what the pair of the number has
pub has_pkg : (u : Universe) (number : ℕ) (pkg : Pkg) (P : Pkg → Type 0) → PkgIsAt u number pkg → P pkg ↔ PairHas u number P
has_pkg u number pkg P (place, is, there) =
    let Of : ℕ → Type 0 = λ n. P pkg ↔ PairHas u n P in subst Of (sym is) (has_in u place pkg P (sym there))

-- an item of a list is at a place within it, and there is one at each place within it
pub within_items : {X : Type 0} (xs : List X) (place : ℕ) (x : X) → slice_get xs place ≡ Some x → place < length xs
within_items [] place x is = absurd (let e : None ≡ Some x = is in cc)
within_items (first ∷ xs) zero x is = omega arith
within_items (first ∷ xs) (suc place) x is = let later = within_items xs place x is in omega arith

pub item_there : {X : Type 0} (xs : List X) (place : ℕ) → place < length xs → (x : X) × (slice_get xs place ≡ Some x)
item_there [] place within = absurd (let e : place < 0 = within in omega arith)
item_there (first ∷ xs) zero within = (first, refl)
item_there (first ∷ xs) (suc place) within = item_there xs place (omega (arith, within))

-- the item of a number is at the place before it
pub at_number : {X : Type 0} (xs : List X) (number : ℕ) (x : X) → item_at xs number ≡ Some x
    → (place : ℕ) × (number ≡ place + 1) × (place < length xs) × (slice_get xs place ≡ Some x)
at_number xs zero x is = absurd (let e : None ≡ Some x = is in cc)
at_number xs (suc place) x is = (place, sym (add-one place), within_items xs place x is, is)

pub at_place : {X : Type 0} (xs : List X) (number place : ℕ) (x : X) → number ≡ place + 1 → slice_get xs place ≡ Some x
    → item_at xs number ≡ Some x
at_place {X} xs number place x same is =
    let At : ℕ → Type 0 = λ n. item_at xs n ≡ Some x in subst At (sym (same ∙ add-one place)) is

-- the pair of a number is at a place within the pairs
pub within_pairs : (u : Universe) (number : ℕ) (P : Pkg → Type 0) → PairHas u number P
    → (place : ℕ) × (number ≡ place + 1) × (place < length u.pairs)
within_pairs u number P (pair, there, holds) = let at = at_number u.pairs number pair there in (at.0, at.1, at.2)
