-- Lines that are put into a set.
use Rattle.std.proofs.Common.{◌≡◌, ℕ, Some, Bool, true, false, List, [], ◌∷◌, ◌++◌, if◌then◌else◌, ap, map, refl, subst, sym}
use Rattle.std.specs.List.{All}
use Rattle.std.proofs.lemmas.List.Elements.{All-push}
use Rattle.std.proofs.lemmas.Option.{get_or_from_slice_get, slice_get_within}
use Rattle.std.specs.Prelude.{slice_get}

-- one more behind a list
pub map-push : {X Y : Type 0} (f : X → Y) (xs : List X) (x : X) → map f (xs ++ x ∷ []) ≡ map f xs ++ f x ∷ []
map-push f [] x = refl
map-push f (first ∷ xs) x = ap (λ rest. f first ∷ rest) (map-push f xs x)

-- what is so of the texts of the keys of a set, and of that of one more, is so of all of them
pub all_inserted : {V T : Type 0} (P : T → Type 0) (f : V → T) (keys more : List V) (new : V) (b : Bool)
    → more ≡ (if b then keys else keys ++ new ∷ []) → All P (map f keys) → P (f new) → All P (map f more)
all_inserted P f keys more new true is all one = subst (λ (xs : List _). All P (map f xs)) (sym is) all
all_inserted P f keys more new false is all one =
    subst (λ (xs : List _). All P (map f xs)) (sym is) (subst (All P) (sym (map-push f keys new)) (All-push P (map f keys) (f new) all one))

-- what is so of all is so of that at a place
pub all_at : {X : Type 0} (P : X → Type 0) (xs : List X) (place : ℕ) (x : X) → All P xs → Some x ≡ slice_get xs place → P x
all_at P xs place x all is =
    subst P (get_or_from_slice_get xs place x x (sym is)) (all place x (slice_get_within xs place x (sym is)))
