-- The first bytes of texts decide their order where they differ, and are put together byte by byte.
use Rattle.std.proofs.Common.{◌≡◌, ℕ, zero, suc, ◌<◌, List, [], ◌∷◌, length, get_or, set, take, refl, sym, ap, ◌∙◌, arith}
use Rattle.std.specs.Ordering.{nat_cmp, ordering_then}
use Rattle.std.specs.declared.cmp.Ordering.{Ordering}
use Rattle.std.specs.declared.cmp.Ordering.TheVariants.{Less, Equal, Greater}
use Rattle.std.proofs.lemmas.Cmp.{ranked}
use Rattle.rules.specs.Name.{name_cmp}
use Rattle.candidates.specs.Prefix.{padded}

below_zero : (n : ℕ) → nat_cmp n 0 ≡ Less → ⊥
below_zero n is = at (ranked n 0 Less (sym is))
  where
    at : n < 0 → ⊥
    at below = omega arith

zero_above : (n : ℕ) → nat_cmp 0 n ≡ Greater → ⊥
zero_above n is = at (ranked 0 n Greater (sym is))
  where
    at : n < 0 → ⊥
    at below = omega arith

-- no bytes come before some
none_before : (zs : List ℕ) (o : Ordering) → (o ≡ Equal → ⊥) → name_cmp [] zs ≡ o → Less ≡ o
none_before [] o differs same = absurd (differs (sym same))
none_before (z ∷ zs) o differs same = same

some_after : (zs : List ℕ) (o : Ordering) → (o ≡ Equal → ⊥) → name_cmp zs [] ≡ o → Greater ≡ o
some_after [] o differs same = absurd (differs (sym same))
some_after (z ∷ zs) o differs same = same

-- where the first bytes differ, they are in the order of the texts
pub decided : (count : ℕ) (xs ys : List ℕ) (o : Ordering) → (o ≡ Equal → ⊥) → name_cmp (padded count xs) (padded count ys) ≡ o
    → name_cmp xs ys ≡ o
decided zero xs ys o differs is = absurd (differs (sym is))
decided (suc count) [] [] o differs is = decided count [] [] o differs is
decided (suc count) [] (y ∷ ys) o differs is = at (nat_cmp 0 y) refl is (λ whole. decided count [] ys o differs whole)
  where
    at : (w : Ordering) → nat_cmp 0 y ≡ w → ordering_then w (name_cmp (padded count []) (padded count ys)) ≡ o
        → (name_cmp (padded count []) (padded count ys) ≡ o → name_cmp [] ys ≡ o) → Less ≡ o
    at Less first whole rest = whole
    at Equal first whole rest = none_before ys o differs (rest whole)
    at Greater first whole rest = absurd (zero_above y first)
decided (suc count) (x ∷ xs) [] o differs is = at (nat_cmp x 0) refl is (λ whole. decided count xs [] o differs whole)
  where
    at : (w : Ordering) → nat_cmp x 0 ≡ w → ordering_then w (name_cmp (padded count xs) (padded count [])) ≡ o
        → (name_cmp (padded count xs) (padded count []) ≡ o → name_cmp xs [] ≡ o) → Greater ≡ o
    at Less first whole rest = absurd (below_zero x first)
    at Equal first whole rest = some_after xs o differs (rest whole)
    at Greater first whole rest = whole
decided (suc count) (x ∷ xs) (y ∷ ys) o differs is = at (nat_cmp x y) refl is (λ whole. decided count xs ys o differs whole)
  where
    at : (w : Ordering) → nat_cmp x y ≡ w → ordering_then w (name_cmp (padded count xs) (padded count ys)) ≡ o
        → (name_cmp (padded count xs) (padded count ys) ≡ o → name_cmp xs ys ≡ o)
        → ordering_then (nat_cmp x y) (name_cmp xs ys) ≡ o
    at Less first whole rest = ap (λ (v : Ordering). ordering_then v (name_cmp xs ys)) first ∙ whole
    at Equal first whole rest = ap (λ (v : Ordering). ordering_then v (name_cmp xs ys)) first ∙ rest whole
    at Greater first whole rest = ap (λ (v : Ordering). ordering_then v (name_cmp xs ys)) first ∙ whole

-- one byte more
pub put_next : (count place : ℕ) (xs : List ℕ) → place < length xs → place < count
    → set (padded count (take place xs)) place (get_or xs place 0) ≡ padded count (take (suc place) xs)
put_next zero place xs within below = absurd (omega arith)
put_next (suc count) place [] within below = absurd (omega arith)
put_next (suc count) zero (x ∷ xs) within below = refl
put_next (suc count) (suc place) (x ∷ xs) within below = ap (λ rest. x ∷ rest) (put_next count place xs (omega arith) (omega arith))

-- all of them
pub put_all : (count place : ℕ) (xs : List ℕ) → (place < length xs → place < count → ⊥) → padded count (take place xs) ≡ padded count xs
put_all zero place xs all = refl
put_all (suc count) zero [] all = refl
put_all (suc count) (suc place) [] all = refl
put_all (suc count) zero (x ∷ xs) all = absurd (all (omega arith) (omega arith))
put_all (suc count) (suc place) (x ∷ xs) all = ap (λ rest. x ∷ rest) (put_all count place xs (λ within below. all (omega (arith, within)) (omega (arith, below))))
