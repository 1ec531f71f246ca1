-- The first bytes of texts, as numbers, decide the order of the texts where they differ.
use Rattle.std.proofs.Common.{◌≡◌, ℕ, zero, suc, ◌+◌, ◌*◌, ◌^◌, ◌<◌, ◌≤◌, List, [], ◌∷◌, get_or, refl, sym, ap, ◌∙◌, arith}
use Rattle.std.specs.Cmp.Lexicographic.{nat_list_cmp_total}
use Rattle.std.specs.Ordering.{nat_cmp, ordering_reverse, ordering_then}
use Rattle.std.specs.declared.cmp.Ordering.{Ordering}
use Rattle.std.specs.declared.cmp.Ordering.TheVariants.{Less, Equal, Greater}
use Rattle.std.proofs.Math.Nat.{mul-le-mul_right, one-le-pow, pow-le-pow_right, pow-suc}
use Rattle.std.proofs.lemmas.Cmp.{ranked}
use Rattle.rules.specs.Name.{name_cmp}
use Rattle.providers.specs.Prefix.{leading}

-- each is a byte
abbrev pub AreBytes : List ℕ → Type 0
AreBytes text = (k : ℕ) → get_or text k 0 < 256

-- The parts of the definition

pub leading-none : (count : ℕ) → leading count [] ≡ 0
unfolding leading
leading-none zero = refl
leading-none (suc count) = refl

leading-cons : (count byte : ℕ) (text : List ℕ) → leading (suc count) (byte ∷ text) ≡ byte * 256 ^ count + leading count text
unfolding leading
leading-cons count byte text = refl

pub leading-zero : (text : List ℕ) → leading 0 text ≡ 0
unfolding leading
leading-zero text = refl

rest_bytes : (byte : ℕ) (text : List ℕ) → AreBytes (byte ∷ text) → AreBytes text
rest_bytes byte text bytes k = bytes (suc k)

-- Bounds

below_digits : (byte power rest : ℕ) → byte < 256 → rest < power → byte * power + rest < power * 256
below_digits byte power rest small below = omega (arith, mul-le-mul_right power (let h : byte + 1 ≤ 256 = omega arith in h))

pub leading_below : (count : ℕ) (text : List ℕ) → AreBytes text → leading count text < 256 ^ count
leading_below zero text bytes = rw (leading-zero text) (omega arith)
leading_below (suc count) [] bytes = rw (leading-none (suc count)) (one-le-pow (suc count) 256 (omega arith))
leading_below (suc count) (byte ∷ text) bytes = rw (leading-cons count byte text, pow-suc 256 count)
    (below_digits byte (256 ^ count) (leading count text) (bytes 0) (leading_below count text (rest_bytes byte text bytes)))

-- less than eight bytes leave room for one more
pub prefix_small : (place prefix : ℕ) (name : List ℕ) → AreBytes name → place < 8 → prefix ≡ leading place name → prefix < 72057594037927936
prefix_small place prefix name bytes short is =
    let power : 256 ^ place ≤ 72057594037927936 = pow-le-pow_right (let h : 0 < 256 = omega arith in h) (let h : place ≤ 7 = omega arith in h) in
    omega (arith, is, leading_below place name bytes, power)

-- One byte more

regroup : (byte power rest next : ℕ) → (byte * power + rest) * 256 + next ≡ byte * (power * 256) + (rest * 256 + next)
regroup byte power rest next = grind arith

pub leading_next : (count : ℕ) (text : List ℕ) → leading (suc count) text ≡ leading count text * 256 + get_or text count 0
leading_next count [] = rw (leading-none (suc count), leading-none count) refl
leading_next zero (byte ∷ text) = rw (leading-cons 0 byte text, leading-zero text, leading-zero (byte ∷ text)) (omega arith)
leading_next (suc count) (byte ∷ text) = rw (leading-cons (suc count) byte text, leading-cons count byte text, pow-suc 256 count, leading_next count text)
    (sym (regroup byte (256 ^ count) (leading count text) (get_or text count 0)))

-- Order

pub leading_less : (count : ℕ) (xs ys : List ℕ) → AreBytes xs → AreBytes ys → leading count xs < leading count ys → name_cmp xs ys ≡ Less
leading_less zero xs ys bytes others below = absurd (omega (arith, rw (leading-zero xs, leading-zero ys) at below))
leading_less (suc count) xs [] bytes others below = absurd (omega (arith, rw (leading-none (suc count)) at below))
leading_less (suc count) [] (y ∷ ys) bytes others below = refl
leading_less (suc count) (x ∷ xs) (y ∷ ys) bytes others below =
    at (nat_cmp x y) refl (rw (leading-cons count x xs, leading-cons count y ys) at below)
    (leading_below count ys (rest_bytes y ys others))
    (leading_less count xs ys (rest_bytes x xs bytes) (rest_bytes y ys others))
  where
    power : ℕ
    power = 256 ^ count

    at : (o : Ordering) → nat_cmp x y ≡ o → x * 256 ^ count + leading count xs < y * 256 ^ count + leading count ys
        → leading count ys < 256 ^ count → (leading count xs < leading count ys → name_cmp xs ys ≡ Less)
        → ordering_then (nat_cmp x y) (name_cmp xs ys) ≡ Less
    at Less is less bound rest = ap (λ (o : Ordering). ordering_then o (name_cmp xs ys)) is
    at Equal is less bound rest =
        let same : x ≡ y = ranked x y Equal (sym is) in
        ap (λ (o : Ordering). ordering_then o (name_cmp xs ys)) is
        ∙ rest (omega (arith, ap (λ (n : ℕ). n * 256 ^ count) same, less))
    at Greater is less bound rest =
        let above : y < x = ranked x y Greater (sym is) in
        absurd (omega (arith, mul-le-mul_right (256 ^ count) (let h : y + 1 ≤ x = omega arith in h), less, bound))

-- where the first bytes differ, they are in the order of the texts
pub decided : (count : ℕ) (xs ys : List ℕ) → AreBytes xs → AreBytes ys → (o : Ordering) → (o ≡ Equal → ⊥)
    → o ≡ nat_cmp (leading count xs) (leading count ys) → o ≡ name_cmp xs ys
decided count xs ys bytes others Less differs is = sym (leading_less count xs ys bytes others (ranked (leading count xs) (leading count ys) Less is))
decided count xs ys bytes others Equal differs is = absurd (differs refl)
decided count xs ys bytes others Greater differs is =
    sym (nat_list_cmp_total.antisymm xs ys
    ∙ ap ordering_reverse (leading_less count ys xs others bytes (ranked (leading count xs) (leading count ys) Greater is)))
