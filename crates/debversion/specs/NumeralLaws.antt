-- Numerals without zeros in front are ordered by their length, and then by their first digit that differs.
use Rattle.std.proofs.Common.{◌≡◌, ℕ, ◌+◌, ◌*◌, ◌^◌, ◌<◌, ◌≤◌, List, [], ◌∷◌, length, get_or, refl, sym, ap, ◌∙◌, arith, inl, inr, one-add}
use Rattle.std.proofs.lemmas.Bool.{cases_Bool, cases_order, eqb-false, eqb-true}
use Rattle.std.proofs.Math.Nat.{mul-le-mul_left, pow-le-pow_right}
use Rattle.std.specs.Char.{digit_value, is_ascii_digit}
use Rattle.std.specs.Cmp.{nat_cmp_is}
use Rattle.std.specs.Cmp.Lexicographic.{slice_cmp}
use Rattle.std.specs.List.{AllPass}
use Rattle.std.specs.Ordering.{nat_cmp, ordering_then}
use Rattle.std.specs.Str.Parse.{digits_value}
use Rattle.std.specs.declared.cmp.Ordering.TheVariants.{Less, Equal, Greater}
use Rattle.rules.specs.Version.{number_cmp}
use Rattle.debversion.specs.DigitLaws.{all-first, all-later, digit-least, digit_value-digit, value-cons, value-lt}
use Rattle.debversion.specs.Zeros.{is_zero, without_zeros}

-- zeros in front change no value
pub value-without_zeros : (digits : List ℕ) → digits_value 10 (without_zeros digits) ≡ digits_value 10 digits
value-without_zeros [] = refl
value-without_zeros (b ∷ digits) = elim (cases_Bool (is_zero b)) [
  | inl zero ↦
      let byte : b ≡ 48 = eqb-true b 48 zero in
      rw (byte, one-add) (value-without_zeros digits)
  | inr other ↦ rw other refl
]

pub all-without_zeros : (digits : List ℕ) → AllPass is_ascii_digit digits → AllPass is_ascii_digit (without_zeros digits)
all-without_zeros [] all = all
all-without_zeros (b ∷ digits) all = elim (cases_Bool (is_zero b)) [
  | inl zero ↦
      let byte : b ≡ 48 = eqb-true b 48 zero in
      rw (byte, one-add) (all-without_zeros digits (all-later digits b all))
  | inr other ↦ rw other all
]

-- the first digit is none or not 0
pub record HasNoZeros (digits : List ℕ) : Type 0 where
  pub first : 0 < length digits → 48 < get_or digits 0 0

pub no_zeros-without_zeros : (digits : List ℕ) → AllPass is_ascii_digit digits → HasNoZeros (without_zeros digits)
no_zeros-without_zeros [] all = record { first = λ h. absurd (omega arith) }
no_zeros-without_zeros (b ∷ digits) all = elim (cases_Bool (is_zero b)) [
  | inl zero ↦
      let byte : b ≡ 48 = eqb-true b 48 zero in
      rw (byte, one-add) (no_zeros-without_zeros digits (all-later digits b all))
  | inr other ↦
      let low = digit-least b (all-first digits b all) in
      let differ : b ≡ 48 → ⊥ = eqb-false b 48 other in
      rw other (record { first = λ h. omega arith })
]

-- a first digit above 0 makes a numeral at least the power of ten that its length says
first_counts : (d p v : ℕ) → 1 ≤ d → p ≤ d * p + v
first_counts d p v h =
    let more : p * 1 ≤ p * d = mul-le-mul_left p h in
    omega arith

-- of two numerals with no zeros in front the shorter is the less
shorter_is_less : (a b : List ℕ) → AllPass is_ascii_digit a → AllPass is_ascii_digit b → HasNoZeros b
    → length a < length b → digits_value 10 a < digits_value 10 b
shorter_is_less a [] all_a all_b no_zeros short = absurd (omega arith)
shorter_is_less a (c ∷ digits) all_a all_b no_zeros short =
    let first : 48 < c = no_zeros.first (omega arith) in
    let digit = digit_value-digit c (all-first digits c all_b) in
    let whole = value-cons c digits in
    let below = value-lt a all_a in
    let powers : 10 ^ length a ≤ 10 ^ length digits = pow-le-pow_right (omega arith) (omega arith) in
    let counts = first_counts (digit_value c) (10 ^ length digits) (digits_value 10 digits) (omega arith) in
    omega arith

-- digits in front that differ decide, whatever follows
first_decides : (d e p v w : ℕ) → d < e → v < p → d * p + v < e * p + w
first_decides d e p v w less below =
    let more : p * (d + 1) ≤ p * e = mul-le-mul_left p (omega arith) in
    omega arith

-- as much more on both sides changes no order
nat_cmp-shifted : (n v w v' w' : ℕ) → v' ≡ n + v → w' ≡ n + w → nat_cmp v w ≡ nat_cmp v' w'
nat_cmp-shifted n v w v' w' ev ew = elim (cases_order v w) [
  | inl same ↦ sym (nat_cmp_is v w Equal same) ∙ nat_cmp_is v' w' Equal (omega arith)
  | inr differ ↦ elim differ [
    | inl less ↦ sym (nat_cmp_is v w Less less) ∙ nat_cmp_is v' w' Less (omega arith)
    | inr more ↦ sym (nat_cmp_is v w Greater more) ∙ nat_cmp_is v' w' Greater (omega arith)
  ]
]

-- two numerals as long as each other are ordered by the first digit that differs
same_length : (a b : List ℕ) → AllPass is_ascii_digit a → AllPass is_ascii_digit b → length a ≡ length b
    → slice_cmp nat_cmp a b ≡ number_cmp a b
same_length [] [] all_a all_b long = refl
same_length [] (y ∷ b) all_a all_b long = absurd (omega arith)
same_length (x ∷ a) [] all_a all_b long = absurd (omega arith)
same_length (x ∷ a) (y ∷ b) all_a all_b long =
    let as_long : length a ≡ length b = omega arith in
    let rest = same_length a b (all-later a x all_a) (all-later b y all_b) as_long in
    let low_x = digit-least x (all-first a x all_a) in
    let low_y = digit-least y (all-first b y all_b) in
    let digit_x = digit_value-digit x (all-first a x all_a) in
    let digit_y = digit_value-digit y (all-first b y all_b) in
    let below_a = value-lt a (all-later a x all_a) in
    let below_b : digits_value 10 b < 10 ^ length a = rw as_long (value-lt b (all-later b y all_b)) in
    let whole_a = value-cons x a in
    let whole_b : digits_value 10 (y ∷ b) ≡ digit_value y * 10 ^ length a + digits_value 10 b = rw as_long (value-cons y b) in
    elim (cases_order x y) [
      | inl same ↦
          let first : digit_value x ≡ digit_value y = ap digit_value same in
          ap (λ o. ordering_then o (slice_cmp nat_cmp a b)) (sym (nat_cmp_is x y Equal same))
          ∙ rest
          ∙ nat_cmp-shifted (digit_value x * 10 ^ length a) _ _ _ _ whole_a (whole_b ∙ ap (λ d. d * 10 ^ length a + digits_value 10 b) (sym first))
      | inr differ ↦ elim differ [
        | inl less ↦
            let decided = first_decides (digit_value x) (digit_value y) (10 ^ length a) (digits_value 10 a) (digits_value 10 b) (omega arith) below_a in
            ap (λ o. ordering_then o (slice_cmp nat_cmp a b)) (sym (nat_cmp_is x y Less less))
            ∙ nat_cmp_is (digits_value 10 (x ∷ a)) (digits_value 10 (y ∷ b)) Less (omega arith)
        | inr more ↦
            let decided = first_decides (digit_value y) (digit_value x) (10 ^ length a) (digits_value 10 b) (digits_value 10 a) (omega arith) below_b in
            ap (λ o. ordering_then o (slice_cmp nat_cmp a b)) (sym (nat_cmp_is x y Greater more))
            ∙ nat_cmp_is (digits_value 10 (x ∷ a)) (digits_value 10 (y ∷ b)) Greater (omega arith)
      ]
    ]

-- two numerals without zeros in front
stripped_cmp : (a b : List ℕ) → AllPass is_ascii_digit a → AllPass is_ascii_digit b → HasNoZeros a → HasNoZeros b
    → ordering_then (nat_cmp (length a) (length b)) (slice_cmp nat_cmp a b) ≡ number_cmp a b
stripped_cmp a b all_a all_b first_a first_b = elim (cases_order (length a) (length b)) [
  | inl long ↦
      ap (λ o. ordering_then o (slice_cmp nat_cmp a b)) (sym (nat_cmp_is (length a) (length b) Equal long))
      ∙ same_length a b all_a all_b long
  | inr differ ↦ elim differ [
    | inl less ↦
        ap (λ o. ordering_then o (slice_cmp nat_cmp a b)) (sym (nat_cmp_is (length a) (length b) Less less))
        ∙ nat_cmp_is (digits_value 10 a) (digits_value 10 b) Less (shorter_is_less a b all_a all_b first_b less)
    | inr more ↦
        ap (λ o. ordering_then o (slice_cmp nat_cmp a b)) (sym (nat_cmp_is (length a) (length b) Greater more))
        ∙ nat_cmp_is (digits_value 10 a) (digits_value 10 b) Greater (shorter_is_less b a all_b all_a first_a more)
  ]
]

-- any two numerals, by what is left of them without their zeros
pub number_cmp-without_zeros : (a b : List ℕ) → AllPass is_ascii_digit a → AllPass is_ascii_digit b
    → ordering_then (nat_cmp (length (without_zeros a)) (length (without_zeros b))) (slice_cmp nat_cmp (without_zeros a) (without_zeros b))
    ≡ number_cmp a b
number_cmp-without_zeros a b all_a all_b =
    stripped_cmp (without_zeros a) (without_zeros b) (all-without_zeros a all_a) (all-without_zeros b all_b)
    (no_zeros-without_zeros a all_a) (no_zeros-without_zeros b all_b)
    ∙ λ i. nat_cmp (value-without_zeros a i) (value-without_zeros b i)
