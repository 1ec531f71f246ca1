-- The values of digits and of numerals (their first digit counts for the power of ten that their length says).
use Rattle.std.proofs.Common.{◌≡◌, ℕ, suc, ◌+◌, ◌-◌, ◌*◌, ◌^◌, ◌≤◌, ◌<◌, true, List, [], ◌∷◌, length, refl, ◌∙◌, arith}
use Rattle.std.proofs.Math.Nat.{pow-suc}
use Rattle.std.proofs.lemmas.Bool.{and_parts, le-ltb, leb-true, lt-ltb}
use Rattle.std.proofs.lemmas.Int.Digits.{digits_value-lt}
use Rattle.std.specs.Char.{digit_value, is_ascii_digit}
use Rattle.std.specs.List.{AllPass}
use Rattle.std.specs.Str.Parse.{AllDigits, digits_value, digits_value_after}

-- a digit is one of 48 to 57
pub digit-least : (b : ℕ) → is_ascii_digit b ≡ true → 48 ≤ b
digit-least b h = leb-true 48 b (and_parts _ _ h).0

pub digit-greatest : (b : ℕ) → is_ascii_digit b ≡ true → b ≤ 57
digit-greatest b h = leb-true b 57 (and_parts _ _ h).1

pub digit_value-digit : (b : ℕ) → is_ascii_digit b ≡ true → digit_value b ≡ b - 48
digit_value-digit b h =
    let low = digit-least b h in
    let high = digit-greatest b h in
    rw (le-ltb b 48 low, lt-ltb b 58 (omega arith)) refl

-- what holds of each element holds of the first, and of the others
pub all-first : (digits : List ℕ) (b : ℕ) → AllPass is_ascii_digit (b ∷ digits) → is_ascii_digit b ≡ true
all-first digits b all = all 0 0 (omega arith)

pub all-later : (digits : List ℕ) (b : ℕ) → AllPass is_ascii_digit (b ∷ digits) → AllPass is_ascii_digit digits
all-later digits b all k d h = all (suc k) d (omega arith)

-- ten times as much for one more digit
ten_times : (k : ℕ) → 10 ^ suc k ≡ 10 ^ k * 10
ten_times k = pow-suc 10 k

follow_one : (n d p v : ℕ) → (n * 10 + d) * p + v ≡ n * (p * 10) + ((0 * 10 + d) * p + v)
follow_one n d p v = omega arith

-- digits that follow others
value_after : (n : ℕ) (digits : List ℕ) → digits_value_after 10 n digits ≡ n * 10 ^ length digits + digits_value 10 digits
value_after n [] = omega arith
value_after n (b ∷ digits) =
    value_after (n * 10 + digit_value b) digits
    ∙ follow_one n (digit_value b) (10 ^ length digits) (digits_value 10 digits)
    ∙ rw (ten_times (length digits), value_after (0 * 10 + digit_value b) digits) refl

-- the value of digits, by the first
pub value-cons : (b : ℕ) (digits : List ℕ) → digits_value 10 (b ∷ digits) ≡ digit_value b * 10 ^ length digits + digits_value 10 digits
value-cons b digits = let e = value_after (0 * 10 + digit_value b) digits in omega arith

-- digits as the words of std's lemmas take them
all_digits : (digits : List ℕ) → AllPass is_ascii_digit digits → AllDigits 10 digits
all_digits [] all = tt
all_digits (b ∷ digits) all =
    let digit = all-first digits b all in
    let low = digit-least b digit in
    let high = digit-greatest b digit in
    let value = digit_value-digit b digit in
    (omega arith, all_digits digits (all-later digits b all))

pub value-lt : (digits : List ℕ) → AllPass is_ascii_digit digits → digits_value 10 digits < 10 ^ length digits
value-lt digits all = digits_value-lt 10 digits (all_digits digits all)
