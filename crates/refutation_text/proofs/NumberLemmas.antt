-- A number that is read is written as the word that it is read from, and one that is written is read as itself; and so
-- of literals.
use Rattle.std.proofs.Common.{◌≡◌, ℕ, ◌<◌, ◌≤◌, ◌^◌, true, List, [], ◌∷◌, Option, Some, None, length, get_or, refl, sym, ap, ◌∙◌, arith, eqb, inl, inr}
use Rattle.std.proofs.lemmas.Bool.{and_parts, cases_Bool, eqb-true, false≢true, le-leb, leb-true, ne_eqb, not-true}
use Rattle.std.proofs.lemmas.Fmt.{decimal-digits_value, decimal_nonempty, digits_decimal, digits_value-decimal, first_decimal}
use Rattle.std.proofs.lemmas.Str.Parse.{IsDigitsTest, IsNumeralModel, numerals_by_value}
use Rattle.std.specs.Char.{is_ascii_digit}
use Rattle.std.specs.List.{list_all}
use Rattle.std.specs.Option.{option_map}
use Rattle.std.specs.Prelude.{decimal, nat_le}
use Rattle.std.specs.Str.Parse.{digits_value}
use Rattle.refutation.specs.declared.literal.Literal.{Literal}
use Rattle.refutation.specs.declared.literal.Literal.TheVariants.{Selected, Unselected}
use Rattle.refutation_text.specs.Number.{begins_well, is_literal, is_number, is_numeral, literal_in, literal_word, number_in}
use Rattle.refutation_text.specs.declared.limits.TheConstants.{NUMBER, PAIR}
use Rattle.refutation_text.proofs.DigitLemmas.{digit-least, digit-greatest}

-- the text is digits alone
abbrev pub AreDigits : List ℕ → Type 0
AreDigits digits = list_all is_ascii_digit digits ≡ true

digit_in : (b : ℕ) → 48 ≤ b → b ≤ 57 → is_ascii_digit b ≡ true
digit_in b low high = rw (le-leb 48 b low) (le-leb b 57 high)

tells : IsDigitsTest AreDigits
tells = record {
  empty = refl;
  parts = λ c cs h. let both = and_parts (is_ascii_digit c) (list_all is_ascii_digit cs) h in ((digit-least c both.0, digit-greatest c both.0), both.1);
  more = λ c cs range h. rw (digit_in c range.0 range.1) h;
}

own : IsNumeralModel AreDigits (digits_value 10)
own = numerals_by_value AreDigits tells

-- Numbers

-- what begins well has a first byte, which isn't a zero
begins_some : (word : List ℕ) → begins_well word ≡ true → 0 < length word
begins_some [] h = absurd (false≢true h)
begins_some (b ∷ later) h = omega arith

begins_other : (word : List ℕ) → begins_well word ≡ true → get_or word 0 0 ≡ 48 → length word ≡ 1
begins_other [] h zero = absurd (false≢true h)
begins_other (b ∷ later) h zero = absurd (false≢true (sym (not-true (eqb b 48) h) ∙ rw zero refl))

begins_high : (word : List ℕ) → 0 < length word → 48 < get_or word 0 0 → begins_well word ≡ true
begins_high [] some high = absurd (omega arith)
begins_high (b ∷ later) some high = rw (ne_eqb b 48 (λ e. omega arith)) refl

-- a number that is read is written as the word
pub number_is : (most : ℕ) (word : List ℕ) (number : ℕ) → most < 2 ^ 64 → number_in most word ≡ Some number → word ≡ decimal number
number_is most word number small h = elim (cases_Bool (is_numeral word)) [
  | inl numeral ↦ elim (cases_Bool (nat_le (digits_value 10 word) most)) [
    | inl within ↦
        let both = and_parts (begins_well word) (list_all is_ascii_digit word) numeral in
        let value : digits_value 10 word ≡ number = cc (rw (numeral, within) at h) in
        let bound : digits_value 10 word ≤ most = leb-true (digits_value 10 word) most within in
        sym (decimal-digits_value own word both.1 (begins_some word both.0) (begins_other word both.0) (omega arith)) ∙ ap decimal value
    | inr beyond ↦ cc (rw (numeral, beyond) at h)
  ]
  | inr other ↦ cc (rw other at h)
]

-- what is known of the digits of a number
pub record IsWord (number : ℕ) (digits : List ℕ) : Type 0 where
  pub digits_alone : AreDigits digits
  pub first : 48 < get_or digits 0 0
  pub some : 0 < length digits
  pub value : digits_value 10 digits ≡ number

pub decimal_is_word : (most number : ℕ) → most < 2 ^ 64 → is_number most number ≡ true → IsWord number (decimal number)
decimal_is_word most number small h =
    let both = and_parts (nat_le 1 number) (nat_le number most) h in
    let least : 1 ≤ number = leb-true 1 number both.0 in
    let greatest : number ≤ most = leb-true number most both.1 in
    let bound : number < 2 ^ 64 = omega arith in
    record {
      digits_alone = digits_decimal own number bound;
      first = first_decimal number least bound;
      some = decimal_nonempty number bound;
      value = digits_value-decimal own number bound;
    }

word_again : (most number : ℕ) (digits : List ℕ) → nat_le number most ≡ true → IsWord number digits → number_in most digits ≡ Some number
word_again most number digits within is =
    rw (begins_high digits is.some is.first, is.digits_alone, is.value, within) refl

-- a number that is written is read as itself
pub number_again : (most number : ℕ) → most < 2 ^ 64 → is_number most number ≡ true → number_in most (decimal number) ≡ Some number
number_again most number small h =
    word_again most number (decimal number) (and_parts (nat_le 1 number) (nat_le number most) h).1 (decimal_is_word most number small h)

-- Literals

pub pair_small : PAIR < 2 ^ 64
pair_small = omega arith

pub number_small : NUMBER < 2 ^ 64
number_small = omega arith

-- a literal that is read is written as the word
pub literal_is : (word : List ℕ) (literal : Literal) → literal_in word ≡ Some literal → word ≡ literal_word literal
literal_is [] literal h = cc
literal_is (b ∷ later) literal h = elim (cases_Bool (eqb b 45)) [
  | inl minus ↦ unselected (number_in PAIR later) refl (rw minus at h) minus
  | inr other ↦ selected (number_in PAIR (b ∷ later)) refl (rw other at h)
] where
  unselected : (number : Option ℕ) → number_in PAIR later ≡ number → option_map (λ pair. Unselected pair) number ≡ Some literal → eqb b 45 ≡ true
      → b ∷ later ≡ literal_word literal
  unselected None e g minus = cc
  unselected (Some pair) e g minus =
      let same : Unselected pair ≡ literal = cc in
      ap (λ (first : ℕ). first ∷ later) (eqb-true b 45 minus) ∙ ap (λ (digits : List ℕ). 45 ∷ digits) (number_is PAIR later pair pair_small e) ∙ ap literal_word same

  selected : (number : Option ℕ) → number_in PAIR (b ∷ later) ≡ number → option_map (λ pair. Selected pair) number ≡ Some literal
      → b ∷ later ≡ literal_word literal
  selected None e g = cc
  selected (Some pair) e g =
      let same : Selected pair ≡ literal = cc in
      number_is PAIR (b ∷ later) pair pair_small e ∙ ap literal_word same

digits_again : (pair : ℕ) (digits : List ℕ) → 48 < get_or digits 0 0 → number_in PAIR digits ≡ Some pair → literal_in digits ≡ Some (Selected pair)
digits_again pair [] first h = absurd (omega arith)
digits_again pair (b ∷ later) first h = rw (ne_eqb b 45 (λ e. omega arith)) (ap (option_map (λ number. Selected number)) h)

-- a literal that is written is read as itself
pub literal_again : (literal : Literal) → is_literal literal ≡ true → literal_in (literal_word literal) ≡ Some literal
literal_again (Selected pair) h =
    digits_again pair (decimal pair) (decimal_is_word PAIR pair pair_small h).first (number_again PAIR pair pair_small h)
literal_again (Unselected pair) h = ap (option_map (λ number. Unselected number)) (number_again PAIR pair pair_small h)
