-- A number without a sign is parsed as what its digits write.
use Rattle.std.proofs.Common.{◌≡◌, ◌∙◌, ◌<◌, ◌^◌, ◌&&◌, ◌==◌, ℕ, Bool, true, false, cond, [], ◌∷◌, Option, Some, None, Result, Ok, Err, ap, arith, drop, length, lt-ltb, ltb-true, nat_le, nat_lt, refl, subst, sym}
use Rattle.std.proofs.lemmas.Bool.{eqb-true, leb-true, ne_eqb}
use Rattle.std.proofs.lemmas.Str.{digit_value_digit}
use Rattle.std.proofs.lemmas.Str.Parse.{digit_from_value}
use Rattle.std.specs.Char.{digit_value, is_ascii_digit}
use Rattle.std.specs.List.{list_all}
use Rattle.std.specs.Result.{result_ok}
use Rattle.std.specs.Str.Parse.{AllDigits, IsNumeral, ParsesUnsigned, digits_value, without_leading_plus}
use Rattle.clap.proofs.WalkLemmas.{both}
use Rattle.command_line.specs.Joined.{Text}
use Rattle.command_line.specs.Number.{is_number, number_of}

digit_below : (b : ℕ) → is_ascii_digit b ≡ true → digit_value b < 10
digit_below b e =
    let parts = both (nat_le 48 b) (nat_le b 57) e in
    omega (arith, digit_value_digit b (leb-true 48 b parts.0, leb-true b 57 parts.1), leb-true b 57 parts.1)

all_below : (ds : Text) → list_all is_ascii_digit ds ≡ true → AllDigits 10 ds
all_below [] e = tt
all_below (d ∷ ds) e =
    let parts = both (is_ascii_digit d) (list_all is_ascii_digit ds) e in
    (digit_below d parts.0, all_below ds parts.1)

none_below : (ds : Text) → (length ds == 0) ≡ true → AllDigits 10 ds
none_below [] e = tt
none_below (d ∷ ds) e = absurd (omega (arith, eqb-true (length (d ∷ ds)) 0 e))

digits : (word : Text) → is_number word ≡ true → IsNumeral 10 word
digits [] e = cc
digits (d ∷ ds) e = go (d == 48) refl e
  where
    go : (b : Bool) → (d == 48) ≡ b → cond b (length ds == 0) (is_ascii_digit d && list_all is_ascii_digit ds) ≡ true → IsNumeral 10 (d ∷ ds)
    go true zero_first t =
        let first : d ≡ 48 = eqb-true d 48 zero_first in
        let below : digit_value d < 10 = omega (arith, digit_value_digit d (omega arith, omega arith)) in
        (omega arith, (below, none_below ds t))
    go false other t =
        let parts = both (is_ascii_digit d) (list_all is_ascii_digit ds) t in
        (omega arith, (digit_below d parts.0, all_below ds parts.1))

no_plus : (word : Text) → IsNumeral 10 word → without_leading_plus word ≡ word
no_plus [] h = refl
no_plus (d ∷ ds) h =
    let plus : (d == 43) ≡ false = ne_eqb _ _ (λ e. omega (arith, digit_from_value d h.1.0)) in
    ap (λ (b : Bool). drop (cond b 1 0) (d ∷ ds)) plus

chosen : (b c : Bool) (x : Option ℕ) → b ≡ true → c ≡ true → cond (b && c) x None ≡ x
chosen b c x e f = rw (e, f) refl

left_out : (b c : Bool) (x : Option ℕ) → c ≡ false → cond (b && c) x None ≡ None
left_out true c x f = rw f refl
left_out false c x f = refl

pub number_parsed : {E : Type 0} (word : Text) (r : Result ℕ E) → is_number word ≡ true → ParsesUnsigned 32 10 word r
    → result_ok r ≡ number_of word
number_parsed word (Ok n) e h =
    let same = no_plus word (digits word e) in
    let fits : digits_value 10 word < 2 ^ 32 = subst (λ (w : Text). digits_value 10 w < 2 ^ 32) same h.0.1 in
    ap (λ (k : ℕ). Some k) (h.1 ∙ ap (digits_value 10) same)
    ∙ sym (chosen (is_number word) (nat_lt (digits_value 10 word) (2 ^ 32)) (Some (digits_value 10 word)) e (lt-ltb (digits_value 10 word) (2 ^ 32) fits))
number_parsed word (Err x) e h = go (nat_lt (digits_value 10 word) (2 ^ 32)) refl
  where
    go : (b : Bool) → nat_lt (digits_value 10 word) (2 ^ 32) ≡ b → None ≡ number_of word
    go false f = sym (left_out (is_number word) (nat_lt (digits_value 10 word) (2 ^ 32)) (Some (digits_value 10 word)) f)
    go true t =
        let P : Text → Type 0 = λ w. IsNumeral 10 w × (digits_value 10 w < 2 ^ 32) in
        absurd (h (subst P (sym (no_plus word (digits word e))) (digits word e, ltb-true (digits_value 10 word) (2 ^ 32) t)))
