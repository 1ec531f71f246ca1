-- What two parts share in front changes no comparison, if it ends in no number: so code may skip it.
use Rattle.std.proofs.Common.{◌≡◌, ℕ, true, false, List, [], ◌∷◌, ◌++◌, refl, sym, ap, ◌∙◌, inl, inr}
use Rattle.std.proofs.lemmas.Bool.{cases_Bool}
use Rattle.std.specs.Char.{is_ascii_digit}
use Rattle.std.specs.Cmp.{nat_cmp_total, tied_itself}
use Rattle.std.specs.Ordering.{ordering_then}
use Rattle.rules.specs.Version.{Piece, number_cmp, part_cmp, piece_cmp, weight_of, word_cmp}
use Rattle.rules.specs.VersionOrderLaws.{piece_cmp_total}
use Rattle.rules.specs.VersionLaws.{after_digits, after_piece, first_piece, front_digits, front_word}
use Rattle.rules.specs.VersionFrontLaws.{after_piece-digit, after_piece-other, behind-ends, behind-goes_on, first_piece-digit, first_piece-other, front-ends, front-goes_on, part_cmp-step}

-- the same, where the first pieces and what follows them are known by other terms
part_cmp-step_at : (a b x y : List ℕ) (p q : Piece)
    → first_piece a ≡ p → first_piece b ≡ q → after_piece a ≡ x → after_piece b ≡ y
    → part_cmp a b ≡ ordering_then (piece_cmp p q) (part_cmp x y)
part_cmp-step_at a b x y p q ep eq ex ey = part_cmp-step a b ∙ λ i. ordering_then (piece_cmp (ep i) (eq i)) (part_cmp (ex i) (ey i))

-- one byte that is no digit, at the front of both parts, changes nothing
word_cmp-same_byte : (b : ℕ) (u w : List ℕ) → word_cmp (b ∷ u) (b ∷ w) ≡ word_cmp u w
word_cmp-same_byte b u w = ap (λ o. ordering_then o (word_cmp u w)) (tied_itself nat_cmp_total (weight_of b))

part_cmp-other : (b : ℕ) (x y : List ℕ) → is_ascii_digit b ≡ false → part_cmp (b ∷ x) (b ∷ y) ≡ part_cmp x y
part_cmp-other b x y h =
    part_cmp-step_at (b ∷ x) (b ∷ y) _ _ _ _
    (first_piece-other b x h) (first_piece-other b y h) (after_piece-other b x h) (after_piece-other b y h)
    ∙ ap (λ o. ordering_then (ordering_then o (number_cmp (first_piece x).digits (first_piece y).digits)) (part_cmp (after_piece x) (after_piece y)))
    (word_cmp-same_byte b (front_word x) (front_word y))
    ∙ sym (part_cmp-step x y)

-- a part that begins with no digit
after_digits-none : (x : List ℕ) → front_digits x ≡ [] → after_digits x ≡ x
after_digits-none [] e = refl
after_digits-none (b ∷ x) e = elim (cases_Bool (is_ascii_digit b)) [
  | inl digit ↦ cc (e, front-goes_on is_ascii_digit b x digit)
  | inr other ↦ behind-ends is_ascii_digit b x other
]

-- the first piece of a part that begins with a digit
pub first_piece-number : (b : ℕ) (x : List ℕ) → is_ascii_digit b ≡ true
    → first_piece (b ∷ x) ≡ record { word = []; digits = front_digits (b ∷ x) }
first_piece-number b x h =
    first_piece-digit b x h ∙ ap (λ (digits : List ℕ). record { word = []; digits = digits }) (sym (front-goes_on is_ascii_digit b x h))

pub after_piece-number : (b : ℕ) (x : List ℕ) → is_ascii_digit b ≡ true → after_piece (b ∷ x) ≡ after_digits (b ∷ x)
after_piece-number b x h = after_piece-digit b x h ∙ sym (behind-goes_on is_ascii_digit b x h)

part_cmp-same_digits : (c : ℕ) (x y : List ℕ) → is_ascii_digit c ≡ true → front_digits (c ∷ x) ≡ front_digits y
    → part_cmp (c ∷ x) y ≡ part_cmp (after_digits (c ∷ x)) (after_digits y)
part_cmp-same_digits c x [] h e = cc (e, front-goes_on is_ascii_digit c x h)
part_cmp-same_digits c x (d ∷ y) h e = elim (cases_Bool (is_ascii_digit d)) [
  | inl digit ↦
      let piece : Piece = record { word = []; digits = front_digits (d ∷ y) } in
      part_cmp-step_at (c ∷ x) (d ∷ y) _ _ piece piece
      (first_piece-number c x h ∙ ap (λ (digits : List ℕ). record { word = []; digits = digits }) e)
      (first_piece-number d y digit) (after_piece-number c x h) (after_piece-number d y digit)
      ∙ ap (λ o. ordering_then o (part_cmp (after_digits (c ∷ x)) (after_digits (d ∷ y)))) (tied_itself piece_cmp_total piece)
  | inr other ↦ cc (e, front-goes_on is_ascii_digit c x h, front-ends is_ascii_digit d y other)
]

-- nor do all digits at the front of both, where these are the same
part_cmp-digits : (x y : List ℕ) → front_digits x ≡ front_digits y → part_cmp x y ≡ part_cmp (after_digits x) (after_digits y)
part_cmp-digits [] [] e = refl
part_cmp-digits [] (d ∷ y) e = elim (cases_Bool (is_ascii_digit d)) [
  | inl digit ↦ cc (e, front-goes_on is_ascii_digit d y digit)
  | inr other ↦ ap (part_cmp []) (sym (behind-ends is_ascii_digit d y other))
]
part_cmp-digits (c ∷ x) y e = elim (cases_Bool (is_ascii_digit c)) [
  | inl digit ↦ part_cmp-same_digits c x y digit e
  | inr other ↦
      rw (behind-ends is_ascii_digit c x other)
      (ap (part_cmp (c ∷ x)) (sym (after_digits-none y (sym e ∙ front-ends is_ascii_digit c x other))))
]

-- nor does one digit, where the same digits follow in both
part_cmp-digit : (b : ℕ) (x y : List ℕ) → is_ascii_digit b ≡ true → front_digits x ≡ front_digits y
    → part_cmp (b ∷ x) (b ∷ y) ≡ part_cmp x y
part_cmp-digit b x y h e =
    let piece : Piece = record { word = []; digits = b ∷ front_digits y } in
    part_cmp-step_at (b ∷ x) (b ∷ y) _ _ piece piece
    (first_piece-digit b x h ∙ ap (λ (digits : List ℕ). record { word = []; digits = b ∷ digits }) e)
    (first_piece-digit b y h) (after_piece-digit b x h) (after_piece-digit b y h)
    ∙ ap (λ o. ordering_then o (part_cmp (after_digits x) (after_digits y))) (tied_itself piece_cmp_total piece)
    ∙ sym (part_cmp-digits x y e)

-- the digits in front stay the same, whatever follows a byte that is none
front_digits-before : (front : List ℕ) (b : ℕ) (x y : List ℕ) → is_ascii_digit b ≡ false
    → front_digits (front ++ b ∷ x) ≡ front_digits (front ++ b ∷ y)
front_digits-before [] b x y h = front-ends is_ascii_digit b x h ∙ sym (front-ends is_ascii_digit b y h)
front_digits-before (c ∷ front) b x y h = elim (cases_Bool (is_ascii_digit c)) [
  | inl digit ↦
      front-goes_on is_ascii_digit c (front ++ b ∷ x) digit
      ∙ ap (λ (digits : List ℕ). c ∷ digits) (front_digits-before front b x y h)
      ∙ sym (front-goes_on is_ascii_digit c (front ++ b ∷ y) digit)
  | inr other ↦ front-ends is_ascii_digit c (front ++ b ∷ x) other ∙ sym (front-ends is_ascii_digit c (front ++ b ∷ y) other)
]

-- a front that both parts share, and that ends in a byte that is no digit, changes nothing
pub part_cmp-shared : (front : List ℕ) (b : ℕ) (x y : List ℕ) → is_ascii_digit b ≡ false
    → part_cmp (front ++ b ∷ x) (front ++ b ∷ y) ≡ part_cmp x y
part_cmp-shared [] b x y h = part_cmp-other b x y h
part_cmp-shared (c ∷ front) b x y h = elim (cases_Bool (is_ascii_digit c)) [
  | inl digit ↦
      part_cmp-digit c (front ++ b ∷ x) (front ++ b ∷ y) digit (front_digits-before front b x y h) ∙ part_cmp-shared front b x y h
  | inr other ↦ part_cmp-other c (front ++ b ∷ x) (front ++ b ∷ y) other ∙ part_cmp-shared front b x y h
]
