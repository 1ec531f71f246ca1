-- The line of a field: its name, a colon and the rest.
use Rattle.std.proofs.Common.{◌≡◌, ℕ, suc, ◌+◌, Bool, true, false, not, ◌||◌, List, [], ◌∷◌, ◌++◌, refl, sym, ap, ◌∙◌, arith, eqb, one-add, inl, inr}
use Rattle.std.proofs.lemmas.Bool.{false≢true, cases_Bool, eqb-true, and_parts, or_right}
use Rattle.std.specs.List.{list_any, list_all, before_first, after_first, position_or_len}
use Rattle.stanza.specs.declared.form.Form.TheVariants.{Plain}
use Rattle.stanza.specs.declared.names.TheConstants.{COLON}
use Rattle.stanza.specs.Line.{is_white, is_separator, is_comment}
use Rattle.stanza.specs.Field.{is_colon, is_name_byte, is_name, name_of}
use Rattle.stanza.specs.File.{IsFieldLine}
use Rattle.status_text.proofs.LineLemmas.{IsPlain}

-- ---- the bytes of a name

-- what fails for a byte is no byte of a name that passes
pub other_byte : (test : ℕ → Bool) (k b : ℕ) → test k ≡ false → test b ≡ true → eqb b k ≡ false
other_byte test k b fails passes = elim (cases_Bool (eqb b k)) [
  | inl h ↦ absurd (false≢true (sym fails ∙ sym (ap test (eqb-true b k h)) ∙ passes))
  | inr h ↦ h
]

name_byte-white : (b : ℕ) → is_name_byte b ≡ true → is_white b ≡ false
name_byte-white b named = rw (other_byte is_name_byte 32 b refl named, other_byte is_name_byte 9 b refl named) refl

-- a name has bytes of names alone
pub name-bytes : (name : List ℕ) → is_name name ≡ true → list_all is_name_byte name ≡ true
name-bytes [] named = refl
name-bytes (b ∷ bs) named = (and_parts (not (eqb b 35 || eqb b 45)) (list_all is_name_byte (b ∷ bs)) named).1

bytes-plain : (name : List ℕ) → list_all is_name_byte name ≡ true → IsPlain name
bytes-plain [] all = tt
bytes-plain (b ∷ bs) all =
    let both = and_parts (is_name_byte b) (list_all is_name_byte bs) all in
    (other_byte is_name_byte 10 b refl both.0, bytes-plain bs both.1)

pub name-plain : (name : List ℕ) → is_name name ≡ true → IsPlain name
name-plain name named = bytes-plain name (name-bytes name named)

-- ---- what stands before and after the colon

before-bytes : (name rest : List ℕ) → list_all is_name_byte name ≡ true → before_first is_colon (name ++ COLON ∷ rest) ≡ name
before-bytes [] rest all = refl
before-bytes (b ∷ bs) rest all =
    let both = and_parts (is_name_byte b) (list_all is_name_byte bs) all in
    rw (other_byte is_name_byte 58 b refl both.0, one-add) (ap (λ x. b ∷ x) (before-bytes bs rest both.1))

after-bytes : (name rest : List ℕ) → list_all is_name_byte name ≡ true → after_first is_colon (name ++ COLON ∷ rest) ≡ rest
after-bytes [] rest all = refl
after-bytes (b ∷ bs) rest all =
    let both = and_parts (is_name_byte b) (list_all is_name_byte bs) all in
    let at = position_or_len is_colon (bs ++ COLON ∷ rest) in
    let count : 1 + at + 1 ≡ suc (at + 1) = omega arith in
    rw (other_byte is_name_byte 58 b refl both.0, count) (after-bytes bs rest both.1)

pub name_of-line : (name rest : List ℕ) → is_name name ≡ true → name_of (name ++ COLON ∷ rest) ≡ name
name_of-line name rest named = before-bytes name rest (name-bytes name named)

pub rest_of-line : (name rest : List ℕ) → is_name name ≡ true → after_first is_colon (name ++ COLON ∷ rest) ≡ rest
rest_of-line name rest named = after-bytes name rest (name-bytes name named)

-- a line with a colon is cut there
pub line-joined : (line : List ℕ) → list_any is_colon line ≡ true → line ≡ name_of line ++ COLON ∷ after_first is_colon line
line-joined [] colon = absurd (false≢true colon)
line-joined (b ∷ bs) colon = elim (cases_Bool (eqb b 58)) [
  | inl h ↦ rw h (ap (λ x. x ∷ bs) (eqb-true b 58 h))
  | inr h ↦
      let at = position_or_len is_colon bs in
      let count : 1 + at + 1 ≡ suc (at + 1) = omega arith in
      rw (h, count, one-add) (ap (λ x. b ∷ x) (line-joined bs (rw h at colon)))
]

-- ---- the line of a field

pub list_any-line : (name rest : List ℕ) → list_any is_colon (name ++ COLON ∷ rest) ≡ true
list_any-line [] rest = refl
list_any-line (b ∷ bs) rest = rw (list_any-line bs rest) (or_right (eqb b 58) true refl)

pub field_line : (name rest : List ℕ) → is_name name ≡ true → IsFieldLine Plain (name ++ COLON ∷ rest)
field_line [] rest named = absurd (false≢true named)
field_line (b ∷ bs) rest named =
    let both = and_parts (is_name_byte b) (list_all is_name_byte bs) (name-bytes (b ∷ bs) named) in
    record {
      begins = rw (name_byte-white b both.0) refl;
      colon = list_any-line (b ∷ bs) rest;
      name = ap is_name (name_of-line (b ∷ bs) rest named) ∙ named;
    }

pub field_line-inside : (name rest : List ℕ) → is_name name ≡ true → is_separator (name ++ COLON ∷ rest) ≡ false
field_line-inside [] rest named = absurd (false≢true named)
field_line-inside (b ∷ bs) rest named =
    let both = and_parts (is_name_byte b) (list_all is_name_byte bs) (name-bytes (b ∷ bs) named) in
    rw (name_byte-white b both.0, other_byte is_name_byte 10 b refl both.0) refl

-- in the plain form no line is a comment
pub is_comment-plain : (line : List ℕ) → is_comment Plain line ≡ false
is_comment-plain [] = refl
is_comment-plain (b ∷ bs) = refl
