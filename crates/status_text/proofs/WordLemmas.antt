-- The first word of a text, cut from its front: the words are that word and the words of what follows it.
use Rattle.std.proofs.Common.{◌≡◌, ℕ, ◌==◌, Bool, true, false, true≢false, not, List, [], ◌∷◌, length, take, drop, refl, one-add, inl, inr, ◌∙◌, sym}
use Rattle.std.proofs.Math.Nat.{suc-ne-zero}
use Rattle.std.proofs.lemmas.Bool.{cases_Bool, eqb-true}
use Rattle.std.specs.Prelude.{filter}
use Rattle.std.specs.List.{prefix_len, slice_split}
use Rattle.status_text.specs.Words.{is_some_word}

-- the words that the bytes which pass part
abbrev pub parts_by : (ℕ → Bool) → List ℕ → List (List ℕ)
parts_by p text = filter is_some_word (slice_split p text)

abbrev pub front_len : (ℕ → Bool) → List ℕ → ℕ
front_len p text = prefix_len (λ b. not (p b)) text

-- a byte that parts words is in none
parts-skip : (p : ℕ → Bool) (b : ℕ) (bs : List ℕ) → p b ≡ true → parts_by p (b ∷ bs) ≡ parts_by p bs
parts-skip p b bs h = rw h refl

-- the first part runs to the first byte that passes
pub record FirstPart (p : ℕ → Bool) (text : List ℕ) : Type 0 where
  pub rest : List (List ℕ)
  pub parts : slice_split p text ≡ take (front_len p text) text ∷ rest
  pub later : filter is_some_word rest ≡ parts_by p (drop (front_len p text) text)

pub first_part : (p : ℕ → Bool) (text : List ℕ) → FirstPart p text
first_part p [] = record { rest = []; parts = refl; later = refl }
first_part p (b ∷ bs) = elim (cases_Bool (p b)) [
  | inl ends ↦ record { rest = slice_split p bs; parts = rw ends refl; later = rw ends (sym (parts-skip p b bs ends)) }
  | inr goes_on ↦
      let more = first_part p bs in
      record {
        rest = more.rest;
        parts = rw (goes_on, more.parts, one-add) refl;
        later = rw (goes_on, one-add) more.later;
      }
]

-- what is left behind the front that passes begins with the first word, if there is one
abbrev pub CutsWord : (ℕ → Bool) → List ℕ → List ℕ → Type 0
CutsWord p text [] = parts_by p text ≡ []
CutsWord p text (b ∷ bs) = parts_by p text ≡ take (front_len p (b ∷ bs)) (b ∷ bs) ∷ parts_by p (drop (front_len p (b ∷ bs)) (b ∷ bs))

cuts-front : (p : ℕ → Bool) (b : ℕ) (bs : List ℕ) → p b ≡ false → CutsWord p (b ∷ bs) (b ∷ bs)
cuts-front p b bs h = let more = first_part p bs in rw (h, more.parts, one-add, more.later) refl

-- another text with the same words is cut alike
cuts-alike : (p : ℕ → Bool) (text other left : List ℕ) → parts_by p text ≡ parts_by p other → CutsWord p other left → CutsWord p text left
cuts-alike p text other [] e cut = e ∙ cut
cuts-alike p text other (b ∷ bs) e cut = e ∙ cut

pub cuts_word : (p : ℕ → Bool) (text : List ℕ) → CutsWord p text (drop (prefix_len p text) text)
cuts_word p [] = refl
cuts_word p (b ∷ bs) = elim (cases_Bool (p b)) [
  | inl white ↦ rw (white, one-add) (cuts-alike p (b ∷ bs) bs (drop (prefix_len p bs) bs) (parts-skip p b bs white) (cuts_word p bs))
  | inr inside ↦ rw inside (cuts-front p b bs inside)
]

pub cuts-none : (p : ℕ → Bool) (text left : List ℕ) → CutsWord p text left → (length left == 0) ≡ true → parts_by p text ≡ []
cuts-none p text [] cut h = cut
cuts-none p text (b ∷ bs) cut h = absurd (suc-ne-zero (length bs) (eqb-true _ _ h))

pub cuts-some : (p : ℕ → Bool) (text left : List ℕ) → CutsWord p text left → (length left == 0) ≡ false
    → parts_by p text ≡ take (front_len p left) left ∷ parts_by p (drop (front_len p left) left)
cuts-some p text [] cut h = absurd (true≢false h)
cuts-some p text (b ∷ bs) cut h = cut

-- the words of a text that is cut: none where nothing is left behind the front that passes, and else the word at the
-- front of what is left and the words behind it
pub cut-none : (p : ℕ → Bool) (text left : List ℕ) (n : ℕ) → n ≡ prefix_len p text → left ≡ drop n text → (length left == 0) ≡ true
    → parts_by p text ≡ []
cut-none p text left n count back h = cuts-none p text left (rw (back, count) (cuts_word p text)) h

pub cut-some : (p : ℕ → Bool) (text left word rest : List ℕ) (n m : ℕ) → n ≡ prefix_len p text → left ≡ drop n text
    → (length left == 0) ≡ false → m ≡ front_len p left → word ≡ take m left → rest ≡ drop m left
    → parts_by p text ≡ word ∷ parts_by p rest
cut-some p text left word rest n m count back h len front later =
    rw (front, later, len) (cuts-some p text left (rw (back, count) (cuts_word p text)) h)
