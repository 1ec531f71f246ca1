-- The pieces of a part are its longest fronts, and two parts compare by their first pieces and then by what follows.
use Rattle.std.proofs.Common.{◌≡◌, ℕ, Bool, true, false, List, [], ◌∷◌, drop, refl, sym, ap, ◌∙◌, inl, inr, one-add}
use Rattle.std.proofs.lemmas.Bool.{cases_Bool}
use Rattle.std.specs.Char.{is_ascii_digit}
use Rattle.std.specs.List.{prefix_len, take_while}
use Rattle.std.specs.Ordering.{ordering_then}
use Rattle.rules.specs.Version.{Piece, onto_number, onto_word, part_cmp, piece_cmp, pieces_of}
use Rattle.rules.specs.VersionLaws.{PiecesAreFronts, after_digits, after_piece, after_word, first_piece, front_digits, front_word}
use Rattle.rules.specs.VersionPieceLaws.{later, pieces_cmp-later, place}

-- a front that goes on, and one that has ended
pub front-goes_on : (p : ℕ → Bool) (b : ℕ) (rest : List ℕ) → p b ≡ true → take_while p (b ∷ rest) ≡ b ∷ take_while p rest
front-goes_on p b rest h = rw (h, one-add) refl

pub front-ends : (p : ℕ → Bool) (b : ℕ) (rest : List ℕ) → p b ≡ false → take_while p (b ∷ rest) ≡ []
front-ends p b rest h = rw h refl

pub behind-goes_on : (p : ℕ → Bool) (b : ℕ) (rest : List ℕ) → p b ≡ true
    → drop (prefix_len p (b ∷ rest)) (b ∷ rest) ≡ drop (prefix_len p rest) rest
behind-goes_on p b rest h = rw (h, one-add) refl

pub behind-ends : (p : ℕ → Bool) (b : ℕ) (rest : List ℕ) → p b ≡ false → drop (prefix_len p (b ∷ rest)) (b ∷ rest) ≡ b ∷ rest
behind-ends p b rest h = rw h refl

-- the first piece behind a digit, and behind another byte
pub first_piece-digit : (b : ℕ) (rest : List ℕ) → is_ascii_digit b ≡ true
    → first_piece (b ∷ rest) ≡ record { word = []; digits = b ∷ front_digits rest }
first_piece-digit b rest h = rw (h, h, one-add) refl

pub after_piece-digit : (b : ℕ) (rest : List ℕ) → is_ascii_digit b ≡ true → after_piece (b ∷ rest) ≡ after_digits rest
after_piece-digit b rest h = rw (h, h, one-add) refl

pub first_piece-other : (b : ℕ) (rest : List ℕ) → is_ascii_digit b ≡ false
    → first_piece (b ∷ rest) ≡ record { word = b ∷ front_word rest; digits = front_digits (after_word rest) }
first_piece-other b rest h = rw (h, one-add) refl

pub after_piece-other : (b : ℕ) (rest : List ℕ) → is_ascii_digit b ≡ false → after_piece (b ∷ rest) ≡ after_piece rest
after_piece-other b rest h = rw (h, one-add) refl

-- a digit before pieces that begin with a digit, and before others
onto_number-digit : (b c : ℕ) (more : List ℕ) (ps : List Piece) → is_ascii_digit c ≡ true
    → onto_number b (first_piece (c ∷ more) ∷ ps) ≡ record { word = []; digits = b ∷ front_digits (c ∷ more) } ∷ ps
onto_number-digit b c more ps h =
    ap (λ piece. onto_number b (piece ∷ ps)) (first_piece-digit c more h) ∙ rw (front-goes_on is_ascii_digit c more h) refl

onto_number-other : (b c : ℕ) (more : List ℕ) (ps : List Piece) → is_ascii_digit c ≡ false
    → onto_number b (first_piece (c ∷ more) ∷ ps) ≡ record { word = []; digits = b ∷ [] } ∷ first_piece (c ∷ more) ∷ ps
onto_number-other b c more ps h =
    ap (λ piece. onto_number b (piece ∷ ps)) (first_piece-other c more h)
    ∙ ap (λ piece. record { word = []; digits = b ∷ [] } ∷ piece ∷ ps) (sym (first_piece-other c more h))

pieces_of-digit : (b : ℕ) (rest : List ℕ) → is_ascii_digit b ≡ true → pieces_of (b ∷ rest) ≡ onto_number b (pieces_of rest)
pieces_of-digit b rest h = rw h refl

pieces_of-other : (b : ℕ) (rest : List ℕ) → is_ascii_digit b ≡ false → pieces_of (b ∷ rest) ≡ onto_word b (pieces_of rest)
pieces_of-other b rest h = rw h refl

-- the pieces of a part that isn't empty
pub pieces_of-fronts : (b : ℕ) (rest : List ℕ) → pieces_of (b ∷ rest) ≡ first_piece (b ∷ rest) ∷ pieces_of (after_piece (b ∷ rest))
pieces_of-fronts b [] = elim (cases_Bool (is_ascii_digit b)) [
  | inl digit ↦ pieces_of-digit b [] digit ∙ rw (first_piece-digit b [] digit, after_piece-digit b [] digit) refl
  | inr other ↦ pieces_of-other b [] other ∙ rw (first_piece-other b [] other, after_piece-other b [] other) refl
]
pieces_of-fronts b (c ∷ more) =
    let later = pieces_of-fronts c more in
    elim (cases_Bool (is_ascii_digit b)) [
      | inl digit ↦
          pieces_of-digit b (c ∷ more) digit ∙ ap (onto_number b) later
          ∙ elim (cases_Bool (is_ascii_digit c)) [
            | inl second ↦
                onto_number-digit b c more _ second
                ∙ rw (first_piece-digit b (c ∷ more) digit, after_piece-digit b (c ∷ more) digit, behind-goes_on is_ascii_digit c more second, after_piece-digit c more second) refl
            | inr second ↦
                onto_number-other b c more _ second ∙ ap (λ ps. record { word = []; digits = b ∷ [] } ∷ ps) (sym later)
                ∙ rw (first_piece-digit b (c ∷ more) digit, after_piece-digit b (c ∷ more) digit, front-ends is_ascii_digit c more second, behind-ends is_ascii_digit c more second) refl
          ]
      | inr other ↦
          pieces_of-other b (c ∷ more) other ∙ ap (onto_word b) later
          ∙ rw (first_piece-other b (c ∷ more) other, after_piece-other b (c ∷ more) other) refl
    ]

pub pieces_are_fronts : (part : List ℕ) → PiecesAreFronts part
pieces_are_fronts [] = record { empty = refl; written = λ h. absurd (h refl) }
pieces_are_fronts (b ∷ rest) = record { empty = refl; written = λ h. pieces_of-fronts b rest }

place-first : (part : List ℕ) → place (pieces_of part) 0 ≡ first_piece part
place-first [] = refl
place-first (b ∷ rest) = ap (λ ps. place ps 0) (pieces_of-fronts b rest)

later-first : (part : List ℕ) → later (pieces_of part) ≡ pieces_of (after_piece part)
later-first [] = refl
later-first (b ∷ rest) = ap later (pieces_of-fronts b rest)

-- two parts compare by their first pieces, and then by what follows these
pub part_cmp-step : (a b : List ℕ) → part_cmp a b ≡ ordering_then (piece_cmp (first_piece a) (first_piece b)) (part_cmp (after_piece a) (after_piece b))
part_cmp-step a b =
    pieces_cmp-later (pieces_of a) (pieces_of b)
    ∙ rw (place-first a, place-first b, later-first a, later-first b) refl
