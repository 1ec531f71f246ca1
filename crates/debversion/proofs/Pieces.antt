-- What the code that compares and hashes parts knows of their first pieces.
use Rattle.std.proofs.Common.{◌≡◌, ℕ, zero, suc, ◌<◌, ◌≤◌, not, List, [], ◌∷◌, ◌++◌, length, drop, get_or-take, ap, ◌∙◌, arith, inl, inr}
use Rattle.std.proofs.lemmas.Bool.{cases_Bool}
use Rattle.std.proofs.lemmas.List.{length-drop, length-take}
use Rattle.std.proofs.lemmas.List.Sums.{fold-append, prefix_len_passes}
use Rattle.std.specs.Char.{is_ascii_digit}
use Rattle.std.specs.List.{AllPass, flat_map, fold, prefix_len}
use Rattle.rules.specs.VersionFrontLaws.{after_piece-digit, after_piece-other, pieces_of-fronts}
use Rattle.rules.specs.VersionLaws.{after_digits, after_piece, after_word, first_piece, front_digits}
use Rattle.debversion.specs.HashInput.{part_input, piece_input}

-- a front of digits holds digits alone
pub front_digits-pass : (part : List ℕ) → AllPass is_ascii_digit (front_digits part)
front_digits-pass part k d h =
    let inside : k < prefix_len is_ascii_digit part = omega (arith, length-take (prefix_len is_ascii_digit part) part) in
    rw (get_or-take (prefix_len is_ascii_digit part) part k d inside) (prefix_len_passes is_ascii_digit part k d inside)

after_digits-le : (part : List ℕ) → length (after_digits part) ≤ length part
after_digits-le part = omega (arith, length-drop (prefix_len is_ascii_digit part) part)

after_piece-le : (part : List ℕ) → length (after_piece part) ≤ length part
after_piece-le part =
    omega (arith, length-drop (prefix_len is_ascii_digit (after_word part)) (after_word part), length-drop (prefix_len (λ b. not (is_ascii_digit b)) part) part)

-- what follows the first piece is shorter
pub after_piece-lt : (part : List ℕ) → 0 < length part → length (after_piece part) < length part
after_piece-lt [] h = absurd (omega arith)
after_piece-lt (b ∷ part) h = elim (cases_Bool (is_ascii_digit b)) [
  | inl digit ↦ rw (after_piece-digit b part digit) (omega (arith, after_digits-le part))
  | inr other ↦ rw (after_piece-other b part other) (omega (arith, after_piece-le part))
]

-- so is what follows it behind n bytes
pub behind-le : (n : ℕ) (part : List ℕ) → length (after_piece (drop n part)) ≤ length part
behind-le n part = omega (arith, after_piece-le (drop n part), length-drop n part)

pub behind-lt : (n : ℕ) (part : List ℕ) → 0 < length part → length (after_piece (drop n part)) < length part
behind-lt zero part h = after_piece-lt part h
behind-lt (suc n) part h = omega (arith, after_piece-le (drop (suc n) part), length-drop (suc n) part)

-- a part that isn't empty feeds its first piece, and then what follows
pub part_input-step : (part : List ℕ) → 0 < length part → part_input part ≡ piece_input (first_piece part) ++ part_input (after_piece part)
part_input-step [] h = absurd (omega arith)
part_input-step (b ∷ rest) h = ap (flat_map piece_input) (pieces_of-fronts b rest)

pub fed-step : {S : Type 0} (write : S → List ℕ → S) (s : S) (part : List ℕ) → 0 < length part
    → fold write s (part_input part) ≡ fold write (fold write s (piece_input (first_piece part))) (part_input (after_piece part))
fed-step write s part h =
    ap (fold write s) (part_input-step part h) ∙ fold-append write s (piece_input (first_piece part)) (part_input (after_piece part))
