-- What holds of the order of versions (Policy 5.6.12, deb-version(7)), in the words of Version.
use Rattle.std.specs.Prelude.{◌≡◌, ◌≢◌, ℕ, ◌<◌, ◌↔◌, not, List, [], ◌∷◌, drop, slice_index_or}
use Rattle.std.specs.Char.{is_ascii_digit}
use Rattle.std.specs.Cmp.{IsTotalOrder}
use Rattle.std.specs.List.{take_while, prefix_len}
use Rattle.std.specs.declared.cmp.Ordering.{Ordering}
use Rattle.std.specs.declared.cmp.Ordering.TheVariants.{Equal}
use Rattle.rules.specs.Version.{Piece, SameVersion, empty_piece, part_cmp, piece_cmp, pieces_of, version_cmp}

-- of two versions one comes first or they are one version, and what comes first comes before all that follow
abbrev pub VersionOrderIsTotal : Type 0
VersionOrderIsTotal = IsTotalOrder version_cmp

-- each text is the same version as itself, either way round, and along a chain
pub record SameVersionIsEquivalence : Type 0 where
  pub reflexive : (v : List ℕ) → SameVersion v v
  pub symmetric : (v w : List ℕ) → SameVersion v w → SameVersion w v
  pub transitive : (u v w : List ℕ) → SameVersion u v → SameVersion v w → SameVersion u w

-- another text of the same version, on either side, changes no comparison
abbrev pub SameVersionsCompareAlike : Type 0
SameVersionsCompareAlike =
    (v v' w w' : List ℕ) → SameVersion v v' → SameVersion w w' → version_cmp v w ≡ version_cmp v' w'

-- piece i of a part, counted from 0: past the last one the empty piece, without end
abbrev pub piece_at : List ℕ → ℕ → Piece
piece_at part i = slice_index_or (pieces_of part) i empty_piece

-- the order of the pieces i of two parts: by the word's weights, and then by the number
abbrev pub order_at : List ℕ → List ℕ → ℕ → Ordering
order_at a b i = piece_cmp (piece_at a i) (piece_at b i)

-- place i is the first at which the pieces of two parts differ
pub record IsFirstDifference (a b : List ℕ) (i : ℕ) : Type 0 where
  pub agree : (k : ℕ) → k < i → order_at a b k ≡ Equal
  pub differ : order_at a b i ≢ Equal

-- two parts compare as the endless lists of their pieces: equal where all places agree, and else as at the first
-- place that differs, which there is
pub record FirstDifferenceDecides (a b : List ℕ) : Type 0 where
  pub equal : (part_cmp a b ≡ Equal) ↔ ((i : ℕ) → order_at a b i ≡ Equal)
  pub decides : (i : ℕ) → IsFirstDifference a b i → part_cmp a b ≡ order_at a b i
  pub difference : part_cmp a b ≢ Equal → (i : ℕ) × IsFirstDifference a b i

-- the longest front without digits
abbrev pub front_word : List ℕ → List ℕ
front_word part = take_while (λ b. not (is_ascii_digit b)) part

-- what follows it
abbrev pub after_word : List ℕ → List ℕ
after_word part = drop (prefix_len (λ b. not (is_ascii_digit b)) part) part

-- the longest front of digits
abbrev pub front_digits : List ℕ → List ℕ
front_digits part = take_while is_ascii_digit part

-- what follows it
abbrev pub after_digits : List ℕ → List ℕ
after_digits part = drop (prefix_len is_ascii_digit part) part

-- the first piece of a part: its longest front without digits, and the longest front of digits that follows
abbrev pub first_piece : List ℕ → Piece
first_piece part = record { word = front_word part; digits = front_digits (after_word part) }

-- what follows the first piece
abbrev pub after_piece : List ℕ → List ℕ
after_piece part = after_digits (after_word part)

-- the pieces of a part: none of the empty part, and else the first piece and then those of what follows
pub record PiecesAreFronts (part : List ℕ) : Type 0 where
  pub empty : pieces_of [] ≡ []
  pub written : part ≢ [] → pieces_of part ≡ first_piece part ∷ pieces_of (after_piece part)
