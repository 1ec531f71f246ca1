-- Versions and their order (Policy 5.6.12, deb-version(7)). A version is its text.
use Rattle.std.specs.Prelude.{◌≡◌, ℕ, ◌+◌, Bool, List, [], ◌∷◌, ◌++◌, map, if◌then◌else◌, ◌==◌}
use Rattle.std.specs.Char.{is_ascii_digit, is_ascii_alphabetic}
use Rattle.std.specs.Cmp.Lexicographic.{slice_cmp}
use Rattle.std.specs.List.{before_first, after_first, before_last, after_last, list_any}
use Rattle.std.specs.Ordering.{nat_cmp, on, then_cmp, ordering_then, is_lt, is_le, is_eq, is_ge, is_gt}
use Rattle.std.specs.Str.Parse.{digits_value}
use Rattle.std.specs.declared.cmp.Ordering.{Ordering}
use Rattle.std.specs.declared.cmp.Ordering.TheVariants.{Equal}
use Rattle.rules.specs.declared.op.Op.{Op}
use Rattle.rules.specs.declared.op.Op.TheVariants.{StrictlyEarlier, EarlierOrEqual, ExactlyEqual, LaterOrEqual, StrictlyLater}

-- a colon
abbrev pub is_colon : ℕ → Bool
is_colon b = b == 58

-- a hyphen
abbrev pub is_hyphen : ℕ → Bool
is_hyphen b = b == 45

-- the digits of the epoch: what precedes the first colon, or nothing where there is none
abbrev pub epoch_of : List ℕ → List ℕ
epoch_of version = if list_any is_colon version then before_first is_colon version else []

-- what follows the epoch and its colon
abbrev pub after_epoch : List ℕ → List ℕ
after_epoch version = if list_any is_colon version then after_first is_colon version else version

-- what precedes the last hyphen, or all where there is none
abbrev pub before_revision : List ℕ → List ℕ
before_revision rest = if list_any is_hyphen rest then before_last is_hyphen rest else rest

-- what follows the last hyphen, or nothing where there is none
abbrev pub after_upstream : List ℕ → List ℕ
after_upstream rest = if list_any is_hyphen rest then after_last is_hyphen rest else []

-- the upstream version: of what follows the epoch, what precedes the last hyphen
abbrev pub upstream_of : List ℕ → List ℕ
upstream_of version = before_revision (after_epoch version)

-- the revision: of what follows the epoch, what follows the last hyphen
abbrev pub revision_of : List ℕ → List ℕ
revision_of version = after_upstream (after_epoch version)

-- a tilde
abbrev pub is_tilde : ℕ → Bool
is_tilde b = b == 126

-- the weight of the end of a word
abbrev pub end_weight : ℕ
end_weight = 1

-- the weight of a byte: a tilde below the end of the word, letters above it, and all other bytes above the letters
abbrev pub weight_of : ℕ → ℕ
weight_of b = if is_tilde b then 0 else if is_ascii_alphabetic b then 2 + b else 258 + b

-- a word as its weights, the end included
abbrev pub weights_of : List ℕ → List ℕ
weights_of word = map weight_of word ++ end_weight ∷ []

-- a word without digits and the number that follows it, as its digits
pub record Piece : Type 0 where
  pub word : List ℕ
  pub digits : List ℕ

-- the piece of which nothing is written
abbrev pub empty_piece : Piece
empty_piece = record { word = []; digits = [] }

-- the pieces of a part, with a byte that is no digit before them: it begins the first word
abbrev pub onto_word : ℕ → List Piece → List Piece
onto_word b [] = record { word = b ∷ []; digits = [] } ∷ []
onto_word b (piece ∷ rest) = record { word = b ∷ piece.word; digits = piece.digits } ∷ rest

-- a digit before a piece: of its number where its word is empty, and else of a piece of its own
abbrev pub onto_piece : ℕ → List ℕ → List ℕ → List Piece → List Piece
onto_piece b [] digits rest = record { word = []; digits = b ∷ digits } ∷ rest
onto_piece b (first ∷ word) digits rest =
    record { word = []; digits = b ∷ [] } ∷ record { word = first ∷ word; digits = digits } ∷ rest

-- the pieces of a part, with a digit before them
abbrev pub onto_number : ℕ → List Piece → List Piece
onto_number b [] = record { word = []; digits = b ∷ [] } ∷ []
onto_number b (piece ∷ rest) = onto_piece b piece.word piece.digits rest

-- a part as its pieces: words without digits and numbers in turn
abbrev pub pieces_of : List ℕ → List Piece
pieces_of [] = []
pieces_of (b ∷ rest) = if is_ascii_digit b then onto_number b (pieces_of rest) else onto_word b (pieces_of rest)

-- the order of two words: at the first weight that differs
-- ascending: `~~`, `~~a`, `~`, the empty word, `a` (proofs/WordRows.antt)
abbrev pub word_cmp : List ℕ → List ℕ → Ordering
word_cmp = on weights_of (slice_cmp nat_cmp)

-- the order of two numbers by their digits, of which there may be none
abbrev pub number_cmp : List ℕ → List ℕ → Ordering
number_cmp = on (digits_value 10) nat_cmp

-- the order of two pieces: by the word, and then by the number
abbrev pub piece_cmp : Piece → Piece → Ordering
piece_cmp = then_cmp (on (λ piece. piece.word) word_cmp) (on (λ piece. piece.digits) number_cmp)

-- the order of two lists of pieces, of which the shorter goes on with empty pieces
abbrev pub pieces_cmp : List Piece → List Piece → Ordering
pieces_cmp [] [] = Equal
pieces_cmp [] (q ∷ qs) = ordering_then (piece_cmp empty_piece q) (pieces_cmp [] qs)
pieces_cmp (p ∷ ps) [] = ordering_then (piece_cmp p empty_piece) (pieces_cmp ps [])
pieces_cmp (p ∷ ps) (q ∷ qs) = ordering_then (piece_cmp p q) (pieces_cmp ps qs)

-- the order of two parts
abbrev pub part_cmp : List ℕ → List ℕ → Ordering
part_cmp = on pieces_of pieces_cmp

-- the order of two versions: by the epoch, then the upstream version, then the revision
-- a missing epoch counts as 0, and a missing revision as `0`, since both compare as nothing
unfoldable pub version_cmp : List ℕ → List ℕ → Ordering
version_cmp = then_cmp (on epoch_of number_cmp) (then_cmp (on upstream_of part_cmp) (on revision_of part_cmp))

-- the two texts are one version
abbrev pub SameVersion : List ℕ → List ℕ → Type 0
SameVersion v w = version_cmp v w ≡ Equal

-- a version that compares so to the restriction's version meets it (Policy 7.1)
abbrev pub is_met : Op → Ordering → Bool
is_met StrictlyEarlier ordering = is_lt ordering
is_met EarlierOrEqual ordering = is_le ordering
is_met ExactlyEqual ordering = is_eq ordering
is_met LaterOrEqual ordering = is_ge ordering
is_met StrictlyLater ordering = is_gt ordering
