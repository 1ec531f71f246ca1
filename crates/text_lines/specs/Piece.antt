-- What bytes that wait make of a line.
use Rattle.std.specs.Prelude.{◌≡◌, ◌<◌, ◌≤◌, ◌+◌, ℕ, Bool, true, false, List, [], ◌∷◌, ◌++◌, length, drop}
use Rattle.text_lines.specs.Lines.{HasNoNewline}
use Rattle.text_lines.specs.declared.piece.LineState.{LineState}
use Rattle.text_lines.specs.declared.piece.LineState.TheVariants.{More, TooLong, Whole}

-- a piece is the front of bytes, up to their first newline, or all of them where they have none
pub record IsPiece (bytes piece : List ℕ) (is_whole : Bool) : Type 0 where
  pub plain : HasNoNewline piece
  pub whole : is_whole ≡ true → bytes ≡ piece ++ 10 ∷ drop (length piece + 1) bytes
  pub all : bytes ≡ piece ++ drop (length piece) bytes
  pub open_end : is_whole ≡ false → bytes ≡ piece

-- what was added to a line of the bytes that waited: all up to the newline that ends it, all there are, or none since they are too many
abbrev pub Goes : ℕ → List ℕ → List ℕ → List ℕ → List ℕ → LineState → Type 0
Goes most old new waited waits Whole = (piece : List ℕ) × (waited ≡ piece ++ 10 ∷ waits) × (new ≡ old ++ piece) × HasNoNewline piece × (length new ≤ most)
Goes most old new waited waits More = (waits ≡ []) × (new ≡ old ++ waited) × HasNoNewline waited × (length new ≤ most) × (length old < length new)
Goes most old new waited waits TooLong = (piece : List ℕ) × (waited ≡ piece ++ waits) × (new ≡ old) × HasNoNewline piece × (most < length old + length piece)
