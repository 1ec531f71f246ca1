-- How a text is parted into lines, and cut behind its first line.
use Rattle.std.specs.Prelude.{◌≡◌, ℕ, ◌+◌, ◌==◌, List, [], ◌∷◌, length, Option, Some, None}
use Rattle.std.specs.Borrow.{Bor}
use Rattle.std.specs.List.{slice_split}

-- the lines of a text: what newlines part. Behind a last newline stands an empty line, which asks for nothing
abbrev pub lines_of : List ℕ → List (List ℕ)
lines_of text = slice_split (λ b. b == 10) text

-- the lines of what is left, if anything is
abbrev pub lines_left : Option (Bor (List ℕ)) → List (List ℕ)
lines_left None = []
lines_left (Some rest) = lines_of rest.now

-- how many bytes are left, and one more for what is left itself
abbrev pub len_left : Option (Bor (List ℕ)) → ℕ
len_left None = 0
len_left (Some rest) = length rest.now + 1

-- the text is cut into its first line and what is left behind the newline
pub record CutsLine (text line : List ℕ) (left : Option (Bor (List ℕ))) : Type 0 where
  pub lines : lines_of text ≡ line ∷ lines_left left
  pub whole : length line + len_left left ≡ length text
