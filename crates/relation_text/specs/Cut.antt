-- How a text is cut at its first separator.
use Rattle.std.specs.Prelude.{◌≡◌, ℕ, ◌+◌, List, [], ◌∷◌, length, Option, Some, None}
use Rattle.std.specs.Borrow.{Bor}
use Rattle.relation_text.specs.Spelling.{parts_of}
use Rattle.relation_text.specs.declared.cut.Separator.{Separator}

-- the parts of what is left, if anything is
abbrev pub parts_left : Separator → Option (Bor (List ℕ)) → List (List ℕ)
parts_left separator None = []
parts_left separator (Some rest) = parts_of separator rest.now

-- how many bytes are left, and one more for what is left itself
abbrev pub len_left : Option (Bor (List ℕ)) → ℕ
len_left None = 0
len_left (Some rest) = length rest.now + 1

-- the text is cut into its first part and what is left behind a separator
pub record CutsPart (separator : Separator) (text part : List ℕ) (left : Option (Bor (List ℕ))) : Type 0 where
  pub parts : parts_of separator text ≡ part ∷ parts_left separator left
  pub whole : length part + len_left left ≡ length text
