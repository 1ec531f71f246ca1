-- The line of an index (this project's own): the SHA-256 sum of its text in hexadecimal digits, and the path that it was read
-- from, in which spaces may stand.
use Rattle.std.specs.Prelude.{ℕ, ◌==◌, nat_le, Bool, false, not, ◌&&◌, ◌||◌, List, [], ◌∷◌, ◌++◌, length, take, drop, Option, Some, None, codes, if◌then◌else◌}
use Rattle.std.specs.Char.{is_ascii_digit}
use Rattle.std.specs.List.{list_all}
use Rattle.std.specs.Str.{bytes_eq}
use Rattle.plantext.specs.declared.cut.TheConstants.{NEWLINE, SPACE}
use Rattle.named_refutation.specs.declared.index_line.TheConstants.{SUM}
use Rattle.named_refutation.specs.declared.named.IndexLine.{IndexLine}

-- the front of an index's line
abbrev pub index_front : List ℕ
index_front = codes "index "

-- a hexadecimal digit, none of them a capital
abbrev pub is_sum_digit : ℕ → Bool
is_sum_digit b = is_ascii_digit b || (nat_le 97 b && nat_le b 102)

-- the text is a sum: 64 hexadecimal digits
abbrev pub is_sum : List ℕ → Bool
is_sum text = (length text == SUM) && list_all is_sum_digit text

-- the index of this sum and of what stands behind it, if they are a sum, and a space and a path
abbrev pub index_by : List ℕ → List ℕ → Option IndexLine
index_by sum [] = None
index_by sum (b ∷ []) = None
index_by sum (b ∷ first ∷ path) = if (b == SPACE) && is_sum sum then Some (record { sum = sum; path = first ∷ path }) else None

-- the index in the text of a line without its newline, if it has one
unfoldable pub index_of : List ℕ → Option IndexLine
index_of text =
    if bytes_eq (take (length index_front) text) index_front
    then index_by (take SUM (drop (length index_front) text)) (drop SUM (drop (length index_front) text)) else None

-- the line of an index, with its newline
unfoldable pub index_text : IndexLine → List ℕ
index_text index = index_front ++ index.sum ++ SPACE ∷ index.path ++ NEWLINE ∷ []

-- one byte or more, and none is a newline
abbrev pub is_path : List ℕ → Bool
is_path [] = false
is_path (b ∷ later) = list_all (λ byte. not (byte == NEWLINE)) (b ∷ later)

-- the index can be written: its sum is one, and so is its path
abbrev pub is_index_writable : IndexLine → Bool
is_index_writable index = is_sum index.sum && is_path index.path
