-- The text of a refutation (this project's own): the line `refutation 1`, and then its lines. Each line ends with a
-- newline, so that newlines part the text into the lines and, last, nothing.
use Rattle.std.specs.Prelude.{◌≡◌, ℕ, ◌+◌, ◌≤◌, Bool, true, false, ◌||◌, not, List, [], ◌∷◌, ◌++◌, length, nat_lt, Option, Some, None, Result, Ok, Err, codes, if◌then◌else◌}
use Rattle.std.specs.List.{flat_map, list_all}
use Rattle.std.specs.Str.{bytes_eq}
use Rattle.rules.specs.declared.limits.TheConstants.{TEXT_BYTES}
use Rattle.refutation.specs.declared.line.Line.{Line}
use Rattle.refutation.specs.declared.line.Line.TheVariants as line
use Rattle.plantext.specs.Cut.{parts_at}
use Rattle.refutation_text.specs.LineText.{is_writable, line_of, line_text}
use Rattle.plantext.specs.declared.cut.TheConstants.{NEWLINE}
use Rattle.refutation_text.specs.declared.limits.TheConstants.{LINES, WIDTH}
use Rattle.refutation_text.specs.declared.error.RefutationFault.{RefutationFault}
use Rattle.refutation_text.specs.declared.error.RefutationFault.TheVariants.{BadRefutation, TooLarge}

-- the first line, without its newline
abbrev pub header : List ℕ
header = codes "refutation 1"

-- the line has too many literals, or too many hints
abbrev pub is_wide : Line → Bool
is_wide (line.Premise premise) = false
is_wide (line.Derived literals hints) = nat_lt WIDTH (length literals) || nat_lt WIDTH (length hints)

-- Reading

-- this line of this number, unless it is one too many or too wide
abbrev pub counted_line : ℕ → Line → Result Line RefutationFault
counted_line number line = if nat_lt LINES number || is_wide line then Err TooLarge else Ok line

-- the line of this number, if the text was one: the header stands before the lines
abbrev pub numbered_line : ℕ → Option Line → Result Line RefutationFault
numbered_line number None = Err (BadRefutation (number + 1))
numbered_line number (Some line) = counted_line number line

-- the line of this number in its text, which has its newline
abbrev pub line_in_text : ℕ → List ℕ → Result Line RefutationFault
line_in_text number text = numbered_line number (line_of text)

-- the lines before those that are read behind them
abbrev pub put_lines : List Line → Result (List Line) RefutationFault → Result (List Line) RefutationFault
put_lines lines (Ok later) = Ok (lines ++ later)
put_lines lines (Err fault) = Err fault

-- the line that is read, before those that are read behind it
abbrev pub put_line : Result Line RefutationFault → Result (List Line) RefutationFault → Result (List Line) RefutationFault
put_line (Ok line) later = put_lines (line ∷ []) later
put_line (Err fault) later = Err fault

-- behind the last newline nothing may stand: a line that lacks its newline is refused
abbrev pub read_end : ℕ → List ℕ → Result (List Line) RefutationFault
read_end number [] = Ok []
read_end number (b ∷ bytes) = Err (BadRefutation (number + 1))

-- the lines from this number on, of what newlines part; where nothing is parted, the line before lacks its newline
abbrev pub read_lines : ℕ → List (List ℕ) → Result (List Line) RefutationFault
read_lines number [] = Err (BadRefutation number)
read_lines number (last ∷ []) = read_end number last
read_lines number (text ∷ next ∷ later) = put_line (line_in_text number text) (read_lines (number + 1) (next ∷ later))

-- the lines of what newlines part, of which the first has to be the header
abbrev pub read_parts : List (List ℕ) → Result (List Line) RefutationFault
read_parts [] = Err (BadRefutation 1)
read_parts (first ∷ later) = if bytes_eq first header then read_lines 1 later else Err (BadRefutation 1)

-- the lines of a refutation's text, or its first refusal
unfoldable pub read_refutation : List ℕ → Result (List Line) RefutationFault
read_refutation text = if nat_lt TEXT_BYTES (length text) then Err TooLarge else read_parts (parts_at NEWLINE text)

-- Writing

-- the text of a refutation with these lines
unfoldable pub refutation_text : List Line → List ℕ
refutation_text lines = header ++ NEWLINE ∷ [] ++ flat_map line_text lines

-- each line can be written: numbers are in range, and derived lines have distinct literals and a hint
abbrev pub IsWritable : List Line → Type 0
IsWritable lines = list_all is_writable lines ≡ true

-- within the limits of what is read: no line has too many literals or hints, and the text isn't too long, nor are the lines too many
pub record IsWithinLimits (lines : List Line) (text : List ℕ) : Type 0 where
  pub small : length text ≤ TEXT_BYTES
  pub few : length lines ≤ LINES
  pub narrow : list_all (λ line. not (is_wide line)) lines ≡ true

-- the text is read as these lines, if they can be written and are within the limits
abbrev pub IsReadAs : List Line → List ℕ → Type 0
IsReadAs lines text = IsWritable lines → IsWithinLimits lines text → read_refutation text ≡ Ok lines
