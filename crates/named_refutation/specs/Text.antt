-- The text of a refutation whose pairs are named (this project's own): the line `refutation 2`, the lines of indices, its
-- lines, and the line `end N`, N the number of its lines. Each line ends with a newline, so that newlines part the text into
-- the lines and, last, nothing.
use Rattle.std.specs.Prelude.{◌≡◌, ℕ, ◌+◌, ◌≤◌, Bool, true, false, ◌||◌, not, List, [], ◌∷◌, ◌++◌, length, nat_lt, Option, Some, None, Result, Ok, Err, codes, if◌then◌else◌}
use Rattle.std.specs.List.{flat_map, list_all}
use Rattle.std.specs.Option.{option_map_or}
use Rattle.std.specs.Str.{bytes_eq}
use Rattle.rules.specs.declared.limits.TheConstants.{TEXT_BYTES}
use Rattle.plantext.specs.Cut.{parts_at}
use Rattle.plantext.specs.Plan.{end_line}
use Rattle.plantext.specs.declared.cut.TheConstants.{NEWLINE}
use Rattle.refutation_text.specs.declared.error.RefutationFault.{RefutationFault}
use Rattle.refutation_text.specs.declared.error.RefutationFault.TheVariants.{BadRefutation, TooLarge}
use Rattle.refutation_text.specs.declared.limits.TheConstants.{LINES, WIDTH}
use Rattle.named_refutation.specs.Index.{index_of, index_text, is_index_writable}
use Rattle.named_refutation.specs.LineText.{is_writable, line_of, line_text}
use Rattle.named_refutation.specs.declared.named.IndexLine.{IndexLine}
use Rattle.named_refutation.specs.declared.named.NamedLine.{NamedLine}
use Rattle.named_refutation.specs.declared.named.NamedLine.TheVariants as line
use Rattle.named_refutation.specs.declared.named.NamedRefutation.{NamedRefutation}

-- the first line, without its newline
abbrev pub header : List ℕ
header = codes "refutation 2"

-- the line has too many literals, or too many hints
abbrev pub is_wide : NamedLine → Bool
is_wide (line.Premise premise) = false
is_wide (line.Derived literals hints) = nat_lt WIDTH (length literals) || nat_lt WIDTH (length hints)

-- Reading: the lines

-- this line of this number, unless it is one too many or too wide
abbrev pub counted_line : ℕ → NamedLine → Result NamedLine RefutationFault
counted_line number line = if nat_lt LINES number || is_wide line then Err TooLarge else Ok line

-- the line of this number, if the text was one: so many lines of another kind stand before the first
abbrev pub numbered_line : ℕ → ℕ → Option NamedLine → Result NamedLine RefutationFault
numbered_line before number None = Err (BadRefutation (before + number))
numbered_line before number (Some line) = counted_line number line

-- the line of this number in its text, which has its newline
abbrev pub line_in_text : ℕ → ℕ → List ℕ → Result NamedLine RefutationFault
line_in_text before number text = numbered_line before number (line_of text)

-- the lines before those that are read behind them
abbrev pub put_lines : List NamedLine → Result (List NamedLine) RefutationFault → Result (List NamedLine) RefutationFault
put_lines lines (Ok later) = Ok (lines ++ later)
put_lines lines (Err fault) = Err fault

-- the line that is read, before those that are read behind it
abbrev pub put_line : Result NamedLine RefutationFault → Result (List NamedLine) RefutationFault → Result (List NamedLine) RefutationFault
put_line (Ok line) later = put_lines (line ∷ []) later
put_line (Err fault) later = Err fault

-- behind the last line, which has this place in the text, nothing may stand: a further one is refused, with its newline or without
abbrev pub read_end : ℕ → List (List ℕ) → Result (List NamedLine) RefutationFault
read_end place [] = Err (BadRefutation place)
read_end place (text ∷ next ∷ later) = Err (BadRefutation (place + 1))
read_end place ([] ∷ []) = Ok []
read_end place ((b ∷ bytes) ∷ []) = Err (BadRefutation (place + 1))

-- the lines behind this many, of what newlines part, up to the line that ends so many; where that is missing, what stands behind
-- the last newline is refused, also where it is empty
abbrev pub read_lines : ℕ → ℕ → List (List ℕ) → Result (List NamedLine) RefutationFault
read_lines before count [] = Err (BadRefutation (before + count))
read_lines before count (last ∷ []) = Err (BadRefutation (before + (count + 1)))
read_lines before count (text ∷ next ∷ later) =
    if bytes_eq text (end_line count) then read_end (before + (count + 1)) (next ∷ later)
    else put_line (line_in_text before (count + 1) text) (read_lines before (count + 1) (next ∷ later))

-- Reading: the whole text

-- the index before those that are cut off behind it
abbrev pub put_index : IndexLine → List IndexLine × List (List ℕ) → List IndexLine × List (List ℕ)
put_index index cut = (index ∷ cut.0, cut.1)

-- the lines of indices at the front of what newlines part, and the parts behind them; the last part is none of these lines
abbrev pub cut_indices : List (List ℕ) → List IndexLine × List (List ℕ)
cut_indices [] = ([], [])
cut_indices (last ∷ []) = ([], last ∷ [])
cut_indices (text ∷ next ∷ later) =
    option_map_or (λ index. put_index index (cut_indices (next ∷ later))) (index_of text) ([], text ∷ next ∷ later)

-- the refutation of these indices and of the lines, if they are read
abbrev pub with_indices : List IndexLine → Result (List NamedLine) RefutationFault → Result NamedRefutation RefutationFault
with_indices indices (Ok lines) = Ok (record { indices = indices; lines = lines })
with_indices indices (Err fault) = Err fault

-- the refutation of these indices and of the lines in the parts behind them; the header and the indices stand before the lines
abbrev pub read_behind : List IndexLine × List (List ℕ) → Result NamedRefutation RefutationFault
read_behind cut = with_indices cut.0 (read_lines (length cut.0 + 1) 0 cut.1)

-- the refutation of what newlines part, of which the first has to be the header
abbrev pub read_parts : List (List ℕ) → Result NamedRefutation RefutationFault
read_parts [] = Err (BadRefutation 1)
read_parts (first ∷ later) = if bytes_eq first header then read_behind (cut_indices later) else Err (BadRefutation 1)

-- the refutation of a text, or its first refusal
unfoldable pub read_named : List ℕ → Result NamedRefutation RefutationFault
read_named text = if nat_lt TEXT_BYTES (length text) then Err TooLarge else read_parts (parts_at NEWLINE text)

-- Writing

-- the text of a refutation
unfoldable pub named_text : NamedRefutation → List ℕ
named_text refutation =
    header ++ NEWLINE ∷ [] ++ flat_map index_text refutation.indices ++ flat_map line_text refutation.lines
    ++ end_line (length refutation.lines) ++ NEWLINE ∷ []

-- each index and each line can be written
pub record IsWritable (refutation : NamedRefutation) : Type 0 where
  pub indices : list_all is_index_writable refutation.indices ≡ true
  pub lines : list_all is_writable refutation.lines ≡ true

-- within the limits of what is read: no line has too many literals or hints, and the text isn't too long, nor are the lines too many
pub record IsWithinLimits (refutation : NamedRefutation) (text : List ℕ) : Type 0 where
  pub small : length text ≤ TEXT_BYTES
  pub few : length refutation.lines ≤ LINES
  pub narrow : list_all (λ line. not (is_wide line)) refutation.lines ≡ true

-- the text is read as this refutation, if it can be written and is within the limits
abbrev pub IsReadAs : NamedRefutation → List ℕ → Type 0
IsReadAs refutation text = IsWritable refutation → IsWithinLimits refutation text → read_named text ≡ Ok refutation
