-- The lines of control text and their kinds (Debian Policy 5.1, "Syntax of control files").
use Rattle.std.specs.Prelude.{◌≡◌, ℕ, Bool, true, false, ◌&&◌, ◌||◌, not, ◌==◌, List, [], ◌∷◌, ◌++◌, if◌then◌else◌}
use Rattle.std.specs.List.{list_all, onto_first}
use Rattle.stanza.specs.declared.form.Form.{Form}
use Rattle.stanza.specs.declared.form.Form.TheVariants.{Plain, Commented}
use Rattle.stanza.specs.declared.lines.TheConstants.{NEWLINE, SPACE, TAB, HASH}

-- the text cut behind each newline: a line keeps its newline, which the last one may lack
abbrev pub lines_of : List ℕ → List (List ℕ)
lines_of [] = []
lines_of (b ∷ bs) = if b == NEWLINE then (b ∷ []) ∷ lines_of bs else onto_first b (lines_of bs)

-- a space or a tab
abbrev pub is_white : ℕ → Bool
is_white b = b == SPACE || b == TAB

-- a line of spaces and tabs alone, or of nothing, parts stanzas
abbrev pub is_separator : List ℕ → Bool
is_separator line = list_all (λ b. is_white b || b == NEWLINE) line

-- one form has comments
abbrev pub has_comments : Form → Bool
has_comments Plain = false
has_comments Commented = true

-- in the form with comments a line that begins with `#` is one
abbrev pub is_comment : Form → List ℕ → Bool
is_comment form [] = false
is_comment form (b ∷ bs) = has_comments form && b == HASH

-- a line that begins with a space or a tab continues the field before it
abbrev pub is_continuation : List ℕ → Bool
is_continuation [] = false
is_continuation (b ∷ bs) = is_white b

-- any other line begins a field
abbrev pub begins_field : Form → List ℕ → Bool
begins_field form line = not (is_comment form line) && not (is_continuation line)

-- the text is some whole lines, whatever follows it
abbrev pub IsWhole : List ℕ → Type 0
IsWhole front = (rest : List ℕ) → lines_of (front ++ rest) ≡ lines_of front ++ lines_of rest
