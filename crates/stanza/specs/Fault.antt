-- What is refused in control text, and at which line first (Debian Policy 5.1, "Syntax of control files").
use Rattle.std.specs.Prelude.{◌≡◌, ℕ, ◌+◌, Bool, true, false, ◌&&◌, not, List, [], ◌∷◌, ◌++◌, Option, None, Some, codes, if◌then◌else◌}
use Rattle.std.specs.List.{list_any}
use Rattle.std.specs.Borrow.{Bor}
use Rattle.stanza.specs.declared.form.Form.{Form}
use Rattle.stanza.specs.declared.error.StanzaError.{StanzaError}
use Rattle.stanza.specs.declared.error.StanzaError.TheVariants.{BadLine, BadFieldName, DuplicateField}
use Rattle.stanza.specs.Line.{begins_field, has_comments, is_comment, is_continuation}
use Rattle.stanza.specs.Field.{is_colon, name_of, is_name, same_name, names_of}

-- the last of these lines belongs to a field, which the next line may continue
abbrev pub is_open : Form → List (List ℕ) → Bool
is_open form [] = false
is_open form (line ∷ []) = not (is_comment form line)
is_open form (line ∷ next ∷ lines) = is_open form (next ∷ lines)

-- in the form with comments a stanza may have several fields of this name
abbrev pub may_repeat : Form → List ℕ → Bool
may_repeat form name = has_comments form && same_name name (codes "Explanation")

-- one of the lines before has the name, which may stand but once
abbrev pub is_repeated : Form → List (List ℕ) → List ℕ → Bool
is_repeated form before name =
    not (may_repeat form name) && list_any (λ earlier. same_name earlier name) (names_of form before)

-- what is wrong with line n, which begins a field after these lines of its stanza
abbrev pub field_fault : Form → List (List ℕ) → ℕ → List ℕ → Option StanzaError
field_fault form before n line =
    if not (list_any is_colon line) then Some (BadLine n)
    else if not (is_name (name_of line)) then Some (BadFieldName n)
    else if is_repeated form before (name_of line) then Some (DuplicateField n)
    else None

-- what is wrong with line n, which stands after these lines of its stanza
abbrev pub fault_of : Form → List (List ℕ) → ℕ → List ℕ → Option StanzaError
fault_of form before n line =
    if is_comment form line then None
    else if is_continuation line then (if is_open form before then None else Some (BadLine n))
    else field_fault form before n line

-- the first of two faults
abbrev pub or_then : Option StanzaError → Option StanzaError → Option StanzaError
or_then None later = later
or_then (Some fault) later = Some fault

-- the first fault of the lines from number n on, which stand after these lines of their stanza
abbrev pub first_fault : Form → List (List ℕ) → ℕ → List (List ℕ) → Option StanzaError
first_fault form before n [] = None
first_fault form before n (line ∷ lines) =
    or_then (fault_of form before n line) (first_fault form (before ++ line ∷ []) (n + 1) lines)

-- the line begins a field of this name
pub record IsNameOn (form : Form) (line name : List ℕ) : Type 0 where
  pub begins : begins_field form line ≡ true
  pub colon : list_any is_colon line ≡ true
  pub is : name ≡ name_of line
  pub good : is_name name ≡ true

-- what was found on line n, behind an open field or not: a name that begins a field there, or none, and then the line has no
-- fault
abbrev pub FindsName : Form → Bool → ℕ → List ℕ → Option (Bor (List ℕ)) → Type 0
FindsName form opened n line None =
    (begins_field form line ≡ false) × ((before : List (List ℕ)) → opened ≡ is_open form before → fault_of form before n line ≡ None)
FindsName form opened n line (Some name) = IsNameOn form line name.now
