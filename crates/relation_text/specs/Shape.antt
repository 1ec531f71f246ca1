-- The shape of a relation field's value (Policy 7.1), as an automaton over its bytes. That items of white
-- space alone are skipped is this project's own.
use Rattle.std.specs.Prelude.{◌≡◌, ℕ, ◌+◌, ◌<◌, ◌≤◌, ◌++◌, length, take, true, ◌==◌, ◌||◌, List, [], ◌∷◌, if◌then◌else◌}
use Rattle.std.specs.Char.{is_ascii_alphanumeric}
use Rattle.rules.specs.Name.{is_name_byte}
use Rattle.relation_text.specs.Bytes.{is_white, is_comma, is_bar, is_colon, is_opening, is_closing, is_less, is_equals, is_greater, is_qualifier_byte, is_version_byte}
use Rattle.relation_text.specs.Place.{is_end}
use Rattle.relation_text.specs.declared.shape.RelationForm.{RelationForm}
use Rattle.relation_text.specs.declared.shape.RelationForm.TheVariants.{Clauses, Atoms, Provides}
use Rattle.relation_text.specs.declared.shape.ShapePlace.{ShapePlace}
use Rattle.relation_text.specs.declared.shape.ShapePlace.TheVariants.{Between, Alternative, InName, AfterName, BeforeQualifier, InQualifier, Opened, Less, Greater, AfterOperator, InVersion, AfterVersion, Closed, Dead}

-- where an atom may begin: white space stays there, and a letter or a digit begins a name
abbrev pub before_atom : ShapePlace → ℕ → ShapePlace
before_atom place b = if is_white b then place else if is_ascii_alphanumeric b then InName else Dead

-- behind a bar: before an alternative, where the form has alternatives
abbrev pub after_bar : RelationForm → ShapePlace
after_bar Clauses = Alternative
after_bar Atoms = Dead
after_bar Provides = Dead

-- behind a whole atom: white space stays there, and a comma or a bar ends the atom
abbrev pub after_atom : RelationForm → ShapePlace → ℕ → ShapePlace
after_atom form place b =
    if is_white b then place else if is_comma b then Between else if is_bar b then after_bar form else Dead

-- behind a name and its qualifier: a restriction is opened, or the atom ends
abbrev pub after_name : RelationForm → ℕ → ShapePlace
after_name form b = if is_opening b then Opened else after_atom form AfterName b

-- behind the first byte of an operator that Provides doesn't take
abbrev pub unless_provides : RelationForm → ShapePlace → ShapePlace
unless_provides Clauses place = place
unless_provides Atoms place = place
unless_provides Provides place = Dead

-- in a restriction, before its operator
abbrev pub before_operator : RelationForm → ℕ → ShapePlace
before_operator form b =
    if is_white b then Opened
    else if is_equals b then AfterOperator
    else if is_less b then unless_provides form Less
    else if is_greater b then unless_provides form Greater
    else Dead

-- behind an operator, before its version
abbrev pub before_version : ℕ → ShapePlace
before_version b = if is_white b then AfterOperator else if is_version_byte b then InVersion else Dead

-- behind a version, before the end of its restriction
abbrev pub after_version : ℕ → ShapePlace
after_version b = if is_white b then AfterVersion else if is_closing b then Closed else Dead

-- behind the first byte of an operator, which may go on with this second byte or with `=`
abbrev pub next_in_operator : ℕ → ℕ → ShapePlace
next_in_operator second b = if b == second || is_equals b then AfterOperator else before_version b

-- behind a comma or at the value's beginning
abbrev pub next_between : ℕ → ShapePlace
next_between b = if is_comma b then Between else before_atom Between b

-- behind the colon of a qualifier
abbrev pub next_before_qualifier : ℕ → ShapePlace
next_before_qualifier b = if is_ascii_alphanumeric b then InQualifier else Dead

-- in a version
abbrev pub next_in_version : ℕ → ShapePlace
next_in_version b = if is_version_byte b then InVersion else after_version b

-- where the next byte leads; nothing leads on from the dead place
abbrev pub next : RelationForm → ShapePlace → ℕ → ShapePlace
next form Between b = next_between b
next form Alternative b = before_atom Alternative b
next form InName b = if is_name_byte b then InName else if is_colon b then BeforeQualifier else after_name form b
next form AfterName b = after_name form b
next form BeforeQualifier b = next_before_qualifier b
next form InQualifier b = if is_qualifier_byte b then InQualifier else after_name form b
next form Opened b = before_operator form b
next form Less b = next_in_operator 60 b
next form Greater b = next_in_operator 62 b
next form AfterOperator b = before_version b
next form InVersion b = next_in_version b
next form AfterVersion b = after_version b
next form Closed b = after_atom form Closed b
next form Dead b = Dead

-- where these bytes lead
abbrev pub place_after : RelationForm → ShapePlace → List ℕ → ShapePlace
place_after form place [] = place
place_after form place (b ∷ bytes) = place_after form (next form place b) bytes

-- the whole value has the shape of the form, whatever its versions are
abbrev pub HasShape : RelationForm → List ℕ → Type 0
HasShape form value = is_end (place_after form Between value) ≡ true

-- the offset is that of the first byte of the value that goes on with no text of the form, or the value's length
-- where the value ends too early
pub record IsFirstStop (form : RelationForm) (value : List ℕ) (offset : ℕ) : Type 0 where
  pub within : offset ≤ length value
  pub goes_on : (more : List ℕ) × HasShape form (take offset value ++ more)
  pub stops : offset < length value → (more : List ℕ) → HasShape form (take (offset + 1) value ++ more) → ⊥
  pub ends_early : offset ≡ length value → HasShape form value → ⊥
