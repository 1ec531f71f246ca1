-- What fields must be so that what is written of them reads back as themselves (Policy 5.1, "Syntax of control files").
use Rattle.std.specs.Prelude.{◌≡◌, ℕ, ◌<◌, Bool, ◌&&◌, not, List, [], ◌∷◌, ◌++◌, length, map, IsTrue}
use Rattle.std.specs.List.{list_all, AllByRecursion}
use Rattle.rules.specs.Stanza.{Field}
use Rattle.stanza.specs.declared.form.Form.TheVariants.{Plain}
use Rattle.stanza.specs.declared.lines.TheConstants.{NEWLINE}
use Rattle.stanza.specs.Line.{lines_of, is_separator, is_continuation}
use Rattle.stanza.specs.Field.{is_name, trim_front, trim_end}
use Rattle.stanza.specs.File.{AreDistinct}

-- a line that continues a field: it begins with a space or a tab, and is not white alone
abbrev pub is_more : List ℕ → Bool
is_more line = is_continuation line && not (is_separator line)

-- the lines behind the first
abbrev pub behind_first : List (List ℕ) → List (List ℕ)
behind_first [] = []
behind_first (line ∷ lines) = lines

-- the lines of a value behind its first, as they are written
abbrev pub more_lines : List ℕ → List (List ℕ)
more_lines value = behind_first (lines_of (value ++ NEWLINE ∷ []))

-- a field that can be written: its name is one, its value has no space or tab at either end, and each line of the value behind the first continues it
pub record IsWritable (field : Field) : Type 0 where
  pub name : IsTrue (is_name field.name)
  pub trimmed : trim_end (trim_front field.value) ≡ field.value
  pub lines : IsTrue (list_all is_more (more_lines field.value))

-- fields that can be written as one stanza: there are some, each can be written, and no two have the same name
pub record AreWritable (fields : List Field) : Type 0 where
  pub some : 0 < length fields
  pub each : AllByRecursion IsWritable fields
  pub names : AreDistinct Plain (map (λ (field : Field). field.name) fields)
