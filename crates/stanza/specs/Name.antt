-- The name at the front of a line, as it is read in one walk.
use Rattle.std.specs.Prelude.{ℕ, Bool, false, not, List, [], ◌∷◌, Option, None, Some, if◌then◌else◌}
use Rattle.std.specs.List.{list_any}
use Rattle.stanza.specs.declared.error.StanzaError.{StanzaError}
use Rattle.stanza.specs.declared.error.StanzaError.TheVariants.{BadLine, BadFieldName}
use Rattle.stanza.specs.Field.{is_colon, name_of, is_name}

-- a colon stands at the front
abbrev pub begins_colon : List ℕ → Bool
begins_colon [] = false
begins_colon (b ∷ bs) = is_colon b

-- what is wrong with the name on line n: no colon ends it, or it is none
abbrev pub name_fault : ℕ → List ℕ → Option StanzaError
name_fault n line =
    if not (list_any is_colon line) then Some (BadLine n)
    else if not (is_name (name_of line)) then Some (BadFieldName n)
    else None
