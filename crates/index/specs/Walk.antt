-- What a walk over a stanza of an index finds.
use Rattle.std.specs.Prelude.{ℕ, Bool, ◌||◌, List, Option, Some, None, codes, if◌then◌else◌}
use Rattle.std.specs.Option.{option_or}
use Rattle.relation.specs.PackageStanza.{field_of, is_essential, says_essential}
use Rattle.relation.specs.PkgFields as Pkg
use Rattle.relation.specs.PkgFields.{fields_in}
use Rattle.relation.specs.declared.fields.PkgFields.{PkgFields}
use Rattle.rules.specs.Stanza.{marks_essential, says_essential as field_says_essential}
use Rattle.stanza.specs.Field.{FieldText, same_name, value_named}
use Rattle.stanza.specs.Stanza.{StanzaText}

-- what is found: the fields of the package, the value of Architecture, if there is one, whether the package is marked
-- essential, and whether it is so by the field Essential itself
pub record IndexFields : Type 0 where
  pub pkg : PkgFields
  pub architecture : Option (List ℕ)
  pub is_essential : Bool
  pub says_essential : Bool

-- what is found among these fields, of a stanza that begins on this line
abbrev pub index_fields_in : ℕ → List FieldText → IndexFields
index_fields_in line fields = record {
  pkg = fields_in line fields;
  architecture = value_named (codes "Architecture") fields;
  is_essential = is_essential fields;
  says_essential = says_essential fields;
}

-- the value of the field, where it is called so
abbrev pub value_if_named : List ℕ → FieldText → Option (List ℕ)
value_if_named name field = if same_name field.name name then Some field.value else None

-- what was found, and one more field
abbrev pub with_field : IndexFields → FieldText → IndexFields
with_field index_fields field = record {
  pkg = Pkg.with_field index_fields.pkg field;
  architecture = option_or index_fields.architecture (value_if_named (codes "Architecture") field);
  is_essential = index_fields.is_essential || marks_essential (field_of field);
  says_essential = index_fields.says_essential || field_says_essential (field_of field);
}

-- what is found in a stanza
abbrev pub index_fields_of : StanzaText → IndexFields
index_fields_of stanza = index_fields_in stanza.line stanza.fields
