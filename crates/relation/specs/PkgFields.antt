-- The fields of a stanza that make its package.
use Rattle.std.specs.Prelude.{ℕ, List, Option, Some, None, codes, if◌then◌else◌}
use Rattle.std.specs.List.{find}
use Rattle.std.specs.Option.{option_or}
use Rattle.stanza.specs.Field.{FieldText, same_name}
use Rattle.stanza.specs.Stanza.{StanzaText}
use Rattle.relation.specs.declared.fields.PkgFields.{PkgFields}

-- the first field of this name, whatever the case of its letters
abbrev pub field_named : List ℕ → List FieldText → Option FieldText
field_named name fields = find (λ field. same_name field.name name) fields

-- the field, where it has this name
abbrev pub if_named : List ℕ → FieldText → Option FieldText
if_named name field = if same_name field.name name then Some field else None

-- the first field of this name, where this one was found so far and then this one comes
abbrev pub first_named : List ℕ → Option FieldText → FieldText → Option FieldText
first_named name earlier field = option_or earlier (if_named name field)

-- the fields of a package among these, of a stanza that begins on this line
abbrev pub fields_in : ℕ → List FieldText → PkgFields
fields_in line fields = record {
  line = line;
  name = field_named (codes "Package") fields;
  version = field_named (codes "Version") fields;
  pre_depends = field_named (codes "Pre-Depends") fields;
  depends = field_named (codes "Depends") fields;
  conflicts = field_named (codes "Conflicts") fields;
  breaks = field_named (codes "Breaks") fields;
  provides = field_named (codes "Provides") fields;
}

-- these, and one more field
abbrev pub with_field : PkgFields → FieldText → PkgFields
with_field pkg_fields field = record {
  line = pkg_fields.line;
  name = first_named (codes "Package") pkg_fields.name field;
  version = first_named (codes "Version") pkg_fields.version field;
  pre_depends = first_named (codes "Pre-Depends") pkg_fields.pre_depends field;
  depends = first_named (codes "Depends") pkg_fields.depends field;
  conflicts = first_named (codes "Conflicts") pkg_fields.conflicts field;
  breaks = first_named (codes "Breaks") pkg_fields.breaks field;
  provides = first_named (codes "Provides") pkg_fields.provides field;
}

-- the fields of a package in a stanza
abbrev pub fields_of : StanzaText → PkgFields
fields_of stanza = fields_in stanza.line stanza.fields
