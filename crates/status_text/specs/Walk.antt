-- What a walk over a stanza of the status file finds.
use Rattle.std.specs.Prelude.{ℕ, ◌||◌, List, codes}
use Rattle.relation.specs.PackageStanza.{field_of, is_essential}
use Rattle.relation.specs.PkgFields as Pkg
use Rattle.relation.specs.PkgFields.{field_named, fields_in, first_named}
use Rattle.rules.specs.Stanza.{marks_essential}
use Rattle.stanza.specs.Field.{FieldText}
use Rattle.stanza.specs.Stanza.{StanzaText}
use Rattle.status_text.specs.declared.walk.RecordFields.{RecordFields}

-- what is found among these fields, of a stanza that begins on this line: the first field of each name, and whether one
-- marks the package essential
abbrev pub record_fields_in : ℕ → List FieldText → RecordFields
record_fields_in line fields = record {
  pkg = fields_in line fields;
  status = field_named (codes "Status") fields;
  architecture = field_named (codes "Architecture") fields;
  config_version = field_named (codes "Config-Version") fields;
  is_essential = is_essential fields;
}

-- what was found, and one more field
abbrev pub with_field : RecordFields → FieldText → RecordFields
with_field record_fields field = record {
  pkg = Pkg.with_field record_fields.pkg field;
  status = first_named (codes "Status") record_fields.status field;
  architecture = first_named (codes "Architecture") record_fields.architecture field;
  config_version = first_named (codes "Config-Version") record_fields.config_version field;
  is_essential = record_fields.is_essential || marks_essential (field_of field);
}

-- what is found in a stanza
abbrev pub record_fields_of : StanzaText → RecordFields
record_fields_of stanza = record_fields_in stanza.line stanza.fields
