-- A package as its stanza gives it (Policy 5.6.1, 5.6.12 and chapter 7), or the first refusal of the stanza.
use Rattle.std.specs.Prelude.{◌≡◌, ℕ, ◌+◌, List, [], ◌∷◌, Option, Some, None, Result, Ok, Err, ⊤, if◌then◌else◌}
use Rattle.std.specs.Char.{is_ascii_alphanumeric}
use Rattle.std.specs.List.{prefix_len}
use Rattle.std.specs.Option.{option_map, option_map_or, option_or, option_and_then}
use Rattle.rules.specs.VersionFault.{first_fault}
use Rattle.rules.specs.Name.{is_name, is_name_byte}
use Rattle.rules.specs.Package.{Pkg, Relations}
use Rattle.stanza.specs.Field.{FieldText}
use Rattle.stanza.specs.Stanza.{StanzaText}
use Rattle.relation.specs.PkgFields.{fields_of}
use Rattle.relation_text.specs.Refusal.{fault_of}
use Rattle.relation_text.specs.Spelling.{atoms_between, clauses_of, provided_items_of}
use Rattle.relation_text.specs.declared.cut.Separator.TheVariants.{Comma}
use Rattle.relation.specs.declared.error.PkgError.{PkgError}
use Rattle.relation.specs.declared.error.PkgError.TheVariants as error
use Rattle.relation.specs.declared.error.PkgFault.{PkgFault}
use Rattle.relation.specs.declared.error.PkgFault.TheVariants.{MissingField, BadVersion, BadRelation, BadName, TooLarge}
use Rattle.relation_text.specs.declared.error.RelationFault.{RelationFault}
use Rattle.relation_text.specs.declared.error.RelationFault.TheVariants as relation
use Rattle.relation.specs.declared.error.RequiredField.TheVariants as required
use Rattle.relation.specs.declared.fields.PkgFields.{PkgFields}
use Rattle.relation_text.specs.declared.shape.RelationForm.{RelationForm}
use Rattle.relation_text.specs.declared.shape.RelationForm.TheVariants.{Clauses, Atoms, Provides}

-- the value of a field, or nothing where there is none
abbrev pub value_in : Option FieldText → List ℕ
value_in field = option_map_or (λ field. field.value) field []

-- how many bytes of the text go on as a name does: none where it doesn't begin as one
abbrev pub name_front : List ℕ → ℕ
name_front [] = 0
name_front (b ∷ rest) = if is_ascii_alphanumeric b then 1 + prefix_len is_name_byte rest else 0

-- a value that is no name is refused at its first byte that no name has there
abbrev pub name_fault : FieldText → Option PkgFault
name_fault field = if is_name field.value then None else Some (BadName field.line (name_front field.value))

-- the refusal of the field Package of a stanza that begins on this line: it is missing, or no name
abbrev pub name_fault_in : ℕ → Option FieldText → Option PkgFault
name_fault_in line field = option_map_or name_fault field (Some (MissingField line required.Package))

-- a value that is no version is refused with the version's first fault
abbrev pub version_fault : FieldText → Option PkgFault
version_fault field = option_map (λ kind. BadVersion field.line kind) (first_fault field.value)

-- the refusal of the field Version of a stanza that begins on this line: it is missing, or no version
abbrev pub version_fault_in : ℕ → Option FieldText → Option PkgFault
version_fault_in line field = option_map_or version_fault field (Some (MissingField line required.Version))

-- a refusal of a value, with the line of its field
abbrev pub on_line : ℕ → RelationFault → PkgFault
on_line line (relation.BadRelation offset) = BadRelation line offset
on_line line (relation.BadName offset) = BadName line offset
on_line line relation.TooLarge = TooLarge

-- the refusal of a relation field
abbrev pub relation_fault : RelationForm → FieldText → Option PkgFault
relation_fault form field = option_map (on_line field.line) (fault_of form field.value)

-- the refusal of a relation field, if there is one
abbrev pub relation_fault_in : RelationForm → Option FieldText → Option PkgFault
relation_fault_in form field = option_and_then (relation_fault form) field

-- the first refusal of the relation fields, in this order
unfoldable pub relations_fault : PkgFields → Option PkgFault
relations_fault fields =
    option_or (relation_fault_in Clauses fields.pre_depends)
    (option_or (relation_fault_in Clauses fields.depends)
    (option_or (relation_fault_in Atoms fields.conflicts)
    (option_or (relation_fault_in Atoms fields.breaks)
    (relation_fault_in Provides fields.provides))))

-- the relations that the fields spell
abbrev pub relations_of : List ℕ → PkgFields → Relations
relations_of arch fields = record {
  pre_depends = clauses_of arch (value_in fields.pre_depends);
  depends = clauses_of arch (value_in fields.depends);
  conflicts = atoms_between Comma arch (value_in fields.conflicts);
  breaks = atoms_between Comma arch (value_in fields.breaks);
  provides = provided_items_of arch (value_in fields.provides);
}

-- the package that the fields spell
abbrev pub pkg_of : List ℕ → PkgFields → Pkg
pkg_of arch fields = record {
  name = value_in fields.name;
  version = value_in fields.version;
  relations = relations_of arch fields;
}

-- the refusal of the name that the fields give
abbrev pub pkg_name_fault : PkgFields → Option PkgFault
pkg_name_fault fields = name_fault_in fields.line fields.name

-- the refusal of the version that the fields give
abbrev pub pkg_version_fault : PkgFields → Option PkgFault
pkg_version_fault fields = version_fault_in fields.line fields.version

-- the first refusal of the fields: of Package, then Version, then the relations
abbrev pub pkg_fault : PkgFields → Option PkgFault
pkg_fault fields = option_or (pkg_name_fault fields) (option_or (pkg_version_fault fields) (relations_fault fields))

-- what the fields spell, unless they are refused
abbrev pub unless_fault : {A : Type 0} → Option PkgFault → A → Result A PkgFault
unless_fault None read = Ok read
unless_fault (Some fault) read = Err fault

-- the relations of the fields, or their first refusal
abbrev pub read_relations : List ℕ → PkgFields → Result Relations PkgFault
read_relations arch fields = unless_fault (relations_fault fields) (relations_of arch fields)

-- the package of the fields, or their first refusal
abbrev pub read_fields : List ℕ → PkgFields → Result Pkg PkgFault
read_fields arch fields = unless_fault (pkg_fault fields) (pkg_of arch fields)

-- the package of a stanza, or its first refusal
abbrev pub read_pkg : List ℕ → StanzaText → Result Pkg PkgFault
read_pkg arch stanza = read_fields arch (fields_of stanza)

-- the error is the refusal of this reading, or want of memory
abbrev pub IsPkgFault : {A : Type 0} → PkgError → Result A PkgFault → Type 0
IsPkgFault (error.Refused fault) read = read ≡ Err fault
IsPkgFault error.OutOfMemory read = ⊤
