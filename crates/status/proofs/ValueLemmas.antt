-- The values that a record is read from, by the names of their fields, apart from the lines on which they stand.
use Rattle.std.proofs.Common.{◌≡◌, ℕ, Bool, true, false, true≢false, not, ◌||◌, List, [], ◌∷◌, ◌++◌, map, cond, Option, None, Some, refl, sym, ap, ◌∙◌, append-nil, codes, inl, inr}
use Rattle.std.proofs.lemmas.Bool.{cases_Bool}
use Rattle.std.proofs.lemmas.List.Elements.{filter-append}
use Rattle.std.specs.List.{filter, flat_map}
use Rattle.relation.specs.PackageStanza.{field_of, is_essential}
use Rattle.relation.specs.PkgFields.{field_named}
use Rattle.rules.specs.Database.{Record}
use Rattle.rules.specs.FileRecord.{status_of}
use Rattle.rules.specs.Stanza.{Field, config_fields, fields_called, fields_without, index_only, is_called, marks_essential, touched_fields, unpacked_fields, with_config_version}
use Rattle.stanza.specs.Field.{FieldText, same_name, value_named}
use Rattle.stanza.specs.Stanza.{StanzaText}
use Rattle.status.proofs.FieldLemmas.{is_kept, other_name, touched-package}
use Rattle.status.proofs.FilterLemmas.{fails_first, filter_within, none_in_parts, none_of_both}
use Rattle.status.proofs.PassLemmas.{Passes, apart, is_common, passes_called, passes_essential, touched_passes, unpacked_passes}
use Rattle.status.specs.Written.{written_anew}
use Rattle.status_text.specs.Record.{text_in}

-- the values that a record is read from
pub record Values : Type 0 where
  pub name : Option (List ℕ)
  pub status : Option (List ℕ)
  pub architecture : Option (List ℕ)
  pub version : Option (List ℕ)
  pub config_version : Option (List ℕ)
  pub pre_depends : Option (List ℕ)
  pub depends : Option (List ℕ)
  pub conflicts : Option (List ℕ)
  pub breaks : Option (List ℕ)
  pub provides : Option (List ℕ)
  pub is_essential : Bool

-- the first of some fields' values
abbrev pub first_value : List Field → Option (List ℕ)
first_value [] = None
first_value (field ∷ fields) = Some field.value

-- the value of the first field of this name
abbrev pub value_called : List ℕ → List Field → Option (List ℕ)
value_called name fields = first_value (fields_called name fields)

-- a field passes
abbrev pub passes_some : List Field → Bool
passes_some [] = false
passes_some (field ∷ fields) = true

-- the values among some fields
abbrev pub values_of : List Field → Values
values_of fields = record {
  name = value_called (codes "Package") fields;
  status = value_called (codes "Status") fields;
  architecture = value_called (codes "Architecture") fields;
  version = value_called (codes "Version") fields;
  config_version = value_called (codes "Config-Version") fields;
  pre_depends = value_called (codes "Pre-Depends") fields;
  depends = value_called (codes "Depends") fields;
  conflicts = value_called (codes "Conflicts") fields;
  breaks = value_called (codes "Breaks") fields;
  provides = value_called (codes "Provides") fields;
  is_essential = passes_some (filter marks_essential fields);
}

-- the values in a stanza that is read
abbrev pub values_in : StanzaText → Values
values_in stanza = record {
  name = text_in (field_named (codes "Package") stanza.fields);
  status = text_in (field_named (codes "Status") stanza.fields);
  architecture = value_named (codes "Architecture") stanza.fields;
  version = text_in (field_named (codes "Version") stanza.fields);
  config_version = text_in (field_named (codes "Config-Version") stanza.fields);
  pre_depends = text_in (field_named (codes "Pre-Depends") stanza.fields);
  depends = text_in (field_named (codes "Depends") stanza.fields);
  conflicts = text_in (field_named (codes "Conflicts") stanza.fields);
  breaks = text_in (field_named (codes "Breaks") stanza.fields);
  provides = text_in (field_named (codes "Provides") stanza.fields);
  is_essential = is_essential stanza.fields;
}

-- two records of values with the same parts
pub same_values : (v w : Values) → v.name ≡ w.name → v.status ≡ w.status → v.architecture ≡ w.architecture → v.version ≡ w.version
    → v.config_version ≡ w.config_version → v.pre_depends ≡ w.pre_depends → v.depends ≡ w.depends → v.conflicts ≡ w.conflicts
    → v.breaks ≡ w.breaks → v.provides ≡ w.provides → v.is_essential ≡ w.is_essential → v ≡ w
same_values v w a b c d e f g h i j k =
    let same : ◌≡◌ {A = Values} (record { name = v.name; status = v.status; architecture = v.architecture; version = v.version; config_version = v.config_version; pre_depends = v.pre_depends; depends = v.depends; conflicts = v.conflicts; breaks = v.breaks; provides = v.provides; is_essential = v.is_essential }) w = rw (a, b, c, d, e, f, g, h, i, j, k) refl in same

text-called : (name : List ℕ) (fields : List FieldText) → text_in (field_named name fields) ≡ value_called name (map field_of fields)
text-called name [] = refl
text-called name (field ∷ fields) = elim (cases_Bool (same_name field.name name)) [
  | inl called ↦ rw called refl
  | inr other ↦ rw other (text-called name fields)
]

value-called : (name : List ℕ) (fields : List FieldText) → value_named name fields ≡ value_called name (map field_of fields)
value-called name [] = refl
value-called name (field ∷ fields) = elim (cases_Bool (same_name field.name name)) [
  | inl called ↦ rw called refl
  | inr other ↦ rw other (value-called name fields)
]

essential-among : (fields : List FieldText) → is_essential fields ≡ passes_some (filter marks_essential (map field_of fields))
essential-among [] = refl
essential-among (field ∷ fields) = elim (cases_Bool (marks_essential (field_of field))) [
  | inl marked ↦ rw marked refl
  | inr other ↦ rw other (essential-among fields)
]

-- the values of a stanza are those of its fields
pub values-read : (stanza : StanzaText) → values_in stanza ≡ values_of (map field_of stanza.fields)
values-read stanza = same_values (values_in stanza) (values_of (map field_of stanza.fields))
    (text-called (codes "Package") stanza.fields) (text-called (codes "Status") stanza.fields) (value-called (codes "Architecture") stanza.fields)
    (text-called (codes "Version") stanza.fields) (text-called (codes "Config-Version") stanza.fields) (text-called (codes "Pre-Depends") stanza.fields)
    (text-called (codes "Depends") stanza.fields) (text-called (codes "Conflicts") stanza.fields) (text-called (codes "Breaks") stanza.fields)
    (text-called (codes "Provides") stanza.fields) (essential-among stanza.fields)

-- the value of Config-Version that is written, where there is a version
abbrev pub behind_version : Option (List ℕ) → Option (List ℕ) → Option (List ℕ)
behind_version None config_version = None
behind_version (Some version) config_version = config_version

-- the values of a stanza that an action writes
abbrev pub written_values : List ℕ → Option (List ℕ) → Values → Values
written_values status config_version values = record {
  name = values.name;
  status = Some status;
  architecture = values.architecture;
  version = values.version;
  config_version = behind_version values.version config_version;
  pre_depends = values.pre_depends;
  depends = values.depends;
  conflicts = values.conflicts;
  breaks = values.breaks;
  provides = values.provides;
  is_essential = values.is_essential;
}

-- the value Config-Version behind a field
config-part : (is_version : Bool) (config_version : Option (List ℕ)) (field : Field) (rest versions : List Field)
    → first_value (fields_called (codes "Config-Version") rest) ≡ behind_version (first_value versions) config_version
    → (config_version ≡ None → first_value (fields_called (codes "Config-Version") rest) ≡ None)
    → first_value (fields_called (codes "Config-Version") (filter (λ _. is_version) (config_fields config_version) ++ rest))
    ≡ behind_version (first_value (cond is_version (field ∷ versions) versions)) config_version
config-part true None field rest versions later none = none refl
config-part true (Some version) field rest versions later none = refl
config-part false None field rest versions later none = later
config-part false (Some version) field rest versions later none = later

-- the value Config-Version of the parts that are written on
config-parts : (config_version : Option (List ℕ)) (fields : List Field)
    → first_value (fields_called (codes "Config-Version") (flat_map (with_config_version config_version) (filter is_kept fields)))
    ≡ behind_version (value_called (codes "Version") fields) config_version
config-parts config_version [] = refl
config-parts config_version (field ∷ fields) = elim (cases_Bool (is_kept field)) [
  | inr lost ↦ rw (lost, fails_first (is_called (codes "Version") field) (is_kept field) (version_kept field) lost) (config-parts config_version fields)
  | inl kept ↦ rw (kept, no_config field kept)
      (config-part (is_called (codes "Version") field) config_version field
      (flat_map (with_config_version config_version) (filter is_kept fields)) (fields_called (codes "Version") fields)
      (config-parts config_version fields) (λ absent. none config_version fields absent))
]
  where
    version_kept : (field : Field) → is_called (codes "Version") field ≡ true → is_kept field ≡ true
    version_kept field called = ap not (apart (codes "Version") written_anew field called refl)

    third : (a b c : Bool) → not (a || (b || (c || false))) ≡ true → c ≡ false
    third a b false h = refl
    third true b true h = absurd (true≢false (sym h))
    third false true true h = absurd (true≢false (sym h))
    third false false true h = absurd (true≢false (sym h))

    no_config : (field : Field) → is_kept field ≡ true → is_called (codes "Config-Version") field ≡ false
    no_config field kept = third (is_called (codes "Package") field) (is_called (codes "Status") field) (is_called (codes "Config-Version") field) kept

    nothing : (version : Bool) (field : Field) → is_kept field ≡ true → fields_called (codes "Config-Version") (field ∷ filter (λ _. version) []) ≡ []
    nothing version field kept = rw (no_config field kept) refl

    none : (config_version : Option (List ℕ)) (fields : List Field) → config_version ≡ None
        → first_value (fields_called (codes "Config-Version") (flat_map (with_config_version config_version) (filter is_kept fields))) ≡ None
    none config_version fields absent = rw absent
        (ap first_value (none_in_parts (is_called (codes "Config-Version")) is_kept (with_config_version None) (λ field kept. nothing (is_called (codes "Version") field) field kept) fields))

status_alone : (entry : Record) (config_version : Option (List ℕ)) (fields : List Field)
    → value_called (codes "Status") (touched_fields (status_of entry) config_version fields) ≡ Some (status_of entry).value
status_alone entry config_version fields = ap first_value
    (filter-append (is_called (codes "Status")) (fields_called (codes "Package") fields) (status_of entry ∷ flat_map (with_config_version config_version) (filter is_kept fields))
    ∙ ap (λ front. front ++ fields_called (codes "Status") (status_of entry ∷ flat_map (with_config_version config_version) (filter is_kept fields)))
    (none_of_both (is_called (codes "Status")) (is_called (codes "Package")) (λ field called. other_name (codes "Package") (codes "Status") field called refl) fields))

config_alone : (entry : Record) (config_version : Option (List ℕ)) (fields : List Field)
    → value_called (codes "Config-Version") (touched_fields (status_of entry) config_version fields) ≡ behind_version (value_called (codes "Version") fields) config_version
config_alone entry config_version fields = ap first_value
    (filter-append (is_called (codes "Config-Version")) (fields_called (codes "Package") fields) (status_of entry ∷ flat_map (with_config_version config_version) (filter is_kept fields))
    ∙ ap (λ front. front ++ fields_called (codes "Config-Version") (flat_map (with_config_version config_version) (filter is_kept fields)))
    (none_of_both (is_called (codes "Config-Version")) (is_called (codes "Package")) (λ field called. other_name (codes "Package") (codes "Config-Version") field called refl) fields))
    ∙ config-parts config_version fields

-- the names of the fields that no action writes or leaves out
passes_architecture : Passes (is_called (codes "Architecture"))
passes_architecture = passes_called (codes "Architecture") refl refl refl refl refl refl

passes_version : Passes (is_called (codes "Version"))
passes_version = passes_called (codes "Version") refl refl refl refl refl refl

passes_pre_depends : Passes (is_called (codes "Pre-Depends"))
passes_pre_depends = passes_called (codes "Pre-Depends") refl refl refl refl refl refl

passes_depends : Passes (is_called (codes "Depends"))
passes_depends = passes_called (codes "Depends") refl refl refl refl refl refl

passes_conflicts : Passes (is_called (codes "Conflicts"))
passes_conflicts = passes_called (codes "Conflicts") refl refl refl refl refl refl

passes_breaks : Passes (is_called (codes "Breaks"))
passes_breaks = passes_called (codes "Breaks") refl refl refl refl refl refl

passes_provides : Passes (is_called (codes "Provides"))
passes_provides = passes_called (codes "Provides") refl refl refl refl refl refl

-- the values of a touched stanza
pub values-touched : (entry : Record) (config_version : Option (List ℕ)) (fields : List Field)
    → values_of (touched_fields (status_of entry) config_version fields) ≡ written_values (status_of entry).value config_version (values_of fields)
values-touched entry config_version fields = same_values (values_of (touched_fields (status_of entry) config_version fields)) (written_values (status_of entry).value config_version (values_of fields))
    (ap first_value (touched-package entry config_version fields)) (status_alone entry config_version fields) (kept (codes "Architecture") passes_architecture)
    (kept (codes "Version") passes_version) (config_alone entry config_version fields) (kept (codes "Pre-Depends") passes_pre_depends)
    (kept (codes "Depends") passes_depends) (kept (codes "Conflicts") passes_conflicts) (kept (codes "Breaks") passes_breaks) (kept (codes "Provides") passes_provides)
    (ap passes_some (touched_passes marks_essential passes_essential entry config_version fields))
  where
    kept : (name : List ℕ) → Passes (is_called name) → value_called name (touched_fields (status_of entry) config_version fields) ≡ value_called name fields
    kept name passes = ap first_value (touched_passes (is_called name) passes entry config_version fields)

-- a name that no field Conffiles has is called in front of them
in_front : (name : List ℕ) → ((field : Field) → is_called (codes "Conffiles") field ≡ true → is_called name field ≡ false) → (fields old_fields : List Field)
    → value_called name (fields ++ fields_called (codes "Conffiles") old_fields) ≡ value_called name fields
in_front name other fields old_fields = ap first_value
    (filter-append (is_called name) fields (fields_called (codes "Conffiles") old_fields)
    ∙ ap (λ rest. fields_called name fields ++ rest) (none_of_both (is_called name) (is_called (codes "Conffiles")) other old_fields)
    ∙ append-nil (fields_called name fields))

-- the values of an unpacked stanza
pub values-unpacked : (entry : Record) (config_version : Option (List ℕ)) (index_fields old_fields : List Field)
    → values_of (unpacked_fields (status_of entry) config_version index_fields old_fields) ≡ written_values (status_of entry).value config_version (values_of index_fields)
values-unpacked entry config_version index_fields old_fields = same_values (values_of (unpacked_fields (status_of entry) config_version index_fields old_fields)) (written_values (status_of entry).value config_version (values_of index_fields))
    (in_front (codes "Package") (λ field called. other_name (codes "Conffiles") (codes "Package") field called refl) (touched_fields (status_of entry) config_version common) old_fields
    ∙ ap first_value (touched-package entry config_version common
    ∙ filter_within (is_called (codes "Package")) is_common (λ field called. ap not (apart (codes "Package") index_only field called refl)) index_fields))
    (in_front (codes "Status") (λ field called. other_name (codes "Conffiles") (codes "Status") field called refl) (touched_fields (status_of entry) config_version common) old_fields
    ∙ status_alone entry config_version common)
    (kept (codes "Architecture") passes_architecture)
    (kept (codes "Version") passes_version)
    (in_front (codes "Config-Version") (λ field called. other_name (codes "Conffiles") (codes "Config-Version") field called refl) (touched_fields (status_of entry) config_version common) old_fields
    ∙ config_alone entry config_version common
    ∙ ap (λ (version : Option (List ℕ)). behind_version version config_version)
    (ap first_value (filter_within (is_called (codes "Version")) is_common passes_version.common index_fields)))
    (kept (codes "Pre-Depends") passes_pre_depends)
    (kept (codes "Depends") passes_depends) (kept (codes "Conflicts") passes_conflicts) (kept (codes "Breaks") passes_breaks) (kept (codes "Provides") passes_provides)
    (ap passes_some (unpacked_passes marks_essential passes_essential entry config_version index_fields old_fields))
  where
    common : List Field
    common = fields_without index_only index_fields

    kept : (name : List ℕ) → Passes (is_called name) → value_called name (unpacked_fields (status_of entry) config_version index_fields old_fields) ≡ value_called name index_fields
    kept name passes = ap first_value (unpacked_passes (is_called name) passes entry config_version index_fields old_fields)
