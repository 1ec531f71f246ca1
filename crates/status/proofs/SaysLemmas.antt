-- When the values of a stanza say a record, and how the refusals of its fields follow from their values.
use Rattle.std.proofs.Common.{◌≡◌, ℕ, Bool, true, false, true≢false, not, List, [], Option, None, Some, refl, sym, is_some, unwrap_or, if◌then◌else◌}
use Rattle.std.specs.Option.{option_and_then, option_map, option_or}
use Rattle.relation.specs.PackageStanza.{counts_for}
use Rattle.relation.specs.PkgFields.{fields_of}
use Rattle.relation.specs.PkgText.{name_fault_in, on_line, relation_fault_in, relations_fault, relations_of, value_in, version_fault, version_fault_in}
use Rattle.relation.specs.declared.error.PkgFault.{PkgFault}
use Rattle.relation.specs.declared.error.PkgFault.TheVariants.{BadVersion}
use Rattle.relation_text.specs.Refusal.{fault_of}
use Rattle.relation_text.specs.Spelling.{atoms_between, clauses_of, provided_items_of}
use Rattle.relation_text.specs.declared.cut.Separator.TheVariants.{Comma}
use Rattle.relation_text.specs.declared.shape.RelationForm.{RelationForm}
use Rattle.relation_text.specs.declared.shape.RelationForm.TheVariants.{Clauses, Atoms, Provides}
use Rattle.rules.specs.Database.{Record}
use Rattle.rules.specs.Name.{is_name}
use Rattle.rules.specs.Package.{Relations}
use Rattle.rules.specs.State.{is_present_state}
use Rattle.rules.specs.Step.{no_relations}
use Rattle.rules.specs.VersionFault.{first_fault}
use Rattle.rules.specs.declared.status.State.{State}
use Rattle.stanza.specs.Field.{FieldText}
use Rattle.stanza.specs.Stanza.{StanzaText}
use Rattle.status.proofs.ValueLemmas.{Values, values_in}
use Rattle.status_text.specs.Record.{config_version_at, text_in}
use Rattle.status_text.specs.Words.{read_words}

-- a value of Architecture counts for a package in this state
abbrev pub counts_value : List ℕ → State → Option (List ℕ) → Bool
counts_value arch state None = not (is_present_state state)
counts_value arch state (Some value) = counts_for arch value

-- the relations of these values
abbrev pub relations_in : List ℕ → Values → Relations
relations_in arch values = record {
  pre_depends = clauses_of arch (unwrap_or values.pre_depends []);
  depends = clauses_of arch (unwrap_or values.depends []);
  conflicts = atoms_between Comma arch (unwrap_or values.conflicts []);
  breaks = atoms_between Comma arch (unwrap_or values.breaks []);
  provides = provided_items_of arch (unwrap_or values.provides []);
}

-- no relation field is refused
pub record AreSound (values : Values) : Type 0 where
  pub pre_depends : option_and_then (fault_of Clauses) values.pre_depends ≡ None
  pub depends : option_and_then (fault_of Clauses) values.depends ≡ None
  pub conflicts : option_and_then (fault_of Atoms) values.conflicts ≡ None
  pub breaks : option_and_then (fault_of Atoms) values.breaks ≡ None
  pub provides : option_and_then (fault_of Provides) values.provides ≡ None

-- the values say the record
pub record Says (arch : List ℕ) (values : Values) (entry : Record) : Type 0 where
  pub name : values.name ≡ Some entry.name
  pub valid : is_name entry.name ≡ true
  pub status : option_and_then read_words values.status ≡ Some (record { want = entry.want; flag = entry.flag; state = entry.state })
  pub counted : counts_value arch entry.state values.architecture ≡ true
  pub version : unwrap_or values.version [] ≡ entry.version
  pub there : is_present_state entry.state ≡ true → is_some values.version ≡ true
  pub version_sound : option_and_then first_fault values.version ≡ None
  pub config_sound : option_and_then first_fault values.config_version ≡ None
  pub config_version : config_version_at entry.state values.version values.config_version ≡ entry.config_version
  pub relations_sound : is_present_state entry.state ≡ true → AreSound values
  pub relations : (if is_present_state entry.state then relations_in arch values else no_relations) ≡ entry.relations
  pub essential : values.is_essential ≡ entry.is_essential

pub none-front : {K : Type 0} (first second : Option K) → option_or first second ≡ None → first ≡ None
none-front None second h = refl
none-front (Some refused) second h = h

pub none-back : {K : Type 0} (first second : Option K) → option_or first second ≡ None → second ≡ None
none-back None second h = h
none-back (Some refused) second h = absurd (let e = h in cc)

pub none-both : {K : Type 0} (first second : Option K) → first ≡ None → second ≡ None → option_or first second ≡ None
none-both first second e f = rw (e, f) refl

map-none : {K L : Type 0} (g : K → L) (o : Option K) → option_map g o ≡ None → o ≡ None
map-none g None h = refl
map-none g (Some x) h = absurd (let e = h in cc)

none-map : {K L : Type 0} (g : K → L) (o : Option K) → o ≡ None → option_map g o ≡ None
none-map g o e = rw e refl

-- a version is refused by its value
pub sound-version : (field : Option FieldText) → option_and_then version_fault field ≡ None → option_and_then first_fault (text_in field) ≡ None
sound-version None h = refl
sound-version (Some field) h = map-none (λ kind. BadVersion field.line kind) (first_fault field.value) h

pub version-sound : (field : Option FieldText) → option_and_then first_fault (text_in field) ≡ None → option_and_then version_fault field ≡ None
version-sound None h = refl
version-sound (Some field) h = none-map (λ kind. BadVersion field.line kind) (first_fault field.value) h

-- a relation field is refused by its value
sound-relation : (form : RelationForm) (field : Option FieldText) → relation_fault_in form field ≡ None → option_and_then (fault_of form) (text_in field) ≡ None
sound-relation form None h = refl
sound-relation form (Some field) h = map-none (on_line field.line) (fault_of form field.value) h

relation-sound : (form : RelationForm) (field : Option FieldText) → option_and_then (fault_of form) (text_in field) ≡ None → relation_fault_in form field ≡ None
relation-sound form None h = refl
relation-sound form (Some field) h = none-map (on_line field.line) (fault_of form field.value) h

-- a name is refused by its value
pub sound-name : (line : ℕ) (field : Option FieldText) → name_fault_in line field ≡ None → (text_in field ≡ Some (value_in field)) × (is_name (value_in field) ≡ true)
sound-name line None h = absurd (let e = h in cc)
sound-name line (Some field) h = (refl, by (is_name field.value) _ h)
  where
    by : (b : Bool) (refused : PkgFault) → (if b then None else Some refused) ≡ None → b ≡ true
    by true refused h = refl
    by false refused h = absurd (let e = h in cc)

pub name-sound : (line : ℕ) (field : Option FieldText) (name : List ℕ) → text_in field ≡ Some name → is_name name ≡ true → name_fault_in line field ≡ None
name-sound line None name h valid = absurd (let e = h in cc)
name-sound line (Some field) name h valid = let same : field.value ≡ name = cc in rw (same, valid) refl

pub value-text : (field : Option FieldText) (value : List ℕ) → text_in field ≡ Some value → value_in field ≡ value
value-text None value h = absurd (let e = h in cc)
value-text (Some field) value h = cc

pub text-value : (field : Option FieldText) → value_in field ≡ unwrap_or (text_in field) []
text-value None = refl
text-value (Some field) = refl

-- the version of a package in a state
pub sound-there : (present : Bool) (line : ℕ) (field : Option FieldText) → (if present then version_fault_in line field else option_and_then version_fault field) ≡ None
    → (present ≡ true → is_some (text_in field) ≡ true) × (option_and_then first_fault (text_in field) ≡ None)
sound-there true line None h = absurd (let e = h in cc)
sound-there true line (Some field) h = ((λ _. refl), sound-version (Some field) h)
sound-there false line field h = ((λ present. absurd (true≢false (sym present))), sound-version field h)

pub there-sound : (present : Bool) (line : ℕ) (field : Option FieldText) → (present ≡ true → is_some (text_in field) ≡ true)
    → option_and_then first_fault (text_in field) ≡ None → (if present then version_fault_in line field else option_and_then version_fault field) ≡ None
there-sound true line None there h = absurd (true≢false (sym (there refl)))
there-sound true line (Some field) there h = version-sound (Some field) h
there-sound false line field there h = version-sound field h

-- the relation fields of a stanza
pub sound-relations : (stanza : StanzaText) → relations_fault (fields_of stanza) ≡ None → AreSound (values_in stanza)
unfolding relations_fault
sound-relations stanza h =
    let fields = fields_of stanza in
    let a = relation_fault_in Clauses fields.pre_depends in
    let b = relation_fault_in Clauses fields.depends in
    let c = relation_fault_in Atoms fields.conflicts in
    let d = relation_fault_in Atoms fields.breaks in
    let e = relation_fault_in Provides fields.provides in
    let second = none-back a (option_or b (option_or c (option_or d e))) h in
    let third = none-back b (option_or c (option_or d e)) second in
    let fourth = none-back c (option_or d e) third in
    record {
      pre_depends = sound-relation Clauses fields.pre_depends (none-front a (option_or b (option_or c (option_or d e))) h);
      depends = sound-relation Clauses fields.depends (none-front b (option_or c (option_or d e)) second);
      conflicts = sound-relation Atoms fields.conflicts (none-front c (option_or d e) third);
      breaks = sound-relation Atoms fields.breaks (none-front d e fourth);
      provides = sound-relation Provides fields.provides (none-back d e fourth);
    }

pub relations-sound : (stanza : StanzaText) → AreSound (values_in stanza) → relations_fault (fields_of stanza) ≡ None
unfolding relations_fault
relations-sound stanza sound =
    let fields = fields_of stanza in
    none-both _ _ (relation-sound Clauses fields.pre_depends sound.pre_depends)
    (none-both _ _ (relation-sound Clauses fields.depends sound.depends)
    (none-both _ _ (relation-sound Atoms fields.conflicts sound.conflicts)
    (none-both _ _ (relation-sound Atoms fields.breaks sound.breaks) (relation-sound Provides fields.provides sound.provides))))

pub relations-same : (arch : List ℕ) (stanza : StanzaText) → relations_in arch (values_in stanza) ≡ relations_of arch (fields_of stanza)
relations-same arch stanza =
    let fields = fields_of stanza in
    rw (text-value fields.pre_depends, text-value fields.depends, text-value fields.conflicts, text-value fields.breaks, text-value fields.provides) refl
