-- What is written of a record that was read, touched or unpacked says that record.
use Rattle.std.proofs.Common.{◌≡◌, ℕ, Bool, true, false, true≢false, not, ◌||◌, List, [], ◌∷◌, map, Option, None, Some, Result, Ok, refl, sym, ap, ◌∙◌, subst, is_some, unwrap_or, codes, if◌then◌else◌}
use Rattle.std.specs.Option.{option_and_then, option_or}
use Rattle.index.specs.Index.{indexed_at, indexed_with, read_entry, read_indexed, read_native, unless_name_fault}
use Rattle.relation.specs.PackageStanza.{counts_for, field_of, read_stanza}
use Rattle.index.specs.declared.error.IndexFault.{IndexFault}
use Rattle.relation.specs.PkgFields.{fields_of}
use Rattle.relation.specs.PkgText.{pkg_fault, pkg_name_fault, pkg_of, pkg_version_fault, relations_fault, unless_fault}
use Rattle.relation.specs.declared.error.PkgFault.{PkgFault}
use Rattle.rules.specs.Database.{Record}
use Rattle.rules.specs.FileRecord.{FileRecord, IndexStanza, status_of, touched_entry, written_config_version}
use Rattle.rules.specs.Package.{Pkg, Relations}
use Rattle.rules.specs.Stanza.{Field, Stanza, lasting_fields, unpacked_fields}
use Rattle.rules.specs.State.{has_configured_version, is_installed_state, is_present_state, is_unconfigured_state}
use Rattle.rules.specs.Step.{configured, deconfigured, kept_config_version, last_configured, no_relations, removed, unpacked_with}
use Rattle.rules.specs.VersionFault.{first_fault}
use Rattle.rules.specs.declared.index_place.IndexPlace.{IndexPlace}
use Rattle.rules.specs.declared.status.State.{State}
use Rattle.rules.specs.declared.status.State.TheVariants.{NotInstalled, ConfigFiles, HalfInstalled, Unpacked, HalfConfigured, TriggersAwaited, TriggersPending, Installed}
use Rattle.stanza.specs.Field.{FieldText, value_named}
use Rattle.stanza.specs.Stanza.{StanzaText}
use Rattle.status.proofs.SaysLemmas.{AreSound, Says, counts_value, none-back, none-front, relations-same, relations_in, sound-name, sound-relations, sound-there, text-value}
use Rattle.status.proofs.ReadLemmas.{read_says, says_read}
use Rattle.status.proofs.ValueLemmas.{Values, behind_version, values-read, values-touched, values-unpacked, values_in, values_of, written_values}
use Rattle.status.proofs.TriggerLemmas.{values-lasting}
use Rattle.status.proofs.WordRows.{words-read}
use Rattle.status.specs.ReadBack.{ReadReadsBack, ReadsBack, TouchedReadsBack, UnpackedReadsBack}
use Rattle.status_text.specs.Record.{config_version_at}

-- the config version of any state is a version, where the fields have versions
sound-config : (state : State) (version config_version : Option (List ℕ)) → option_and_then first_fault version ≡ None → option_and_then first_fault config_version ≡ None
    → option_and_then first_fault (config_version_at state version config_version) ≡ None
sound-config NotInstalled version config_version v c = refl
sound-config ConfigFiles version config_version v c = c
sound-config HalfInstalled version config_version v c = c
sound-config Unpacked version config_version v c = c
sound-config HalfConfigured version config_version v c = c
sound-config TriggersAwaited version config_version v c = v
sound-config TriggersPending version config_version v c = v
sound-config Installed version config_version v c = v

some-value : (value : Option (List ℕ)) (text : List ℕ) → is_some value ≡ true → unwrap_or value [] ≡ text → value ≡ Some text
some-value None text there same = absurd (true≢false (sym there))
some-value (Some value) text there same = ap Some same

behind-some : (value : Option (List ℕ)) (config_version : Option (List ℕ)) → is_some value ≡ true → behind_version value config_version ≡ config_version
behind-some None config_version there = absurd (true≢false (sym there))
behind-some (Some value) config_version there = refl

counts-later : (arch : List ℕ) (state next : State) (value : Option (List ℕ)) → is_present_state state ≡ true → counts_value arch state value ≡ true → counts_value arch next value ≡ true
counts-later arch state next None present counted = absurd (true≢false (sym (sym (ap not present) ∙ counted)))
counts-later arch state next (Some value) present counted = counted

relations-later : (present old_present : Bool) (spelled relations : Relations) → old_present ≡ true → (if old_present then spelled else no_relations) ≡ relations
    → (if present then spelled else no_relations) ≡ (if present then relations else no_relations)
relations-later present true spelled relations there same = ap (λ (of : Relations). if present then of else no_relations) same
relations-later present false spelled relations there same = absurd (true≢false (sym there))

sound-written : (status : List ℕ) (config_version : Option (List ℕ)) (values : Values) → AreSound values → AreSound (written_values status config_version values)
sound-written status config_version values sound = record {
  pre_depends = sound.pre_depends;
  depends = sound.depends;
  conflicts = sound.conflicts;
  breaks = sound.breaks;
  provides = sound.provides;
}

-- what an action makes of a present record
record Follows (old next : Record) : Type 0 where
  name : next.name ≡ old.name
  version : next.version ≡ old.version
  essential : next.is_essential ≡ old.is_essential
  relations : (if is_present_state next.state then old.relations else no_relations) ≡ next.relations
  config_version : config_version_at next.state (Some old.version) (written_config_version next.state next.config_version) ≡ next.config_version
  sound : option_and_then first_fault (written_config_version next.state next.config_version) ≡ None

says-later : (arch : List ℕ) (values : Values) (old next : Record) → is_present_state old.state ≡ true → Says arch values old → Follows old next
    → Says arch (written_values (status_of next).value (written_config_version next.state next.config_version) values) next
says-later arch values old next present says follows =
    let there = says.there present in
    let version = some-value values.version old.version there says.version in
    let behind = behind-some values.version (written_config_version next.state next.config_version) there in
    record {
      name = says.name ∙ ap Some (sym follows.name);
      valid = ap Rattle.rules.specs.Name.is_name follows.name ∙ says.valid;
      status = words-read next.want next.flag next.state;
      counted = counts-later arch old.state next.state values.architecture present says.counted;
      version = says.version ∙ sym follows.version;
      there = λ _. there;
      version_sound = says.version_sound;
      config_sound = ap (option_and_then first_fault) behind ∙ follows.sound;
      config_version = ap (λ (configured : Option (List ℕ)). config_version_at next.state values.version configured) behind
          ∙ ap (λ (of : Option (List ℕ)). config_version_at next.state of (written_config_version next.state next.config_version)) version
          ∙ follows.config_version;
      relations_sound = λ _. sound-written (status_of next).value (written_config_version next.state next.config_version) values (says.relations_sound present);
      relations = relations-later (is_present_state next.state) (is_present_state old.state) (relations_in arch values) old.relations present says.relations ∙ follows.relations;
      essential = says.essential ∙ sym follows.essential;
    }

-- a version that was read, and the config version of a record, are versions
version-read : (arch : List ℕ) (values : Values) (old : Record) → is_present_state old.state ≡ true → Says arch values old → option_and_then first_fault (Some old.version) ≡ None
version-read arch values old present says = ap (option_and_then first_fault) (sym (some-value values.version old.version (says.there present) says.version)) ∙ says.version_sound

config-read : (arch : List ℕ) (values : Values) (old : Record) → Says arch values old → option_and_then first_fault old.config_version ≡ None
config-read arch values old says = ap (option_and_then first_fault) (sym says.config_version) ∙ sound-config old.state values.version values.config_version says.version_sound says.config_sound

last-sound : (installed : Bool) (version config_version : Option (List ℕ)) → option_and_then first_fault version ≡ None → option_and_then first_fault config_version ≡ None
    → option_and_then first_fault (if installed then version else config_version) ≡ None
last-sound true version config_version v c = v
last-sound false version config_version v c = c

last-read : (arch : List ℕ) (values : Values) (old : Record) → is_present_state old.state ≡ true → Says arch values old → option_and_then first_fault (last_configured old) ≡ None
last-read arch values old present says = last-sound (has_configured_version old.state) (Some old.version) old.config_version (version-read arch values old present says) (config-read arch values old says)

follows_deconfigured : (arch : List ℕ) (values : Values) (old : Record) → is_present_state old.state ≡ true → Says arch values old → Follows old (deconfigured old)
follows_deconfigured arch values old present says =
    record { name = refl; version = refl; essential = refl; relations = refl; config_version = refl; sound = version-read arch values old present says }

follows_configured : (old : Record) → Follows old (configured old)
follows_configured old = record { name = refl; version = refl; essential = refl; relations = refl; config_version = refl; sound = refl }

follows_removed : (arch : List ℕ) (values : Values) (old : Record) → is_present_state old.state ≡ true → Says arch values old → Follows old (removed old)
follows_removed arch values old present says =
    record { name = refl; version = refl; essential = refl; relations = refl; config_version = refl; sound = last-read arch values old present says }

-- an entry whose fields say its record
abbrev IsSaid : List ℕ → FileRecord → Type 0
IsSaid arch entry = Says arch (values_of entry.stanza.fields) entry.status

said_back : (arch : List ℕ) (entry : FileRecord) → IsSaid arch entry → ReadsBack arch entry
said_back arch entry said stanza seen same new =
    says_read arch seen stanza entry.status
    (subst (λ (values : Values). Says arch values entry.status) (ap values_of (sym same) ∙ sym (values-read stanza)) said) new

-- fields with a line
with_line : Field → FieldText
with_line field = record { name = field.name; value = field.value; line = 0 }

without-line : (fields : List Field) → map field_of (map with_line fields) ≡ fields
unfolding with_line
without-line [] = refl
without-line (field ∷ fields) = ap (λ rest. field ∷ rest) (without-line fields)

back_said : (arch : List ℕ) (entry : FileRecord) → ReadsBack arch entry → IsSaid arch entry
back_said arch entry back =
    let stanza : StanzaText = record { line = 0; raw = []; fields = map with_line entry.stanza.fields } in
    let same = without-line entry.stanza.fields in
    subst (λ (values : Values). Says arch values entry.status) (values-read stanza ∙ ap values_of same)
    (read_says arch [] stanza (record { status = entry.status; stanza = read_stanza stanza }) (back stanza [] same refl)).0

pub read_reads_back : ReadReadsBack
read_reads_back arch seen stanza entry read =
    let says = read_says arch seen stanza entry read in
    said_back arch entry (subst (λ (values : Values). Says arch values entry.status)
    (values-read stanza ∙ ap (λ (of : Stanza). values_of of.fields) says.1) says.0)

touched_said : (arch : List ℕ) (entry : FileRecord) (next : Record) → is_present_state entry.status.state ≡ true → IsSaid arch entry → Follows entry.status next
    → ReadsBack arch (touched_entry (λ _. next) entry)
touched_said arch entry next present said follows =
    said_back arch (touched_entry (λ _. next) entry)
    (subst (λ (values : Values). Says arch values next)
    (sym (values-touched next (written_config_version next.state next.config_version) (lasting_fields entry.status.state entry.stanza.fields)
    ∙ ap (written_values (status_of next).value (written_config_version next.state next.config_version)) (values-lasting entry.status.state entry.stanza.fields)))
    (says-later arch (values_of entry.stanza.fields) entry.status next present said follows))

pub touched_reads_back : TouchedReadsBack
touched_reads_back arch entry present back =
    let said = back_said arch entry back in
    let values = values_of entry.stanza.fields in (
      touched_said arch entry (deconfigured entry.status) present said (follows_deconfigured arch values entry.status present said),
      touched_said arch entry (configured entry.status) present said (follows_configured entry.status),
      touched_said arch entry (removed entry.status) present said (follows_removed arch values entry.status present said),
    )

-- the steps of reading a stanza of an index
name-read : (refused : Option PkgFault) (later : Result (Option IndexStanza) IndexFault) (indexed : IndexStanza) → unless_name_fault refused later ≡ Ok (Some indexed)
    → later ≡ Ok (Some indexed)
name-read None later indexed h = h
name-read (Some refused) later indexed h = absurd (let e = h in cc)

native-some : (counted : Bool) (read : Result (Option IndexStanza) IndexFault) (indexed : IndexStanza) → (if counted then read else Ok None) ≡ Ok (Some indexed)
    → (counted ≡ true) × (read ≡ Ok (Some indexed))
native-some true read indexed h = (refl, h)
native-some false read indexed h = absurd (let e : ◌≡◌ {A = Result (Option IndexStanza) IndexFault} (Ok None) (Ok (Some indexed)) = h in cc)

native-read : (arch : List ℕ) (place : IndexPlace) (stanza : StanzaText) (state : State) (value : Option (List ℕ)) (indexed : IndexStanza) → read_native arch place stanza value ≡ Ok (Some indexed)
    → (counts_value arch state value ≡ true) × (read_indexed arch place stanza ≡ Ok (Some indexed))
native-read arch place stanza state None indexed h = absurd (let e = h in cc)
native-read arch place stanza state (Some value) indexed h = native-some (counts_for arch value) (read_indexed arch place stanza) indexed h

indexed-read : (place : IndexPlace) (stanza : StanzaText) (refused : Option PkgFault) (pkg : Pkg) (indexed : IndexStanza) → indexed_with place stanza (unless_fault refused pkg) ≡ Ok (Some indexed)
    → (refused ≡ None) × (indexed_at place stanza pkg ≡ indexed)
indexed-read place stanza None pkg indexed h = (refl, let e : ◌≡◌ {A = Result (Option IndexStanza) IndexFault} (Ok (Some (indexed_at place stanza pkg))) (Ok (Some indexed)) = h in cc)
indexed-read place stanza (Some refused) pkg indexed h = absurd (let e = h in cc)

-- a package of an index says its record once it is unpacked, with this config version
says-unpacked : (arch : List ℕ) (place : IndexPlace) (stanza : StanzaText) (config_version : Option (List ℕ)) → option_and_then first_fault config_version ≡ None
    → pkg_fault (fields_of stanza) ≡ None → counts_value arch Unpacked (value_named (codes "Architecture") stanza.fields) ≡ true
    → Says arch (written_values (status_of (unpacked_with (indexed_at place stanza (pkg_of arch (fields_of stanza))).listed config_version)).value config_version (values_in stanza))
    (unpacked_with (indexed_at place stanza (pkg_of arch (fields_of stanza))).listed config_version)
says-unpacked arch place stanza config_version sound faultless counted =
    let fields = fields_of stanza in
    let later = option_or (pkg_version_fault fields) (relations_fault fields) in
    let name = sound-name fields.line fields.name (none-front (pkg_name_fault fields) later faultless) in
    let rest = none-back (pkg_name_fault fields) later faultless in
    let version = sound-there true fields.line fields.version (none-front (pkg_version_fault fields) (relations_fault fields) rest) in
    let entry = unpacked_with (indexed_at place stanza (pkg_of arch fields)).listed config_version in
    let behind = behind-some (values_in stanza).version config_version (version.0 refl) in
    record {
      name = name.0;
      valid = name.1;
      status = words-read entry.want entry.flag entry.state;
      counted = counted;
      version = sym (text-value fields.version);
      there = λ _. version.0 refl;
      version_sound = version.1;
      config_sound = ap (option_and_then first_fault) behind ∙ sound;
      config_version = behind;
      relations_sound = λ _. sound-written (status_of entry).value config_version (values_in stanza)
          (sound-relations stanza (none-back (pkg_version_fault fields) (relations_fault fields) rest));
      relations = relations-same arch stanza;
      essential = refl;
    }

-- the entry of a package of an index unpacked in front of these fields, with this config version
abbrev entry_over : IndexStanza → Option (List ℕ) → List Field → FileRecord
entry_over indexed config_version old_fields = record {
  status = unpacked_with indexed.listed config_version;
  stanza = record { fields = unpacked_fields (status_of (unpacked_with indexed.listed config_version)) config_version indexed.fields old_fields; bytes = None };
}

unpacked_said : (arch : List ℕ) (place : IndexPlace) (stanza : StanzaText) (indexed : IndexStanza) (config_version : Option (List ℕ)) (old_fields : List Field)
    → read_entry arch place stanza ≡ Ok (Some indexed) → option_and_then first_fault config_version ≡ None → ReadsBack arch (entry_over indexed config_version old_fields)
unpacked_said arch place stanza indexed config_version old_fields read sound =
    let fields = fields_of stanza in
    let native = native-read arch place stanza Unpacked (value_named (codes "Architecture") stanza.fields) indexed
    (name-read (pkg_name_fault fields) (read_native arch place stanza (value_named (codes "Architecture") stanza.fields)) indexed read) in
    let is = indexed-read place stanza (pkg_fault fields) (pkg_of arch fields) indexed native.1 in
    let spelled = indexed_at place stanza (pkg_of arch fields) in
    let entry = unpacked_with spelled.listed config_version in
    let said : Says arch (values_of (entry_over spelled config_version old_fields).stanza.fields) entry =
    subst (λ (values : Values). Says arch values entry)
    (ap (written_values (status_of entry).value config_version) (values-read stanza) ∙ sym (values-unpacked entry config_version (map field_of stanza.fields) old_fields))
    (says-unpacked arch place stanza config_version sound is.0 native.0) in
    subst (λ (of : IndexStanza). ReadsBack arch (entry_over of config_version old_fields)) is.1
    (said_back arch (entry_over spelled config_version old_fields) said)

kept-sound : (kept : Bool) (version : Option (List ℕ)) → (kept ≡ true → option_and_then first_fault version ≡ None) → option_and_then first_fault (if kept then version else None) ≡ None
kept-sound true version sound = sound refl
kept-sound false version sound = refl

pub unpacked_reads_back : UnpackedReadsBack
unpacked_reads_back arch place stanza indexed read = (
  unpacked_said arch place stanza indexed None [] read refl,
  λ (entry : FileRecord) (back : ReadsBack arch entry). unpacked_said arch place stanza indexed (kept_config_version entry.status) entry.stanza.fields read
      (kept-sound _ (last_configured entry.status) (λ kept. last-read arch (values_of entry.stanza.fields) entry.status (there entry.status.state kept) (back_said arch entry back))),
)
  where
    there : (state : State) → (is_unconfigured_state state || is_installed_state state) ≡ true → is_present_state state ≡ true
    there NotInstalled h = h
    there ConfigFiles h = h
    there HalfInstalled h = refl
    there Unpacked h = refl
    there HalfConfigured h = refl
    there TriggersAwaited h = refl
    there TriggersPending h = refl
    there Installed h = refl
