-- A stanza of the status file as a slot of it (dpkg(1), "Package states"; Policy 5.3 and 5.6.12): its record, if it has
-- one, and its fields and bytes. The order of the tests is this project's own.
use Rattle.std.specs.Prelude.{ℕ, Bool, true, false, List, [], Option, None, Result, Ok, Err, codes, bytes_eq, unwrap_or, if◌then◌else◌}
use Rattle.std.specs.List.{list_any}
use Rattle.std.specs.Option.{option_and_then, option_map, option_or}
use Rattle.relation.specs.PackageStanza.{is_essential, read_stanza}
use Rattle.relation.specs.PkgFields.{field_named, fields_of}
use Rattle.relation.specs.PkgText.{pkg_version_fault, relations_fault, relations_of, version_fault}
use Rattle.relation.specs.declared.error.PkgFault.{PkgFault}
use Rattle.relation.specs.declared.fields.PkgFields.{PkgFields}
use Rattle.rules.specs.Database.{Record}
use Rattle.rules.specs.FileRecord.{FileRecord}
use Rattle.rules.specs.Package.{Relations}
use Rattle.rules.specs.State.{is_present_state}
use Rattle.rules.specs.Step.{no_relations}
use Rattle.rules.specs.declared.status.State.{State}
use Rattle.rules.specs.declared.status.State.TheVariants.{NotInstalled, ConfigFiles, HalfInstalled, Unpacked, HalfConfigured, TriggersAwaited, TriggersPending, Installed}
use Rattle.stanza.specs.Field.{FieldText}
use Rattle.stanza.specs.Stanza.{StanzaText}
use Rattle.status_text.specs.Mark.{counts, name_in, read_mark, unless_fault}
use Rattle.status_text.specs.Slot.{FileSlot}
use Rattle.status_text.specs.declared.error.StatusFault.{StatusFault}
use Rattle.status_text.specs.declared.error.StatusFault.TheVariants as fault
use Rattle.status_text.specs.declared.words.Mark.{Mark}
use Rattle.status_text.specs.declared.slot.Slot.TheVariants.{Recorded, Foreign}

-- the text of a field, if there is one
abbrev pub text_in : Option FieldText → Option (List ℕ)
text_in field = option_map (λ field_text. field_text.value) field

-- the field Version of a stanza, and its field Config-Version
abbrev pub version_field : StanzaText → Option FieldText
version_field stanza = field_named (codes "Version") stanza.fields

abbrev pub config_version_field : StanzaText → Option FieldText
config_version_field stanza = field_named (codes "Config-Version") stanza.fields

-- the refusal of Version: it is required where the package is present, and is tested wherever it stands
abbrev pub version_fault_at : State → StanzaText → Option PkgFault
version_fault_at state stanza =
    if is_present_state state then pkg_version_fault (fields_of stanza)
    else option_and_then version_fault (version_field stanza)

-- the refusal of Config-Version, which is tested wherever it stands
abbrev pub config_version_fault : StanzaText → Option PkgFault
config_version_fault stanza = option_and_then version_fault (config_version_field stanza)

-- the first refusal of the relation fields, which are tested where the package is present
abbrev pub relations_fault_at : State → PkgFields → Option PkgFault
relations_fault_at state fields = if is_present_state state then relations_fault fields else None

-- the first refusal of a stanza behind its name: of Version, then Config-Version, then the relation fields
abbrev pub later_fault : State → StanzaText → Option PkgFault
later_fault state stanza =
    option_or (version_fault_at state stanza) (option_or (config_version_fault stanza) (relations_fault_at state (fields_of stanza)))

-- the version that was configured last: of an installed package, and of one in a trigger state, its version, of a
-- not-installed one none, and of any other that of the field Config-Version
abbrev pub config_version_at : State → Option (List ℕ) → Option (List ℕ) → Option (List ℕ)
config_version_at NotInstalled version configured = None
config_version_at ConfigFiles version configured = configured
config_version_at HalfInstalled version configured = configured
config_version_at Unpacked version configured = configured
config_version_at HalfConfigured version configured = configured
config_version_at TriggersAwaited version configured = version
config_version_at TriggersPending version configured = version
config_version_at Installed version configured = version

-- the relations that count: those of a present package's stanza
abbrev pub relations_at : State → List ℕ → StanzaText → Relations
relations_at state arch stanza = if is_present_state state then relations_of arch (fields_of stanza) else no_relations

-- the record of a stanza, of which Status says this
abbrev pub record_of : List ℕ → StanzaText → Mark → Record
record_of arch stanza mark = record {
  name = name_in stanza;
  state = mark.state;
  want = mark.want;
  flag = mark.flag;
  version = unwrap_or (text_in (version_field stanza)) [];
  config_version = config_version_at mark.state (text_in (version_field stanza)) (text_in (config_version_field stanza));
  relations = relations_at mark.state arch stanza;
  is_essential = is_essential stanza.fields;
}

-- the entry of a stanza, of which Status says this
abbrev pub entry_of : List ℕ → StanzaText → Mark → FileRecord
entry_of arch stanza mark = record { status = record_of arch stanza mark; stanza = read_stanza stanza }

-- one of these names is the name
abbrev pub is_seen : List (List ℕ) → List ℕ → Bool
is_seen seen name = list_any (bytes_eq name) seen

-- the slot of a stanza that counts, or its first refusal behind Architecture: the name has a record before
abbrev pub read_new : List ℕ → List (List ℕ) → StanzaText → Mark → Result FileSlot StatusFault
read_new arch seen stanza mark =
    if is_seen seen (name_in stanza) then Err (fault.DuplicatePackage (name_in stanza))
    else unless_fault (later_fault mark.state stanza) (Ok (Recorded (entry_of arch stanza mark)))

-- the slot of a stanza, which has a record if it counts
abbrev pub read_counted : List ℕ → List (List ℕ) → StanzaText → Mark → Result Bool StatusFault → Result FileSlot StatusFault
read_counted arch seen stanza mark (Err refused) = Err refused
read_counted arch seen stanza mark (Ok false) = Ok (Foreign stanza)
read_counted arch seen stanza mark (Ok true) = read_new arch seen stanza mark

-- the slot of a stanza, of which Package and Status say this
abbrev pub read_marked : List ℕ → List (List ℕ) → StanzaText → Result Mark StatusFault → Result FileSlot StatusFault
read_marked arch seen stanza (Err refused) = Err refused
read_marked arch seen stanza (Ok mark) = read_counted arch seen stanza mark (counts arch stanza mark.state)

-- the slot of a stanza that stands behind records of these names, or its first refusal: of Package, then Status,
-- then Architecture, then of a name seen before, then Version, Config-Version and the relation fields
abbrev pub read_slot : List ℕ → List (List ℕ) → StanzaText → Result FileSlot StatusFault
read_slot arch seen stanza = read_marked arch seen stanza (read_mark stanza)
