-- What an action writes: the entries of the status file, each a record with its stanza (Policy 5, dpkg(1)).
-- Which fields are kept, dropped and in what order is this project's own.
use Rattle.std.specs.Prelude.{◌≡◌, ℕ, Bool, not, List, [], ◌∷◌, ◌++◌, map, Option, None, if◌then◌else◌}
use Rattle.std.specs.List.{filter, list_any}
use Rattle.std.specs.Option.{option_map, option_map_or}
use Rattle.rules.specs.Database.{Record}
use Rattle.rules.specs.Stanza.{Stanza, Field, lasting_fields, status_field, touched_fields, unpacked_fields}
use Rattle.rules.specs.Step.{IndexPackage, is_named, is_among, deconfigured, configured, removed, unpacked_with, unpacked_over, result_of}
use Rattle.rules.specs.declared.status.State.{State}
use Rattle.rules.specs.declared.status.State.TheVariants.{NotInstalled, ConfigFiles, HalfInstalled, Unpacked, HalfConfigured, TriggersAwaited, TriggersPending, Installed}
use Rattle.rules.specs.declared.step.Step.{Step}
use Rattle.rules.specs.declared.step.Step.TheVariants as step

-- a stanza of an index: its package, and the fields from which an unpacking writes
pub record IndexStanza : Type 0 where
  pub listed : IndexPackage
  pub fields : List Field

-- a record with its stanza
pub record FileRecord : Type 0 where
  pub status : Record
  pub stanza : Stanza

-- the records of the entries
abbrev pub records_of : List FileRecord → List Record
records_of entries = map (λ entry. entry.status) entries

-- the config version that a stanza says: not that of an installed package or of one in a trigger state, whose Version
-- says it
abbrev pub written_config_version : State → Option (List ℕ) → Option (List ℕ)
written_config_version NotInstalled config_version = None
written_config_version ConfigFiles config_version = config_version
written_config_version HalfInstalled config_version = config_version
written_config_version Unpacked config_version = config_version
written_config_version HalfConfigured config_version = config_version
written_config_version TriggersAwaited config_version = None
written_config_version TriggersPending config_version = None
written_config_version Installed config_version = None

-- the field Status of a record
abbrev pub status_of : Record → Field
status_of entry = status_field entry.want entry.flag entry.state

-- the stanza that says what the record says, from these fields
abbrev pub touched_stanza : Record → List Field → Stanza
touched_stanza entry fields = record {
  fields = touched_fields (status_of entry) (written_config_version entry.state entry.config_version) fields;
  bytes = None;
}

-- the stanza of an unpacked record, from the fields of the index and those of the stanza before
abbrev pub unpacked_stanza : Record → List Field → List Field → Stanza
unpacked_stanza entry index_fields old_fields = record {
  fields = unpacked_fields (status_of entry) entry.config_version index_fields old_fields;
  bytes = None;
}

-- the entry after a change of its record, from the fields that the state before leaves
abbrev pub touched_entry : (Record → Record) → FileRecord → FileRecord
touched_entry change entry = record {
  status = change entry.status;
  stanza = touched_stanza (change entry.status) (lasting_fields entry.status.state entry.stanza.fields);
}

-- the entry of a stanza of an index unpacked in the place of another
abbrev pub unpacked_entry : IndexStanza → FileRecord → FileRecord
unpacked_entry indexed entry = record {
  status = unpacked_over indexed.listed entry.status;
  stanza = unpacked_stanza (unpacked_over indexed.listed entry.status) indexed.fields entry.stanza.fields;
}

-- the entry of a stanza of an index unpacked where there was none of its name
abbrev pub new_entry : IndexStanza → FileRecord
new_entry indexed = record {
  status = unpacked_with indexed.listed None;
  stanza = unpacked_stanza (unpacked_with indexed.listed None) indexed.fields [];
}

-- the entries with each one whose record passes the test changed
abbrev pub changed_entries : (Record → Bool) → (FileRecord → FileRecord) → List FileRecord → List FileRecord
changed_entries test change entries = map (λ entry. if test entry.status then change entry else entry) entries

-- the entries after an unpacking
abbrev pub entries_after_unpack : IndexStanza → List FileRecord → List FileRecord
entries_after_unpack indexed entries =
    if list_any (is_named indexed.listed.pkg.name) (records_of entries)
    then changed_entries (is_named indexed.listed.pkg.name) (unpacked_entry indexed) entries
    else entries ++ new_entry indexed ∷ []

-- the entries after the step, where an unpacked package is that of this stanza of an index
abbrev pub entries_after : Option IndexStanza → Step → List FileRecord → List FileRecord
entries_after indexed (step.Unpack name version) entries =
    option_map_or (λ stanza. entries_after_unpack stanza entries) indexed entries
entries_after indexed (step.Deconfigure name) entries = changed_entries (is_named name) (touched_entry deconfigured) entries
entries_after indexed (step.Configure names) entries = changed_entries (is_among names) (touched_entry configured) entries
entries_after indexed (step.Remove name) entries = changed_entries (is_named name) (touched_entry removed) entries
entries_after indexed (step.Purge name) entries = filter (λ entry. not (is_named name entry.status)) entries

-- what an action writes agrees with what it leaves
abbrev pub WrittenAsLeft : Type 0
WrittenAsLeft = (indexed : Option IndexStanza) (taken : Step) (entries : List FileRecord)
    → records_of (entries_after indexed taken entries) ≡ result_of (option_map (λ stanza. stanza.listed) indexed) taken (records_of entries)
