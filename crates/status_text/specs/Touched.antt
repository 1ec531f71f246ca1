-- What actions write can be written: the fields of a touched stanza, those of an unpacked one, and so every entry.
use Rattle.std.specs.Prelude.{◌≡◌, ℕ, ◌⊎◌, List, [], Option, None, IfSome, codes}
use Rattle.std.specs.List.{AllByRecursion}
use Rattle.rules.specs.Database.{Record}
use Rattle.rules.specs.FileRecord.{FileRecord, IndexStanza, touched_stanza, unpacked_stanza, entries_after}
use Rattle.rules.specs.Stanza.{Field}
use Rattle.rules.specs.VersionFault.{first_fault}
use Rattle.rules.specs.declared.step.Step.{Step}
use Rattle.status_text.specs.Writable.{IsWritable, AreWritable}
use Rattle.status_text.specs.ReadBack.{WasTouched, IsWritableStanza}

-- a text that can be the value of the field Config-Version
abbrev pub IsWritableVersion : List ℕ → Type 0
IsWritableVersion version = IsWritable (record { name = codes "Config-Version"; value = version })

-- a version can be written, and so can an empty text
abbrev pub VersionIsWritable : Type 0
VersionIsWritable = (version : List ℕ) → (version ≡ []) ⊎ (first_fault version ≡ None) → IsWritableVersion version

-- the fields are none, or can be written
abbrev pub AreNoneOrWritable : List Field → Type 0
AreNoneOrWritable fields = (fields ≡ []) ⊎ AreWritable fields

-- a stanza that an action touches can be written where its fields could
abbrev pub TouchedIsWritable : Type 0
TouchedIsWritable = (entry : Record) (fields : List Field)
    → AreWritable fields → IfSome entry.config_version IsWritableVersion → WasTouched (touched_stanza entry fields)

-- the stanza of an unpacked package can be written where the fields of the index could, and those of the stanza before it, if there was one
abbrev pub UnpackedIsWritable : Type 0
UnpackedIsWritable = (entry : Record) (index_fields old_fields : List Field)
    → AreWritable index_fields → AreNoneOrWritable old_fields → IfSome entry.config_version IsWritableVersion
    → WasTouched (unpacked_stanza entry index_fields old_fields)

-- an entry that can be written: its stanza, its version, and its config version if there is one
pub record IsWritableEntry (entry : FileRecord) : Type 0 where
  pub stanza : IsWritableStanza entry.stanza
  pub version : IsWritableVersion entry.status.version
  pub config_version : IfSome entry.status.config_version IsWritableVersion

-- a stanza of an index whose fields and version can be written
pub record IsWritableIndexed (indexed : IndexStanza) : Type 0 where
  pub fields : AreWritable indexed.fields
  pub version : IsWritableVersion indexed.listed.pkg.version

-- after every action each entry can be written
abbrev pub EntriesStayWritable : Type 0
EntriesStayWritable = (indexed : Option IndexStanza) (taken : Step) (entries : List FileRecord)
    → IfSome indexed IsWritableIndexed → AllByRecursion IsWritableEntry entries
    → AllByRecursion IsWritableEntry (entries_after indexed taken entries)
