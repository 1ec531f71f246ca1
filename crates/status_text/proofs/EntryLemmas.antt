-- After every action the stanza of each entry can be written.
use Rattle.std.proofs.Common.{ℕ, Bool, not, ◌||◌, List, [], ◌∷◌, ◌++◌, refl, subst, sym, Option, None, Some, inl, inr}
use Rattle.std.specs.Prelude.{IfSome}
use Rattle.std.proofs.lemmas.Bool.{cond_both}
use Rattle.std.specs.List.{list_any, AllByRecursion}
use Rattle.rules.specs.Database.{Record}
use Rattle.rules.specs.FileRecord.{FileRecord, IndexStanza, status_of, written_config_version, touched_stanza, unpacked_stanza, touched_entry, unpacked_entry, new_entry, records_of, changed_entries, entries_after_unpack, entries_after}
use Rattle.rules.specs.Stanza.{Field, Stanza, config_fields, lasting_fields}
use Rattle.rules.specs.State.{has_configured_version, is_unconfigured_state, is_installed_state}
use Rattle.rules.specs.Step.{is_named, is_among, deconfigured, configured, removed, last_configured, kept_config_version}
use Rattle.rules.specs.declared.step.Step.{Step}
use Rattle.rules.specs.declared.step.Step.TheVariants as step
use Rattle.status_text.specs.Writable.{IsWritable, AreWritable}
use Rattle.status_text.specs.ReadBack.{WasTouched, IsWritableStanza}
use Rattle.status_text.specs.Touched.{IsWritableVersion, AreNoneOrWritable, IsWritableEntry, IsWritableIndexed}
use Rattle.status_text.proofs.FoundLemmas.{AreWritable-found}
use Rattle.status_text.proofs.StatusLemmas.{status-writable, config-writable}
use Rattle.status_text.proofs.TouchedLemmas.{CanStand, CanStand-lasting, CanStand-writable, CanStand-none, touched-writable, unpacked-writable}
use Rattle.status_text.proofs.DistinctFieldLemmas.{all-filter, all-append}

-- ---- stanzas

config-field : (version : Option (List ℕ)) → IfSome version IsWritableVersion → AllByRecursion IsWritable (config_fields version)
config-field None can = tt
config-field (Some version) can = (can, tt)

standing-stanza : (entry : Record) (fields : List Field) → CanStand fields → IfSome entry.config_version IsWritableVersion → WasTouched (touched_stanza entry fields)
standing-stanza entry fields can config = (
  refl,
  touched-writable (status_of entry) (written_config_version entry.state entry.config_version) fields refl
      (status-writable entry.want entry.flag entry.state) (config-writable entry.state entry.config_version (config-field entry.config_version config)) can,
)

pub touched-stanza : (entry : Record) (fields : List Field) → AreWritable fields → IfSome entry.config_version IsWritableVersion → WasTouched (touched_stanza entry fields)
touched-stanza entry fields can config = standing-stanza entry fields (CanStand-writable fields can) config

pub unpacked-stanza : (entry : Record) (index_fields old_fields : List Field) → AreWritable index_fields → AreNoneOrWritable old_fields → IfSome entry.config_version IsWritableVersion → WasTouched (unpacked_stanza entry index_fields old_fields)
unpacked-stanza entry index_fields old_fields can old config = (
  refl,
  unpacked-writable (status_of entry) entry.config_version index_fields old_fields refl
      (status-writable entry.want entry.flag entry.state) (config-field entry.config_version config) (CanStand-writable index_fields can) (CanStand-none old_fields old),
)

-- the fields of a stanza that can be written can
fields-writable : (stanza : Stanza) → IsWritableStanza stanza → AreWritable stanza.fields
fields-writable stanza can = elim can [
  | inl was ↦ subst (λ (s : Stanza). AreWritable s.fields) (sym was.3) (AreWritable-found was.0 was.1 was.2)
  | inr was ↦ was.1
]

-- ---- entries

-- the version that was configured last can be written
last-writable : (entry : FileRecord) → IsWritableEntry entry → IfSome (last_configured entry.status) IsWritableVersion
last-writable entry can =
    cond_both (has_configured_version entry.status.state) (Some entry.status.version) entry.status.config_version (λ version. IfSome version IsWritableVersion)
    (λ _. can.version) (λ _. can.config_version)

kept-writable : (entry : FileRecord) → IsWritableEntry entry → IfSome (kept_config_version entry.status) IsWritableVersion
kept-writable entry can =
    cond_both (is_unconfigured_state entry.status.state || is_installed_state entry.status.state) (last_configured entry.status) None (λ version. IfSome version IsWritableVersion)
    (λ _. last-writable entry can) (λ _. tt)

touched-entry : (change : Record → Record) (entry : FileRecord) → IsWritableEntry entry → IsWritableVersion (change entry.status).version → IfSome (change entry.status).config_version IsWritableVersion → IsWritableEntry (touched_entry change entry)
touched-entry change entry can version config = record {
  stanza = inr (standing-stanza (change entry.status) (lasting_fields entry.status.state entry.stanza.fields)
      (CanStand-lasting entry.status.state entry.stanza.fields (CanStand-writable entry.stanza.fields (fields-writable entry.stanza can.stanza))) config);
  version = version;
  config_version = config;
}

unpacked-entry : (indexed : IndexStanza) (entry : FileRecord) → IsWritableIndexed indexed → IsWritableEntry entry → IsWritableEntry (unpacked_entry indexed entry)
unpacked-entry indexed entry is can = record {
  stanza = inr (unpacked-stanza (unpacked_entry indexed entry).status indexed.fields entry.stanza.fields is.fields (inr (fields-writable entry.stanza can.stanza)) (kept-writable entry can));
  version = is.version;
  config_version = kept-writable entry can;
}

new-entry : (indexed : IndexStanza) → IsWritableIndexed indexed → IsWritableEntry (new_entry indexed)
new-entry indexed is = record {
  stanza = inr (unpacked-stanza (new_entry indexed).status indexed.fields [] is.fields (inl refl) tt);
  version = is.version;
  config_version = tt;
}

-- entries of which some are changed
all-changed : (test : Record → Bool) (change : FileRecord → FileRecord) (entries : List FileRecord) → ((entry : FileRecord) → IsWritableEntry entry → IsWritableEntry (change entry)) → AllByRecursion IsWritableEntry entries → AllByRecursion IsWritableEntry (changed_entries test change entries)
all-changed test change [] keeps all = tt
all-changed test change (entry ∷ entries) keeps all =
    (cond_both (test entry.status) (change entry) entry IsWritableEntry (λ _. keeps entry all.0) (λ _. all.0), all-changed test change entries keeps all.1)

after-unpack : (indexed : IndexStanza) (entries : List FileRecord) → IsWritableIndexed indexed → AllByRecursion IsWritableEntry entries → AllByRecursion IsWritableEntry (entries_after_unpack indexed entries)
after-unpack indexed entries is all =
    cond_both (list_any (is_named indexed.listed.pkg.name) (records_of entries))
    (changed_entries (is_named indexed.listed.pkg.name) (unpacked_entry indexed) entries) (entries ++ new_entry indexed ∷ [])
    (AllByRecursion IsWritableEntry)
    (λ _. all-changed (is_named indexed.listed.pkg.name) (unpacked_entry indexed) entries (λ entry can. unpacked-entry indexed entry is can) all)
    (λ _. all-append IsWritableEntry entries (new_entry indexed ∷ []) all (new-entry indexed is, tt))

pub stay-writable : (indexed : Option IndexStanza) (taken : Step) (entries : List FileRecord) → IfSome indexed IsWritableIndexed → AllByRecursion IsWritableEntry entries → AllByRecursion IsWritableEntry (entries_after indexed taken entries)
stay-writable None (step.Unpack name version) entries is all = all
stay-writable (Some indexed) (step.Unpack name version) entries is all = after-unpack indexed entries is all
stay-writable indexed (step.Deconfigure name) entries is all =
    all-changed (is_named name) (touched_entry deconfigured) entries (λ entry can. touched-entry deconfigured entry can can.version can.version) all
stay-writable indexed (step.Configure names) entries is all =
    all-changed (is_among names) (touched_entry configured) entries (λ entry can. touched-entry configured entry can can.version can.version) all
stay-writable indexed (step.Remove name) entries is all =
    all-changed (is_named name) (touched_entry removed) entries (λ entry can. touched-entry removed entry can can.version (last-writable entry can)) all
stay-writable indexed (step.Purge name) entries is all =
    all-filter IsWritableEntry (λ entry. not (is_named name entry.status)) entries all
