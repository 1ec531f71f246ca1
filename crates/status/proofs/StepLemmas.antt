-- What an action leaves of an entry that can be written and reads back does so too.
use Rattle.std.proofs.Common.{◌≡◌, ℕ, Bool, true, false, ◌&&◌, ◌||◌, List, [], ◌∷◌, Option, None, Some, refl, sym, subst, if◌then◌else◌}
use Rattle.std.specs.List.{AllByRecursion}
use Rattle.std.specs.Option.{option_map_or}
use Rattle.rules.specs.Database.{Record}
use Rattle.rules.specs.FileRecord.{FileRecord, IndexStanza, new_entry, touched_entry, unpacked_entry}
use Rattle.rules.specs.NamedLaws.{bytes_eq-same}
use Rattle.rules.specs.State.{is_installed_state, is_present_state, is_sound_flag, is_unconfigured_state}
use Rattle.rules.specs.Stanza.{status_field, unpacked_fields}
use Rattle.rules.specs.Step.{configured, deconfigured, is_named, kept_config_version, removed}
use Rattle.rules.specs.declared.status.Flag.TheVariants as flags
use Rattle.rules.specs.declared.status.Want.TheVariants as wants
use Rattle.rules.specs.declared.status.State.{State}
use Rattle.rules.specs.declared.status.State.TheVariants.{NotInstalled, ConfigFiles, HalfInstalled, Unpacked, HalfConfigured, TriggersAwaited, TriggersPending, Installed}
use Rattle.rules.specs.declared.step.Step.TheVariants as step
use Rattle.status_text.proofs.EntryLemmas.{stay-writable}
use Rattle.status_text.specs.Slot.{FileSlot}
use Rattle.status_text.specs.Touched.{IsWritableEntry}
use Rattle.status_text.specs.declared.slot.Slot.TheVariants.{Recorded, Foreign}
use Rattle.status.proofs.HandedLemmas.{CanUnpack}
use Rattle.status.proofs.ReadBackLemmas.{touched_reads_back}
use Rattle.status.proofs.StoredLemmas.{faithful-stored}
use Rattle.status.specs.Action.{left_of, starts_from}
use Rattle.status.specs.Change.{IsTextOf}
use Rattle.status.specs.Faithful.{IsFaithfulSlot}
use Rattle.status.specs.ReadBack.{ReadsBack}
use Rattle.status.specs.Slots.{entry_named}
use Rattle.status.specs.Stored.{written}
use Rattle.status.specs.Written.{entry_over, fields_in}
use Rattle.status.specs.declared.action.Action.{Action}
use Rattle.status.specs.declared.action.Action.TheVariants.{Configure, Deconfigure, Remove}
use Rattle.status_text.specs.Spelling.{fields_text, stanza_text}

-- an entry that can be written and reads back
abbrev pub IsGood : List ℕ → FileRecord → Type 0
IsGood arch entry = IsWritableEntry entry × ReadsBack arch entry

-- an action on a present record
name-itself : (entry : FileRecord) → is_named entry.status.name entry.status ≡ true
name-itself entry = bytes_eq-same entry.status.name entry.status.name refl

deconfigured-good : (arch : List ℕ) (entry : FileRecord) → is_present_state entry.status.state ≡ true → IsGood arch entry → IsGood arch (touched_entry deconfigured entry)
deconfigured-good arch entry present good = (
  subst (λ b. IsWritableEntry (if b then touched_entry deconfigured entry else entry)) (name-itself entry)
      (stay-writable None (step.Deconfigure entry.status.name) (entry ∷ []) tt (good.0, tt)).0,
  (touched_reads_back arch entry present good.1).0,
)

configured-good : (arch : List ℕ) (entry : FileRecord) → is_present_state entry.status.state ≡ true → IsGood arch entry → IsGood arch (touched_entry configured entry)
configured-good arch entry present good = (
  subst (λ b. IsWritableEntry (if b || false then touched_entry configured entry else entry)) (name-itself entry)
      (stay-writable None (step.Configure (entry.status.name ∷ [])) (entry ∷ []) tt (good.0, tt)).0,
  (touched_reads_back arch entry present good.1).1,
)

removed-good : (arch : List ℕ) (entry : FileRecord) → is_present_state entry.status.state ≡ true → IsGood arch entry → IsGood arch (touched_entry removed entry)
removed-good arch entry present good = (
  subst (λ b. IsWritableEntry (if b then touched_entry removed entry else entry)) (name-itself entry)
      (stay-writable None (step.Remove entry.status.name) (entry ∷ []) tt (good.0, tt)).0,
  (touched_reads_back arch entry present good.1).2,
)

-- an unpacking over a record, and of a new name
unpacked-good : (arch : List ℕ) (indexed : IndexStanza) (entry : FileRecord) → CanUnpack arch indexed → is_named indexed.listed.pkg.name entry.status ≡ true
    → IsGood arch entry → IsGood arch (unpacked_entry indexed entry)
unpacked-good arch indexed entry can named good = (
  (subst (λ b. AllByRecursion IsWritableEntry (if b || false then (if b then unpacked_entry indexed entry else entry) ∷ [] else entry ∷ new_entry indexed ∷ [])) named
      (stay-writable (Some indexed) (step.Unpack [] []) (entry ∷ []) can.writable (good.0, tt))).0,
  can.over entry good.1,
)

new-good : (arch : List ℕ) (indexed : IndexStanza) → CanUnpack arch indexed → IsGood arch (new_entry indexed)
new-good arch indexed can = ((stay-writable (Some indexed) (step.Unpack [] []) [] can.writable tt).0, can.alone)

and-left : (a b : Bool) → (a && b) ≡ true → a ≡ true
and-left true b h = refl
and-left false b h = h

installed-present : (state : State) → is_installed_state state ≡ true → is_present_state state ≡ true
installed-present NotInstalled h = h
installed-present ConfigFiles h = h
installed-present HalfInstalled h = refl
installed-present Unpacked h = refl
installed-present HalfConfigured h = refl
installed-present TriggersAwaited h = refl
installed-present TriggersPending h = refl
installed-present Installed h = refl

unconfigured-present : (state : State) → is_unconfigured_state state ≡ true → is_present_state state ≡ true
unconfigured-present NotInstalled h = h
unconfigured-present ConfigFiles h = h
unconfigured-present HalfInstalled h = refl
unconfigured-present Unpacked h = refl
unconfigured-present HalfConfigured h = refl
unconfigured-present TriggersAwaited h = refl
unconfigured-present TriggersPending h = refl
unconfigured-present Installed h = refl

-- an action starts from present records alone
pub starts-present : (action : Action) (entry : Record) → starts_from action entry ≡ true → is_present_state entry.state ≡ true
starts-present Deconfigure entry starts = installed-present entry.state starts
starts-present Configure entry starts = unconfigured-present entry.state (and-left (is_unconfigured_state entry.state) (is_sound_flag entry.flag) starts)
starts-present Remove entry starts = and-left (is_present_state entry.state) (is_sound_flag entry.flag) starts

-- the entry of a name among slots that are good
pub named-good : (arch name : List ℕ) (slots : List FileSlot) (entry : FileRecord) → AllByRecursion (IsFaithfulSlot arch) slots
    → entry_named name slots ≡ Some entry → IsGood arch entry
named-good arch name [] entry each is = absurd (let e = is in cc)
named-good arch name (Foreign stanza ∷ slots) entry each is = named-good arch name slots entry each.1 is
named-good arch name (Recorded first ∷ slots) entry each is = by (is_named name first.status) is (named-good arch name slots entry each.1)
  where
    by : (b : Bool) → (if b then Some first else entry_named name slots) ≡ Some entry → (entry_named name slots ≡ Some entry → IsGood arch entry) → IsGood arch entry
    by true h later = let same : first ≡ entry = let e = h in cc in subst (IsGood arch) same each.0
    by false h later = later h

after-good : (arch : List ℕ) (action : Action) (entry : FileRecord) → starts_from action entry.status ≡ true → IsGood arch entry
    → IsGood arch (touched_entry (left_of action) entry)
after-good arch Deconfigure entry starts good = deconfigured-good arch entry (starts-present Deconfigure entry.status starts) good
after-good arch Configure entry starts good = configured-good arch entry (starts-present Configure entry.status starts) good
after-good arch Remove entry starts good = removed-good arch entry (starts-present Remove entry.status starts) good

-- the text of what an action leaves
pub after-text : (arch text : List ℕ) (action : Action) (entry : FileRecord) → starts_from action entry.status ≡ true → IsGood arch entry
    → text ≡ stanza_text (touched_entry (left_of action) entry).stanza → IsTextOf arch text (written (touched_entry (left_of action) entry))
after-text arch text action entry starts good is =
    subst (λ t. IsTextOf arch t (written (touched_entry (left_of action) entry))) (sym is)
    (faithful-stored arch (Recorded (touched_entry (left_of action) entry)) (after-good arch action entry starts good))

-- the text of what is unpacked, over the entry of its name if there is one
over-good : (arch : List ℕ) (indexed : IndexStanza) (old : Option FileRecord) → CanUnpack arch indexed
    → ((entry : FileRecord) → old ≡ Some entry → (is_named indexed.listed.pkg.name entry.status ≡ true) × IsGood arch entry)
    → IsGood arch (entry_over indexed old)
over-good arch indexed None can good = new-good arch indexed can
over-good arch indexed (Some entry) can good = unpacked-good arch indexed entry can (good entry refl).0 (good entry refl).1

pub unpacked-text : (arch text : List ℕ) (indexed : IndexStanza) (old : Option FileRecord) → CanUnpack arch indexed
    → ((entry : FileRecord) → old ≡ Some entry → (is_named indexed.listed.pkg.name entry.status ≡ true) × IsGood arch entry)
    → text ≡ stanza_text (entry_over indexed old).stanza → IsTextOf arch text (written (entry_over indexed old))
unpacked-text arch text indexed old can good is =
    subst (λ t. IsTextOf arch t (written (entry_over indexed old))) (sym is)
    (faithful-stored arch (Recorded (entry_over indexed old)) (over-good arch indexed old can good))

-- what an unpacking writes
pub over-text : (indexed : IndexStanza) (old : Option FileRecord)
    → fields_text (unpacked_fields (status_field wants.Install flags.Ok Unpacked) (option_map_or (λ (entry : FileRecord). kept_config_version entry.status) old None)
    indexed.fields (fields_in old)) ≡ stanza_text (entry_over indexed old).stanza
over-text indexed None = refl
over-text indexed (Some entry) = refl
