-- What a text is read as can be written, and reads back.
use Rattle.std.proofs.Common.{◌≡◌, ℕ, Bool, true, false, List, [], ◌∷◌, Option, None, Some, Result, Ok, Err, refl, ap, subst, inl, inr, unwrap_or, IfSome, length, nat_lt, if◌then◌else◌}
use Rattle.std.specs.Prelude.{Contains}
use Rattle.std.specs.List.{AllByRecursion}
use Rattle.std.specs.Option.{option_and_then}
use Rattle.relation.specs.PackageStanza.{read_stanza}
use Rattle.rules.specs.ElementLaws.{Contains-head, Contains-rest}
use Rattle.rules.specs.FileRecord.{FileRecord}
use Rattle.rules.specs.VersionFault.{first_fault}
use Rattle.rules.specs.declared.limits.TheConstants.{TEXT_BYTES}
use Rattle.rules.specs.declared.status.State.{State}
use Rattle.rules.specs.declared.status.State.TheVariants.{NotInstalled, ConfigFiles, HalfInstalled, Unpacked, HalfConfigured, TriggersAwaited, TriggersPending, Installed}
use Rattle.stanza.specs.declared.form.Form.TheVariants.{Plain}
use Rattle.stanza.specs.Stanza.{StanzaText, items_of}
use Rattle.stanza.specs.declared.error.StanzaError.{StanzaError}
use Rattle.status.proofs.ReadLemmas.{read_says}
use Rattle.status.proofs.ReadBackLemmas.{read_reads_back}
use Rattle.status.proofs.ValueLemmas.{values_in}
use Rattle.status_text.proofs.VersionLemmas.{version-writable}
use Rattle.status_text.specs.ReadBack.{WasRead}
use Rattle.status_text.specs.Touched.{IsWritableEntry, IsWritableVersion}
use Rattle.status.proofs.ForeignLemmas.{foreign-same, foreign-stays}
use Rattle.status.specs.Faithful.{IsFaithfulSlot}
use Rattle.status_text.specs.Record.{config_version_at, read_slot}
use Rattle.status_text.specs.Slot.{FileSlot, names_with}
use Rattle.status_text.specs.Status.{read_item, read_status, slot_then, slots_in, with_slots}
use Rattle.status_text.specs.declared.error.StatusFault.{StatusFault}
use Rattle.status_text.specs.declared.error.StatusFault.TheVariants as fault
use Rattle.status_text.specs.declared.slot.Slot.TheVariants.{Recorded, Foreign}

-- a version that was read can be written, and so can none
pub text-writable : (version : Option (List ℕ)) → option_and_then first_fault version ≡ None → IsWritableVersion (unwrap_or version [])
text-writable None sound = version-writable [] (inl refl)
text-writable (Some version) sound = version-writable version (inr sound)

some-writable : (version : Option (List ℕ)) → option_and_then first_fault version ≡ None → IfSome version IsWritableVersion
some-writable None sound = tt
some-writable (Some version) sound = version-writable version (inr sound)

config-sound : (state : State) (version config_version : Option (List ℕ)) → option_and_then first_fault version ≡ None → option_and_then first_fault config_version ≡ None
    → option_and_then first_fault (config_version_at state version config_version) ≡ None
config-sound NotInstalled version config_version v c = refl
config-sound ConfigFiles version config_version v c = c
config-sound HalfInstalled version config_version v c = c
config-sound Unpacked version config_version v c = c
config-sound HalfConfigured version config_version v c = c
config-sound TriggersAwaited version config_version v c = v
config-sound TriggersPending version config_version v c = v
config-sound Installed version config_version v c = v

-- the slot of a stanza that was read
entry-faithful : (arch : List ℕ) (seen : List (List ℕ)) (stanza : StanzaText) (entry : FileRecord) → WasRead (read_stanza stanza)
    → read_slot arch seen stanza ≡ Ok (Recorded entry) → IsWritableEntry entry
entry-faithful arch seen stanza entry was read =
    let parts = read_says arch seen stanza entry read in
    let says = parts.0 in
    let values = values_in stanza in record {
      stanza = inl (subst WasRead parts.1 was);
      version = subst IsWritableVersion says.version (text-writable values.version says.version_sound);
      config_version = subst (λ (version : Option (List ℕ)). IfSome version IsWritableVersion) says.config_version
          (some-writable (config_version_at entry.status.state values.version values.config_version)
          (config-sound entry.status.state values.version values.config_version says.version_sound says.config_sound));
    }

pub slot-faithful : (arch : List ℕ) (seen : List (List ℕ)) (stanza : StanzaText) (slot : FileSlot) → WasRead (read_stanza stanza)
    → read_slot arch seen stanza ≡ Ok slot → IsFaithfulSlot arch slot
slot-faithful arch seen stanza (Recorded entry) was read = (entry-faithful arch seen stanza entry was read, read_reads_back arch seen stanza entry read)
slot-faithful arch seen stanza (Foreign other) was read =
    subst (IsFaithfulSlot arch) (ap (λ (s : StanzaText). Foreign s) (foreign-same arch seen stanza other read))
    (was, foreign-stays arch seen stanza other read)

-- each stanza among the items was read
abbrev AreRead : List (Result StanzaText StanzaError) → Type 0
AreRead items = (stanza : StanzaText) → Contains items (Ok stanza) → WasRead (read_stanza stanza)

item-faithful : (arch : List ℕ) (seen : List (List ℕ)) (item : Result StanzaText StanzaError) (slot : FileSlot) (items : List (Result StanzaText StanzaError))
    → AreRead (item ∷ items) → read_item arch seen item ≡ Ok slot → IsFaithfulSlot arch slot
item-faithful arch seen (Err refused) slot items were read = absurd (let e = read in cc)
item-faithful arch seen (Ok stanza) slot items were read = slot-faithful arch seen stanza slot (were stanza (Contains-head (Ok stanza) items)) read

-- the slots behind the first
joined-faithful : (arch : List ℕ) (slot : FileSlot) (read : Result (List FileSlot) StatusFault) (slots : List FileSlot)
    → IsFaithfulSlot arch slot → ((later : List FileSlot) → read ≡ Ok later → AllByRecursion (IsFaithfulSlot arch) later)
    → with_slots (slot ∷ []) read ≡ Ok slots → AllByRecursion (IsFaithfulSlot arch) slots
joined-faithful arch slot (Err refused) slots first later e = absurd (let h = e in cc)
joined-faithful arch slot (Ok more) slots first later e =
    let same : (slot ∷ more) ≡ slots = let h = e in cc in subst (AllByRecursion (IsFaithfulSlot arch)) same (first, later more refl)

then-faithful : (arch : List ℕ) (seen : List (List ℕ)) (given : Result FileSlot StatusFault) (rest : List (List ℕ) → Result (List FileSlot) StatusFault) (slots : List FileSlot)
    → ((slot : FileSlot) → given ≡ Ok slot → IsFaithfulSlot arch slot)
    → ((names : List (List ℕ)) (later : List FileSlot) → rest names ≡ Ok later → AllByRecursion (IsFaithfulSlot arch) later)
    → slot_then seen given rest ≡ Ok slots → AllByRecursion (IsFaithfulSlot arch) slots
then-faithful arch seen (Err refused) rest slots first later e = absurd (let h = e in cc)
then-faithful arch seen (Ok slot) rest slots first later e =
    joined-faithful arch slot (rest (names_with seen slot)) slots (first slot refl) (later (names_with seen slot)) e

slots-faithful : (arch : List ℕ) (items : List (Result StanzaText StanzaError)) (seen : List (List ℕ)) (slots : List FileSlot)
    → AreRead items → slots_in arch items seen ≡ Ok slots → AllByRecursion (IsFaithfulSlot arch) slots
slots-faithful arch [] seen slots were e =
    let same : [] ≡ slots = let h = e in cc in subst (AllByRecursion (IsFaithfulSlot arch)) same tt
slots-faithful arch (item ∷ items) seen slots were e =
    then-faithful arch seen (read_item arch seen item) (slots_in arch items) slots
    (λ slot read. item-faithful arch seen item slot items were read)
    (λ names later read. slots-faithful arch items names later (λ stanza within. were stanza (Contains-rest item items (Ok stanza) within)) read) e

pub short : (large : Bool) (read : Result (List FileSlot) StatusFault) (slots : List FileSlot) → (if large then Err fault.TooLarge else read) ≡ Ok slots → read ≡ Ok slots
short true read slots h = absurd (let e = h in cc)
short false read slots h = h

pub read_is_faithful : (arch text : List ℕ) (slots : List FileSlot) → read_status arch text ≡ Ok slots → AllByRecursion (IsFaithfulSlot arch) slots
read_is_faithful arch text slots e =
    let items = items_of Plain text in
    slots-faithful arch items [] slots (λ stanza within. (text, stanza, within, refl)) (short (nat_lt TEXT_BYTES (length text)) (slots_in arch items []) slots e)
