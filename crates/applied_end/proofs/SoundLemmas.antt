-- What is read of a text is sound, and what steps leave of it is; and it is read again as it is.
use Rattle.std.proofs.Common.{◌≡◌, ℕ, Bool, true, false, true≢false, cond, not, ◌&&◌, ◌||◌, List, [], ◌∷◌, ◌++◌, map, Option, Some, None, Result, Ok, Err, refl, sym, ap, subst, ◌∙◌, bytes_eq, length, nat_lt, ◌≤◌}
use Rattle.std.specs.Prelude.{⊤}
use Rattle.std.specs.List.{AllByRecursion, filter}
use Rattle.std.proofs.lemmas.Option.{same_Some}
use Rattle.rules.specs.Database.{HasDistinctNames, Record}
use Rattle.rules.specs.FileRecord.{FileRecord, IndexStanza, new_entry, touched_entry, unpacked_entry}
use Rattle.rules.specs.NamedLaws.{bytes_eq-true}
use Rattle.rules.specs.Step.{IndexPackage, is_among, is_named}
use Rattle.rules.specs.declared.limits.TheConstants.{TEXT_BYTES}
use Rattle.rules.specs.declared.step.Step.{Step}
use Rattle.rules.specs.declared.step.Step.TheVariants as step
use Rattle.rules.proofs.QuietLemmas.{distinct_names_kept}
use Rattle.std.specs.Option.{option_map}
use Rattle.stanza.specs.Stanza.{items_of}
use Rattle.stanza.specs.declared.form.Form.TheVariants.{Plain}
use Rattle.status_text.specs.Slot.{FileSlot, slot_records}
use Rattle.status_text.specs.Spelling.{stanza_text}
use Rattle.status_text.specs.Status.{read_status, slots_in}
use Rattle.status_text.specs.declared.error.StatusFault.{StatusFault}
use Rattle.status_text.specs.declared.slot.Slot.TheVariants.{Recorded, Foreign}
use Rattle.status_text.proofs.DistinctLemmas.{distinct_names}
use Rattle.status.specs.Action.{left_of, starts_from}
use Rattle.status.specs.Applicable.{first_unready, handed_in, has_record, is_configurable, is_deconfigurable, is_removable, refused_name}
use Rattle.status.specs.Faithful.{IsFaithfulSlot}
use Rattle.status.specs.Left.{stored_after}
use Rattle.status.specs.Places.{AreDistinct}
use Rattle.status.specs.Slots.{changed_slots, has_name, is_slot_named, names_of}
use Rattle.status.specs.Stored.{IsStored, as_stored, slot_text, stored_of, written}
use Rattle.status.specs.declared.action.Action.{Action}
use Rattle.status.specs.declared.action.Action.TheVariants.{Configure, Deconfigure, Remove}
use Rattle.status.proofs.AgainLemmas.{stored_reads_back}
use Rattle.status.proofs.FaithfulLemmas.{read_is_faithful, short}
use Rattle.status.proofs.FoundLemmas.{unready}
use Rattle.status.proofs.HandedLemmas.{CanUnpack, can-unpack}
use Rattle.status.proofs.NameLemmas.{is_in, or-false-left, or-false-right, slots-distinct-from, slots-distinct-to}
use Rattle.status.proofs.StepLemmas.{IsGood, after-text, unpacked-text}
use Rattle.status.proofs.StoredLemmas.{faithful-stored, stored-faithful, stored-same, texts-stored}
use Rattle.applied_end.proofs.StepLemmas.{records_written}
use Rattle.applied_end.specs.Sound.{AreSound, ReadIsSound, ReadReadsAgain, SoundReadsBack, StepKeepsSound}

-- Slots that are kept

-- the slot can be written and reads back, and is as it is stored
abbrev pub IsKept : List ℕ → FileSlot → Type 0
IsKept arch slot = IsFaithfulSlot arch slot × (as_stored slot ≡ slot)

abbrev pub AreKept : List ℕ → List FileSlot → Type 0
AreKept arch slots = AllByRecursion (IsKept arch) slots

-- what a text says by itself is kept
text_kept : (arch text : List ℕ) (slot : FileSlot) → IsStored arch text slot → IsKept arch slot
text_kept arch text slot is = (stored-faithful arch text slot is, stored-same arch text slot is)

-- a slot that can be written and reads back is kept once it is stored
faithful_kept : (arch : List ℕ) (slot : FileSlot) → IsFaithfulSlot arch slot → IsKept arch (as_stored slot)
faithful_kept arch slot can = text_kept arch (slot_text slot) (as_stored slot) (faithful-stored arch slot can)

still_kept : (arch : List ℕ) (slot : FileSlot) → IsKept arch slot → IsKept arch (as_stored slot)
still_kept arch slot kept = faithful_kept arch slot kept.0

all_stored : (arch : List ℕ) (slots : List FileSlot) → AllByRecursion (IsFaithfulSlot arch) slots → AreKept arch (map as_stored slots)
all_stored arch [] each = tt
all_stored arch (slot ∷ slots) each = (faithful_kept arch slot each.0, all_stored arch slots each.1)

kept_each : (arch : List ℕ) (slots : List FileSlot) → AreKept arch slots → AllByRecursion (IsFaithfulSlot arch) slots
kept_each arch [] kept = tt
kept_each arch (slot ∷ slots) kept = (kept.0.0, kept_each arch slots kept.1)

kept_same : (arch : List ℕ) (slots : List FileSlot) → AreKept arch slots → map as_stored slots ≡ slots
kept_same arch [] kept = refl
kept_same arch (slot ∷ slots) kept = λ i. kept.0.1 i ∷ kept_same arch slots kept.1 i

kept_sound : (arch : List ℕ) (slots : List FileSlot) → AreDistinct (names_of slots) → AreKept arch slots → AreSound arch slots
kept_sound arch slots distinct kept = record { distinct = distinct; each = kept_each arch slots kept; stored = kept_same arch slots kept }

sound_kept : (arch : List ℕ) (slots : List FileSlot) → AllByRecursion (IsFaithfulSlot arch) slots → map as_stored slots ≡ slots → AreKept arch slots
sound_kept arch slots each stored = subst (AreKept arch) stored (all_stored arch slots each)

-- What is read

names_stored : (slots : List FileSlot) → names_of (map as_stored slots) ≡ names_of slots
names_stored [] = refl
names_stored (Foreign stanza ∷ slots) = names_stored slots
names_stored (Recorded entry ∷ slots) = ap (λ names. entry.status.name ∷ names) (names_stored slots)

-- what is stored of what was read
pub stored_read : (read : Result (List FileSlot) StatusFault) (slots : List FileSlot) → stored_of read ≡ Ok slots
    → (was : List FileSlot) × (read ≡ Ok was) × (map as_stored was ≡ slots)
stored_read (Err refused) slots is = absurd (let e = is in cc)
stored_read (Ok was) slots is = (was, refl, let e = is in cc)

-- the slots that a text is read as are sound once they are stored
pub status_sound : (arch text : List ℕ) (slots : List FileSlot) → read_status arch text ≡ Ok slots → AreSound arch (map as_stored slots)
status_sound arch text slots read =
    let items = items_of Plain text in
    let distinct : HasDistinctNames (slot_records slots) =
    distinct_names arch items slots (short (nat_lt TEXT_BYTES (length text)) (slots_in arch items []) slots read) in
    kept_sound arch (map as_stored slots) (subst AreDistinct (sym (names_stored slots)) (slots-distinct-from slots distinct))
    (all_stored arch slots (read_is_faithful arch text slots read))

pub read_is_sound : ReadIsSound
read_is_sound arch text slots is =
    let (was, read, same) = stored_read (read_status arch text) slots is in
    subst (AreSound arch) same (status_sound arch text was read)

pub sound_reads_back : SoundReadsBack
sound_reads_back arch slots sound = stored_reads_back arch slots sound.each sound.distinct sound.stored

pub read_reads_again : ReadReadsAgain
read_reads_again arch text slots read =
    let back = sound_reads_back arch (map as_stored slots) (status_sound arch text slots read) in
    λ fits. ap (λ t. stored_of (read_status arch t)) (sym (texts-stored arch slots (read_is_faithful arch text slots read)))
    ∙ back (subst (λ (t : List ℕ). length t ≤ TEXT_BYTES) (sym (texts-stored arch slots (read_is_faithful arch text slots read))) fits)

-- Steps

-- of a slot whose record passes the first test the record passes the second
abbrev Passes : (Record → Bool) → (Record → Bool) → FileSlot → Type 0
Passes test passes (Recorded entry) = test entry.status ≡ true → passes entry.status ≡ true
Passes test passes (Foreign stanza) = ⊤

none_pass : (passes : Record → Bool) (name : List ℕ) (slots : List FileSlot) → is_in name (names_of slots) ≡ false
    → AllByRecursion (Passes (is_named name) passes) slots
none_pass passes name [] none = tt
none_pass passes name (Foreign stanza ∷ slots) none = (tt, none_pass passes name slots none)
none_pass passes name (Recorded entry ∷ slots) none = (
  λ named. absurd (true≢false (sym named ∙ or-false-left (bytes_eq entry.status.name name) (is_in name (names_of slots)) none)),
  none_pass passes name slots (or-false-right (bytes_eq entry.status.name name) (is_in name (names_of slots)) none),
)

-- of distinct names the record of the name passes where one does
named_pass : (passes : Record → Bool) (name : List ℕ) (slots : List FileSlot) → AreDistinct (names_of slots)
    → has_record passes name (slot_records slots) ≡ true → AllByRecursion (Passes (is_named name) passes) slots
named_pass passes name [] distinct has = tt
named_pass passes name (Foreign stanza ∷ slots) distinct has = (tt, named_pass passes name slots distinct has)
named_pass passes name (Recorded entry ∷ slots) distinct has =
    by (bytes_eq entry.status.name name) refl has (named_pass passes name slots distinct.1)
  where
    first : (a b : Bool) → (a || b) ≡ true → b ≡ false → a ≡ true
    first true b is none = refl
    first false b is none = absurd (true≢false (sym is ∙ none))

    by : (b : Bool) → bytes_eq entry.status.name name ≡ b → ((b && passes entry.status) || has_record passes name (slot_records slots)) ≡ true
        → (has_record passes name (slot_records slots) ≡ true → AllByRecursion (Passes (is_named name) passes) slots)
        → (bytes_eq entry.status.name name ≡ true → passes entry.status ≡ true) × AllByRecursion (Passes (is_named name) passes) slots
    by true is has later =
        let none : is_in name (names_of slots) ≡ false =
        subst (λ n. is_in n (names_of slots) ≡ false) (bytes_eq-true entry.status.name name is) distinct.0 in (
          λ named. first (passes entry.status) (has_record passes name (slot_records slots)) has (unready passes name slots none),
          none_pass passes name slots none,
        )
    by false is has later = (λ named. absurd (true≢false (sym named ∙ is)), later has)

both_pass : (first second passes : Record → Bool) (slots : List FileSlot) → AllByRecursion (Passes first passes) slots
    → AllByRecursion (Passes second passes) slots → AllByRecursion (Passes (λ entry. first entry || second entry) passes) slots
both_pass first second passes [] one other = tt
both_pass first second passes (Foreign stanza ∷ slots) one other = (tt, both_pass first second passes slots one.1 other.1)
both_pass first second passes (Recorded entry ∷ slots) one other =
    (by (first entry.status) (second entry.status) one.0 other.0, both_pass first second passes slots one.1 other.1)
  where
    by : (a b : Bool) → (a ≡ true → passes entry.status ≡ true) → (b ≡ true → passes entry.status ≡ true) → (a || b) ≡ true → passes entry.status ≡ true
    by true b one other is = one refl
    by false b one other is = other is

nothing_passes : (passes : Record → Bool) (slots : List FileSlot) → AllByRecursion (Passes (λ entry. false) passes) slots
nothing_passes passes [] = tt
nothing_passes passes (Foreign stanza ∷ slots) = (tt, nothing_passes passes slots)
nothing_passes passes (Recorded entry ∷ slots) = (λ is. absurd (true≢false (sym is)), nothing_passes passes slots)

-- where no name is unready, each record of the names passes
among_pass : (passes : Record → Bool) (names : List (List ℕ)) (slots : List FileSlot) → AreDistinct (names_of slots)
    → first_unready passes names (slot_records slots) ≡ None → AllByRecursion (Passes (is_among names) passes) slots
among_pass passes [] slots distinct none = nothing_passes passes slots
among_pass passes (name ∷ names) slots distinct none =
    by (has_record passes name (slot_records slots)) refl none (among_pass passes names slots distinct)
  where
    by : (b : Bool) → has_record passes name (slot_records slots) ≡ b
        → cond (not b) (Some name) (first_unready passes names (slot_records slots)) ≡ None
        → (first_unready passes names (slot_records slots) ≡ None → AllByRecursion (Passes (is_among names) passes) slots)
        → AllByRecursion (Passes (is_among (name ∷ names)) passes) slots
    by false is none later = absurd (let e : Some name ≡ None = none in cc)
    by true is none later = both_pass (is_named name) (is_among names) passes slots (named_pass passes name slots distinct is) (later none)

one_passes : (passes : Record → Bool) (name : List ℕ) (slots : List FileSlot) → AreDistinct (names_of slots)
    → first_unready passes (name ∷ []) (slot_records slots) ≡ None → AllByRecursion (Passes (is_named name) passes) slots
one_passes passes name slots distinct none = named_pass passes name slots distinct (by (has_record passes name (slot_records slots)) none)
  where
    by : (b : Bool) → cond (not b) (Some name) None ≡ None → b ≡ true
    by true none = refl
    by false none = absurd (let e : Some name ≡ None = none in cc)

-- the entry of a slot whose record passes is kept once it is changed
abbrev IsKeptChanged : List ℕ → (Record → Bool) → (FileRecord → FileRecord) → FileSlot → Type 0
IsKeptChanged arch test change (Recorded entry) = test entry.status ≡ true → IsKept arch (Recorded (written (change entry)))
IsKeptChanged arch test change (Foreign stanza) = ⊤

changed_kept : (arch : List ℕ) (test : Record → Bool) (change : FileRecord → FileRecord) (slots : List FileSlot) → AreKept arch slots
    → AllByRecursion (IsKeptChanged arch test change) slots → AreKept arch (map as_stored (changed_slots test change slots))
changed_kept arch test change [] kept each = tt
changed_kept arch test change (Foreign stanza ∷ slots) kept each =
    (still_kept arch (Foreign stanza) kept.0, changed_kept arch test change slots kept.1 each.1)
changed_kept arch test change (Recorded entry ∷ slots) kept each =
    (by (test entry.status) each.0, changed_kept arch test change slots kept.1 each.1)
  where
    by : (b : Bool) → (b ≡ true → IsKept arch (Recorded (written (change entry)))) → IsKept arch (as_stored (Recorded (cond b (change entry) entry)))
    by true then = then refl
    by false then = still_kept arch (Recorded entry) kept.0

-- what an action leaves is kept
touched_kept : (arch : List ℕ) (action : Action) (test : Record → Bool) (slots : List FileSlot) → AreKept arch slots
    → AllByRecursion (Passes test (starts_from action)) slots → AllByRecursion (IsKeptChanged arch test (touched_entry (left_of action))) slots
touched_kept arch action test [] kept starts = tt
touched_kept arch action test (Foreign stanza ∷ slots) kept starts = (tt, touched_kept arch action test slots kept.1 starts.1)
touched_kept arch action test (Recorded entry ∷ slots) kept starts = (
  λ is. text_kept arch (stanza_text (touched_entry (left_of action) entry).stanza) (Recorded (written (touched_entry (left_of action) entry)))
      (after-text arch (stanza_text (touched_entry (left_of action) entry).stanza) action entry (starts.0 is) kept.0.0 refl),
  touched_kept arch action test slots kept.1 starts.1,
)

-- what is unpacked is kept, over an entry and by itself
over_kept : (arch : List ℕ) (indexed : IndexStanza) (slots : List FileSlot) → CanUnpack arch indexed → AreKept arch slots
    → AllByRecursion (IsKeptChanged arch (is_named indexed.listed.pkg.name) (unpacked_entry indexed)) slots
over_kept arch indexed [] can kept = tt
over_kept arch indexed (Foreign stanza ∷ slots) can kept = (tt, over_kept arch indexed slots can kept.1)
over_kept arch indexed (Recorded entry ∷ slots) can kept = (
  λ named. text_kept arch (stanza_text (unpacked_entry indexed entry).stanza) (Recorded (written (unpacked_entry indexed entry)))
      (unpacked-text arch (stanza_text (unpacked_entry indexed entry).stanza) indexed (Some entry) can
      (λ other same. subst (λ (e : FileRecord). (is_named indexed.listed.pkg.name e.status ≡ true) × IsGood arch e) (same_Some entry other same) (named, kept.0.0)) refl),
  over_kept arch indexed slots can kept.1,
)

new_kept : (arch : List ℕ) (indexed : IndexStanza) → CanUnpack arch indexed → IsKept arch (as_stored (Recorded (new_entry indexed)))
new_kept arch indexed can = text_kept arch (stanza_text (new_entry indexed).stanza) (Recorded (written (new_entry indexed)))
    (unpacked-text arch (stanza_text (new_entry indexed).stanza) indexed None can (λ other same. absurd (let e = same in cc)) refl)

pushed_kept : (arch : List ℕ) (slots : List FileSlot) (last : FileSlot) → AreKept arch slots → IsKept arch (as_stored last)
    → AreKept arch (map as_stored (slots ++ last ∷ []))
pushed_kept arch [] last kept one = (one, tt)
pushed_kept arch (slot ∷ slots) last kept one = (still_kept arch slot kept.0, pushed_kept arch slots last kept.1 one)

filtered_kept : (arch : List ℕ) (keeps : FileSlot → Bool) (slots : List FileSlot) → AreKept arch slots → AreKept arch (map as_stored (filter keeps slots))
filtered_kept arch keeps [] kept = tt
filtered_kept arch keeps (slot ∷ slots) kept = by (keeps slot) (filtered_kept arch keeps slots kept.1)
  where
    by : (b : Bool) → AreKept arch (map as_stored (filter keeps slots)) → AreKept arch (map as_stored (cond b (slot ∷ filter keeps slots) (filter keeps slots)))
    by true later = (still_kept arch slot kept.0, later)
    by false later = later

same_kept : (arch : List ℕ) (slots : List FileSlot) → AreKept arch slots → AreKept arch (map as_stored slots)
same_kept arch [] kept = tt
same_kept arch (slot ∷ slots) kept = (still_kept arch slot kept.0, same_kept arch slots kept.1)

unpacked_kept : (arch : List ℕ) (given : Option (List ℕ)) (name version : List ℕ) (slots : List FileSlot) → AreKept arch slots
    → (indexed : Option IndexStanza) → handed_in arch given ≡ indexed → AreKept arch (stored_after indexed (step.Unpack name version) slots)
unpacked_kept arch given name version slots kept None is = same_kept arch slots kept
unpacked_kept arch given name version slots kept (Some indexed) is = by (has_name indexed.listed.pkg.name slots)
  where
    by : (b : Bool) → AreKept arch (map as_stored (cond b (changed_slots (is_named indexed.listed.pkg.name) (unpacked_entry indexed) slots)
        (slots ++ Recorded (new_entry indexed) ∷ [])))
    by true = changed_kept arch (is_named indexed.listed.pkg.name) (unpacked_entry indexed) slots kept (over_kept arch indexed slots (can-unpack arch given indexed is) kept)
    by false = pushed_kept arch slots (Recorded (new_entry indexed)) kept (new_kept arch indexed (can-unpack arch given indexed is))

-- what a step leaves of kept slots is kept
step_kept : (arch : List ℕ) (given : Option (List ℕ)) (taken : Step) (slots : List FileSlot) → AreDistinct (names_of slots)
    → refused_name (handed_in arch given) taken (slot_records slots) ≡ None → AreKept arch slots
    → AreKept arch (stored_after (handed_in arch given) taken slots)
step_kept arch given (step.Unpack name version) slots distinct ready kept = unpacked_kept arch given name version slots kept (handed_in arch given) refl
step_kept arch given (step.Deconfigure name) slots distinct ready kept =
    changed_kept arch (is_named name) (touched_entry (left_of Deconfigure)) slots kept
    (touched_kept arch Deconfigure (is_named name) slots kept (one_passes is_deconfigurable name slots distinct ready))
step_kept arch given (step.Configure names) slots distinct ready kept =
    changed_kept arch (is_among names) (touched_entry (left_of Configure)) slots kept
    (touched_kept arch Configure (is_among names) slots kept (among_pass is_configurable names slots distinct ready))
step_kept arch given (step.Remove name) slots distinct ready kept =
    changed_kept arch (is_named name) (touched_entry (left_of Remove)) slots kept
    (touched_kept arch Remove (is_named name) slots kept (one_passes is_removable name slots distinct ready))
step_kept arch given (step.Purge name) slots distinct ready kept = filtered_kept arch (λ slot. not (is_slot_named name slot)) slots kept

pub step_keeps_sound : StepKeepsSound
step_keeps_sound arch given taken slots ready sound =
    let indexed = handed_in arch given in
    let listed : Option IndexPackage = option_map (λ (stanza : IndexStanza). stanza.listed) indexed in
    let distinct : HasDistinctNames (slot_records (stored_after indexed taken slots)) =
    subst HasDistinctNames (sym (records_written indexed taken slots))
    (distinct_names_kept listed taken (slot_records slots) (slots-distinct-to slots sound.distinct)) in
    kept_sound arch (stored_after indexed taken slots) (slots-distinct-from (stored_after indexed taken slots) distinct)
    (step_kept arch given taken slots sound.distinct ready (sound_kept arch slots sound.each sound.stored))
