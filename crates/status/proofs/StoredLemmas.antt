-- What is stored is what its text says by itself.
use Rattle.std.proofs.Common.{◌≡◌, ℕ, List, [], ◌∷◌, ◌++◌, map, Option, None, Some, Result, Ok, Err, refl, sym, ap, subst, ◌∙◌, inl, inr, append_assoc, append-nil, length, ◌<◌, arith}
use Rattle.std.specs.Prelude.{Contains}
use Rattle.std.specs.List.{AllByRecursion}
use Rattle.std.specs.Option.{option_map_or}
use Rattle.relation.specs.PackageStanza.{read_stanza}
use Rattle.rules.specs.ElementLaws.{Contains-head}
use Rattle.rules.specs.Stanza.{Field, Stanza}
use Rattle.stanza.proofs.AloneLemmas.{items_of-IsAlone}
use Rattle.stanza.proofs.LineLemmas.{concat-lines_of}
use Rattle.stanza.specs.Line.{lines_of}
use Rattle.stanza.specs.Stanza as Control
use Rattle.stanza.specs.Stanza.{StanzaText, items_of}
use Rattle.stanza.specs.declared.error.StanzaError.{StanzaError}
use Rattle.stanza.specs.declared.form.Form.TheVariants.{Plain}
use Rattle.stanza.specs.declared.lines.TheConstants.{NEWLINE}
use Rattle.stanza.specs.declared.names.TheConstants.{COLON}
use Rattle.status_text.proofs.ReadLemmas.{ReadsAs-one}
use Rattle.status_text.proofs.ValueLemmas.{without_newline-closed, without_newline-pushed}
use Rattle.status_text.proofs.WrittenLemmas.{each-one}
use Rattle.status_text.specs.Alone.{alone, alone_in, unless_refused}
use Rattle.status_text.specs.ReadBack.{IsWritableStanza, WasRead, WasTouched, as_written}
use Rattle.status_text.specs.Record.{read_slot}
use Rattle.status_text.specs.Slot.{FileSlot}
use Rattle.status_text.specs.Spelling.{closed, field_text, fields_text, gap_before, stanza_text}
use Rattle.status_text.specs.declared.error.StatusFault.{StatusFault}
use Rattle.status_text.specs.declared.slot.Slot.TheVariants.{Recorded, Foreign}
use Rattle.status.proofs.FaithfulLemmas.{slot-faithful}
use Rattle.status.specs.Faithful.{IsFaithfulSlot}
use Rattle.status.specs.Places.{AreKept, slots_at, slots_read}
use Rattle.status.specs.Stored.{IsStored, as_stored, by_itself, slot_text}
use Rattle.status.specs.Text.{places_text, slots_text}

-- ---- the last newline

pub closed-again : (bytes : List ℕ) → closed (closed bytes) ≡ closed bytes
closed-again bytes = ap (λ t. t ++ NEWLINE ∷ []) (without_newline-closed bytes)

fields-end : (field : Field) (fields : List Field) → (front : List ℕ) × (fields_text (field ∷ fields) ≡ front ++ NEWLINE ∷ [])
fields-end field [] = (field.name ++ COLON ∷ gap_before field.value ++ field.value, append-nil (field_text field))
fields-end field (next ∷ fields) =
    let later = fields-end next fields in (
      field_text field ++ later.0,
      ap (λ t. field_text field ++ t) later.1 ∙ sym (append_assoc (field_text field) later.0 (NEWLINE ∷ [])),
    )

closed-fields : (fields : List Field) → 0 < length fields → closed (fields_text fields) ≡ fields_text fields
closed-fields [] some = absurd (omega (arith, some))
closed-fields (field ∷ fields) some =
    let ends = fields-end field fields in
    ap closed ends.1 ∙ ap (λ t. t ++ NEWLINE ∷ []) (without_newline-pushed ends.0) ∙ sym ends.1

touched-closed : (stanza : Stanza) → WasTouched stanza → closed (stanza_text stanza) ≡ stanza_text stanza
touched-closed stanza was =
    let text : stanza_text stanza ≡ fields_text stanza.fields = ap (λ bytes. option_map_or closed bytes (fields_text stanza.fields)) was.0 in
    ap closed text ∙ closed-fields stanza.fields was.1.some ∙ sym text

read-closed : (stanza : Stanza) → WasRead stanza → closed (stanza_text stanza) ≡ stanza_text stanza
read-closed stanza was =
    subst (λ (s : Stanza). closed (stanza_text s) ≡ stanza_text s) (sym was.3) (closed-again was.1.raw)

-- the text of a stanza ends with a newline
pub text-closed : (stanza : Stanza) → IsWritableStanza stanza → closed (stanza_text stanza) ≡ stanza_text stanza
text-closed stanza can = elim can [ inl was ↦ read-closed stanza was | inr was ↦ touched-closed stanza was ]

-- ---- what a text says by itself

-- the stanza of a text by itself
abbrev first_of : List ℕ → StanzaText
first_of text = Control.stanza_of Plain 1 (lines_of text)

bytes-same : (a b : List ℕ) → Some a ≡ Some b → a ≡ b
bytes-same a b e = let h = e in cc

one-same : (a b : StanzaText) → ◌≡◌ {A = List (Result StanzaText StanzaError)} (Ok a ∷ []) (Ok b ∷ []) → a ≡ b
one-same a b e = let h = e in cc

-- the text of a stanza reads as that stanza
reads-itself : (stanza : Stanza) → IsWritableStanza stanza
    → (items_of Plain (stanza_text stanza) ≡ Ok (first_of (stanza_text stanza)) ∷ []) × (read_stanza (first_of (stanza_text stanza)) ≡ as_written stanza)
reads-itself stanza can =
    let reads = ReadsAs-one stanza.fields (stanza_text stanza) (each-one (stanza ∷ []) (can, tt)).0 in
    by reads.0 reads.1 reads.2
  where
    text : List ℕ
    text = stanza_text stanza

    by : (read : List StanzaText) → items_of Plain text ≡ map Ok read → map read_stanza read ≡ as_written stanza ∷ []
        → (items_of Plain text ≡ Ok (first_of text) ∷ []) × (read_stanza (first_of text) ≡ as_written stanza)
    by [] items same = absurd (let e = same in cc)
    by (one ∷ other ∷ more) items same = absurd (let e = same in cc)
    by (one ∷ []) items same =
        let is : read_stanza one ≡ as_written stanza = let e = same in cc in
        let raw : one.raw ≡ text = bytes-same one.raw text (ap (λ (s : Stanza). s.bytes) is) in
        let itself = items_of-IsAlone Plain text one (subst (λ list. Contains list (Ok one)) (sym items) (Contains-head (Ok one) [])) in
        let alone : items_of Plain text ≡ Ok (first_of text) ∷ [] =
        ap (items_of Plain) (sym raw) ∙ itself.alone ∙ ap (λ (bytes : List ℕ). Ok (first_of bytes) ∷ []) raw in
        (alone, ap read_stanza (one-same (first_of text) one (sym alone ∙ items)) ∙ is)

-- a slot that can be written and reads back is stored as its text
alone-stored : (arch : List ℕ) (slot : FileSlot) → IsFaithfulSlot arch slot → alone arch (slot_text slot) ≡ Some (as_stored slot)
alone-stored arch (Recorded entry) can =
    let read = reads-itself entry.stanza can.0.stanza in
    let itself = first_of (stanza_text entry.stanza) in
    ap (alone_in arch) read.0
    ∙ ap unless_refused (can.1 itself [] (ap (λ (s : Stanza). s.fields) read.1) refl)
    ∙ ap (λ (s : Stanza). Some (Recorded (record { status = entry.status; stanza = s }))) read.1
alone-stored arch (Foreign stanza) can =
    let read = reads-itself (read_stanza stanza) (inl can.0) in
    ap (alone_in arch) read.0 ∙ ap unless_refused (can.1 (by_itself stanza) [] (ap (λ (s : Stanza). s.fields) read.1))

text-stored : (arch : List ℕ) (slot : FileSlot) → IsFaithfulSlot arch slot → slot_text (as_stored slot) ≡ slot_text slot
text-stored arch (Recorded entry) can = text-closed entry.stanza can.0.stanza
text-stored arch (Foreign stanza) can = ap closed (concat-lines_of (closed stanza.raw)) ∙ closed-again stanza.raw

pub faithful-stored : (arch : List ℕ) (slot : FileSlot) → IsFaithfulSlot arch slot → IsStored arch (slot_text slot) (as_stored slot)
faithful-stored arch slot can = record { read = alone-stored arch slot can; is = text-stored arch slot can }

pub texts-stored : (arch : List ℕ) (slots : List FileSlot) → AllByRecursion (IsFaithfulSlot arch) slots → slots_text (map as_stored slots) ≡ slots_text slots
texts-stored arch [] each = refl
texts-stored arch (slot ∷ slots) each = λ i. (text-stored arch slot each.0 i ++ NEWLINE ∷ []) ++ texts-stored arch slots each.1 i

-- what a text says by itself is one stanza that was read
read-alone : (arch : List ℕ) (items : List (Result StanzaText StanzaError)) (slot : FileSlot) → alone_in arch items ≡ Some slot
    → (stanza : StanzaText) × (items ≡ Ok stanza ∷ []) × (read_slot arch [] stanza ≡ Ok slot)
read-alone arch [] slot h = absurd (let e = h in cc)
read-alone arch (item ∷ next ∷ items) slot h = absurd (let e = h in cc)
read-alone arch (Err refused ∷ []) slot h = absurd (let e = h in cc)
read-alone arch (Ok stanza ∷ []) slot h = (stanza, refl, by (read_slot arch [] stanza) h)
  where
    by : (read : Result FileSlot StatusFault) → unless_refused read ≡ Some slot → read ≡ Ok slot
    by (Err refused) h = absurd (let e = h in cc)
    by (Ok own) h = let e = h in cc

pub stored-faithful : (arch text : List ℕ) (slot : FileSlot) → IsStored arch text slot → IsFaithfulSlot arch slot
stored-faithful arch text slot kept =
    let one = read-alone arch (items_of Plain text) slot kept.read in
    slot-faithful arch [] one.0 slot
    (text, one.0, subst (λ items. Contains items (Ok one.0)) (sym one.1) (Contains-head (Ok one.0) []), refl) one.2

some-same : (a b : FileSlot) → Some a ≡ Some b → a ≡ b
some-same a b e = let h = e in cc

pub stored-same : (arch text : List ℕ) (slot : FileSlot) → IsStored arch text slot → as_stored slot ≡ slot
stored-same arch text slot kept =
    some-same (as_stored slot) slot (sym (alone-stored arch slot (stored-faithful arch text slot kept)) ∙ ap (alone arch) kept.is ∙ kept.read)

-- ---- all that is kept

-- the slots of texts: one behind the others
abbrev slots_kept : List ℕ → List (Option (List ℕ)) → List FileSlot
slots_kept arch texts = slots_at (slots_read arch texts)

first-kept : (arch text : List ℕ) (texts : List (Option (List ℕ))) (slot : FileSlot) → alone arch text ≡ Some slot
    → slots_kept arch (Some text ∷ texts) ≡ slot ∷ slots_kept arch texts
first-kept arch text texts slot read = rw read refl

pub kept-faithful : (arch : List ℕ) (texts : List (Option (List ℕ))) → AreKept arch texts → AllByRecursion (IsFaithfulSlot arch) (slots_kept arch texts)
kept-faithful arch [] kept = tt
kept-faithful arch (None ∷ texts) kept = kept-faithful arch texts kept.1
kept-faithful arch (Some text ∷ texts) kept =
    subst (AllByRecursion (IsFaithfulSlot arch)) (sym (first-kept arch text texts kept.0.0 kept.0.1.read))
    (stored-faithful arch text kept.0.0 kept.0.1, kept-faithful arch texts kept.1)

pub kept-same : (arch : List ℕ) (texts : List (Option (List ℕ))) → AreKept arch texts → map as_stored (slots_kept arch texts) ≡ slots_kept arch texts
kept-same arch [] kept = refl
kept-same arch (None ∷ texts) kept = kept-same arch texts kept.1
kept-same arch (Some text ∷ texts) kept =
    let first = first-kept arch text texts kept.0.0 kept.0.1.read in
    ap (map as_stored) first ∙ (λ i. stored-same arch text kept.0.0 kept.0.1 i ∷ kept-same arch texts kept.1 i) ∙ sym first

pub kept-text : (arch : List ℕ) (texts : List (Option (List ℕ))) → AreKept arch texts → places_text texts ≡ slots_text (slots_kept arch texts)
kept-text arch [] kept = refl
kept-text arch (None ∷ texts) kept = kept-text arch texts kept.1
kept-text arch (Some text ∷ texts) kept =
    (λ i. (sym kept.0.1.is i ++ NEWLINE ∷ []) ++ kept-text arch texts kept.1 i)
    ∙ ap slots_text (sym (first-kept arch text texts kept.0.0 kept.0.1.read))
