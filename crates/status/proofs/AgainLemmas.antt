-- The text of what is stored reads as it.
use Rattle.std.proofs.Common.{◌≡◌, ◌≤◌, ℕ, false, List, [], ◌∷◌, ◌++◌, map, Some, Result, Ok, Err, refl, sym, ap, subst, ◌∙◌, inl, append_assoc, length, nat_lt, if◌then◌else◌, bytes_eq}
use Rattle.std.proofs.lemmas.Bool.{le-ltb}
use Rattle.std.proofs.lemmas.List.Folds.{list_any-append}
use Rattle.std.specs.List.{AllByRecursion}
use Rattle.relation.specs.PackageStanza.{read_stanza}
use Rattle.rules.specs.FileRecord.{FileRecord}
use Rattle.rules.specs.Stanza.{Stanza}
use Rattle.rules.specs.declared.limits.TheConstants.{TEXT_BYTES}
use Rattle.stanza.specs.Line.{lines_of}
use Rattle.stanza.specs.Stanza as Control
use Rattle.stanza.specs.Stanza.{StanzaText, items_of}
use Rattle.stanza.specs.declared.form.Form.TheVariants.{Plain}
use Rattle.status_text.proofs.ReadLemmas.{ReadsAs-all}
use Rattle.status_text.proofs.WrittenLemmas.{each-one}
use Rattle.status_text.specs.ReadBack.{IsWritableStanza, ReadsAs, as_written}
use Rattle.status_text.specs.Record.{is_seen, read_slot}
use Rattle.status_text.specs.Slot.{FileSlot, names_with, stanza_of}
use Rattle.status_text.specs.Spelling.{closed}
use Rattle.status_text.specs.Status.{slot_then, slots_in, with_slots}
use Rattle.status_text.specs.declared.error.StatusFault.{StatusFault}
use Rattle.status_text.specs.declared.error.StatusFault.TheVariants as fault
use Rattle.status_text.specs.declared.slot.Slot.TheVariants.{Recorded, Foreign}
use Rattle.status.proofs.NameLemmas.{or-both-false, or-false-left, or-false-right}
use Rattle.status.proofs.StoredLemmas.{closed-again, text-closed}
use Rattle.status.specs.Faithful.{IsFaithfulSlot, ReadsAsIfShort}
use Rattle.status.specs.Places.{AreDistinct}
use Rattle.status.specs.Slots.{names_of}
use Rattle.status.specs.Stored.{as_stored, stored_of}
use Rattle.status.specs.Text.{slots_text}

-- the stanzas of faithful slots can be written
stanzas-writable : (arch : List ℕ) (slots : List FileSlot) → AllByRecursion (IsFaithfulSlot arch) slots → AllByRecursion IsWritableStanza (map stanza_of slots)
stanzas-writable arch [] each = tt
stanzas-writable arch (Recorded entry ∷ slots) each = (each.0.0.stanza, stanzas-writable arch slots each.1)
stanzas-writable arch (Foreign stanza ∷ slots) each = (inl each.0.0, stanzas-writable arch slots each.1)

-- of distinct names none is among those before it
first-unseen : (seen : List (List ℕ)) (name : List ℕ) (rest : List (List ℕ)) → AreDistinct (seen ++ name ∷ rest) → is_seen seen name ≡ false
first-unseen [] name rest distinct = refl
first-unseen (other ∷ seen) name rest distinct =
    or-both-false (bytes_eq name other) (is_seen seen name)
    (or-false-left (bytes_eq name other) _ (or-false-right _ _ (sym (list_any-append (λ o. bytes_eq o other) seen (name ∷ rest)) ∙ distinct.0)))
    (first-unseen seen name rest distinct.1)

-- what is read of stanzas behind records of these names is stored as the slots are
record Again (arch : List ℕ) (seen : List (List ℕ)) (stanzas : List StanzaText) (slots : List FileSlot) : Type 0 where
  read : List FileSlot
  ok : slots_in arch (map Ok stanzas) seen ≡ Ok read
  stored : map as_stored read ≡ map as_stored slots

one-again : (arch : List ℕ) (seen names : List (List ℕ)) (stanza : StanzaText) (stanzas : List StanzaText) (slot : FileSlot) (later : List FileSlot)
    → read_slot arch seen stanza ≡ Ok slot → slots_in arch (map Ok stanzas) names ≡ Ok later
    → names ≡ names_with seen slot → slots_in arch (map Ok (stanza ∷ stanzas)) seen ≡ Ok (slot ∷ later)
one-again arch seen names stanza stanzas slot later read behind same =
    ap (λ given. slot_then seen given (slots_in arch (map Ok stanzas))) read
    ∙ ap (λ n. with_slots (slot ∷ []) (slots_in arch (map Ok stanzas) n)) (sym same) ∙ ap (with_slots (slot ∷ [])) behind

-- a stanza is stored as its text is
written-again : (entry : FileRecord) (stanza : Stanza) → IsWritableStanza entry.stanza → stanza ≡ as_written entry.stanza
    → as_written stanza ≡ as_written entry.stanza
written-again entry stanza can same =
    ap as_written same ∙ ap (λ (bytes : List ℕ). record { fields = entry.stanza.fields; bytes = Some bytes }) (text-closed entry.stanza can)

raw-same : (a b : List ℕ) → Some a ≡ Some b → a ≡ b
raw-same a b e = let h = e in cc

foreign-again : (stanza old : StanzaText) → read_stanza stanza ≡ as_written (read_stanza old) → as_stored (Foreign stanza) ≡ as_stored (Foreign old)
foreign-again stanza old same =
    ap (λ (bytes : List ℕ). Foreign (Control.stanza_of Plain 1 (lines_of bytes))) (ap closed (raw-same stanza.raw (closed old.raw) (ap (λ (s : Stanza). s.bytes) same)) ∙ closed-again old.raw)

slots-again : (arch : List ℕ) (seen : List (List ℕ)) (slots : List FileSlot) (stanzas : List StanzaText) → AllByRecursion (IsFaithfulSlot arch) slots
    → AreDistinct (seen ++ names_of slots) → map read_stanza stanzas ≡ map as_written (map stanza_of slots) → Again arch seen stanzas slots
slots-again arch seen [] [] each distinct same = record { read = []; ok = refl; stored = refl }
slots-again arch seen [] (stanza ∷ stanzas) each distinct same = absurd (let e = same in cc)
slots-again arch seen (slot ∷ slots) [] each distinct same = absurd (let e = same in cc)
slots-again arch seen (Recorded entry ∷ slots) (stanza ∷ stanzas) each distinct same =
    let first : read_stanza stanza ≡ as_written entry.stanza = let e = same in cc in
    let rest : map read_stanza stanzas ≡ map as_written (map stanza_of slots) = let e = same in cc in
    let name = entry.status.name in
    let read : FileRecord = record { status = entry.status; stanza = read_stanza stanza } in
    let ok = each.0.1 stanza seen (ap (λ (s : Stanza). s.fields) first) (first-unseen seen name (names_of slots) distinct) in
    let later = slots-again arch (seen ++ name ∷ []) slots stanzas each.1 (subst AreDistinct (sym (append_assoc seen (name ∷ []) (names_of slots))) distinct) rest in
    let itself = written-again entry (read_stanza stanza) each.0.0.stanza first in
    record {
      read = Recorded read ∷ later.read;
      ok = one-again arch seen (seen ++ name ∷ []) stanza stanzas (Recorded read) later.read ok later.ok refl;
      stored = λ i. Recorded (record { status = entry.status; stanza = itself i }) ∷ later.stored i;
    }
slots-again arch seen (Foreign old ∷ slots) (stanza ∷ stanzas) each distinct same =
    let first : read_stanza stanza ≡ as_written (read_stanza old) = let e = same in cc in
    let rest : map read_stanza stanzas ≡ map as_written (map stanza_of slots) = let e = same in cc in
    let ok = each.0.1 stanza seen (ap (λ (s : Stanza). s.fields) first) in
    let later = slots-again arch seen slots stanzas each.1 distinct rest in
    record {
      read = Foreign stanza ∷ later.read;
      ok = one-again arch seen seen stanza stanzas (Foreign stanza) later.read ok later.ok refl;
      stored = λ i. foreign-again stanza old first i ∷ later.stored i;
    }

within : (text : List ℕ) (read : Result (List FileSlot) StatusFault) → length text ≤ TEXT_BYTES → (if nat_lt TEXT_BYTES (length text) then Err fault.TooLarge else read) ≡ read
within text read short = let large : nat_lt TEXT_BYTES (length text) ≡ false = le-ltb TEXT_BYTES (length text) short in rw large refl

pub stored_reads_back : (arch : List ℕ) (slots : List FileSlot) → AllByRecursion (IsFaithfulSlot arch) slots → AreDistinct (names_of slots)
    → map as_stored slots ≡ slots → ReadsAsIfShort arch (slots_text slots) slots
stored_reads_back arch slots each distinct stored short =
    let writable = stanzas-writable arch slots each in
    let spelled : ReadsAs (slots_text slots) (map as_written (map stanza_of slots)) = ReadsAs-all (map stanza_of slots) (each-one (map stanza_of slots) writable) in
    let again = slots-again arch [] slots spelled.0 each distinct spelled.2 in
    ap stored_of (within (slots_text slots) (slots_in arch (items_of Plain (slots_text slots)) []) short ∙ ap (λ items. slots_in arch items []) spelled.1 ∙ again.ok)
    ∙ ap {A = List FileSlot} Ok (again.stored ∙ stored)
