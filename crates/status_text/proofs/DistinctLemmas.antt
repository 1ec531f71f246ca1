-- The records that are read have distinct names: none has a name that stands before it.
use Rattle.std.proofs.Common.{◌≡◌, ◌≢◌, arith, ℕ, Bool, true, false, true≢false, ◌||◌, List, [], ◌∷◌, ◌++◌, Option, Some, None, Result, Ok, Err, refl, sym, subst, ◌∙◌, bytes_eq, if◌then◌else◌}
use Rattle.std.specs.Prelude.{⊤}
use Rattle.std.specs.List.{All, AllPairs}
use Rattle.std.proofs.lemmas.List.Elements.{All-cons, All-nil}
use Rattle.std.proofs.lemmas.List.Folds.{list_any-append}
use Rattle.std.proofs.lemmas.List.Kept.{AllPairs-cons}
use Rattle.relation.specs.declared.error.PkgFault.{PkgFault}
use Rattle.rules.specs.Database.{Record, HasDistinctNames}
use Rattle.rules.specs.FileRecord.{FileRecord, records_of}
use Rattle.rules.specs.NamedLaws.{bytes_eq-same}
use Rattle.stanza.specs.Stanza.{StanzaText}
use Rattle.stanza.specs.declared.error.StanzaError.{StanzaError}
use Rattle.status_text.specs.Mark.{counts, name_in, read_mark, unless_fault}
use Rattle.status_text.specs.Record.{entry_of, is_seen, later_fault, read_counted, read_marked}
use Rattle.status_text.specs.Slot.{FileSlot, entries_of, names_with}
use Rattle.status_text.specs.Status.{read_item, slot_then, slots_in, with_slots}
use Rattle.status_text.specs.declared.error.StatusFault.{StatusFault}
use Rattle.status_text.specs.declared.words.Mark.{Mark}
use Rattle.status_text.specs.declared.slot.Slot.TheVariants.{Recorded, Foreign}

-- the record's name isn't among these
abbrev pub IsNew : List (List ℕ) → Record → Type 0
IsNew seen entry = is_seen seen entry.name ≡ false

-- the names of these are distinct, and none is among those before
pub record AreNew (seen : List (List ℕ)) (records : List Record) : Type 0 where
  pub fresh : All (IsNew seen) records
  pub distinct : AllPairs (λ earlier later. earlier.name ≢ later.name) records

-- what a stanza gives is new, if it gives anything
abbrev pub GivesNew : List (List ℕ) → Result FileSlot StatusFault → Type 0
GivesNew seen (Err refused) = ⊤
GivesNew seen (Ok (Foreign stanza)) = ⊤
GivesNew seen (Ok (Recorded entry)) = IsNew seen entry.status

unseen-gives : (seen : List (List ℕ)) (entry : FileRecord) (duplicate : StatusFault) (is_old : Bool) (refused : Option PkgFault) → is_seen seen entry.status.name ≡ is_old
    → GivesNew seen (if is_old then Err duplicate else unless_fault refused (Ok (Recorded entry)))
unseen-gives seen entry duplicate true refused e = tt
unseen-gives seen entry duplicate false None e = e
unseen-gives seen entry duplicate false (Some refused) e = tt

counted-gives : (arch : List ℕ) (seen : List (List ℕ)) (stanza : StanzaText) (mark : Mark) (counted : Result Bool StatusFault)
    → GivesNew seen (read_counted arch seen stanza mark counted)
counted-gives arch seen stanza mark (Err refused) = tt
counted-gives arch seen stanza mark (Ok false) = tt
counted-gives arch seen stanza mark (Ok true) =
    unseen-gives seen (entry_of arch stanza mark) _ (is_seen seen (name_in stanza)) (later_fault mark.state stanza) refl

marked-gives : (arch : List ℕ) (seen : List (List ℕ)) (stanza : StanzaText) (marked : Result Mark StatusFault)
    → GivesNew seen (read_marked arch seen stanza marked)
marked-gives arch seen stanza (Err refused) = tt
marked-gives arch seen stanza (Ok mark) = counted-gives arch seen stanza mark (counts arch stanza mark.state)

item-gives : (arch : List ℕ) (seen : List (List ℕ)) (item : Result StanzaText StanzaError) → GivesNew seen (read_item arch seen item)
item-gives arch seen (Err refused) = tt
item-gives arch seen (Ok stanza) = marked-gives arch seen stanza (read_mark stanza)

or-false-left : (a b : Bool) → (a || b) ≡ false → a ≡ false
or-false-left true b h = h
or-false-left false b h = refl

or-false-right : (a b : Bool) → (a || b) ≡ false → b ≡ false
or-false-right true b h = absurd (true≢false h)
or-false-right false b h = h

-- a name that is new behind one more is new before it, and is another
seen-twice : (seen : List (List ℕ)) (name other : List ℕ) → is_seen (seen ++ other ∷ []) name ≡ (is_seen seen name || (bytes_eq name other || false))
seen-twice seen name other = list_any-append (bytes_eq name) seen (other ∷ [])

new-before : (seen : List (List ℕ)) (name other : List ℕ) → is_seen (seen ++ other ∷ []) name ≡ false → is_seen seen name ≡ false
new-before seen name other h = or-false-left _ (bytes_eq name other || false) (sym (seen-twice seen name other) ∙ h)

new-other : (seen : List (List ℕ)) (name other : List ℕ) → is_seen (seen ++ other ∷ []) name ≡ false → other ≢ name
new-other seen name other h = λ same.
    let differs : bytes_eq name other ≡ false =
    or-false-left (bytes_eq name other) false (or-false-right (is_seen seen name) _ (sym (seen-twice seen name other) ∙ h)) in
    true≢false (sym (bytes_eq-same name other (sym same)) ∙ differs)

with-new : (seen : List (List ℕ)) (entry : Record) (later : List Record) → IsNew seen entry → AreNew (seen ++ entry.name ∷ []) later
    → AreNew seen (entry ∷ later)
with-new seen entry later is_new are_new = record {
  fresh = All-cons (IsNew seen) entry later is_new (λ k d within. new-before seen _ entry.name (are_new.fresh k d within));
  distinct = AllPairs-cons (λ earlier later. earlier.name ≢ later.name) entry later
      (λ k d within. new-other seen _ entry.name (are_new.fresh k d within)) are_new.distinct;
}

-- the slots have new names
abbrev pub HaveNew : List (List ℕ) → List FileSlot → Type 0
HaveNew seen slots = AreNew seen (records_of (entries_of slots))

-- what a stanza gives and then what is read behind it
slot-new : (seen : List (List ℕ)) (slot : FileSlot) (later : List FileSlot) → GivesNew seen (Ok slot)
    → HaveNew (names_with seen slot) later → HaveNew seen (slot ∷ later)
slot-new seen (Foreign stanza) later gives new = new
slot-new seen (Recorded entry) later gives new = with-new seen entry.status (records_of (entries_of later)) gives new

joined-new : (seen : List (List ℕ)) (slot : FileSlot) (read : Result (List FileSlot) StatusFault) (slots : List FileSlot)
    → GivesNew seen (Ok slot) → ((later : List FileSlot) → read ≡ Ok later → HaveNew (names_with seen slot) later)
    → with_slots (slot ∷ []) read ≡ Ok slots → HaveNew seen slots
joined-new seen slot (Err refused) slots gives later e = absurd (let h = e in cc)
joined-new seen slot (Ok more) slots gives later e =
    let same : (slot ∷ more) ≡ slots = let h = e in cc in subst (HaveNew seen) same (slot-new seen slot more gives (later more refl))

item-new : (seen : List (List ℕ)) (given : Result FileSlot StatusFault) (rest : List (List ℕ) → Result (List FileSlot) StatusFault) (slots : List FileSlot)
    → GivesNew seen given → ((names : List (List ℕ)) (later : List FileSlot) → rest names ≡ Ok later → HaveNew names later)
    → slot_then seen given rest ≡ Ok slots → HaveNew seen slots
item-new seen (Err refused) rest slots gives later e = absurd (let h = e in cc)
item-new seen (Ok slot) rest slots gives later e =
    joined-new seen slot (rest (names_with seen slot)) slots gives (later (names_with seen slot)) e

none-new : (seen : List (List ℕ)) → AreNew seen []
none-new seen = record { fresh = All-nil (IsNew seen); distinct = λ i j d before within. absurd (omega (arith, within)) }

pub slots-new : (arch : List ℕ) (items : List (Result StanzaText StanzaError)) (seen : List (List ℕ)) (slots : List FileSlot)
    → slots_in arch items seen ≡ Ok slots → HaveNew seen slots
slots-new arch [] seen slots e =
    let same : [] ≡ slots = let h = e in cc in subst (HaveNew seen) same (none-new seen)
slots-new arch (item ∷ items) seen slots e =
    item-new seen (read_item arch seen item) (slots_in arch items) slots (item-gives arch seen item)
    (λ names later read. slots-new arch items names later read) e

pub distinct_names : (arch : List ℕ) (items : List (Result StanzaText StanzaError)) (slots : List FileSlot)
    → slots_in arch items [] ≡ Ok slots → HasDistinctNames (records_of (entries_of slots))
unfolding HasDistinctNames
distinct_names arch items slots e = (slots-new arch items [] slots e).distinct
