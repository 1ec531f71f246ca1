-- A table that is written to is a table, and its slots are those that the write says.
use Rattle.std.proofs.Common.{◌≡◌, ℕ, ◌+◌, Bool, true, false, true≢false, cond, not, ◌||◌, List, [], ◌∷◌, ◌++◌, map, length, slice_set, Option, Some, None, refl, sym, ap, subst, ◌∙◌, bytes_eq, append-nil, arith}
use Rattle.std.specs.List.{filter}
use Rattle.std.specs.Map.{lookup, remove_entry}
use Rattle.std.specs.Option.{option_to_list}
use Rattle.std.proofs.lemmas.List.Concat.{flat_map-append}
use Rattle.std.proofs.lemmas.List.{map-append}
use Rattle.rules.specs.FileRecord.{FileRecord}
use Rattle.rules.specs.Step.{is_named}
use Rattle.stanza.specs.Stanza.{StanzaText}
use Rattle.status_text.specs.Slot.{FileSlot, entries_of, entry_in}
use Rattle.status_text.specs.declared.slot.Slot.TheVariants.{Recorded, Foreign}
use Rattle.status.specs.Places.{AreDistinct, FindsAt, IsAt, IsTable, numbered, slots_at}
use Rattle.status.specs.Slots.{changed_slots, entry_named, is_slot_named, names_of}
use Rattle.status.proofs.NameLemmas.{distinct-behind, distinct-without, is_in, without}
use Rattle.status.proofs.PlaceLemmas.{found-at, is_in-there, numbered-append, numbered-emptied, numbered-names, numbered-written, slots-emptied, slots-written}

-- a name without an entry is none of the names
pub none-named : (name : List ℕ) (slots : List FileSlot) → entry_named name slots ≡ None → is_in name (names_of slots) ≡ false
none-named name [] h = refl
none-named name (Foreign stanza ∷ slots) h = none-named name slots h
none-named name (Recorded entry ∷ slots) h = by (bytes_eq entry.status.name name) h (none-named name slots)
  where
    by : (b : Bool) → cond b (Some entry) (entry_named name slots) ≡ None
        → (entry_named name slots ≡ None → is_in name (names_of slots) ≡ false) → (b || is_in name (names_of slots)) ≡ false
    by true e later = absurd (let f = e in cc)
    by false e later = later e

module _ (name : List ℕ) (es : List (List ℕ × ℕ)) (places : List (Option FileSlot)) (table : IsTable es places) where
  -- an entry written over that of its name
  module _ (place : ℕ) (at : IsAt name places place) (new : FileRecord) (same : new.status.name ≡ name) where
    named-alike : new.status.name ≡ at.entry.status.name
    named-alike = same ∙ sym at.named

    numbers-written : numbered 0 (slice_set places place (Some (Recorded new))) ≡ numbered 0 places
    numbers-written = numbered-written 0 places place at.entry new at.there named-alike

    pub table-written : IsTable es (slice_set places place (Some (Recorded new)))
    table-written = (
      table.0 ∙ sym numbers-written,
      subst AreDistinct
          (sym (sym (numbered-names 0 (slice_set places place (Some (Recorded new)))) ∙ ap (map (λ p. p.0)) numbers-written ∙ numbered-names 0 places))
          table.1,
    )

    pub written : slots_at (slice_set places place (Some (Recorded new))) ≡ changed_slots (is_named name) (λ _. new) (slots_at places)
    written = slots-written places place at.entry new at.there table.1 ∙ ap (λ n. changed_slots (is_named n) (λ _. new) (slots_at places)) at.named

  -- an entry deleted
  module _ (place : ℕ) (at : IsAt name places place) where
    numbers-emptied : numbered 0 (slice_set places place None) ≡ remove_entry (λ other. bytes_eq other name) (numbered 0 places)
    numbers-emptied = numbered-emptied 0 places place at.entry at.there table.1
        ∙ ap (λ n. remove_entry (λ other. bytes_eq other n) (numbered 0 places)) at.named

    pub table-emptied : IsTable (remove_entry (λ other. bytes_eq other name) es) (slice_set places place None)
    table-emptied = (
      ap (remove_entry (λ other. bytes_eq other name)) table.0 ∙ sym numbers-emptied,
      subst AreDistinct (sym (sym (numbered-names 0 (slice_set places place None)) ∙ ap (map (λ p. p.0)) numbers-emptied
          ∙ firsts-without (λ other. bytes_eq other name) (numbered 0 places) ∙ ap (without (λ other. bytes_eq other name)) (numbered-names 0 places)))
          (distinct-without (λ other. bytes_eq other name) (names_of (slots_at places)) table.1),
    )
      where
        firsts-without : (test : List ℕ → Bool) (ps : List (List ℕ × ℕ)) → map (λ p. p.0) (remove_entry test ps) ≡ without test (map (λ p. p.0) ps)
        firsts-without test [] = refl
        firsts-without test (p ∷ ps) = by (test p.0) (firsts-without test ps)
          where
            by : (b : Bool) → map (λ q. q.0) (remove_entry test ps) ≡ without test (map (λ q. q.0) ps)
                → map (λ q. q.0) (cond b ps (p ∷ remove_entry test ps)) ≡ cond b (map (λ q. q.0) ps) (p.0 ∷ without test (map (λ q. q.0) ps))
            by true later = refl
            by false later = ap (λ names. p.0 ∷ names) later

    pub emptied : slots_at (slice_set places place None) ≡ filter (λ slot. not (is_slot_named name slot)) (slots_at places)
    emptied = slots-emptied places place at.entry at.there table.1 ∙ ap (λ n. filter (λ slot. not (is_slot_named n slot)) (slots_at places)) at.named

-- a name that no record has is not numbered
pub not-numbered : {K : Type 0} (name_of : K → List ℕ) (name : List ℕ) (es : List (K × ℕ)) (places : List (Option FileSlot))
    → map {B = List ℕ × ℕ} (λ p. (name_of p.0, p.1)) es ≡ numbered 0 places
    → is_in name (names_of (slots_at places)) ≡ false → lookup (λ key. bytes_eq name (name_of key)) es ≡ None
not-numbered name_of name es places numbers fresh = by (lookup (λ key. bytes_eq name (name_of key)) es) (found-at name_of name places es numbers)
  where
    by : (r : Option ℕ) → FindsAt name places r → r ≡ None
    by None h = refl
    by (Some place) h = absurd (true≢false (sym (is_in-there places place h.entry h.there)
        ∙ ap (λ n. is_in n (names_of (slots_at places))) h.named ∙ fresh))

-- slots and names behind others
pub slots-behind : (places more : List (Option FileSlot)) → slots_at (places ++ more) ≡ slots_at places ++ slots_at more
slots-behind places more = flat_map-append option_to_list places more

pub names-behind : (slots more : List FileSlot) → names_of (slots ++ more) ≡ names_of slots ++ names_of more
names-behind slots more =
    ap (map (λ (entry : FileRecord). entry.status.name)) (flat_map-append entry_in slots more)
    ∙ map-append (λ (entry : FileRecord). entry.status.name) (entries_of slots) (entries_of more)

-- a stanza without a record behind the others
pub table-kept : (es : List (List ℕ × ℕ)) (places : List (Option FileSlot)) (stanza : StanzaText) → IsTable es places
    → IsTable es (places ++ Some (Foreign stanza) ∷ [])
table-kept es places stanza table = (
  table.0 ∙ sym (numbered-append 0 places (Some (Foreign stanza) ∷ []) ∙ append-nil (numbered 0 places)),
  subst AreDistinct (sym (ap names_of (slots-behind places (Some (Foreign stanza) ∷ [])) ∙ names-behind (slots_at places) (Foreign stanza ∷ [])
      ∙ append-nil (names_of (slots_at places)))) table.1,
)

-- a record of a new name behind the others
pub table-pushed : (es : List (List ℕ × ℕ)) (places : List (Option FileSlot)) (entry : FileRecord)
    → IsTable es places → is_in entry.status.name (names_of (slots_at places)) ≡ false
    → IsTable (es ++ (entry.status.name, length places) ∷ []) (places ++ Some (Recorded entry) ∷ [])
table-pushed es places entry table fresh = (
  (λ i. table.0 i ++ (entry.status.name, length places) ∷ []) ∙ ap (λ n. numbered 0 places ++ (entry.status.name, n) ∷ []) zero-first
      ∙ sym (numbered-append 0 places (Some (Recorded entry) ∷ [])),
  subst AreDistinct (sym (ap names_of (slots-behind places (Some (Recorded entry) ∷ [])) ∙ names-behind (slots_at places) (Recorded entry ∷ [])))
      (distinct-behind (names_of (slots_at places)) entry.status.name table.1 fresh),
)
  where
    zero-first : length places ≡ 0 + length places
    zero-first = omega arith
