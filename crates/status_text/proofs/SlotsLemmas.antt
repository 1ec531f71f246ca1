-- Slots before others: some before some before others are all before them.
use Rattle.std.proofs.Common.{◌≡◌, ℕ, List, [], ◌∷◌, ◌++◌, Result, Ok, Err, refl, ap, sym, append_assoc}
use Rattle.stanza.specs.Stanza.{StanzaText}
use Rattle.stanza.specs.declared.error.StanzaError.{StanzaError}
use Rattle.status_text.specs.Slot.{FileSlot, names_with}
use Rattle.status_text.specs.Status.{read_item, slot_then, slots_in, with_slots}
use Rattle.status_text.specs.declared.error.StatusFault.{StatusFault}

pub with_slots-none : (later : Result (List FileSlot) StatusFault) → with_slots [] later ≡ later
with_slots-none (Err refused) = refl
with_slots-none (Ok later) = refl

pub with_slots-twice : (first second : List FileSlot) (later : Result (List FileSlot) StatusFault)
    → with_slots first (with_slots second later) ≡ with_slots (first ++ second) later
with_slots-twice first second (Err refused) = refl
with_slots-twice first second (Ok later) = ap Ok (sym (append_assoc first second later))

-- what is read behind slots is what the next item gives, and what is read behind that
pub one_more : (arch : List ℕ) (item : Result StanzaText StanzaError) (items later : List (Result StanzaText StanzaError))
    (seen seen_then : List (List ℕ)) (slots : List FileSlot) (slot : FileSlot)
    → items ≡ item ∷ later → read_item arch seen item ≡ Ok slot → seen_then ≡ names_with seen slot
    → with_slots slots (slots_in arch items seen) ≡ with_slots (slots ++ slot ∷ []) (slots_in arch later seen_then)
one_more arch item items later seen seen_then slots slot next read names =
    let first : slots_in arch items seen ≡ with_slots (slot ∷ []) (slots_in arch later (names_with seen slot)) =
    rw next (ap (λ given. slot_then seen given (slots_in arch later)) read) in
    rw (first, names) (with_slots-twice slots (slot ∷ []) (slots_in arch later (names_with seen slot)))
