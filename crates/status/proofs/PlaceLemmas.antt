-- Names found in the map of their numbers, and places filled, written and emptied.
use Rattle.std.proofs.Common.{◌≡◌, ℕ, zero, suc, ◌+◌, Bool, true, false, true≢false, cond, not, ◌||◌, List, [], ◌∷◌, ◌++◌, map, length, slice_get, slice_set, Option, Some, None, refl, sym, ap, subst, ◌∙◌, bytes_eq, arith}
use Rattle.std.specs.List.{filter}
use Rattle.std.specs.Map.{keys_of, lookup, remove_entry}
use Rattle.rules.specs.FileRecord.{FileRecord}
use Rattle.rules.specs.NamedLaws.{bytes_eq-same, bytes_eq-true}
use Rattle.rules.specs.Step.{is_named}
use Rattle.status_text.specs.Slot.{FileSlot}
use Rattle.status_text.specs.declared.slot.Slot.TheVariants.{Recorded, Foreign}
use Rattle.status.specs.Places.{AreDistinct, FindsAt, IsAt, numbered, slots_at}
use Rattle.status.specs.Slots.{changed_slots, entry_named, is_slot_named, names_of}
use Rattle.status.proofs.NameLemmas.{bytes_eq-flip, is_in, unnamed-changed, unnamed-kept}

-- what is looked up by keys that own their names is looked up by the names
pub lookup-owned : {K : Type 0} (name_of : K → List ℕ) (name : List ℕ) (es : List (K × ℕ))
    → lookup (λ key. bytes_eq name (name_of key)) es ≡ lookup (λ other. bytes_eq other name) (map (λ p. (name_of p.0, p.1)) es)
lookup-owned name_of name [] = refl
lookup-owned name_of name (e ∷ es) = rw (bytes_eq-flip name (name_of e.0), lookup-owned name_of name es) refl

pub remove-owned : {K : Type 0} (name_of : K → List ℕ) (name : List ℕ) (es : List (K × ℕ))
    → map {B = List ℕ × ℕ} (λ p. (name_of p.0, p.1)) (remove_entry (λ key. bytes_eq name (name_of key)) es)
    ≡ remove_entry (λ other. bytes_eq other name) (map (λ p. (name_of p.0, p.1)) es)
remove-owned name_of name [] = refl
remove-owned {K} name_of name (e ∷ es) = rw (bytes_eq-flip name (name_of e.0)) (by (bytes_eq (name_of e.0) name) (remove-owned name_of name es))
  where
    named : K × ℕ → List ℕ × ℕ
    named p = (name_of p.0, p.1)

    by : (b : Bool) → map named (remove_entry (λ key. bytes_eq name (name_of key)) es) ≡ remove_entry (λ other. bytes_eq other name) (map named es)
        → map named (cond b es (e ∷ remove_entry (λ key. bytes_eq name (name_of key)) es))
        ≡ cond b (map named es) (named e ∷ remove_entry (λ other. bytes_eq other name) (map named es))
    by true later = refl
    by false later = ap (λ rest. named e ∷ rest) later

-- the names that are numbered are those of the slots
pub numbered-names : (number : ℕ) (places : List (Option FileSlot)) → map (λ p. p.0) (numbered number places) ≡ names_of (slots_at places)
numbered-names number [] = refl
numbered-names number (None ∷ places) = numbered-names (number + 1) places
numbered-names number (Some (Foreign stanza) ∷ places) = numbered-names (number + 1) places
numbered-names number (Some (Recorded entry) ∷ places) = ap (λ names. entry.status.name ∷ names) (numbered-names (number + 1) places)

-- what is found of a name among the numbers
abbrev pub Finds : List ℕ → ℕ → List (Option FileSlot) → Option ℕ → Type 0
Finds name number places None = entry_named name (slots_at places) ≡ None
Finds name number places (Some at) = (place : ℕ) × (at ≡ number + place) × IsAt name places place

finds-behind : (name : List ℕ) (number : ℕ) (first : Option FileSlot) (places : List (Option FileSlot)) (at : Option ℕ)
    → entry_named name (slots_at (first ∷ places)) ≡ entry_named name (slots_at places)
    → Finds name (number + 1) places at → Finds name number (first ∷ places) at
finds-behind name number first places None same h = same ∙ h
finds-behind name number first places (Some at) same h = (
  suc h.0,
  let e = h.1 in omega (arith, e),
  record { entry = h.2.entry; there = h.2.there; named = h.2.named; entry_is = same ∙ h.2.entry_is },
)

pub finds : (name : List ℕ) (number : ℕ) (places : List (Option FileSlot))
    → Finds name number places (lookup (λ other. bytes_eq other name) (numbered number places))
finds name number [] = refl
finds name number (None ∷ places) = finds-behind name number None places _ refl (finds name (number + 1) places)
finds name number (Some (Foreign stanza) ∷ places) =
    finds-behind name number (Some (Foreign stanza)) places _ refl (finds name (number + 1) places)
finds name number (Some (Recorded entry) ∷ places) = by (bytes_eq entry.status.name name) refl (finds name (number + 1) places)
  where
    by : (b : Bool) → bytes_eq entry.status.name name ≡ b
        → Finds name (number + 1) places (lookup (λ other. bytes_eq other name) (numbered (number + 1) places))
        → Finds name number (Some (Recorded entry) ∷ places) (cond b (Some number) (lookup (λ other. bytes_eq other name) (numbered (number + 1) places)))
    by true e later = (
      zero,
      omega arith,
      record { entry = entry; there = refl; named = bytes_eq-true entry.status.name name e; entry_is = rw e refl },
    )
    by false e later = finds-behind name number (Some (Recorded entry)) places _ (rw e refl) later

-- what is found from the first place on
finds-at : (name : List ℕ) (places : List (Option FileSlot)) (at : Option ℕ) → Finds name 0 places at → FindsAt name places at
finds-at name places None h = h
finds-at name places (Some at) h = let e : h.0 ≡ at = let f = h.1 in omega (arith, f) in subst (IsAt name places) e h.2

pub found-at : {K : Type 0} (name_of : K → List ℕ) (name : List ℕ) (places : List (Option FileSlot)) (es : List (K × ℕ))
    → map {B = List ℕ × ℕ} (λ p. (name_of p.0, p.1)) es ≡ numbered 0 places → FindsAt name places (lookup (λ key. bytes_eq name (name_of key)) es)
found-at name_of name places es numbers =
    subst (FindsAt name places) (sym (lookup-owned name_of name es ∙ ap (lookup (λ other. bytes_eq other name)) numbers))
    (finds-at name places (lookup (λ other. bytes_eq other name) (numbered 0 places)) (finds name 0 places))

-- a slot of the name of this entry is among those in whose places the entry stands
pub is_in-there : (places : List (Option FileSlot)) (place : ℕ) (entry : FileRecord) → slice_get places place ≡ Some (Some (Recorded entry))
    → is_in entry.status.name (names_of (slots_at places)) ≡ true
is_in-there [] place entry there = absurd (let h = there in cc)
is_in-there (None ∷ places) zero entry there = absurd (let h = there in cc)
is_in-there (Some (Foreign stanza) ∷ places) zero entry there = absurd (let h = there in cc)
is_in-there (Some (Recorded first) ∷ places) zero entry there =
    let same : first ≡ entry = let h = there in cc in rw (bytes_eq-same first.status.name entry.status.name (ap (λ (e : FileRecord). e.status.name) same)) refl
is_in-there (None ∷ places) (suc place) entry there = is_in-there places place entry there
is_in-there (Some (Foreign stanza) ∷ places) (suc place) entry there = is_in-there places place entry there
is_in-there (Some (Recorded first) ∷ places) (suc place) entry there =
    rw (is_in-there places place entry there) (or-true (bytes_eq first.status.name entry.status.name))
  where
    or-true : (b : Bool) → (b || true) ≡ true
    or-true true = refl
    or-true false = refl

-- an entry before the place has another name
before-other : (first entry : FileRecord) (places : List (Option FileSlot)) (place : ℕ)
    → is_in first.status.name (names_of (slots_at places)) ≡ false → slice_get places place ≡ Some (Some (Recorded entry))
    → bytes_eq first.status.name entry.status.name ≡ false
before-other first entry places place distinct there = by (bytes_eq first.status.name entry.status.name) refl
  where
    by : (b : Bool) → bytes_eq first.status.name entry.status.name ≡ b → b ≡ false
    by false e = refl
    by true e = absurd (true≢false (sym (is_in-there places place entry there)
        ∙ subst (λ name. is_in name (names_of (slots_at places)) ≡ false) (bytes_eq-true first.status.name entry.status.name e) distinct))

-- the numbers stay where an entry is written over one of its name
pub numbered-written : (number : ℕ) (places : List (Option FileSlot)) (place : ℕ) (entry new : FileRecord)
    → slice_get places place ≡ Some (Some (Recorded entry)) → new.status.name ≡ entry.status.name
    → numbered number (slice_set places place (Some (Recorded new))) ≡ numbered number places
numbered-written number [] place entry new there same = refl
numbered-written number (None ∷ places) zero entry new there same = absurd (let h = there in cc)
numbered-written number (Some (Foreign stanza) ∷ places) zero entry new there same = absurd (let h = there in cc)
numbered-written number (Some (Recorded first) ∷ places) zero entry new there same =
    let e : entry ≡ first = let h = there in cc in
    ap (λ name. (name, number) ∷ numbered (number + 1) places) (same ∙ ap (λ (e : FileRecord). e.status.name) e)
numbered-written number (None ∷ places) (suc place) entry new there same = numbered-written (number + 1) places place entry new there same
numbered-written number (Some (Foreign stanza) ∷ places) (suc place) entry new there same =
    numbered-written (number + 1) places place entry new there same
numbered-written number (Some (Recorded first) ∷ places) (suc place) entry new there same =
    ap (λ later. (first.status.name, number) ∷ later) (numbered-written (number + 1) places place entry new there same)

-- the entry of the name is changed where one is written over it
pub slots-written : (places : List (Option FileSlot)) (place : ℕ) (entry new : FileRecord) → slice_get places place ≡ Some (Some (Recorded entry))
    → AreDistinct (names_of (slots_at places))
    → slots_at (slice_set places place (Some (Recorded new))) ≡ changed_slots (is_named entry.status.name) (λ _. new) (slots_at places)
slots-written [] place entry new there distinct = refl
slots-written (None ∷ places) zero entry new there distinct = absurd (let h = there in cc)
slots-written (Some (Foreign stanza) ∷ places) zero entry new there distinct = absurd (let h = there in cc)
slots-written (Some (Recorded first) ∷ places) zero entry new there distinct =
    let same : first.status.name ≡ entry.status.name = ap (λ (e : FileRecord). e.status.name) (let e : first ≡ entry = let h = there in cc in e) in
    rw (bytes_eq-same first.status.name entry.status.name same)
    (ap (λ later. Recorded new ∷ later) (sym (unnamed-changed entry.status.name (λ _. new) (slots_at places)
    (subst (λ name. is_in name (names_of (slots_at places)) ≡ false) same distinct.0))))
slots-written (None ∷ places) (suc place) entry new there distinct = slots-written places place entry new there distinct
slots-written (Some (Foreign stanza) ∷ places) (suc place) entry new there distinct =
    ap (λ later. Foreign stanza ∷ later) (slots-written places place entry new there distinct)
slots-written (Some (Recorded first) ∷ places) (suc place) entry new there distinct =
    rw (before-other first entry places place distinct.0 there)
    (ap (λ later. Recorded first ∷ later) (slots-written places place entry new there distinct.1))

-- the name loses its number where its place is emptied
pub numbered-emptied : (number : ℕ) (places : List (Option FileSlot)) (place : ℕ) (entry : FileRecord)
    → slice_get places place ≡ Some (Some (Recorded entry)) → AreDistinct (names_of (slots_at places))
    → numbered number (slice_set places place None) ≡ remove_entry (λ other. bytes_eq other entry.status.name) (numbered number places)
numbered-emptied number [] place entry there distinct = refl
numbered-emptied number (None ∷ places) zero entry there distinct = absurd (let h = there in cc)
numbered-emptied number (Some (Foreign stanza) ∷ places) zero entry there distinct = absurd (let h = there in cc)
numbered-emptied number (Some (Recorded first) ∷ places) zero entry there distinct =
    let same : first.status.name ≡ entry.status.name = ap (λ (e : FileRecord). e.status.name) (let e : first ≡ entry = let h = there in cc in e) in
    rw (bytes_eq-same first.status.name entry.status.name same) refl
numbered-emptied number (None ∷ places) (suc place) entry there distinct = numbered-emptied (number + 1) places place entry there distinct
numbered-emptied number (Some (Foreign stanza) ∷ places) (suc place) entry there distinct =
    numbered-emptied (number + 1) places place entry there distinct
numbered-emptied number (Some (Recorded first) ∷ places) (suc place) entry there distinct =
    rw (before-other first entry places place distinct.0 there)
    (ap (λ later. (first.status.name, number) ∷ later) (numbered-emptied (number + 1) places place entry there distinct.1))

-- and its slot is no more
pub slots-emptied : (places : List (Option FileSlot)) (place : ℕ) (entry : FileRecord) → slice_get places place ≡ Some (Some (Recorded entry))
    → AreDistinct (names_of (slots_at places))
    → slots_at (slice_set places place None) ≡ filter (λ slot. not (is_slot_named entry.status.name slot)) (slots_at places)
slots-emptied [] place entry there distinct = refl
slots-emptied (None ∷ places) zero entry there distinct = absurd (let h = there in cc)
slots-emptied (Some (Foreign stanza) ∷ places) zero entry there distinct = absurd (let h = there in cc)
slots-emptied (Some (Recorded first) ∷ places) zero entry there distinct =
    let same : first.status.name ≡ entry.status.name = ap (λ (e : FileRecord). e.status.name) (let e : first ≡ entry = let h = there in cc in e) in
    rw (bytes_eq-same first.status.name entry.status.name same)
    (sym (unnamed-kept entry.status.name (slots_at places) (subst (λ name. is_in name (names_of (slots_at places)) ≡ false) same distinct.0)))
slots-emptied (None ∷ places) (suc place) entry there distinct = slots-emptied places place entry there distinct
slots-emptied (Some (Foreign stanza) ∷ places) (suc place) entry there distinct =
    ap (λ later. Foreign stanza ∷ later) (slots-emptied places place entry there distinct)
slots-emptied (Some (Recorded first) ∷ places) (suc place) entry there distinct =
    rw (before-other first entry places place distinct.0 there)
    (ap (λ later. Recorded first ∷ later) (slots-emptied places place entry there distinct.1))

further : (number : ℕ) (places more : List (Option FileSlot)) (before : List (List ℕ × ℕ))
    → before ++ numbered (number + 1 + length places) more ≡ before ++ numbered (number + suc (length places)) more
further number places more before =
    ap (λ n. before ++ numbered n more) (let e : number + 1 + length places ≡ number + suc (length places) = omega arith in e)

-- the numbers of places behind others
pub numbered-append : (number : ℕ) (places more : List (Option FileSlot))
    → numbered number (places ++ more) ≡ numbered number places ++ numbered (number + length places) more
numbered-append number [] more = ap (λ n. numbered n more) (let e : number ≡ number + 0 = omega arith in e)
numbered-append number (None ∷ places) more = numbered-append (number + 1) places more ∙ further number places more (numbered (number + 1) places)
numbered-append number (Some (Foreign stanza) ∷ places) more =
    numbered-append (number + 1) places more ∙ further number places more (numbered (number + 1) places)
numbered-append number (Some (Recorded entry) ∷ places) more =
    ap (λ later. (entry.status.name, number) ∷ later)
    (numbered-append (number + 1) places more ∙ further number places more (numbered (number + 1) places))

-- the names of keys
pub key-names : {K : Type 0} (name_of : K → List ℕ) (es : List (K × ℕ)) → map name_of (keys_of es) ≡ map (λ p. p.0) (map {B = List ℕ × ℕ} (λ p. (name_of p.0, p.1)) es)
key-names name_of [] = refl
key-names name_of (e ∷ es) = ap (λ names. name_of e.0 ∷ names) (key-names name_of es)
