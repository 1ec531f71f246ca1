-- A table of texts that is written to is a table, and its slots are those that the write says.
use Rattle.std.proofs.Common.{◌≡◌, ℕ, zero, suc, ◌<◌, List, [], ◌∷◌, ◌++◌, map, length, slice_get, slice_set, take, get_or, not, Option, Some, None, Vec, Global, refl, sym, ap, subst, ◌∙◌, bytes_eq, arith, IfSome, false}
use Rattle.std.proofs.lemmas.List.{map-append, map-set}
use Rattle.std.proofs.lemmas.Option.{slice_get-map}
use Rattle.std.specs.List.{filter, zip}
use Rattle.std.specs.Map.{keys_of, lookup, remove_entry}
use Rattle.std.specs.Option.{option_and_then, option_map}
use Rattle.rules.specs.FileRecord.{FileRecord}
use Rattle.rules.specs.Step.{is_named}
use Rattle.status_text.proofs.DistinctFieldLemmas.{all-append}
use Rattle.status_text.specs.Alone.{alone}
use Rattle.status_text.specs.Slot.{FileSlot}
use Rattle.status_text.specs.declared.slot.Slot.TheVariants.{Recorded, Foreign}
use Rattle.status.proofs.NameLemmas.{bytes_eq-flip, is_in, or-both-false, or-false-left, or-false-right}
use Rattle.status.proofs.PlaceLemmas.{lookup-owned}
use Rattle.status.proofs.TableLemmas.{emptied, table-emptied, table-kept, table-pushed, table-written, written}
use Rattle.status.specs.Change.{IsTextOf}
use Rattle.status.specs.Places.{AreDistinct, AreKept, IsAt, IsTable, entry_at, inside, slots_at, slots_read}
use Rattle.status.specs.Slots.{changed_slots, is_slot_named, names_of}
use Rattle.status.specs.Stored.{IsStored}

-- the texts in places that own them
abbrev pub texts_in : {T : Type 0} → (T → List ℕ) → List (Option T) → List (Option (List ℕ))
texts_in text_of places = map (λ place. option_map (λ text. text_of text) place) places

-- the names of keys that own them, with their numbers
abbrev pub names_in : List (Vec ℕ Global × ℕ) → List (List ℕ × ℕ)
names_in entries = map (λ pair. (pair.0.items, pair.1)) entries

-- the texts are those of a table
abbrev pub IsTextTable : List ℕ → List (List ℕ × ℕ) → List (Option (List ℕ)) → Type 0
IsTextTable arch es texts = IsTable es (slots_read arch texts) × AreKept arch texts

pub texts-behind : {T : Type 0} (text_of : T → List ℕ) (places : List (Option T)) (text : T)
    → texts_in text_of (places ++ Some text ∷ []) ≡ texts_in text_of places ++ Some (text_of text) ∷ []
texts-behind {T} text_of places text = map-append (λ (place : Option T). option_map (λ t. text_of t) place) places (Some text ∷ [])

read-behind : (arch : List ℕ) (texts : List (Option (List ℕ))) (text : List ℕ) (slot : FileSlot) → alone arch text ≡ Some slot
    → slots_read arch (texts ++ Some text ∷ []) ≡ slots_read arch texts ++ Some slot ∷ []
read-behind arch texts text slot read =
    map-append (option_and_then (alone arch)) texts (Some text ∷ []) ∙ ap (λ place. slots_read arch texts ++ place ∷ []) read

kept-behind : (arch : List ℕ) (texts : List (Option (List ℕ))) (text : List ℕ) (slot : FileSlot) → AreKept arch texts → IsStored arch text slot
    → AreKept arch (texts ++ Some text ∷ [])
kept-behind arch texts text slot kept stored =
    all-append (λ place. IfSome place (λ t. (kept_slot : FileSlot) × IsStored arch t kept_slot)) texts (Some text ∷ []) kept ((slot, stored), tt)

pub foreign-pushed : (arch : List ℕ) (es : List (List ℕ × ℕ)) (texts : List (Option (List ℕ))) (text : List ℕ) (stanza : _) → IsTextTable arch es texts
    → IsStored arch text (Foreign stanza) → IsTextTable arch es (texts ++ Some text ∷ [])
foreign-pushed arch es texts text stanza table stored = (
  subst (IsTable es) (sym (read-behind arch texts text (Foreign stanza) stored.read)) (table-kept es (slots_read arch texts) stanza table.0),
  kept-behind arch texts text (Foreign stanza) table.1 stored,
)

pub recorded-pushed : (arch : List ℕ) (es pushed : List (List ℕ × ℕ)) (texts : List (Option (List ℕ))) (text : List ℕ) (entry : FileRecord) → IsTextTable arch es texts
    → IsTextOf arch text entry → is_in entry.status.name (names_of (slots_at (slots_read arch texts))) ≡ false
    → pushed ≡ es ++ (entry.status.name, length texts) ∷ [] → IsTextTable arch pushed (texts ++ Some text ∷ [])
recorded-pushed arch es pushed texts text entry table stored fresh is = (
  subst (λ names. IsTable names (slots_read arch (texts ++ Some text ∷ []))) (sym is)
      (subst (IsTable (es ++ (entry.status.name, length texts) ∷ [])) (sym (read-behind arch texts text (Recorded entry) stored.read))
      (subst (λ n. IsTable (es ++ (entry.status.name, n) ∷ []) (slots_read arch texts ++ Some (Recorded entry) ∷ [])) (map-length texts)
      (table-pushed es (slots_read arch texts) entry table.0 fresh))),
  kept-behind arch texts text (Recorded entry) table.1 stored,
)
  where
    map-length : (xs : List (Option (List ℕ))) → length (slots_read arch xs) ≡ length xs
    map-length [] = refl
    map-length (x ∷ xs) = ap suc (map-length xs)

-- a text written in a place
texts-set : (arch : List ℕ) (texts : List (Option (List ℕ))) (place : ℕ) (text : Option (List ℕ)) (slot : Option FileSlot) → option_and_then (alone arch) text ≡ slot
    → slots_read arch (slice_set texts place text) ≡ slice_set (slots_read arch texts) place slot
texts-set arch texts place text slot read =
    map-set (option_and_then (alone arch)) texts place text ∙ ap (slice_set (slots_read arch texts) place) read

kept-set : (arch : List ℕ) (texts : List (Option (List ℕ))) (place : ℕ) (text : Option (List ℕ)) → AreKept arch texts
    → IfSome text (λ t. (slot : FileSlot) × IsStored arch t slot) → AreKept arch (slice_set texts place text)
kept-set arch [] place text kept stored = tt
kept-set arch (first ∷ texts) zero text kept stored = (stored, kept.1)
kept-set arch (first ∷ texts) (suc place) text kept stored = (kept.0, kept-set arch texts place text kept.1 stored)

pub in-places : {T : Type 0} (text_of : T → List ℕ) (places : List (Option T)) (place : ℕ) (text : Option T)
    → texts_in text_of (slice_set places place text) ≡ slice_set (texts_in text_of places) place (option_map text_of text)
in-places {T} text_of places place text = map-set (λ (p : Option T). option_map (λ t. text_of t) p) places place text

module _ (arch name : List ℕ) (es : List (List ℕ × ℕ)) (texts : List (Option (List ℕ))) (table : IsTextTable arch es texts)
    (place : ℕ) (at : IsAt name (slots_read arch texts) place) where
  pub text-written : (text : List ℕ) (entry : FileRecord) → IsTextOf arch text entry → entry.status.name ≡ name → IsTextTable arch es (slice_set texts place (Some text))
  text-written text entry stored named = (
    subst (IsTable es) (sym (texts-set arch texts place (Some text) (Some (Recorded entry)) stored.read))
        (table-written name es (slots_read arch texts) table.0 place at entry named),
    kept-set arch texts place (Some text) table.1 (Recorded entry, stored),
  )

  pub slots-written : (text : List ℕ) (entry : FileRecord) → alone arch text ≡ Some (Recorded entry) → entry.status.name ≡ name
      → slots_at (slots_read arch (slice_set texts place (Some text))) ≡ changed_slots (is_named name) (λ _. entry) (slots_at (slots_read arch texts))
  slots-written text entry read named =
      ap slots_at (texts-set arch texts place (Some text) (Some (Recorded entry)) read)
      ∙ written name es (slots_read arch texts) table.0 place at entry named

  pub text-emptied : IsTextTable arch (remove_entry (λ other. bytes_eq other name) es) (slice_set texts place None)
  text-emptied = (
    subst (IsTable (remove_entry (λ other. bytes_eq other name) es)) (sym (texts-set arch texts place None None refl))
        (table-emptied name es (slots_read arch texts) table.0 place at),
    kept-set arch texts place None table.1 tt,
  )

  pub slots-emptied : slots_at (slots_read arch (slice_set texts place None)) ≡ filter (λ slot. not (is_slot_named name slot)) (slots_at (slots_read arch texts))
  slots-emptied = ap slots_at (texts-set arch texts place None None refl) ∙ emptied name es (slots_read arch texts) table.0 place at

-- a place that is found is one of the places
pub place-within : {A : Type 0} (xs : List A) (place : ℕ) (x : A) → slice_get xs place ≡ Some x → place < length xs
place-within [] place x h = absurd (let e = h in cc)
place-within (first ∷ xs) zero x h = omega arith
place-within (first ∷ xs) (suc place) x h = let later = place-within xs place x h in omega (arith, later)

pub read-length : {T : Type 0} (text_of : T → List ℕ) (arch : List ℕ) (places : List (Option T)) → length (slots_read arch (texts_in text_of places)) ≡ length places
read-length text_of arch [] = refl
read-length text_of arch (place ∷ places) = ap suc (read-length text_of arch places)

-- the entry of the text in a place
pub entry-in : {T : Type 0} (text_of : T → List ℕ) (arch : List ℕ) (places : List (Option T)) (place : ℕ) (text : T) → Some text ≡ inside (slice_get places place)
    → entry_at (Some (alone arch (text_of text))) ≡ entry_at (slice_get (slots_read arch (texts_in text_of places)) place)
entry-in {T} text_of arch places place text there =
    by (slice_get places place) there
    ∙ ap entry_at (sym (slice_get-map (option_and_then (alone arch)) (texts_in text_of places) place
    ∙ ap (option_map (option_and_then (alone arch))) (slice_get-map (λ (p : Option T). option_map (λ t. text_of t) p) places place)))
  where
    by : (held : Option (Option T)) → Some text ≡ inside held
        → entry_at (Some (alone arch (text_of text))) ≡ entry_at (option_map (option_and_then (alone arch)) (option_map (λ p. option_map (λ t. text_of t) p) held))
    by None h = absurd (let e = h in cc)
    by (Some None) h = absurd (let e = h in cc)
    by (Some (Some other)) h = let same : text ≡ other = let e = h in cc in ap (λ (t : T). entry_at (Some (alone arch (text_of t)))) same

pub entry-out : {T : Type 0} (text_of : T → List ℕ) (arch : List ℕ) (places : List (Option T)) (place : ℕ) → None ≡ inside (slice_get places place)
    → ◌≡◌ {A = Option FileRecord} None (entry_at (slice_get (slots_read arch (texts_in text_of places)) place))
entry-out {T} text_of arch places place there =
    by (slice_get places place) there
    ∙ ap entry_at (sym (slice_get-map (option_and_then (alone arch)) (texts_in text_of places) place
    ∙ ap (option_map (option_and_then (alone arch))) (slice_get-map (λ (p : Option T). option_map (λ t. text_of t) p) places place)))
  where
    by : (held : Option (Option T)) → None ≡ inside held
        → ◌≡◌ {A = Option FileRecord} None (entry_at (option_map (option_and_then (alone arch)) (option_map (λ p. option_map (λ t. text_of t) p) held)))
    by None h = refl
    by (Some None) h = refl
    by (Some (Some other)) h = absurd (let e = h in cc)

-- the names of a table, once more
distinct-fresh : (names : List (List ℕ)) (at : ℕ) (name : List ℕ) → AreDistinct names → slice_get names at ≡ Some name → is_in name (take at names) ≡ false
distinct-fresh [] at name distinct there = absurd (let e = there in cc)
distinct-fresh (first ∷ names) zero name distinct there = refl
distinct-fresh (first ∷ names) (suc at) name distinct there =
    or-both-false (bytes_eq first name) (is_in name (take at names))
    (bytes_eq-flip first name ∙ other names at distinct.0 there) (distinct-fresh names at name distinct.1 there)
  where
    other : (names : List (List ℕ)) (at : ℕ) → is_in first names ≡ false → slice_get names at ≡ Some name → bytes_eq name first ≡ false
    other [] at none there = absurd (let e = there in cc)
    other (next ∷ names) zero none there = let same : next ≡ name = let e = there in cc in
        subst (λ n. bytes_eq n first ≡ false) same (or-false-left (bytes_eq next first) (is_in first names) none)
    other (next ∷ names) (suc at) none there = other names at (or-false-right (bytes_eq next first) (is_in first names) none) there

absent : (name : List ℕ) (es : List (List ℕ × ℕ)) → is_in name (map (λ p. p.0) es) ≡ false → lookup (λ other. bytes_eq other name) es ≡ None
absent name [] none = refl
absent name (e ∷ es) none =
    rw (or-false-left (bytes_eq e.0 name) (is_in name (map (λ p. p.0) es)) none) (absent name es (or-false-right (bytes_eq e.0 name) (is_in name (map (λ p. p.0) es)) none))

pub copy-fresh : (es : List (Vec ℕ Global × ℕ)) (names : List (List ℕ)) (numbers : List ℕ) (at : ℕ) (name : List ℕ) → AreDistinct names
    → length numbers ≡ length names → names_in es ≡ zip (take at names) (take at numbers) → slice_get names at ≡ Some name
    → lookup (λ key. bytes_eq name key.items) es ≡ None
copy-fresh es names numbers at name distinct each is there =
    lookup-owned (λ key. key.items) name es
    ∙ absent name (names_in es) (ap (is_in name) (ap (map (λ p. p.0)) is ∙ firsts names numbers at each) ∙ distinct-fresh names at name distinct there)
  where
    firsts : (names : List (List ℕ)) (numbers : List ℕ) (at : ℕ) → length numbers ≡ length names
        → map (λ p. p.0) (zip (take at names) (take at numbers)) ≡ take at names
    firsts names numbers zero e = refl
    firsts [] [] (suc at) e = refl
    firsts [] (n ∷ numbers) (suc at) e = refl
    firsts (x ∷ names) [] (suc at) e = absurd (let h = e in omega (arith, h))
    firsts (x ∷ names) (n ∷ numbers) (suc at) e = ap (λ rest. x ∷ rest) (firsts names numbers at (let h = e in omega (arith, h)))

pub copy-more : (es : List (Vec ℕ Global × ℕ)) (names : List (List ℕ)) (numbers : List ℕ) (at : ℕ) (owned : Vec ℕ Global) (number : ℕ)
    → names_in es ≡ zip (take at names) (take at numbers) → slice_get names at ≡ Some owned.items → slice_get numbers at ≡ Some number
    → names_in (es ++ (owned, number) ∷ []) ≡ zip (take (suc at) names) (take (suc at) numbers)
copy-more es names numbers at owned number is there numbered =
    map-append (λ pair. (pair.0.items, pair.1)) es ((owned, number) ∷ []) ∙ ap (λ front. front ++ (owned.items, number) ∷ []) is ∙ more names numbers at there numbered
  where
    more : (names : List (List ℕ)) (numbers : List ℕ) (at : ℕ) → slice_get names at ≡ Some owned.items → slice_get numbers at ≡ Some number
        → zip (take at names) (take at numbers) ++ (owned.items, number) ∷ [] ≡ zip (take (suc at) names) (take (suc at) numbers)
    more [] numbers at h k = absurd (let e = h in cc)
    more (x ∷ names) [] at h k = absurd (let e = k in cc)
    more (x ∷ names) (n ∷ numbers) zero h k =
        let same : x ≡ owned.items = let e = h in cc in let alike : n ≡ number = let e = k in cc in λ i. (sym same i, sym alike i) ∷ []
    more (x ∷ names) (n ∷ numbers) (suc at) h k = ap (λ rest. (x, n) ∷ rest) (more names numbers at h k)

pub zip-parts : (es : List (Vec ℕ Global × ℕ)) → zip (map (λ name. name.items) (keys_of es)) (map (λ p. p.1) es) ≡ names_in es
zip-parts [] = refl
zip-parts (e ∷ es) = ap (λ rest. (e.0.items, e.1) ∷ rest) (zip-parts es)

pub texts-length : {T : Type 0} (text_of : T → List ℕ) (places : List (Option T)) → length (texts_in text_of places) ≡ length places
texts-length text_of [] = refl
texts-length text_of (place ∷ places) = ap suc (texts-length text_of places)

-- what stands in a place
pub at-place : {A : Type 0} (xs : List A) (place : ℕ) (x : A) → place < length xs → x ≡ get_or xs place x → slice_get xs place ≡ Some x
at-place [] place x within is = absurd (omega (arith, within))
at-place (first ∷ xs) zero x within is = ap (λ y. Some y) (sym is)
at-place (first ∷ xs) (suc place) x within is = at-place xs place x (omega (arith, within)) is

pub at-default : {A : Type 0} (xs : List A) (place : ℕ) (d : A) → place < length xs → slice_get xs place ≡ Some (get_or xs place d)
at-default [] place d within = absurd (omega (arith, within))
at-default (first ∷ xs) zero d within = refl
at-default (first ∷ xs) (suc place) d within = at-default xs place d (omega (arith, within))

pub items-length : (names : List (Vec ℕ Global)) → length (map (λ name. name.items) names) ≡ length names
items-length [] = refl
items-length (name ∷ names) = ap suc (items-length names)
