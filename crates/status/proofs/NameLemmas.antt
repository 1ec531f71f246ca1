-- Lists of names: distinct ones, and slots by their names.
use Rattle.std.proofs.Common.{◌≡◌, ◌≢◌, ℕ, zero, suc, Bool, true, false, true≢false, cond, not, ◌||◌, List, [], ◌∷◌, ◌++◌, map, refl, sym, ap, subst, ◌∙◌, bytes_eq, arith, inl, inr}
use Rattle.std.proofs.lemmas.Bool.{cases_Bool}
use Rattle.std.proofs.lemmas.List.Elements.{All-cons, All-nil}
use Rattle.std.proofs.lemmas.List.Folds.{list_any-append}
use Rattle.std.proofs.lemmas.List.Kept.{AllPairs-cons}
use Rattle.std.specs.List.{All, list_any, filter}
use Rattle.rules.specs.Database.{Record, HasDistinctNames}
use Rattle.rules.specs.FileRecord.{FileRecord}
use Rattle.rules.specs.NamedLaws.{bytes_eq-same, bytes_eq-true}
use Rattle.rules.specs.Step.{is_named}
use Rattle.status_text.specs.Slot.{FileSlot, slot_records}
use Rattle.status_text.specs.declared.slot.Slot.TheVariants.{Recorded, Foreign}
use Rattle.status.specs.Places.{AreDistinct}
use Rattle.status.specs.Slots.{IsNew, changed_slots, has_name, is_slot_named, names_of}

pub bytes_eq-flip : (xs ys : List ℕ) → bytes_eq xs ys ≡ bytes_eq ys xs
bytes_eq-flip xs ys = by (bytes_eq xs ys) (bytes_eq ys xs) refl refl
  where
    by : (a b : Bool) → bytes_eq xs ys ≡ a → bytes_eq ys xs ≡ b → a ≡ b
    by true true e f = refl
    by false false e f = refl
    by true false e f = absurd (true≢false (sym (bytes_eq-same ys xs (sym (bytes_eq-true xs ys e))) ∙ f))
    by false true e f = absurd (true≢false (sym (bytes_eq-same xs ys (sym (bytes_eq-true ys xs f))) ∙ e))

-- one of the names is this one
abbrev pub is_in : List ℕ → List (List ℕ) → Bool
is_in name names = list_any (λ other. bytes_eq other name) names

pub or-false-left : (a b : Bool) → (a || b) ≡ false → a ≡ false
or-false-left true b h = h
or-false-left false b h = refl

pub or-false-right : (a b : Bool) → (a || b) ≡ false → b ≡ false
or-false-right true b h = absurd (true≢false h)
or-false-right false b h = h

pub or-both-false : (a b : Bool) → a ≡ false → b ≡ false → (a || b) ≡ false
or-both-false a b e f = rw (e, f) refl

-- a slot has the name where it is one of their names
pub has_name-names : (name : List ℕ) (slots : List FileSlot) → has_name name slots ≡ is_in name (names_of slots)
has_name-names name [] = refl
has_name-names name (Recorded entry ∷ slots) = ap (λ later. bytes_eq entry.status.name name || later) (has_name-names name slots)
has_name-names name (Foreign stanza ∷ slots) = has_name-names name slots

-- slots of other names stay where a name is changed or deleted
pub unnamed-changed : (name : List ℕ) (change : FileRecord → FileRecord) (slots : List FileSlot) → is_in name (names_of slots) ≡ false
    → changed_slots (is_named name) change slots ≡ slots
unnamed-changed name change [] h = refl
unnamed-changed name change (Foreign stanza ∷ slots) h = ap (λ later. Foreign stanza ∷ later) (unnamed-changed name change slots h)
unnamed-changed name change (Recorded entry ∷ slots) h =
    rw (
      or-false-left (bytes_eq entry.status.name name) (is_in name (names_of slots)) h,
      unnamed-changed name change slots (or-false-right (bytes_eq entry.status.name name) (is_in name (names_of slots)) h),
    ) refl

pub unnamed-kept : (name : List ℕ) (slots : List FileSlot) → is_in name (names_of slots) ≡ false
    → filter (λ slot. not (is_slot_named name slot)) slots ≡ slots
unnamed-kept name [] h = refl
unnamed-kept name (Foreign stanza ∷ slots) h = ap (λ later. Foreign stanza ∷ later) (unnamed-kept name slots h)
unnamed-kept name (Recorded entry ∷ slots) h =
    rw (
      or-false-left (bytes_eq entry.status.name name) (is_in name (names_of slots)) h,
      unnamed-kept name slots (or-false-right (bytes_eq entry.status.name name) (is_in name (names_of slots)) h),
    ) refl

-- names stay distinct with a new one behind them
is_in-behind : (name other : List ℕ) (names : List (List ℕ)) → is_in name names ≡ false → bytes_eq other name ≡ false
    → is_in name (names ++ other ∷ []) ≡ false
is_in-behind name other names h differs =
    list_any-append (λ x. bytes_eq x name) names (other ∷ []) ∙ rw (h, differs) refl

pub distinct-behind : (names : List (List ℕ)) (name : List ℕ) → AreDistinct names → is_in name names ≡ false → AreDistinct (names ++ name ∷ [])
distinct-behind [] name distinct h = (refl, tt)
distinct-behind (first ∷ names) name distinct h = (
  is_in-behind first name names distinct.0 (bytes_eq-flip name first ∙ or-false-left (bytes_eq first name) (is_in name names) h),
  distinct-behind names name distinct.1 (or-false-right (bytes_eq first name) (is_in name names) h),
)

-- and without one of them
abbrev pub without : {A : Type 0} → (A → Bool) → List A → List A
without test [] = []
without test (x ∷ xs) = cond (test x) xs (x ∷ without test xs)

is_in-without : (test : List ℕ → Bool) (name : List ℕ) (names : List (List ℕ)) → is_in name names ≡ false → is_in name (without test names) ≡ false
is_in-without test name [] h = h
is_in-without test name (first ∷ names) h = by (test first) (is_in-without test name names)
  where
    by : (b : Bool) → (is_in name names ≡ false → is_in name (without test names) ≡ false)
        → is_in name (cond b names (first ∷ without test names)) ≡ false
    by true later = or-false-right (bytes_eq first name) (is_in name names) h
    by false later = or-both-false (bytes_eq first name) (is_in name (without test names)) (or-false-left (bytes_eq first name) (is_in name names) h)
        (later (or-false-right (bytes_eq first name) (is_in name names) h))

pub distinct-without : (test : List ℕ → Bool) (names : List (List ℕ)) → AreDistinct names → AreDistinct (without test names)
distinct-without test [] h = h
distinct-without test (first ∷ names) h = by (test first) (distinct-without test names h.1)
  where
    by : (b : Bool) → AreDistinct (without test names) → AreDistinct (cond b names (first ∷ without test names))
    by true later = h.1
    by false later = (is_in-without test first names h.0, later)

-- records of distinct names have distinct names
abbrev pub record_names : List Record → List (List ℕ)
record_names db = map (λ entry. entry.name) db

none-in : (name : List ℕ) (db : List Record) → All (λ other. name ≢ other.name) db → is_in name (record_names db) ≡ false
none-in name [] h = refl
none-in name (entry ∷ db) h = elim (cases_Bool (bytes_eq entry.name name)) [
  | inl same ↦ absurd (h zero entry (omega arith) (sym (bytes_eq-true entry.name name same)))
  | inr other ↦ or-both-false (bytes_eq entry.name name) (is_in name (record_names db)) other
      (none-in name db (λ k d within. h (suc k) d (omega arith)))
]

pub distinct-from : (db : List Record) → HasDistinctNames db → AreDistinct (record_names db)
unfolding HasDistinctNames
distinct-from [] h = tt
distinct-from (entry ∷ db) h = (
  none-in entry.name db (λ k d within. h zero (suc k) d (omega arith) (omega arith)),
  distinct-from db (λ i j d before within. h (suc i) (suc j) d (omega arith) (omega arith)),
)

each-other : (name : List ℕ) (db : List Record) → is_in name (record_names db) ≡ false → All (λ other. name ≢ other.name) db
each-other name [] h = All-nil (λ other. name ≢ other.name)
each-other name (entry ∷ db) h = All-cons (λ other. name ≢ other.name) entry db
    (λ same. true≢false (sym (bytes_eq-same entry.name name (sym same)) ∙ or-false-left (bytes_eq entry.name name) (is_in name (record_names db)) h))
    (each-other name db (or-false-right (bytes_eq entry.name name) (is_in name (record_names db)) h))

pub distinct-to : (db : List Record) → AreDistinct (record_names db) → HasDistinctNames db
unfolding HasDistinctNames
distinct-to [] h = λ i j d before within. absurd (omega (arith, within))
distinct-to (entry ∷ db) h =
    AllPairs-cons (λ earlier later. earlier.name ≢ later.name) entry db (each-other entry.name db h.0) (distinct-to db h.1)

-- the names of slots are those of their records
pub names-of-records : (slots : List FileSlot) → record_names (slot_records slots) ≡ names_of slots
names-of-records [] = refl
names-of-records (Foreign stanza ∷ slots) = names-of-records slots
names-of-records (Recorded entry ∷ slots) = ap (λ names. entry.status.name ∷ names) (names-of-records slots)

pub slots-distinct-to : (slots : List FileSlot) → AreDistinct (names_of slots) → HasDistinctNames (slot_records slots)
slots-distinct-to slots h = distinct-to (slot_records slots) (subst AreDistinct (sym (names-of-records slots)) h)

pub slots-distinct-from : (slots : List FileSlot) → HasDistinctNames (slot_records slots) → AreDistinct (names_of slots)
slots-distinct-from slots h = subst AreDistinct (names-of-records slots) (distinct-from (slot_records slots) h)

-- of slots with distinct names each is new behind those before it
other-behind : (name : List ℕ) (slots rest : List FileSlot) (entry : FileRecord) → is_in name (names_of (slots ++ Recorded entry ∷ rest)) ≡ false
    → bytes_eq entry.status.name name ≡ false
other-behind name [] rest entry h = or-false-left (bytes_eq entry.status.name name) (is_in name (names_of rest)) h
other-behind name (Foreign stanza ∷ slots) rest entry h = other-behind name slots rest entry h
other-behind name (Recorded first ∷ slots) rest entry h =
    other-behind name slots rest entry (or-false-right (bytes_eq first.status.name name) (is_in name (names_of (slots ++ Recorded entry ∷ rest))) h)

new-record : (slots rest : List FileSlot) (entry : FileRecord) → AreDistinct (names_of (slots ++ Recorded entry ∷ rest)) → has_name entry.status.name slots ≡ false
new-record [] rest entry h = refl
new-record (Foreign stanza ∷ slots) rest entry h = new-record slots rest entry h
new-record (Recorded first ∷ slots) rest entry h =
    or-both-false (bytes_eq first.status.name entry.status.name) (has_name entry.status.name slots)
    (bytes_eq-flip first.status.name entry.status.name ∙ other-behind first.status.name slots rest entry h.0)
    (new-record slots rest entry h.1)

pub is-new : (slots rest : List FileSlot) (slot : FileSlot) → AreDistinct (names_of (slots ++ slot ∷ rest)) → IsNew slot slots
is-new slots rest (Foreign stanza) h = tt
is-new slots rest (Recorded entry) h = new-record slots rest entry h
