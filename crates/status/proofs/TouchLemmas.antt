-- Records changed by their names, in slots as they are stored.
use Rattle.std.proofs.Common.{◌≡◌, ℕ, zero, suc, Bool, true, false, true≢false, cond, not, ◌||◌, List, [], ◌∷◌, ◌++◌, map, Option, Some, None, refl, sym, ap, subst, ◌∙◌, bytes_eq, if◌then◌else◌}
use Rattle.std.specs.Prelude.{⊤, IfOk, Result, Ok, Err, slice_get}
use Rattle.std.proofs.lemmas.List.Folds.{list_any-append}
use Rattle.std.proofs.lemmas.List.{map-append}
use Rattle.std.specs.List.{AllByRecursion, filter}
use Rattle.rules.specs.Database.{Record}
use Rattle.rules.specs.FileRecord.{FileRecord, IndexStanza, new_entry, touched_entry, unpacked_entry}
use Rattle.rules.specs.NamedLaws.{bytes_eq-true}
use Rattle.rules.specs.Step.{is_among, is_named}
use Rattle.status_text.specs.Slot.{FileSlot}
use Rattle.status_text.specs.declared.slot.Slot.TheVariants.{Recorded, Foreign}
use Rattle.status.proofs.FoundLemmas.{found-has_name, none-has_name, or-none}
use Rattle.status.proofs.NameLemmas.{is_in, or-false-left, or-false-right}
use Rattle.status.specs.Applicable.{first_unready, has_record}
use Rattle.status.specs.Left.{slots_after_unpack}
use Rattle.status.specs.Places.{AreDistinct}
use Rattle.status.specs.Action.{left_of}
use Rattle.status.specs.Slots.{IsNew, changed_slots, entry_named, has_name, names_of}
use Rattle.status.specs.declared.action.Action.{Action}
use Rattle.status.specs.declared.action.Action.TheVariants.{Configure, Deconfigure, Remove}
use Rattle.status.specs.Stored.{as_stored, written}
use Rattle.status.specs.Written.{entry_over}

-- a record of the name is this one
abbrev IsOnlyIn : List ℕ → FileRecord → FileSlot → Type 0
IsOnlyIn name old (Recorded entry) = is_named name entry.status ≡ true → entry ≡ old
IsOnlyIn name old (Foreign stanza) = ⊤

none-only : (name : List ℕ) (old : FileRecord) (slots : List FileSlot) → is_in name (names_of slots) ≡ false → AllByRecursion (IsOnlyIn name old) slots
none-only name old [] none = tt
none-only name old (Foreign stanza ∷ slots) none = (tt, none-only name old slots none)
none-only name old (Recorded entry ∷ slots) none = (
  λ named. absurd (true≢false (sym named ∙ or-false-left (bytes_eq entry.status.name name) (is_in name (names_of slots)) none)),
  none-only name old slots (or-false-right (bytes_eq entry.status.name name) (is_in name (names_of slots)) none),
)

-- of distinct names the record that is found is the only one of its name
pub found-only : (name : List ℕ) (old : FileRecord) (slots : List FileSlot) → AreDistinct (names_of slots) → entry_named name slots ≡ Some old
    → AllByRecursion (IsOnlyIn name old) slots
found-only name old [] distinct there = tt
found-only name old (Foreign stanza ∷ slots) distinct there = (tt, found-only name old slots distinct there)
found-only name old (Recorded entry ∷ slots) distinct there = by (bytes_eq entry.status.name name) refl there (found-only name old slots distinct.1)
  where
    by : (b : Bool) → bytes_eq entry.status.name name ≡ b → cond b (Some entry) (entry_named name slots) ≡ Some old
        → (entry_named name slots ≡ Some old → AllByRecursion (IsOnlyIn name old) slots)
        → (is_named name entry.status ≡ true → entry ≡ old) × AllByRecursion (IsOnlyIn name old) slots
    by true e h later = (
      λ named. let k = h in cc,
      none-only name old slots (subst (λ n. is_in n (names_of slots) ≡ false) (bytes_eq-true entry.status.name name e) distinct.0),
    )
    by false e h later = (λ named. absurd (true≢false (sym named ∙ e)), later h)

-- one more name changed
module _ (name : List ℕ) (change : FileRecord → FileRecord) (old : FileRecord) (before after : Record → Bool)
    (same : (entry : FileRecord) → before entry.status ≡ true → (change entry).status.name ≡ entry.status.name)
    (more : (one : Record) → after one ≡ (before one || is_named name one)) where
  entry-more : (entry : FileRecord) → (is_named name entry.status ≡ true → entry ≡ old)
      → (if is_named name (if before entry.status then change entry else entry).status then written (change old)
      else written (if before entry.status then change entry else entry)) ≡ written (if after entry.status then change entry else entry)
  entry-more entry only =
      by (before entry.status) (is_named name entry.status) refl refl
      ∙ ap (λ b. written (if b then change entry else entry)) (sym (more entry.status))
    where
      by : (b n : Bool) → before entry.status ≡ b → is_named name entry.status ≡ n
          → (if is_named name (if b then change entry else entry).status then written (change old) else written (if b then change entry else entry))
          ≡ written (if b || n then change entry else entry)
      by true true h e = rw (ap (λ x. bytes_eq x name) (same entry h) ∙ e) (ap (λ x. written (change x)) (sym (only e)))
      by true false h e = rw (ap (λ x. bytes_eq x name) (same entry h) ∙ e) refl
      by false true h e = rw e (ap (λ x. written (change x)) (sym (only e)))
      by false false h e = rw e refl

  pub changed-more : (slots : List FileSlot) → AllByRecursion (IsOnlyIn name old) slots
      → changed_slots (is_named name) (λ _. written (change old)) (map as_stored (changed_slots before change slots))
      ≡ map as_stored (changed_slots after change slots)
  changed-more [] only = refl
  changed-more (Foreign stanza ∷ slots) only = ap (λ later. as_stored (Foreign stanza) ∷ later) (changed-more slots only.1)
  changed-more (Recorded entry ∷ slots) only = (λ i. Recorded (entry-more entry only.0 i) ∷ changed-more slots only.1 i)

-- none changed
pub changed-none : (change : FileRecord → FileRecord) (slots : List FileSlot) → changed_slots (λ _. false) change slots ≡ slots
changed-none change [] = refl
changed-none change (Foreign stanza ∷ slots) = ap (λ later. Foreign stanza ∷ later) (changed-none change slots)
changed-none change (Recorded entry ∷ slots) = ap (λ later. Recorded entry ∷ later) (changed-none change slots)

-- the records of names, one name more
pub among-more : (front : List (List ℕ)) (name : List ℕ) (one : Record) → is_among (front ++ name ∷ []) one ≡ (is_among front one || is_named name one)
among-more front name one =
    list_any-append (λ other. is_named other one) front (name ∷ []) ∙ ap (λ b. is_among front one || b) (or-none (is_named name one))

-- an unpacking
pub unpacked-stored : (indexed : IndexStanza) (slots : List FileSlot) → AreDistinct (names_of slots) → map as_stored slots ≡ slots
    → (if has_name indexed.listed.pkg.name slots
    then changed_slots (is_named indexed.listed.pkg.name) (λ _. written (entry_over indexed (entry_named indexed.listed.pkg.name slots))) slots
    else slots ++ Recorded (written (entry_over indexed (entry_named indexed.listed.pkg.name slots))) ∷ [])
    ≡ map as_stored (slots_after_unpack indexed slots)
unpacked-stored indexed slots distinct stored = by (entry_named name slots) refl
  where
    name : List ℕ
    name = indexed.listed.pkg.name

    over : FileRecord → List FileSlot
    over old = changed_slots (is_named name) (λ _. written (unpacked_entry indexed old)) slots

    by : (one : Option FileRecord) → entry_named name slots ≡ one
        → (if has_name name slots then changed_slots (is_named name) (λ _. written (entry_over indexed one)) slots
        else slots ++ Recorded (written (entry_over indexed one)) ∷ [])
        ≡ map as_stored (if has_name name slots then changed_slots (is_named name) (unpacked_entry indexed) slots else slots ++ Recorded (new_entry indexed) ∷ [])
    by None e = rw (none-has_name name slots e)
        ((λ i. sym stored i ++ Recorded (written (new_entry indexed)) ∷ []) ∙ sym (map-append as_stored slots (Recorded (new_entry indexed) ∷ [])))
    by (Some old) e = rw (found-has_name name slots old e)
        (ap (changed_slots (is_named name) (λ _. written (unpacked_entry indexed old))) (sym (ap (map as_stored) (changed-none (unpacked_entry indexed) slots) ∙ stored))
        ∙ changed-more name (unpacked_entry indexed) old (λ _. false) (is_named name) (λ entry never. absurd (true≢false (sym never))) (λ one. refl) slots (found-only name old slots distinct e))

-- what a purge leaves is stored
pub filter-stored : (keeps : FileSlot → Bool) (slots : List FileSlot) → map as_stored slots ≡ slots → map as_stored (filter keeps slots) ≡ filter keeps slots
filter-stored keeps [] stored = refl
filter-stored keeps (slot ∷ slots) stored = by (keeps slot) (filter-stored keeps slots (let e = stored in cc))
  where
    first : as_stored slot ≡ slot
    first = let e = stored in cc

    by : (b : Bool) → map as_stored (filter keeps slots) ≡ filter keeps slots
        → map as_stored (cond b (slot ∷ filter keeps slots) (filter keeps slots)) ≡ cond b (slot ∷ filter keeps slots) (filter keeps slots)
    by true later = λ i. first i ∷ later i
    by false later = later

-- what holds of an answer implies what follows
pub if-ok : {A E : Type 0} {P Q : A → Type 0} (result : Result A E) → ((a : A) → P a → Q a) → IfOk result P → IfOk result Q
if-ok (Ok a) follows holds = follows a holds
if-ok (Err e) follows holds = tt

-- where every name is ready, each of them is
pub ready-at : (test : Record → Bool) (names : List (List ℕ)) (db : List Record) (at : ℕ) (name : List ℕ) → first_unready test names db ≡ None
    → slice_get names at ≡ Some name → has_record test name db ≡ true
ready-at test [] db at name none there = absurd (let e = there in cc)
ready-at test (first ∷ names) db at name none there = by (has_record test first db) refl none at there (ready-at test names db)
  where
    by : (r : Bool) → has_record test first db ≡ r → cond (not r) (Some first) (first_unready test names db) ≡ None → (at : ℕ)
        → slice_get (first ∷ names) at ≡ Some name
        → ((at : ℕ) (name : List ℕ) → first_unready test names db ≡ None → slice_get names at ≡ Some name → has_record test name db ≡ true)
        → has_record test name db ≡ true
    by false e h at there later = absurd (let k = h in cc)
    by true e h zero there later = let same : first ≡ name = let k = there in cc in subst (λ n. has_record test n db ≡ true) same e
    by true e h (suc at) there later = later at name h there

-- an unpacking under a name that is spelled
pub unpacked-taken : (indexed : IndexStanza) (slots : List FileSlot) (name spelled : List ℕ) → indexed.listed.pkg.name ≡ name → spelled ≡ name
    → AreDistinct (names_of slots) → map as_stored slots ≡ slots
    → (if has_name spelled slots
    then changed_slots (is_named spelled) (λ _. written (entry_over indexed (entry_named name slots))) slots
    else slots ++ Recorded (written (entry_over indexed (entry_named name slots))) ∷ [])
    ≡ map as_stored (slots_after_unpack indexed slots)
unpacked-taken indexed slots name spelled named spells distinct stored =
    (λ i. left (spells i) name) ∙ (λ i. left (sym named i) (sym named i)) ∙ unpacked-stored indexed slots distinct stored
  where
    left : List ℕ → List ℕ → List FileSlot
    left n m = if has_name n slots then changed_slots (is_named n) (λ _. written (entry_over indexed (entry_named m slots))) slots
        else slots ++ Recorded (written (entry_over indexed (entry_named m slots))) ∷ []

-- a name that is new is so among what is stored
has-stored : (name : List ℕ) (slots : List FileSlot) → has_name name (map as_stored slots) ≡ has_name name slots
has-stored name [] = refl
has-stored name (Foreign stanza ∷ slots) = has-stored name slots
has-stored name (Recorded entry ∷ slots) = ap (λ b. is_named name entry.status || b) (has-stored name slots)

pub new-stored : (slot : FileSlot) (slots : List FileSlot) → IsNew slot slots → IsNew slot (map as_stored slots)
new-stored (Foreign stanza) slots new = tt
new-stored (Recorded entry) slots new = has-stored entry.status.name slots ∙ new

-- one of those of which all hold
pub all-middle : {A : Type 0} (P : A → Type 0) (front : List A) (x : A) (rest : List A) → AllByRecursion P (front ++ x ∷ rest) → P x
all-middle P [] x rest all = all.0
all-middle P (y ∷ front) x rest all = all-middle P front x rest all.1

-- an action keeps the name
pub keeps-name : (action : Action) (entry : FileRecord) → (touched_entry (left_of action) entry).status.name ≡ entry.status.name
keeps-name Deconfigure entry = refl
keeps-name Configure entry = refl
keeps-name Remove entry = refl
