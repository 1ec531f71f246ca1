-- What the entry that is found of a name says of the tests and changes of that name.
use Rattle.std.proofs.Common.{◌≡◌, ℕ, Bool, true, false, cond, ◌||◌, ◌&&◌, List, [], ◌∷◌, Some, None, refl, sym, ap, subst, ◌∙◌, bytes_eq, true≢false}
use Rattle.rules.specs.Database.{Record}
use Rattle.rules.specs.FileRecord.{FileRecord}
use Rattle.rules.specs.NamedLaws.{bytes_eq-true}
use Rattle.rules.specs.Step.{is_named}
use Rattle.status_text.specs.Slot.{FileSlot, slot_records}
use Rattle.status_text.specs.declared.slot.Slot.TheVariants.{Recorded, Foreign}
use Rattle.status.specs.Applicable.{has_record}
use Rattle.status.specs.Places.{AreDistinct}
use Rattle.status.specs.Slots.{changed_slots, entry_named, has_name, names_of}
use Rattle.status.proofs.NameLemmas.{has_name-names, is_in, or-false-left, or-false-right, unnamed-changed}
use Rattle.status.proofs.TableLemmas.{none-named}

-- a name that no record has passes no test
pub unready : (test : Record → Bool) (name : List ℕ) (slots : List FileSlot) → is_in name (names_of slots) ≡ false
    → has_record test name (slot_records slots) ≡ false
unready test name [] h = refl
unready test name (Foreign stanza ∷ slots) h = unready test name slots h
unready test name (Recorded entry ∷ slots) h =
    rw (or-false-left (bytes_eq entry.status.name name) (is_in name (names_of slots)) h)
    (unready test name slots (or-false-right (bytes_eq entry.status.name name) (is_in name (names_of slots)) h))

pub ready-none : (test : Record → Bool) (name : List ℕ) (slots : List FileSlot) → entry_named name slots ≡ None
    → has_record test name (slot_records slots) ≡ false
ready-none test name slots none = unready test name slots (none-named name slots none)

pub or-none : (b : Bool) → (b || false) ≡ b
or-none true = refl
or-none false = refl

-- where no record has the name, none is changed under a test of it
unnamed-tested : (name : List ℕ) (test : Record → Bool) (change : FileRecord → FileRecord) (slots : List FileSlot) → is_in name (names_of slots) ≡ false
    → changed_slots (λ one. is_named name one && test one) change slots ≡ slots
unnamed-tested name test change [] h = refl
unnamed-tested name test change (Foreign stanza ∷ slots) h = ap (λ later. Foreign stanza ∷ later) (unnamed-tested name test change slots h)
unnamed-tested name test change (Recorded entry ∷ slots) h =
    rw (or-false-left (bytes_eq entry.status.name name) (is_in name (names_of slots)) h)
    (ap (λ later. Recorded entry ∷ later)
    (unnamed-tested name test change slots (or-false-right (bytes_eq entry.status.name name) (is_in name (names_of slots)) h)))

module _ (name : List ℕ) where
  -- the entry that is found is the head, or is found behind it
  pub found-name : (slots : List FileSlot) (entry : FileRecord) → entry_named name slots ≡ Some entry → entry.status.name ≡ name
  found-name [] entry h = absurd (let e = h in cc)
  found-name (Foreign stanza ∷ slots) entry h = found-name slots entry h
  found-name (Recorded first ∷ slots) entry h = by (bytes_eq first.status.name name) refl h (found-name slots entry)
    where
      by : (b : Bool) → bytes_eq first.status.name name ≡ b → cond b (Some first) (entry_named name slots) ≡ Some entry
          → (entry_named name slots ≡ Some entry → entry.status.name ≡ name) → entry.status.name ≡ name
      by true e h later = let same : first ≡ entry = let k = h in cc in ap (λ (x : FileRecord). x.status.name) (sym same) ∙ bytes_eq-true first.status.name name e
      by false e h later = later h

  pub found-within : (slots : List FileSlot) (entry : FileRecord) → entry_named name slots ≡ Some entry → is_in name (names_of slots) ≡ true
  found-within [] entry h = absurd (let e = h in cc)
  found-within (Foreign stanza ∷ slots) entry h = found-within slots entry h
  found-within (Recorded first ∷ slots) entry h = by (bytes_eq first.status.name name) h (found-within slots entry)
    where
      by : (b : Bool) → cond b (Some first) (entry_named name slots) ≡ Some entry
          → (entry_named name slots ≡ Some entry → is_in name (names_of slots) ≡ true) → (b || is_in name (names_of slots)) ≡ true
      by true h later = refl
      by false h later = later h

  pub found-has_name : (slots : List FileSlot) (entry : FileRecord) → entry_named name slots ≡ Some entry → has_name name slots ≡ true
  found-has_name slots entry h = has_name-names name slots ∙ found-within slots entry h

  pub none-has_name : (slots : List FileSlot) → entry_named name slots ≡ None → has_name name slots ≡ false
  none-has_name slots h = has_name-names name slots ∙ none-named name slots h

  -- a record of the name passes a test where the one that is found does
  pub ready-some : (test : Record → Bool) (slots : List FileSlot) (entry : FileRecord) → AreDistinct (names_of slots)
      → entry_named name slots ≡ Some entry → has_record test name (slot_records slots) ≡ test entry.status
  ready-some test [] entry distinct h = absurd (let e = h in cc)
  ready-some test (Foreign stanza ∷ slots) entry distinct h = ready-some test slots entry distinct h
  ready-some test (Recorded first ∷ slots) entry distinct h = by (bytes_eq first.status.name name) refl h (ready-some test slots entry distinct.1)
    where
      by : (b : Bool) → bytes_eq first.status.name name ≡ b → cond b (Some first) (entry_named name slots) ≡ Some entry
          → (entry_named name slots ≡ Some entry → has_record test name (slot_records slots) ≡ test entry.status)
          → ((b && test first.status) || has_record test name (slot_records slots)) ≡ test entry.status
      by true e h later =
          let same : first ≡ entry = let k = h in cc in
          let none = unready test name slots (subst (λ n. is_in n (names_of slots) ≡ false) (bytes_eq-true first.status.name name e) distinct.0) in
          ap (λ b. test first.status || b) none ∙ or-none (test first.status) ∙ ap (λ (x : FileRecord). test x.status) same
      by false e h later = later h

  -- a change of the entry that is found is that of the name
  pub changed-found : (change : FileRecord → FileRecord) (slots : List FileSlot) (entry : FileRecord) → AreDistinct (names_of slots)
      → entry_named name slots ≡ Some entry
      → changed_slots (is_named name) (λ _. change entry) slots ≡ changed_slots (is_named name) change slots
  changed-found change [] entry distinct h = refl
  changed-found change (Foreign stanza ∷ slots) entry distinct h = ap (λ later. Foreign stanza ∷ later) (changed-found change slots entry distinct h)
  changed-found change (Recorded first ∷ slots) entry distinct h = by (bytes_eq first.status.name name) refl h (changed-found change slots entry distinct.1)
    where
      none : bytes_eq first.status.name name ≡ true → is_in name (names_of slots) ≡ false
      none e = subst (λ n. is_in n (names_of slots) ≡ false) (bytes_eq-true first.status.name name e) distinct.0

      by : (b : Bool) → bytes_eq first.status.name name ≡ b → cond b (Some first) (entry_named name slots) ≡ Some entry
          → (entry_named name slots ≡ Some entry → changed_slots (is_named name) (λ _. change entry) slots ≡ changed_slots (is_named name) change slots)
          → Recorded (cond b (change entry) first) ∷ changed_slots (is_named name) (λ _. change entry) slots
          ≡ Recorded (cond b (change first) first) ∷ changed_slots (is_named name) change slots
      by true e h later =
          let same : entry ≡ first = let k = h in cc in
          (λ i. Recorded (change (same i)) ∷ (unnamed-changed name (λ _. change entry) slots (none e) ∙ sym (unnamed-changed name change slots (none e))) i)
      by false e h later = ap (λ rest. Recorded first ∷ rest) (later h)

  -- the name is changed where the test passes
  pub changed-tested : (test : Record → Bool) (change : FileRecord → FileRecord) (slots : List FileSlot) (entry : FileRecord) → AreDistinct (names_of slots)
      → entry_named name slots ≡ Some entry → test entry.status ≡ true
      → changed_slots (is_named name) change slots ≡ changed_slots (λ one. is_named name one && test one) change slots
  changed-tested test change [] entry distinct h passes = refl
  changed-tested test change (Foreign stanza ∷ slots) entry distinct h passes =
      ap (λ later. Foreign stanza ∷ later) (changed-tested test change slots entry distinct h passes)
  changed-tested test change (Recorded first ∷ slots) entry distinct h passes =
      by (bytes_eq first.status.name name) refl h (λ e. changed-tested test change slots entry distinct.1 e passes)
    where
      none : bytes_eq first.status.name name ≡ true → is_in name (names_of slots) ≡ false
      none e = subst (λ n. is_in n (names_of slots) ≡ false) (bytes_eq-true first.status.name name e) distinct.0

      by : (b : Bool) → bytes_eq first.status.name name ≡ b → cond b (Some first) (entry_named name slots) ≡ Some entry
          → (entry_named name slots ≡ Some entry → changed_slots (is_named name) change slots ≡ changed_slots (λ one. is_named name one && test one) change slots)
          → Recorded (cond b (change first) first) ∷ changed_slots (is_named name) change slots
          ≡ Recorded (cond (b && test first.status) (change first) first) ∷ changed_slots (λ one. is_named name one && test one) change slots
      by true e h later =
          let same : entry ≡ first = let k = h in cc in
          let here : test first.status ≡ true = ap (λ (x : FileRecord). test x.status) (sym same) ∙ passes in
          (λ i. Recorded (cond (sym here i) (change first) first) ∷ (unnamed-changed name change slots (none e)
          ∙ sym (unnamed-tested name test change slots (none e))) i)
      by false e h later = ap (λ rest. Recorded first ∷ rest) (later h)

  -- and nothing is changed where it doesn't
  pub unchanged-tested : (test : Record → Bool) (change : FileRecord → FileRecord) (slots : List FileSlot) → has_record test name (slot_records slots) ≡ false
      → slots ≡ changed_slots (λ one. is_named name one && test one) change slots
  unchanged-tested test change [] h = refl
  unchanged-tested test change (Foreign stanza ∷ slots) h = ap (λ later. Foreign stanza ∷ later) (unchanged-tested test change slots h)
  unchanged-tested test change (Recorded first ∷ slots) h =
      let here = or-false-left (is_named name first.status && test first.status) (has_record test name (slot_records slots)) h in
      let later = unchanged-tested test change slots (or-false-right (is_named name first.status && test first.status) (has_record test name (slot_records slots)) h) in
      (λ i. Recorded (cond (sym here i) (change first) first) ∷ later i)

and-left : (a b : Bool) → (a && b) ≡ true → a ≡ true
and-left true b h = refl
and-left false b h = absurd (true≢false (sym h))
