-- Names: the slots of those that were seen, and the names of the fields.
use Rattle.std.proofs.Common.{◌≡◌, ℕ, suc, zero, ◌+◌, ◌-◌, ◌*◌, ◌%◌, Bool, true, false, ◌||◌, List, [], ◌∷◌, ◌++◌, length, get_or, set, map, filter, refl, sym, ap, ◌∙◌, inl, inr}
use Rattle.std.proofs.lemmas.Bool.{false≢true, cases_Bool}
use Rattle.std.proofs.lemmas.List.{length-map, map-append, append-nil}
use Rattle.std.proofs.lemmas.List.Elements.{filter-append}
use Rattle.std.proofs.lemmas.Slice.Eq.{bytes_eq-Decides}
use Rattle.std.specs.Char.{to_ascii_lowercase}
use Rattle.std.specs.List.{list_any}
use Rattle.stanza.specs.declared.form.Form.{Form}
use Rattle.stanza.specs.Line.{begins_field}
use Rattle.stanza.specs.Field.{FieldText, name_of, same_name, names_of, fields_of}
use Rattle.stanza.specs.Seen.{slot_of, is_seen, AreSeen}

-- names that are one share a slot
hash_of : List ℕ → ℕ → ℕ
hash_of folded n = (get_or folded 0 0 + get_or folded (n - 1) 0 * 12 + n % 256 * 11) % 256

slot_of-folded : (a b : List ℕ) → map to_ascii_lowercase a ≡ map to_ascii_lowercase b → length a ≡ length b → slot_of a ≡ slot_of b
unfolding hash_of
slot_of-folded a b folded len = ap (λ f. hash_of f (length a)) folded ∙ ap (hash_of (map to_ascii_lowercase b)) len

pub slot_of-same : (a b : List ℕ) → same_name a b ≡ true → slot_of a ≡ slot_of b
slot_of-same a b same =
    let folded : map to_ascii_lowercase a ≡ map to_ascii_lowercase b = (bytes_eq-Decides (map to_ascii_lowercase a) (map to_ascii_lowercase b)).0 same in
    slot_of-folded a b folded (sym (length-map a to_ascii_lowercase) ∙ ap length folded ∙ length-map b to_ascii_lowercase)

-- a name whose slot is free is none of those that were seen
pub new_name : (slots : List Bool) (names : List (List ℕ)) (name : List ℕ) → AreSeen slots names → is_seen slots name ≡ false → list_any (λ earlier. same_name earlier name) names ≡ false
new_name slots [] name seen free = refl
new_name slots (first ∷ names) name seen free = elim (cases_Bool (same_name first name)) [
  | inl h ↦ absurd (false≢true (sym free ∙ ap (λ k. get_or slots k false) (sym (slot_of-same first name h)) ∙ seen.0))
  | inr h ↦ rw h (new_name slots names name seen.1 free)
]

-- a slot that is taken stays so
still_true : (slots : List Bool) (i j : ℕ) → get_or slots j false ≡ true → get_or (set slots i true) j false ≡ true
still_true [] i j h = absurd (false≢true h)
still_true (b ∷ bs) zero zero h = refl
still_true (b ∷ bs) zero (suc j) h = h
still_true (b ∷ bs) (suc i) zero h = h
still_true (b ∷ bs) (suc i) (suc j) h = still_true bs i j h

pub AreSeen-set : (slots : List Bool) (names : List (List ℕ)) (i : ℕ) → AreSeen slots names → AreSeen (set slots i true) names
AreSeen-set slots [] i seen = seen
AreSeen-set slots (name ∷ names) i seen = (still_true slots i (slot_of name) seen.0, AreSeen-set slots names i seen.1)

pub AreSeen-push : (slots : List Bool) (names : List (List ℕ)) (name : List ℕ) → AreSeen slots names → is_seen slots name ≡ true → AreSeen slots (names ++ name ∷ [])
AreSeen-push slots [] name seen taken = (taken, tt)
AreSeen-push slots (first ∷ names) name seen taken = (seen.0, AreSeen-push slots names name seen.1 taken)

-- a line that begins a field adds its name, and another adds none
pub names_of-push : (form : Form) (before : List (List ℕ)) (line : List ℕ) → begins_field form line ≡ true → names_of form (before ++ line ∷ []) ≡ names_of form before ++ name_of line ∷ []
names_of-push form before line begins =
    ap (map name_of) (filter-append (begins_field form) before (line ∷ []))
    ∙ map-append name_of (filter (begins_field form) before) (filter (begins_field form) (line ∷ []))
    ∙ rw begins refl

pub names_of-push_other : (form : Form) (before : List (List ℕ)) (line : List ℕ) → begins_field form line ≡ false → names_of form (before ++ line ∷ []) ≡ names_of form before
names_of-push_other form before line other =
    ap (map name_of) (filter-append (begins_field form) before (line ∷ []))
    ∙ map-append name_of (filter (begins_field form) before) (filter (begins_field form) (line ∷ []))
    ∙ rw (other, append-nil) refl

-- a test of the fields' names is one of the names of the lines
pub list_any-fields : (form : Form) (n : ℕ) (lines : List (List ℕ)) (test : List ℕ → Bool) → list_any (λ (field : FieldText). test field.name) (fields_of form n lines) ≡ list_any test (names_of form lines)
list_any-fields form n [] test = refl
list_any-fields form n (line ∷ lines) test = elim (cases_Bool (begins_field form line)) [
  | inl h ↦ rw h (ap (λ b. test (name_of line) || b) (list_any-fields form (n + 1) lines test))
  | inr h ↦ rw h (list_any-fields form (n + 1) lines test)
]

-- the table still knows all names where a line begins a field
pub AreSeen-field : (form : Form) (before : List (List ℕ)) (line name : List ℕ) (slots later : List Bool) → begins_field form line ≡ true → name ≡ name_of line → AreSeen slots (names_of form before) → later ≡ set slots (slot_of name) true → is_seen later name ≡ true → AreSeen later (names_of form (before ++ line ∷ []))
AreSeen-field form before line name slots later begins is_name seen is_later taken =
    let still : AreSeen later (names_of form before) = rw is_later (AreSeen-set slots (names_of form before) (slot_of name) seen) in
    let taken' : is_seen later (name_of line) ≡ true = ap (is_seen later) (sym is_name) ∙ taken in
    rw names_of-push (AreSeen-push later (names_of form before) (name_of line) still taken')
