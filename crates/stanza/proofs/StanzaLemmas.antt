-- The items of lines: the gap before a stanza, the stanza at the front, and the first fault.
use Rattle.std.proofs.Common.{◌≡◌, ℕ, suc, ◌+◌, true, false, List, [], ◌∷◌, ◌++◌, length, refl, sym, ap, ◌∙◌, arith, add-zero, None, Some, Ok, Err, inl, inr}
use Rattle.std.proofs.lemmas.Bool.{cases_Bool}
use Rattle.std.proofs.lemmas.List.{append-nil}
use Rattle.std.specs.List.{slice_split, AllByRecursion}
use Rattle.stanza.specs.declared.form.Form.{Form}
use Rattle.stanza.specs.declared.error.StanzaError.{StanzaError}
use Rattle.stanza.specs.Line.{is_comment, is_separator}
use Rattle.stanza.specs.Fault.{fault_of, first_fault}
use Rattle.stanza.specs.Stanza.{StanzaText, without_last_comments, stanza_in, before_kept, items_of_parts, items_of_lines}
use Rattle.stanza.proofs.FaultLemmas.{first_fault-append, first_fault-comment}

-- no line parts stanzas
abbrev pub NoSeparators : List (List ℕ) → Type 0
NoSeparators lines = AllByRecursion (λ line. is_separator line ≡ false) lines

pub NoSeparators-push : (lines : List (List ℕ)) (line : List ℕ) → NoSeparators lines → is_separator line ≡ false → NoSeparators (lines ++ line ∷ [])
NoSeparators-push [] line none other = (other, tt)
NoSeparators-push (first ∷ lines) line none other = (none.0, NoSeparators-push lines line none.1 other)

-- lines without separators stand at the front of the first part
pub split-front : (a b part : List (List ℕ)) (parts : List (List (List ℕ))) → NoSeparators a → slice_split is_separator b ≡ part ∷ parts → slice_split is_separator (a ++ b) ≡ (a ++ part) ∷ parts
split-front [] b part parts none e = e
split-front (line ∷ a) b part parts none e = rw (none.0, split-front a b part parts none.1 e) refl

-- there is always a first part
pub split-some : (lines : List (List ℕ)) → (part : List (List ℕ)) × (parts : List (List (List ℕ))) × (slice_split is_separator lines ≡ part ∷ parts)
split-some [] = ([], [], refl)
split-some (line ∷ lines) = elim (cases_Bool (is_separator line)) [
  | inl h ↦ ([], slice_split is_separator lines, rw h refl)
  | inr h ↦ let later = split-some lines in (line ∷ later.0, later.1, rw (h, later.2) refl)
]

-- what stands behind a stanza's lines: nothing, or a separator first
abbrev pub EndsStanza : List (List ℕ) → Type 0
EndsStanza [] = Unit {0}
EndsStanza (line ∷ lines) = is_separator line ≡ true

-- the stanza of the lines at the front is the first item
pub items-front : (form : Form) (n : ℕ) (a b : List (List ℕ)) (stanza : StanzaText) → NoSeparators a → EndsStanza b → first_fault form [] n a ≡ None → stanza_in form n a ≡ Some stanza → items_of_lines form n (a ++ b) ≡ Ok stanza ∷ items_of_lines form (n + length a) b
items-front form n a [] stanza none ends clean is =
    ap (items_of_parts form n) (split-front a [] [] [] none refl ∙ ap (λ x. x ∷ []) (append-nil a)) ∙ rw (clean, is) refl
items-front form n a (line ∷ b) stanza none ends clean is =
    ap (items_of_parts form n) (split-front a (line ∷ b) [] (slice_split is_separator b) none (rw ends refl) ∙ ap (λ x. x ∷ slice_split is_separator b) (append-nil a))
    ∙ rw (clean, is, ends, add-zero) refl

-- a fault behind lines without one is the only item
pub items-fault : (form : Form) (n : ℕ) (a b : List (List ℕ)) (line : List ℕ) (fault : StanzaError) → NoSeparators a → is_separator line ≡ false → first_fault form [] n a ≡ None → fault_of form a (n + length a) line ≡ Some fault → items_of_lines form n (a ++ line ∷ b) ≡ Err fault ∷ []
items-fault form n a b line fault none other clean is =
    let later = split-some b in
    let parts : slice_split is_separator (a ++ line ∷ b) ≡ (a ++ line ∷ later.0) ∷ later.1 =
    split-front a (line ∷ b) (line ∷ later.0) later.1 none (rw (other, later.2) refl) in
    let first : first_fault form [] n (a ++ line ∷ later.0) ≡ Some fault =
    first_fault-append form [] n a (line ∷ later.0) ∙ rw (clean, is) refl in
    ap (items_of_parts form n) parts ∙ rw first refl

-- a separator adds no item
pub items-separator : (form : Form) (n : ℕ) (line : List ℕ) (lines : List (List ℕ)) → is_separator line ≡ true → items_of_lines form n (line ∷ lines) ≡ items_of_lines form (n + 1) lines
items-separator form n line lines separator = rw (separator, add-zero) refl

-- a comment at the front adds no item
pub items-comment : (form : Form) (n : ℕ) (line : List ℕ) (lines : List (List ℕ)) → is_separator line ≡ false → is_comment form line ≡ true → items_of_lines form n (line ∷ lines) ≡ items_of_lines form (n + 1) lines
items-comment form n line lines other comment =
    let later = split-some lines in
    let part = later.0 in
    let parts = later.1 in
    let count : n + suc (length part) + 1 ≡ n + 1 + length part + 1 = omega arith in
    let split : slice_split is_separator (line ∷ lines) ≡ (line ∷ part) ∷ parts = rw (other, later.2) refl in
    ap (items_of_parts form n) split
    ∙ rw (comment, first_fault-comment form line comment [] (n + 1) part, count) refl
    ∙ sym (ap (items_of_parts form (n + 1)) later.2)

-- the comments at the end of the lines are left out, one more too
pub kept-comment : (form : Form) (lines : List (List ℕ)) (line : List ℕ) → is_comment form line ≡ true → without_last_comments form (lines ++ line ∷ []) ≡ without_last_comments form lines
kept-comment form [] line comment = rw comment refl
kept-comment form (first ∷ lines) line comment = ap (before_kept form first) (kept-comment form lines line comment)

-- up to a last line that is no comment all are kept
pub kept-field : (form : Form) (lines : List (List ℕ)) (line : List ℕ) → is_comment form line ≡ false → without_last_comments form (lines ++ line ∷ []) ≡ lines ++ line ∷ []
kept-field form [] line other = rw other refl
kept-field form (first ∷ []) line other = ap (before_kept form first) (kept-field form [] line other)
kept-field form (first ∷ second ∷ lines) line other = ap (before_kept form first) (kept-field form (second ∷ lines) line other)

-- a first line that is no comment is kept
pub kept-some : (form : Form) (line : List ℕ) (lines : List (List ℕ)) → is_comment form line ≡ false → (rest : List (List ℕ)) × (without_last_comments form (line ∷ lines) ≡ line ∷ rest)
kept-some form line lines other = go (without_last_comments form lines) where
  go : (kept : List (List ℕ)) → (rest : List (List ℕ)) × (before_kept form line kept ≡ line ∷ rest)
  go [] = ([], rw other refl)
  go (next ∷ kept) = (next ∷ kept, refl)
