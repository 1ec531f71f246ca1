-- Faults: which one a line has, and that of lines one after another.
use Rattle.std.proofs.Common.{◌≡◌, ℕ, suc, ◌+◌, Bool, true, false, not, ◌&&◌, List, [], ◌∷◌, ◌++◌, length, refl, sym, ap, ◌∙◌, arith, append_assoc, add-zero, Option, None, Some, if◌then◌else◌}
use Rattle.std.proofs.lemmas.List.{append-nil}
use Rattle.std.specs.List.{list_any}
use Rattle.stanza.specs.declared.form.Form.{Form}
use Rattle.stanza.specs.declared.error.StanzaError.{StanzaError}
use Rattle.stanza.specs.declared.error.StanzaError.TheVariants.{BadLine, BadFieldName, DuplicateField}
use Rattle.stanza.specs.Line.{is_comment, is_continuation}
use Rattle.stanza.specs.Field.{is_colon, name_of, is_name, same_name, names_of}
use Rattle.stanza.specs.Fault.{is_open, is_repeated, may_repeat, fault_of, or_then, first_fault}

-- one line, by the tests in their order
module _ (form : Form) (before : List (List ℕ)) (n : ℕ) (line : List ℕ) where
  pub fault_of-comment : is_comment form line ≡ true → fault_of form before n line ≡ None
  fault_of-comment comment = rw comment refl

  pub fault_of-open : is_comment form line ≡ false → is_continuation line ≡ true → is_open form before ≡ true → fault_of form before n line ≡ None
  fault_of-open other continues opened = rw (other, continues, opened) refl

  pub fault_of-loose : is_comment form line ≡ false → is_continuation line ≡ true → is_open form before ≡ false → fault_of form before n line ≡ Some (BadLine n)
  fault_of-loose other continues opened = rw (other, continues, opened) refl

  pub fault_of-no_colon : is_comment form line ≡ false → is_continuation line ≡ false → list_any is_colon line ≡ false → fault_of form before n line ≡ Some (BadLine n)
  fault_of-no_colon other begins colon = rw (other, begins, colon) refl

  pub fault_of-name : is_comment form line ≡ false → is_continuation line ≡ false → list_any is_colon line ≡ true → is_name (name_of line) ≡ false → fault_of form before n line ≡ Some (BadFieldName n)
  fault_of-name other begins colon name = rw (other, begins, colon, name) refl

  pub fault_of-repeated : is_comment form line ≡ false → is_continuation line ≡ false → list_any is_colon line ≡ true → is_name (name_of line) ≡ true → is_repeated form before (name_of line) ≡ true → fault_of form before n line ≡ Some (DuplicateField n)
  fault_of-repeated other begins colon name repeated = rw (other, begins, colon, name, repeated) refl

  pub fault_of-field : is_comment form line ≡ false → is_continuation line ≡ false → list_any is_colon line ≡ true → is_name (name_of line) ≡ true → is_repeated form before (name_of line) ≡ false → fault_of form before n line ≡ None
  fault_of-field other begins colon name repeated = rw (other, begins, colon, name, repeated) refl

-- a line that adds no name changes neither test of the lines after it
pub names_of-comment : (form : Form) (comment : List ℕ) (before : List (List ℕ)) → is_comment form comment ≡ true → names_of form (comment ∷ before) ≡ names_of form before
names_of-comment form comment before is = rw is refl

pub is_open-comment : (form : Form) (comment : List ℕ) (before : List (List ℕ)) → is_comment form comment ≡ true → is_open form (comment ∷ before) ≡ is_open form before
is_open-comment form comment [] is = rw is refl
is_open-comment form comment (line ∷ lines) is = refl

-- a fault, from what it reads of the lines before
fault_by : Form → Bool → List (List ℕ) → ℕ → List ℕ → Option StanzaError
fault_by form opened names n line =
    if is_comment form line then None
    else if is_continuation line then (if opened then None else Some (BadLine n))
    else if not (list_any is_colon line) then Some (BadLine n)
    else if not (is_name (name_of line)) then Some (BadFieldName n)
    else if not (may_repeat form (name_of line)) && list_any (λ earlier. same_name earlier (name_of line)) names then Some (DuplicateField n)
    else None

fault_by-is : (form : Form) (before : List (List ℕ)) (n : ℕ) (line : List ℕ) → fault_of form before n line ≡ fault_by form (is_open form before) (names_of form before) n line
unfolding fault_by
fault_by-is form before n line = refl

fault_of-comment_before : (form : Form) (comment : List ℕ) (before : List (List ℕ)) (n : ℕ) (line : List ℕ) → is_comment form comment ≡ true → fault_of form (comment ∷ before) n line ≡ fault_of form before n line
fault_of-comment_before form comment before n line is =
    fault_by-is form (comment ∷ before) n line
    ∙ ap (λ o. fault_by form o (names_of form (comment ∷ before)) n line) (is_open-comment form comment before is)
    ∙ ap (λ names. fault_by form (is_open form before) names n line) (names_of-comment form comment before is)
    ∙ sym (fault_by-is form before n line)

-- comments at the front change no fault
pub first_fault-comment : (form : Form) (comment : List ℕ) → is_comment form comment ≡ true → (before : List (List ℕ)) (n : ℕ) (lines : List (List ℕ)) → first_fault form (comment ∷ before) n lines ≡ first_fault form before n lines
first_fault-comment form comment is before n [] = refl
first_fault-comment form comment is before n (line ∷ lines) =
    ap (λ f. or_then f (first_fault form (comment ∷ (before ++ line ∷ [])) (n + 1) lines)) (fault_of-comment_before form comment before n line is)
    ∙ ap (or_then (fault_of form before n line)) (first_fault-comment form comment is (before ++ line ∷ []) (n + 1) lines)

-- the last line decides whether a field is open
pub is_open-push : (form : Form) (before : List (List ℕ)) (line : List ℕ) → is_open form (before ++ line ∷ []) ≡ not (is_comment form line)
is_open-push form [] line = refl
is_open-push form (first ∷ []) line = refl
is_open-push form (first ∷ second ∷ lines) line = is_open-push form (second ∷ lines) line

or_then-assoc : (x y z : Option StanzaError) → or_then (or_then x y) z ≡ or_then x (or_then y z)
or_then-assoc None y z = refl
or_then-assoc (Some x) y z = refl

-- a fault of the lines at the front comes first
pub first_fault-append : (form : Form) (before : List (List ℕ)) (n : ℕ) (a b : List (List ℕ)) → first_fault form before n (a ++ b) ≡ or_then (first_fault form before n a) (first_fault form (before ++ a) (n + length a) b)
first_fault-append form before n [] b = rw (append-nil, add-zero) refl
first_fault-append form before n (line ∷ a) b =
    let count : n + 1 + length a ≡ n + suc (length a) = omega arith in
    ap (or_then (fault_of form before n line)) (first_fault-append form (before ++ line ∷ []) (n + 1) a b
    ∙ ap (or_then (first_fault form (before ++ line ∷ []) (n + 1) a)) (
    ap (λ x. first_fault form x (n + 1 + length a) b) (append_assoc before (line ∷ []) a)
    ∙ ap (λ k. first_fault form (before ++ line ∷ a) k b) count))
    ∙ sym (or_then-assoc (fault_of form before n line) _ _)
