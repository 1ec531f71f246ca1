-- Groupings of the lines of a part: what can be grouped has no fault, and what has none can be grouped.
use Rattle.std.proofs.Common.{◌≡◌, ℕ, suc, ◌+◌, Bool, true, false, cond, not, ◌&&◌, ◌||◌, ◌⊎◌, List, [], ◌∷◌, ◌++◌, length, refl, sym, ap, subst, ◌∙◌, arith, append_assoc, add-zero, eqb, Option, None, Some, inl, inr}
use Rattle.std.proofs.lemmas.Bool.{false≢true, cases_Bool, and_parts, and_right, not-true, eqb-true}
use Rattle.std.proofs.lemmas.List.{append-nil}
use Rattle.std.specs.List.{list_any, concat, flat_map, AllByRecursion}
use Rattle.std.specs.Option.{option_to_list}
use Rattle.stanza.specs.declared.form.Form.{Form}
use Rattle.stanza.specs.declared.error.StanzaError.{StanzaError}
use Rattle.stanza.specs.declared.error.StanzaError.TheVariants.{BadLine, BadFieldName, DuplicateField}
use Rattle.stanza.specs.Line.{has_comments, is_white, is_comment, is_continuation, begins_field}
use Rattle.stanza.specs.Field.{is_colon, name_of, is_name, same_name, names_of, continued, fields_of, field_of}
use Rattle.stanza.specs.Fault.{is_open, may_repeat, is_repeated, fault_of, first_fault, or_then}
use Rattle.stanza.specs.Stanza.{StanzaText, stanza_in, without_last_comments, before_kept}
use Rattle.stanza.specs.File.{Piece, Comment, Group, lines_of_piece, IsPiece, names_in, AreDistinct, Groups, fields_in, stanza_with}
use Rattle.stanza.proofs.FaultLemmas.{fault_of-comment, fault_of-open, fault_of-field, is_open-push}
use Rattle.stanza.proofs.NameLemmas.{names_of-push, names_of-push_other}
use Rattle.stanza.proofs.FieldsLemmas.{begins_field-continuation}

-- ---- kinds of lines

pub comment-continues : (form : Form) (line : List ℕ) → is_comment form line ≡ true → is_continuation line ≡ false
comment-continues form [] comment = absurd (false≢true comment)
comment-continues form (b ∷ bs) comment = ap is_white (eqb-true b 35 (and_parts (has_comments form) (eqb b 35) comment).1)

pub continuation-comment : (form : Form) (line : List ℕ) → is_continuation line ≡ true → is_comment form line ≡ false
continuation-comment form line continues = elim (cases_Bool (is_comment form line)) [
  | inl h ↦ absurd (false≢true (sym (comment-continues form line h) ∙ continues))
  | inr h ↦ h
]

field-kinds : (form : Form) (line : List ℕ) → begins_field form line ≡ true → (is_comment form line ≡ false) × (is_continuation line ≡ false)
field-kinds form line begins =
    let both = and_parts (not (is_comment form line)) (not (is_continuation line)) begins in
    (not-true (is_comment form line) both.0, not-true (is_continuation line) both.1)

comment-field : (form : Form) (line : List ℕ) → is_comment form line ≡ true → begins_field form line ≡ false
comment-field form line comment = rw comment refl

abbrev Continue : List (List ℕ) → Type 0
Continue lines = AllByRecursion (λ next. is_continuation next ≡ true) lines

-- ---- fields

continued-pieces : (form : Form) (pieces : List Piece) → AllByRecursion (IsPiece form) pieces → continued (flat_map lines_of_piece pieces) ≡ []
continued-pieces form [] each = refl
continued-pieces form (Comment line ∷ pieces) each = rw (comment-continues form line each.0) refl
continued-pieces form (Group line more ∷ pieces) each = rw ((field-kinds form line each.0.0.begins).1) refl

continued-more : (more rest : List (List ℕ)) → Continue more → continued rest ≡ [] → continued (more ++ rest) ≡ concat more
continued-more [] rest continue ends = ends
continued-more (line ∷ more) rest continue ends = rw continue.0 (ap (λ x. line ++ x) (continued-more more rest continue.1 ends))

fields_of-more : (form : Form) (n : ℕ) (more rest : List (List ℕ)) → Continue more → fields_of form n (more ++ rest) ≡ fields_of form (n + length more) rest
fields_of-more form n [] rest continue = rw add-zero refl
fields_of-more form n (line ∷ more) rest continue =
    let count : n + 1 + length more ≡ n + suc (length more) = omega arith in
    rw (begins_field-continuation form line continue.0) (fields_of-more form (n + 1) more rest continue.1 ∙ ap (λ k. fields_of form k rest) count)

pub fields_of-pieces : (form : Form) (n : ℕ) (pieces : List Piece) → AllByRecursion (IsPiece form) pieces → fields_of form n (flat_map lines_of_piece pieces) ≡ fields_in n pieces
fields_of-pieces form n [] each = refl
fields_of-pieces form n (Comment line ∷ pieces) each = rw (comment-field form line each.0) (fields_of-pieces form (n + 1) pieces each.1)
fields_of-pieces form n (Group line more ∷ pieces) each =
    let rest = flat_map lines_of_piece pieces in
    rw each.0.0.begins
    (ap (λ x. field_of n line x ∷ fields_of form (n + 1) (more ++ rest)) (continued-more more rest each.0.1 (continued-pieces form pieces each.1))
    ∙ ap (λ x. field_of n line (concat more) ∷ x) (fields_of-more form (n + 1) more rest each.0.1 ∙ fields_of-pieces form (n + 1 + length more) pieces each.1))

continued-before : (form : Form) (line : List ℕ) (kept : List (List ℕ)) → continued (before_kept form line kept) ≡ continued (line ∷ kept)
continued-before form line [] = elim (cases_Bool (is_comment form line)) [
  | inl h ↦ rw (h, comment-continues form line h) refl
  | inr h ↦ rw h refl
]
continued-before form line (next ∷ kept) = refl

continued-kept : (form : Form) (lines : List (List ℕ)) → continued (without_last_comments form lines) ≡ continued lines
continued-kept form [] = refl
continued-kept form (line ∷ lines) =
    continued-before form line (without_last_comments form lines)
    ∙ ap (λ x. cond (is_continuation line) (line ++ x) []) (continued-kept form lines)

fields_of-before : (form : Form) (n : ℕ) (line : List ℕ) (kept : List (List ℕ)) → fields_of form n (before_kept form line kept) ≡ fields_of form n (line ∷ kept)
fields_of-before form n line [] = elim (cases_Bool (is_comment form line)) [
  | inl h ↦ rw h refl
  | inr h ↦ ap (fields_of form n) (kept-alone h)
] where
  kept-alone : is_comment form line ≡ false → before_kept form line [] ≡ line ∷ []
  kept-alone h = rw h refl
fields_of-before form n line (next ∷ kept) = refl

-- comments at the end hold no field
pub fields_of-kept : (form : Form) (n : ℕ) (lines : List (List ℕ)) → fields_of form n (without_last_comments form lines) ≡ fields_of form n lines
fields_of-kept form n [] = refl
fields_of-kept form n (line ∷ lines) =
    fields_of-before form n line (without_last_comments form lines)
    ∙ ap (λ x. cond (begins_field form line) (field_of n line x ∷ fields_of form (n + 1) (without_last_comments form lines)) (fields_of form (n + 1) (without_last_comments form lines))) (continued-kept form lines)
    ∙ ap (λ x. cond (begins_field form line) (field_of n line (continued lines) ∷ x) x) (fields_of-kept form (n + 1) lines)

-- the stanza that is read is that of the pieces
pub stanza_in-pieces : (form : Form) (n : ℕ) (pieces : List Piece) → AllByRecursion (IsPiece form) pieces → option_to_list (stanza_in form n (flat_map lines_of_piece pieces)) ≡ stanza_with form n pieces
stanza_in-pieces form n [] each = refl
stanza_in-pieces form n (Comment line ∷ pieces) each = rw each.0 (stanza_in-pieces form (n + 1) pieces each.1)
stanza_in-pieces form n (Group line more ∷ pieces) each =
    let lines = flat_map lines_of_piece (Group line more ∷ pieces) in
    rw ((field-kinds form line each.0.0.begins).0)
    (ap (λ fs. (let s : StanzaText = record { line = n; raw = concat (without_last_comments form lines); fields = fs } in s) ∷ [])
    (fields_of-kept form n lines ∙ fields_of-pieces form n (Group line more ∷ pieces) each))

-- ---- names

middle : (P : List ℕ → Type 0) (xs ys : List (List ℕ)) (x : List ℕ) → AllByRecursion P (xs ++ x ∷ ys) → P x
middle P [] ys x all = all.0
middle P (first ∷ xs) ys x all = middle P xs ys x all.1

pushed : (P : List ℕ → Type 0) (xs : List (List ℕ)) (x : List ℕ) → AllByRecursion P xs → P x → AllByRecursion P (xs ++ x ∷ [])
pushed P [] x all here = (here, tt)
pushed P (first ∷ xs) x all here = (all.0, pushed P xs x all.1 here)

-- a name among distinct ones is not repeated
pub new-from_distinct : (form : Form) (names later : List (List ℕ)) (name : List ℕ) → AreDistinct form (names ++ name ∷ later) → (not (may_repeat form name) && list_any (λ earlier. same_name earlier name) names) ≡ false
new-from_distinct form [] later name distinct = and_right (not (may_repeat form name)) false refl
new-from_distinct form (first ∷ names) later name distinct =
    let here = middle (λ next. (may_repeat form next || not (same_name first next)) ≡ true) names later name distinct.0 in
    let others = new-from_distinct form names later name distinct.1 in
    go (may_repeat form name) (same_name first name) (list_any (λ earlier. same_name earlier name) names) here others where
      go : (m s a : Bool) → (m || not s) ≡ true → (not m && a) ≡ false → (not m && (s || a)) ≡ false
      go true s a h i = refl
      go false true a h i = absurd (false≢true h)
      go false false a h i = i

-- a name that is not repeated keeps them distinct
pub distinct-push : (form : Form) (names : List (List ℕ)) (name : List ℕ) → AreDistinct form names → (not (may_repeat form name) && list_any (λ earlier. same_name earlier name) names) ≡ false → AreDistinct form (names ++ name ∷ [])
distinct-push form [] name distinct new = (tt, tt)
distinct-push form (first ∷ names) name distinct new =
    let parts = go (may_repeat form name) (same_name first name) (list_any (λ earlier. same_name earlier name) names) new in
    (pushed (λ next. (may_repeat form next || not (same_name first next)) ≡ true) names name distinct.0 parts.0, distinct-push form names name distinct.1 parts.1) where
      go : (m s a : Bool) → (not m && (s || a)) ≡ false → ((m || not s) ≡ true) × ((not m && a) ≡ false)
      go true s a h = (refl, refl)
      go false true a h = absurd (false≢true (sym h))
      go false false a h = (refl, h)

names_of-more : (form : Form) (before more : List (List ℕ)) → Continue more → names_of form (before ++ more) ≡ names_of form before
names_of-more form before [] continue = ap (names_of form) (append-nil before)
names_of-more form before (line ∷ more) continue =
    ap (names_of form) (sym (append_assoc before (line ∷ []) more))
    ∙ names_of-more form (before ++ line ∷ []) more continue.1
    ∙ names_of-push_other form before line (begins_field-continuation form line continue.0)

-- ---- what is grouped has no fault

first_fault-more : (form : Form) (before : List (List ℕ)) (n : ℕ) (more rest : List (List ℕ)) → is_open form before ≡ true → Continue more → first_fault form before n (more ++ rest) ≡ first_fault form (before ++ more) (n + length more) rest
first_fault-more form before n [] rest opened continue = rw (append-nil, add-zero) refl
first_fault-more form before n (line ∷ more) rest opened continue =
    let other = continuation-comment form line continue.0 in
    let count : n + 1 + length more ≡ n + suc (length more) = omega arith in
    ap (λ f. or_then f (first_fault form (before ++ line ∷ []) (n + 1) (more ++ rest))) (fault_of-open form before n line other continue.0 opened)
    ∙ first_fault-more form (before ++ line ∷ []) (n + 1) more rest (is_open-push form before line ∙ ap not other) continue.1
    ∙ ap (λ b. first_fault form b (n + 1 + length more) rest) (append_assoc before (line ∷ []) more)
    ∙ ap (λ k. first_fault form (before ++ line ∷ more) k rest) count

pub clean-from_pieces : (form : Form) (before : List (List ℕ)) (n : ℕ) (pieces : List Piece) → AllByRecursion (IsPiece form) pieces → AreDistinct form (names_of form before ++ names_in pieces) → first_fault form before n (flat_map lines_of_piece pieces) ≡ None
clean-from_pieces form before n [] each distinct = refl
clean-from_pieces form before n (Comment line ∷ pieces) each distinct =
    ap (λ f. or_then f (first_fault form (before ++ line ∷ []) (n + 1) (flat_map lines_of_piece pieces))) (fault_of-comment form before n line each.0)
    ∙ clean-from_pieces form (before ++ line ∷ []) (n + 1) pieces each.1
    (subst (λ names. AreDistinct form (names ++ names_in pieces)) (sym (names_of-push_other form before line (comment-field form line each.0))) distinct)
clean-from_pieces form before n (Group line more ∷ pieces) each distinct =
    let rest = flat_map lines_of_piece pieces in
    let kinds = field-kinds form line each.0.0.begins in
    let new = new-from_distinct form (names_of form before) (names_in pieces) (name_of line) distinct in
    let next = before ++ line ∷ [] in
    let names : names_of form (next ++ more) ≡ names_of form before ++ name_of line ∷ [] =
    names_of-more form next more each.0.1 ∙ names_of-push form before line each.0.0.begins in
    ap (λ f. or_then f (first_fault form next (n + 1) (more ++ rest))) (fault_of-field form before n line kinds.0 kinds.1 each.0.0.colon each.0.0.name new)
    ∙ first_fault-more form next (n + 1) more rest (is_open-push form before line ∙ ap not kinds.0) each.0.1
    ∙ clean-from_pieces form (next ++ more) (n + 1 + length more) pieces each.1
    (subst (λ xs. AreDistinct form (xs ++ names_in pieces)) (sym names)
    (subst (AreDistinct form) (sym (append_assoc (names_of form before) (name_of line ∷ []) (names_in pieces))) distinct))

-- ---- what has no fault can be grouped

-- the lines are continuations of a field before them, and then pieces
record Built (form : Form) (before lines : List (List ℕ)) : Type 0 where
  more : List (List ℕ)
  pieces : List Piece
  joined : lines ≡ more ++ flat_map lines_of_piece pieces
  continue : Continue more
  follows : (more ≡ []) ⊎ (is_open form before ≡ true)
  each : AllByRecursion (IsPiece form) pieces
  names : AreDistinct form (names_of form before ++ names_in pieces)

or_then-none : (x y : Option StanzaError) → or_then x y ≡ None → (x ≡ None) × (y ≡ None)
or_then-none None y h = (refl, h)
or_then-none (Some fault) y h = cc

none-from_cond : (b : Bool) (fault : StanzaError) → cond b None (Some fault) ≡ None → b ≡ true
none-from_cond true fault h = refl
none-from_cond false fault h = cc

-- what a line is that begins a field without a fault
field-clean : (form : Form) (before : List (List ℕ)) (n : ℕ) (line : List ℕ) → is_comment form line ≡ false → is_continuation line ≡ false → fault_of form before n line ≡ None → (list_any is_colon line ≡ true) × (is_name (name_of line) ≡ true) × (is_repeated form before (name_of line) ≡ false)
field-clean form before n line other begins clean =
    go (list_any is_colon line) (is_name (name_of line)) (is_repeated form before (name_of line)) (sym (short other begins) ∙ clean) where
      short : is_comment form line ≡ false → is_continuation line ≡ false → fault_of form before n line ≡ cond (not (list_any is_colon line)) (Some (BadLine n)) (cond (not (is_name (name_of line))) (Some (BadFieldName n)) (cond (is_repeated form before (name_of line)) (Some (DuplicateField n)) None))
      short p q = rw (p, q) refl

      go : (colon name repeated : Bool) → cond (not colon) (Some (BadLine n)) (cond (not name) (Some (BadFieldName n)) (cond repeated (Some (DuplicateField n)) None)) ≡ None → (colon ≡ true) × (name ≡ true) × (repeated ≡ false)
      go true true false h = (refl, refl, refl)
      go true true true h = cc
      go true false r h = cc
      go false name r h = cc

opened-clean : (form : Form) (before : List (List ℕ)) (n : ℕ) (line : List ℕ) → is_comment form line ≡ false → is_continuation line ≡ true → fault_of form before n line ≡ None → is_open form before ≡ true
opened-clean form before n line other continues clean = none-from_cond (is_open form before) (BadLine n) (sym (short other continues) ∙ clean) where
  short : is_comment form line ≡ false → is_continuation line ≡ true → fault_of form before n line ≡ cond (is_open form before) None (Some (BadLine n))
  short p q = rw (p, q) refl

built : (form : Form) (before : List (List ℕ)) (n : ℕ) (lines : List (List ℕ)) → first_fault form before n lines ≡ None → AreDistinct form (names_of form before) → Built form before lines
built form before n [] clean distinct = record {
  more = [];
  pieces = [];
  joined = refl;
  continue = tt;
  follows = inl refl;
  each = tt;
  names = subst (AreDistinct form) (sym (append-nil (names_of form before))) distinct;
}
built form before n (line ∷ lines) clean distinct =
    let both = or_then-none (fault_of form before n line) (first_fault form (before ++ line ∷ []) (n + 1) lines) clean in
    let next = before ++ line ∷ [] in
    let later : AreDistinct form (names_of form next) → Built form next lines = built form next (n + 1) lines both.1 in
    elim (cases_Bool (is_comment form line)) [
      | inl comment ↦
          let names = names_of-push_other form before line (comment-field form line comment) in
          let rest = later (subst (AreDistinct form) (sym names) distinct) in
          let none : rest.more ≡ [] = elim rest.follows [
            | inl e ↦ e
            | inr opened ↦ absurd (false≢true (sym (ap not comment) ∙ sym (is_open-push form before line) ∙ opened))
          ] in
          record {
            more = [];
            pieces = Comment line ∷ rest.pieces;
            joined = ap (λ x. line ∷ x) (rest.joined ∙ ap (λ x. x ++ flat_map lines_of_piece rest.pieces) none);
            continue = tt;
            follows = inl refl;
            each = (comment, rest.each);
            names = subst (λ xs. AreDistinct form (xs ++ names_in rest.pieces)) names rest.names;
          }
      | inr other ↦ elim (cases_Bool (is_continuation line)) [
        | inl continues ↦
            let names = names_of-push_other form before line (begins_field-continuation form line continues) in
            let rest = later (subst (AreDistinct form) (sym names) distinct) in
            record {
              more = line ∷ rest.more;
              pieces = rest.pieces;
              joined = ap (λ x. line ∷ x) rest.joined;
              continue = (continues, rest.continue);
              follows = inr (opened-clean form before n line other continues both.0);
              each = rest.each;
              names = subst (λ xs. AreDistinct form (xs ++ names_in rest.pieces)) names rest.names;
            }
        | inr starts ↦
            let facts = field-clean form before n line other starts both.0 in
            let begins : begins_field form line ≡ true = rw (other, starts) refl in
            let names = names_of-push form before line begins in
            let rest = later (subst (AreDistinct form) (sym names) (distinct-push form (names_of form before) (name_of line) distinct facts.2)) in
            record {
              more = [];
              pieces = Group line rest.more ∷ rest.pieces;
              joined = ap (λ x. line ∷ x) rest.joined;
              continue = tt;
              follows = inl refl;
              each = ((record { begins = begins; colon = facts.0; name = facts.1 }, rest.continue), rest.each);
              names = subst (AreDistinct form) (append_assoc (names_of form before) (name_of line ∷ []) (names_in rest.pieces))
                  (subst (λ xs. AreDistinct form (xs ++ names_in rest.pieces)) names rest.names);
            }
      ]
    ]

-- the lines of a part without a fault are a field's lines and comments
pub Groups-from_clean : (form : Form) (n : ℕ) (part : List (List ℕ)) → first_fault form [] n part ≡ None → (pieces : List Piece) × Groups form part pieces
Groups-from_clean form n part clean =
    let b = built form [] n part clean tt in
    let none : b.more ≡ [] = elim b.follows [ inl e ↦ e | inr opened ↦ absurd (false≢true opened) ] in (
      b.pieces,
      record {
        lines = b.joined ∙ ap (λ x. x ++ flat_map lines_of_piece b.pieces) none;
        each = b.each;
        names = b.names;
      },
    )

pub clean-from_Groups : (form : Form) (n : ℕ) (part : List (List ℕ)) (pieces : List Piece) → Groups form part pieces → first_fault form [] n part ≡ None
clean-from_Groups form n part pieces groups =
    ap (first_fault form [] n) groups.lines ∙ clean-from_pieces form [] n pieces groups.each groups.names
