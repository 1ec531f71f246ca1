-- The bytes between two starts: the lines of the field that begins there, and in the plain form no others.
use Rattle.std.proofs.Common.{◌≡◌, ℕ, suc, cond, add-zero, ◌+◌, ◌<◌, ◌≤◌, Bool, true, false, not, ◌&&◌, List, [], ◌∷◌, ◌++◌, length, take, drop, refl, sym, ap, subst, ◌∙◌, arith, append_assoc, inl, inr}
use Rattle.std.proofs.lemmas.Bool.{cases_Bool, eqb-true}
use Rattle.std.proofs.lemmas.List.{length-append, length-take, take_at, drop_at}
use Rattle.std.proofs.lemmas.List.Folds.{concat-append}
use Rattle.std.specs.List.{concat, after_first, position_or_len}
use Rattle.stanza.specs.declared.form.Form.{Form}
use Rattle.stanza.specs.declared.form.Form.TheVariants.{Plain}
use Rattle.stanza.specs.Line.{lines_of, begins_field, is_comment, is_continuation, is_white}
use Rattle.stanza.specs.Field.{name_of, field_of, continued, is_colon, value_of}
use Rattle.stanza.specs.Starts.{behind_colon, trim, starts_of, first_field, first_at, bytes_between, IsOneField, IsWithin, AreWithin}
use Rattle.stanza.proofs.AloneLemmas.{AreLines, AreLines-lines_of, AreLines-front, lines_of-concat}
use Rattle.stanza.proofs.LineLemmas.{concat-lines_of}
use Rattle.stanza.proofs.StartsLemmas.{take-again, start_behind}

-- ---- a value behind its name

colon-missing : (b : ℕ) → is_white b ≡ true → is_colon b ≡ false
colon-missing b white = elim (cases_Bool (is_colon b)) [
  | inl h ↦ absurd (other (subst (λ (c : ℕ). is_white c ≡ true) (eqb-true b 58 h) white))
  | inr h ↦ h
] where
  other : is_white 58 ≡ true → ⊥
  other e = cc

-- continuations begin with no colon
behind-none : (more : List (List ℕ)) → continued more ≡ concat more → behind_colon (concat more) ≡ concat more
behind-none [] all = refl
behind-none (line ∷ more) all = elim (cases_Bool (is_continuation line)) [
  | inl h ↦ first line h
  | inr h ↦ let none : [] ≡ concat (line ∷ more) = sym (rw h refl) ∙ all in subst (λ (bytes : List ℕ). behind_colon bytes ≡ bytes) none refl
] where
  first : (line : List ℕ) → is_continuation line ≡ true → behind_colon (line ++ concat more) ≡ line ++ concat more
  first [] h = cc
  first (b ∷ bs) h = rw (colon-missing b h) refl

behind : (line more : List ℕ) → behind_colon more ≡ more → behind_colon (drop (length (name_of line)) (line ++ more)) ≡ after_first is_colon line ++ more
behind [] more none = none
behind (b ∷ bs) more none = elim (cases_Bool (is_colon b)) [
  | inl h ↦ rw h (rw h refl)
  | inr h ↦ rw h (step (position_or_len is_colon bs) (behind bs more none))
] where
  step : (k : ℕ) → behind_colon (drop (length (take k bs)) (bs ++ more)) ≡ drop (k + 1) bs ++ more
      → behind_colon (drop (length (take (1 + k) (b ∷ bs))) ((b ∷ bs) ++ more)) ≡ drop (1 + k + 1) (b ∷ bs) ++ more
  step k e =
      let front : 1 + k ≡ suc k = omega arith in
      let rest : 1 + k + 1 ≡ suc (k + 1) = omega arith in
      rw (rest, front) e

-- what stands behind the name of a field's lines is its value
pub value-behind : (n : ℕ) (bytes : List ℕ) → IsOneField bytes → trim (behind_colon (drop (length ((first_field n (lines_of bytes)).name)) bytes)) ≡ (first_field n (lines_of bytes)).value
value-behind n bytes one =
    let joined : bytes ≡ one.line ++ concat one.more = sym (concat-lines_of bytes) ∙ ap concat one.lines in
    rw one.lines (
    ap (λ (text : List ℕ). trim (behind_colon (drop (length (name_of one.line)) text))) joined
    ∙ ap trim (behind one.line (concat one.more) (behind-none one.more one.all))
    ∙ ap (value_of one.line) (sym one.all)
    )

-- the name on a line is no longer than the line
pub name-len : (line : List ℕ) → length (name_of line) ≤ length line
name-len line = simp length-take (omega arith)

line-some : (line : List ℕ) (lines : List (List ℕ)) → AreLines (line ∷ lines) → 0 < length line
unfolding AreLines
line-some [] lines are = absurd (none are.0) where
  none : lines_of [] ≡ [] ∷ [] → ⊥
  none e = cc
line-some (b ∷ bs) lines are = omega arith

pub name-within : (n : ℕ) (bytes : List ℕ) → IsOneField bytes → length ((first_field n (lines_of bytes)).name) ≤ length bytes
name-within n bytes one =
    let joined : bytes ≡ one.line ++ concat one.more = sym (concat-lines_of bytes) ∙ ap concat one.lines in
    rw one.lines (omega (arith, name-len one.line, ap length joined, length-append one.line (concat one.more)))

-- ---- lines up to the next field

-- the lines up to the first that begins a field, and the others
unfielded : Form → List (List ℕ) → List (List ℕ)
unfielded form [] = []
unfielded form (line ∷ lines) = cond (begins_field form line) [] (line ∷ unfielded form lines)

fielded : Form → List (List ℕ) → List (List ℕ)
fielded form [] = []
fielded form (line ∷ lines) = cond (begins_field form line) (line ∷ lines) (fielded form lines)

unfielded-rest : (form : Form) (lines : List (List ℕ)) → unfielded form lines ++ fielded form lines ≡ lines
unfolding unfielded fielded
unfielded-rest form [] = refl
unfielded-rest form (line ∷ lines) = elim (cases_Bool (begins_field form line)) [
  | inl h ↦ rw h refl
  | inr h ↦ rw h (ap (λ x. line ∷ x) (unfielded-rest form lines))
]

-- a line that begins a field goes on with none
begins-other : (form : Form) (line : List ℕ) → begins_field form line ≡ true → is_continuation line ≡ false
begins-other form line begins = go (is_comment form line) (is_continuation line) begins where
  go : (comment continues : Bool) → (not comment && not continues) ≡ true → continues ≡ false
  go comment false e = refl
  go true true e = sym e
  go false true e = sym e

-- in the plain form every other line goes on with one
plain-continues : (line : List ℕ) → begins_field Plain line ≡ false → is_continuation line ≡ true
plain-continues [] other = cc
plain-continues (b ∷ bs) other = go (is_white b) other where
  go : (white : Bool) → not white ≡ false → white ≡ true
  go true e = refl
  go false e = sym e

unfielded-continued : (form : Form) (lines : List (List ℕ)) → continued (unfielded form lines) ≡ continued lines
unfolding unfielded
unfielded-continued form [] = refl
unfielded-continued form (line ∷ lines) = elim (cases_Bool (begins_field form line)) [
  | inl h ↦ rw (h, begins-other form line h) refl
  | inr h ↦ rw h (ap (λ x. cond (is_continuation line) (line ++ x) []) (unfielded-continued form lines))
]

unfielded-plain : (lines : List (List ℕ)) → continued (unfielded Plain lines) ≡ concat (unfielded Plain lines)
unfolding unfielded
unfielded-plain [] = refl
unfielded-plain (line ∷ lines) = elim (cases_Bool (begins_field Plain line)) [
  | inl h ↦ rw h refl
  | inr h ↦ rw h (rw (plain-continues line h) (ap (λ x. line ++ x) (unfielded-plain lines)))
]

unfielded-at : (form : Form) (at n : ℕ) (lines : List (List ℕ)) → first_at (at + length (concat lines)) (starts_of form at n lines) ≡ at + length (concat (unfielded form lines))
unfolding unfielded
unfielded-at form at n [] = refl
unfielded-at form at n (line ∷ lines) =
    let whole : at + length line + length (concat lines) ≡ at + length (line ++ concat lines) = omega (arith, length-append line (concat lines)) in
    let front : at + length line + length (concat (unfielded form lines)) ≡ at + length (line ++ concat (unfielded form lines)) = omega (arith, length-append line (concat (unfielded form lines))) in
    let later : first_at (at + length (line ++ concat lines)) (starts_of form (at + length line) (n + 1) lines) ≡ at + length (line ++ concat (unfielded form lines)) =
    ap (λ (k : ℕ). first_at k (starts_of form (at + length line) (n + 1) lines)) (sym whole) ∙ unfielded-at form (at + length line) (n + 1) lines ∙ front in
    elim (cases_Bool (begins_field form line)) [
      | inl h ↦ rw h (sym (add-zero at))
      | inr h ↦ rw h later
    ]

-- ---- the bytes of a start

within-here : (form : Form) (n : ℕ) (front line : List ℕ) (lines : List (List ℕ)) → AreLines (line ∷ lines)
    → IsWithin form (front ++ (line ++ concat lines)) (start_behind front n line) (starts_of form (length front + length line) (n + 1) lines)
within-here form n front line lines are =
    let own = line ++ concat (unfielded form lines) in
    let raw = front ++ (line ++ concat lines) in
    let later = starts_of form (length front + length line) (n + 1) lines in
    let rest = concat (fielded form lines) in
    let size : length front + length line + length (concat lines) ≡ length raw = omega (arith, length-append front (line ++ concat lines), length-append line (concat lines)) in
    let end : first_at (length raw) later ≡ length front + length line + length (concat (unfielded form lines)) =
    ap (λ (k : ℕ). first_at k later) (sym size) ∙ unfielded-at form (length front + length line) (n + 1) lines in
    let cut : raw ≡ (front ++ own) ++ rest =
    ap (λ x. front ++ (line ++ concat x)) (sym (unfielded-rest form lines)) ∙ ap (λ x. front ++ (line ++ x)) (concat-append (unfielded form lines) (fielded form lines))
    ∙ ap (λ x. front ++ x) (sym (append_assoc line (concat (unfielded form lines)) rest)) ∙ sym (append_assoc front own rest) in
    let long : length (front ++ own) ≡ first_at (length raw) later = omega (arith, end, length-append front own, length-append line (concat (unfielded form lines))) in
    let between : bytes_between raw (start_behind front n line) later ≡ own =
    ap (λ (text : List ℕ). drop (length front) (take (first_at (length raw) later) text)) cut ∙ ap (drop (length front)) (take_at (front ++ own) rest (first_at (length raw) later) long)
    ∙ drop_at front own (length front) refl in
    let all : lines_of (line ++ concat lines) ≡ line ∷ lines = lines_of-concat (line ∷ lines) are in
    let whole : AreLines ((line ∷ unfielded form lines) ++ fielded form lines) = subst (λ (x : List (List ℕ)). AreLines (line ∷ x)) (sym (unfielded-rest form lines)) are in
    let own_lines : lines_of own ≡ line ∷ unfielded form lines = lines_of-concat (line ∷ unfielded form lines) (AreLines-front (line ∷ unfielded form lines) (fielded form lines) whole) in
    let there : drop (length front) raw ≡ line ++ concat lines = drop_at front (line ++ concat lines) (length front) refl in
    let some = line-some line lines are in
    record {
      begin = omega (arith, end, some);
      end = omega (arith, long, ap length cut, length-append (front ++ own) rest);
      name_len = rw between (omega (arith, length-append line (concat (unfielded form lines)), name-len line));
      name = rw (between, there, all) (take-again _ line (concat (unfielded form lines)));
      field = λ m. rw (between, there, own_lines, all) (ap (field_of m line) (unfielded-continued form lines));
      alone = λ plain. rw between record {
        line = line;
        more = unfielded form lines;
        lines = own_lines;
        all = rw plain (unfielded-plain lines);
      };
    }

within-from : (form : Form) (n : ℕ) (front : List ℕ) (lines : List (List ℕ)) → AreLines lines → AreWithin form (front ++ concat lines) (starts_of form (length front) n lines)
unfolding AreLines
within-from form n front [] are = tt
within-from form n front (line ∷ lines) are =
    let same : (front ++ line) ++ concat lines ≡ front ++ (line ++ concat lines) = append_assoc front line (concat lines) in
    let later : AreWithin form (front ++ (line ++ concat lines)) (starts_of form (length front + length line) (n + 1) lines) =
    subst (λ (raw : List ℕ). AreWithin form raw (starts_of form (length front + length line) (n + 1) lines)) same
    (subst (λ (k : ℕ). AreWithin form ((front ++ line) ++ concat lines) (starts_of form k (n + 1) lines)) (length-append front line) (within-from form (n + 1) (front ++ line) lines are.2)) in
    elim (cases_Bool (begins_field form line)) [
      | inl h ↦ rw h (within-here form n front line lines are, later)
      | inr h ↦ rw h later
    ]

-- where a reader has noted fields there are some
pub within-at : (form : Form) (n : ℕ) (raw : List ℕ) → AreWithin form raw (starts_of form 0 n (lines_of raw))
within-at form n raw = subst (λ (text : List ℕ). AreWithin form text (starts_of form 0 n (lines_of raw))) (concat-lines_of raw) (within-from form n [] (lines_of raw) (AreLines-lines_of raw))

-- ---- the field at the front

-- the continuations at the front of lines, and the others
going_on : List (List ℕ) → List (List ℕ)
going_on [] = []
going_on (line ∷ lines) = cond (is_continuation line) (line ∷ going_on lines) []

going_off : List (List ℕ) → List (List ℕ)
going_off [] = []
going_off (line ∷ lines) = cond (is_continuation line) (going_off lines) (line ∷ lines)

going_on-rest : (lines : List (List ℕ)) → going_on lines ++ going_off lines ≡ lines
unfolding going_on going_off
going_on-rest [] = refl
going_on-rest (line ∷ lines) = elim (cases_Bool (is_continuation line)) [
  | inl h ↦ rw h (ap (λ x. line ∷ x) (going_on-rest lines))
  | inr h ↦ rw h refl
]

going_on-joined : (lines : List (List ℕ)) → continued lines ≡ concat (going_on lines)
unfolding going_on
going_on-joined [] = refl
going_on-joined (line ∷ lines) = elim (cases_Bool (is_continuation line)) [
  | inl h ↦ rw h (ap (λ x. line ++ x) (going_on-joined lines))
  | inr h ↦ rw h refl
]

going_on-all : (lines : List (List ℕ)) → continued (going_on lines) ≡ concat (going_on lines)
unfolding going_on
going_on-all [] = refl
going_on-all (line ∷ lines) = elim (cases_Bool (is_continuation line)) [
  | inl h ↦ rw h (rw h (ap (λ x. line ++ x) (going_on-all lines)))
  | inr h ↦ rw h refl
]

-- a first line and the continuations behind it are the field that the lines begin with
pub front-field : (text line : List ℕ) (lines : List (List ℕ)) (own : List ℕ) → lines_of text ≡ line ∷ lines → own ≡ line ++ continued lines
    → IsOneField own × ((n : ℕ) → first_field n (lines_of own) ≡ first_field n (lines_of text))
front-field text line lines own first is =
    let are : AreLines (line ∷ (going_on lines ++ going_off lines)) = rw (going_on-rest lines) (subst AreLines first (AreLines-lines_of text)) in
    let front = line ∷ going_on lines in
    let joined : own ≡ concat front = is ∙ ap (λ x. line ++ x) (going_on-joined lines) in
    let own_lines : lines_of own ≡ front = ap lines_of joined ∙ lines_of-concat front (AreLines-front front (going_off lines) are) in (
      record { line = line; more = going_on lines; lines = own_lines; all = going_on-all lines },
      λ n. rw (own_lines, first) (ap (field_of n line) (going_on-all lines ∙ sym (going_on-joined lines))),
    )
