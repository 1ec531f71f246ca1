-- Lines that begin no field, passed one at a time.
use Rattle.std.proofs.Common.{◌≡◌, ℕ, ◌+◌, ◌<◌, ◌≤◌, Bool, true, false, not, ◌&&◌, List, [], ◌∷◌, ◌++◌, length, take, drop, refl, sym, ap, ◌∙◌, arith, append_assoc, add_assoc, add-zero}
use Rattle.std.proofs.lemmas.List.{append-nil, take-append-drop, length-append, take_at, drop_at, length-take-le, drop-drop}
use Rattle.std.proofs.Math.Seq.{take-append-add}
use Rattle.stanza.specs.declared.form.Form.{Form}
use Rattle.stanza.proofs.LineLemmas.{lines_of-head}
use Rattle.stanza.specs.Line.{lines_of, is_comment, is_continuation, begins_field}
use Rattle.stanza.specs.Field.{continued, fields_of, FieldText, field_of, name_of, value_of}
use Rattle.stanza.specs.Cut.{CutsLine, SkipsLines, CutsContinuations}

-- the kind of a line shows at its first byte
pub begins_field-front : (form : Form) (line rest : List ℕ) → 0 < length line → begins_field form (line ++ rest) ≡ begins_field form line
begins_field-front form [] rest some = absurd (omega arith)
begins_field-front form (b ∷ bs) rest some = refl

pub is_continuation-front : (line rest : List ℕ) → 0 < length line → is_continuation (line ++ rest) ≡ is_continuation line
is_continuation-front [] rest some = absurd (omega arith)
is_continuation-front (b ∷ bs) rest some = refl

pub is_comment-front : (form : Form) (line rest : List ℕ) → 0 < length line → is_comment form (line ++ rest) ≡ is_comment form line
is_comment-front form [] rest some = absurd (omega arith)
is_comment-front form (b ∷ bs) rest some = refl

-- a continuation begins no field
pub begins_field-continuation : (form : Form) (line : List ℕ) → is_continuation line ≡ true → begins_field form line ≡ false
begins_field-continuation form line continues = rw continues (go (is_comment form line)) where
  go : (c : Bool) → (not c && false) ≡ false
  go true = refl
  go false = refl

-- a first line that begins no field adds none
pub fields_of-skip : (form : Form) (text line rest : List ℕ) → CutsLine text line rest → begins_field form text ≡ false → (n : ℕ) → fields_of form n (lines_of text) ≡ fields_of form (n + 1) (lines_of rest)
fields_of-skip form text line rest cut other n =
    let e : begins_field form line ≡ false =
    sym (begins_field-front form line rest cut.some) ∙ sym (ap (begins_field form) cut.joined) ∙ other in
    ap (fields_of form n) cut.first ∙ rw e refl

-- one more line is skipped
pub SkipsLines-more : (form : Form) (text rest line after : List ℕ) (lines : ℕ) → SkipsLines form text rest lines → CutsLine rest line after → begins_field form rest ≡ false → SkipsLines form text after (lines + 1)
SkipsLines-more form text rest line after lines skips cut other = record {
  fields = λ n. skips.fields n ∙ fields_of-skip form rest line after cut other (n + lines) ∙ ap (λ k. fields_of form k (lines_of after)) (add_assoc n lines 1);
  within = omega (arith, skips.within, cut.some, ap length cut.joined, length-append line after);
}

-- the rest follows so many bytes, of so many lines, that go on with a field
pub record PassesContinuations (text rest : List ℕ) (len lines : ℕ) : Type 0 where
  pub left : drop len text ≡ rest
  pub more : continued (lines_of text) ≡ take len text ++ continued (lines_of rest)
  pub fields : (form : Form) (n : ℕ) → fields_of form n (lines_of text) ≡ fields_of form (n + lines) (lines_of rest)
  pub within : len + length rest ≡ length text
  pub each : lines ≤ len

pub PassesContinuations-none : (text : List ℕ) → PassesContinuations text text 0 0
PassesContinuations-none text = record {
  left = refl;
  more = refl;
  fields = λ form n. ap (λ k. fields_of form k (lines_of text)) (sym (add-zero n));
  within = omega arith;
  each = omega arith;
}

pub take-more : (text line after : List ℕ) (len : ℕ) → len ≤ length text → drop len text ≡ line ++ after → take (len + length line) text ≡ take len text ++ line
take-more text line after len within left =
    let whole : text ≡ (take len text ++ line) ++ after = sym (take-append-drop len text) ∙ ap (λ x. take len text ++ x) left ∙ sym (append_assoc (take len text) line after) in
    ap (take (len + length line)) whole ∙ take_at (take len text ++ line) after (len + length line) (omega (arith, length-append (take len text) line, length-take-le len text within))

pub drop-more : (text line after : List ℕ) (len : ℕ) → drop len text ≡ line ++ after → drop (len + length line) text ≡ after
drop-more text line after len left =
    sym (drop-drop (length line) len text) ∙ ap (drop (length line)) left ∙ drop_at line after (length line) refl

pub PassesContinuations-more : (text rest line after : List ℕ) (len lines : ℕ) → PassesContinuations text rest len lines → CutsLine rest line after → is_continuation rest ≡ true → PassesContinuations text after (len + length line) (lines + 1)
PassesContinuations-more text rest line after len lines passes cut continues =
    let joined : drop len text ≡ line ++ after = passes.left ∙ cut.joined in
    let within : len ≤ length text = omega (arith, passes.within) in
    let e : is_continuation line ≡ true = sym (is_continuation-front line after cut.some) ∙ sym (ap is_continuation cut.joined) ∙ continues in
    let first : continued (lines_of rest) ≡ line ++ continued (lines_of after) = ap continued cut.first ∙ rw e refl in
    record {
      left = drop-more text line after len joined;
      more = passes.more ∙ ap (λ x. take len text ++ x) first ∙ sym (append_assoc (take len text) line (continued (lines_of after))) ∙ ap (λ x. x ++ continued (lines_of after)) (sym (take-more text line after len within joined));
      fields = λ form n. passes.fields form n ∙ fields_of-skip form rest line after cut (begins_field-continuation form rest continues) (n + lines) ∙ ap (λ k. fields_of form k (lines_of after)) (add_assoc n lines 1);
      within = omega (arith, passes.within, ap length cut.joined, length-append line after);
      each = omega (arith, passes.each, cut.some);
    }

-- where the rest goes on with no field, all continuations are passed
pub continued-none : (rest : List ℕ) → is_continuation rest ≡ false → continued (lines_of rest) ≡ []
continued-none [] other = refl
continued-none (b ∷ bs) other =
    let head = lines_of-head b bs in
    ap continued head.2 ∙ rw other refl

pub CutsContinuations-all : (text rest : List ℕ) (len lines : ℕ) → PassesContinuations text rest len lines → is_continuation rest ≡ false → CutsContinuations text len lines
CutsContinuations-all text rest len lines passes other = record {
  more = passes.more ∙ ap (λ x. take len text ++ x) (continued-none rest other) ∙ append-nil (take len text);
  fields = λ form n. passes.fields form n ∙ ap (λ x. fields_of form (n + lines) (lines_of x)) (sym passes.left);
  within = omega (arith, passes.within);
  each = passes.each;
}

-- what is cut behind a first line
pub take-behind : (rest line after : List ℕ) (len : ℕ) → rest ≡ line ++ after → take (length line + len) rest ≡ line ++ take len after
take-behind rest line after len joined = ap (take (length line + len)) joined ∙ take-append-add line after len

pub drop-behind : (rest line after : List ℕ) (len : ℕ) → rest ≡ line ++ after → drop (length line + len) rest ≡ drop len after
drop-behind rest line after len joined =
    ap (drop (length line + len)) joined ∙ sym (drop-drop len (length line) (line ++ after)) ∙ ap (drop len) (drop_at line after (length line) refl)

-- a first line that begins a field is cut with its continuations
pub first_field : (form : Form) (n : ℕ) (rest line after : List ℕ) (len lines : ℕ) → CutsLine rest line after → begins_field form rest ≡ true → CutsContinuations after len lines → fields_of form n (lines_of rest) ≡ field_of n line (take len after) ∷ fields_of form (n + 1 + lines) (lines_of (drop len after))
first_field form n rest line after len lines cut begins more =
    let e : begins_field form line ≡ true =
    sym (begins_field-front form line after cut.some) ∙ sym (ap (begins_field form) cut.joined) ∙ begins in
    ap (fields_of form n) cut.first ∙ rw e (rw (more.more, more.fields form (n + 1)) refl)

pub field_made : (n : ℕ) (name value line more : List ℕ) → name ≡ name_of line → value ≡ value_of line more → (let made : FieldText = record { name = name; value = value; line = n } in made) ≡ field_of n line more
field_made n name value line more is_name is_value = rw (is_name, is_value) refl

-- what a call that takes a field gives: the field, and after it those of the rest
pub field_taken : (form : Form) (before skipped len lines : ℕ) (text rest line after front back name value : List ℕ) → SkipsLines form text rest skipped → begins_field form rest ≡ true → CutsLine rest line after → CutsContinuations after len lines → front ≡ take (length line + len) rest → back ≡ drop (length line + len) rest → name ≡ name_of line → ((more : List ℕ) → front ≡ line ++ more → value ≡ value_of line more) → fields_of form (before + 1) (lines_of text) ≡ (let made : FieldText = record { name = name; value = value; line = before + skipped + 1 } in made) ∷ fields_of form (before + skipped + 1 + lines + 1) (lines_of back)
field_taken form before skipped len lines text rest line after front back name value skips begins cut more is_front is_back is_name is_value =
    let n = before + skipped + 1 in
    let number : before + 1 + skipped ≡ before + skipped + 1 = omega arith in
    let later : n + 1 + lines ≡ n + lines + 1 = omega arith in
    let first = first_field form n rest line after len lines cut begins more in
    let made = field_made n name value line (take len after) is_name (is_value (take len after) (is_front ∙ take-behind rest line after len cut.joined)) in
    let same : drop len after ≡ back = sym (drop-behind rest line after len cut.joined) ∙ sym is_back in
    skips.fields (before + 1) ∙ ap (λ k. fields_of form k (lines_of rest)) number ∙ first
    ∙ ap (λ f. f ∷ fields_of form (n + 1 + lines) (lines_of (drop len after))) (sym made)
    ∙ ap (λ k. (let made : FieldText = record { name = name; value = value; line = n } in made) ∷ fields_of form k (lines_of (drop len after))) later
    ∙ ap (λ xs. (let made : FieldText = record { name = name; value = value; line = n } in made) ∷ fields_of form (n + lines + 1) (lines_of xs)) same
