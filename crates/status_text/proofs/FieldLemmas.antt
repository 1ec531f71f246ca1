-- The text of a field that can be written: the line of the field and continuations, from which its name and value are read.
use Rattle.std.proofs.Common.{◌≡◌, ℕ, true, not, List, [], ◌∷◌, ◌++◌, sym, ap, ◌∙◌, append_assoc}
use Rattle.std.proofs.lemmas.Bool.{and_parts, not-true}
use Rattle.std.specs.List.{list_all, concat, onto_first, AllByRecursion}
use Rattle.rules.specs.Stanza.{Field}
use Rattle.stanza.specs.declared.form.Form.TheVariants.{Plain}
use Rattle.stanza.specs.declared.lines.TheConstants.{NEWLINE}
use Rattle.stanza.specs.declared.names.TheConstants.{COLON}
use Rattle.stanza.specs.Line.{lines_of, IsWhole, is_separator, is_continuation}
use Rattle.stanza.specs.Field.{name_of, value_of, without_newline, trim_front, trim_end}
use Rattle.stanza.specs.File.{IsFieldLine}
use Rattle.stanza.proofs.LineLemmas.{concat-lines_of}
use Rattle.stanza.proofs.StanzaLemmas.{NoSeparators}
use Rattle.status_text.specs.Spelling.{gap_before, field_text}
use Rattle.status_text.specs.Writable.{is_more, behind_first, IsWritable}
use Rattle.status_text.proofs.LineLemmas.{lines_of-plain, behind_first-plain, lines_of-some, IsWhole-closed}
use Rattle.status_text.proofs.ValueLemmas.{without_newline-pushed, gap-plain, trim_front-gap}
use Rattle.status_text.proofs.NameLemmas.{name-plain, name_of-line, rest_of-line, field_line, field_line-inside}

-- the lines are continuations
abbrev pub Continue : List (List ℕ) → Type 0
Continue lines = AllByRecursion (λ next. is_continuation next ≡ true) lines

pub Continue-from_more : (lines : List (List ℕ)) → list_all is_more lines ≡ true → Continue lines × NoSeparators lines
Continue-from_more [] all = (tt, tt)
Continue-from_more (line ∷ lines) all =
    let both = and_parts (is_more line) (list_all is_more lines) all in
    let here = and_parts (is_continuation line) (not (is_separator line)) both.0 in
    let later = Continue-from_more lines both.1 in
    ((here.0, later.0), (not-true (is_separator line) here.1, later.1))

-- the text of the field is a line of its name and value, and these continuations
pub record IsWrittenAs (field : Field) (line : List ℕ) (more : List (List ℕ)) : Type 0 where
  pub lines : lines_of (field_text field) ≡ line ∷ more
  pub begins : IsFieldLine Plain line
  pub named : name_of line ≡ field.name
  pub valued : value_of line (concat more) ≡ field.value
  pub continue : Continue more
  pub inside : NoSeparators (line ∷ more)

-- the text of a field, cut behind its colon
field_text-cut : (field : Field) → field_text field ≡ field.name ++ COLON ∷ ((gap_before field.value ++ field.value) ++ NEWLINE ∷ [])
field_text-cut field =
    ap (λ x. x ++ NEWLINE ∷ []) (append_assoc field.name (COLON ∷ gap_before field.value) field.value)
    ∙ append_assoc field.name (COLON ∷ (gap_before field.value ++ field.value)) (NEWLINE ∷ [])

pub written : (field : Field) → IsWritable field → (line : List ℕ) × (more : List (List ℕ)) × IsWrittenAs field line more
written field can =
    let value = field.value in
    let text = (gap_before value ++ value) ++ NEWLINE ∷ [] in
    let some = lines_of-some (gap_before value ++ value) in
    let rest = some.0 in
    let more = some.1 in
    let line = field.name ++ COLON ∷ rest in
    let all : list_all is_more more ≡ true =
    ap (λ ls. list_all is_more (behind_first ls)) (sym some.2 ∙ ap lines_of (append_assoc (gap_before value) value (NEWLINE ∷ [])))
    ∙ ap (list_all is_more) (behind_first-plain (gap_before value) (value ++ NEWLINE ∷ []) (gap-plain value))
    ∙ can.lines in
    let both = Continue-from_more more all in
    let bytes : rest ++ concat more ≡ (gap_before value ++ value) ++ NEWLINE ∷ [] =
    ap concat (sym some.2) ∙ concat-lines_of text in (
      line,
      more,
      record {
        lines = ap lines_of (field_text-cut field) ∙ lines_of-plain field.name (COLON ∷ text) (COLON ∷ rest) more (name-plain field.name can.name) (ap (onto_first COLON) some.2);
        begins = field_line field.name rest can.name;
        named = name_of-line field.name rest can.name;
        valued = ap (λ x. trim_end (trim_front (without_newline (x ++ concat more)))) (rest_of-line field.name rest can.name)
            ∙ ap (λ x. trim_end (trim_front (without_newline x))) bytes
            ∙ ap (λ x. trim_end (trim_front x)) (without_newline-pushed (gap_before value ++ value))
            ∙ ap trim_end (trim_front-gap value)
            ∙ can.trimmed;
        continue = both.0;
        inside = (field_line-inside field.name rest can.name, both.1);
      },
    )

-- the text of a field is whole
pub IsWhole-field : (field : Field) → IsWhole (field_text field)
IsWhole-field field = IsWhole-closed ((field.name ++ COLON ∷ gap_before field.value) ++ field.value)
