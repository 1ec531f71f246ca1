-- What is found among some fields and one more is what is found among the first, with that one.
use Rattle.std.proofs.Common.{◌≡◌, ℕ, Bool, true, false, List, [], ◌∷◌, ◌++◌, refl, ap, ◌∙◌, codes, inl, inr}
use Rattle.std.proofs.lemmas.Bool.{cases_Bool}
use Rattle.std.specs.Prelude.{◌||◌}
use Rattle.relation.specs.PackageStanza.{field_of, is_essential}
use Rattle.relation.proofs.FieldsMore.{field_named_more, fields_more}
use Rattle.relation.specs.PkgFields.{field_named}
use Rattle.rules.specs.Stanza.{marks_essential}
use Rattle.stanza.specs.Field.{FieldText, same_name, value_named}
use Rattle.status_text.specs.Record.{text_in}
use Rattle.status_text.specs.Walk.{record_fields_in, with_field}

any_first : (test earlier later : Bool) → (test || (earlier || later)) ≡ ((test || earlier) || later)
any_first true earlier later = refl
any_first false earlier later = refl

any_alone : (test : Bool) → (test || false) ≡ test
any_alone true = refl
any_alone false = refl

essential_more : (fields : List FieldText) (field : FieldText)
    → is_essential (fields ++ field ∷ []) ≡ (is_essential fields || marks_essential (field_of field))
essential_more [] field = any_alone (marks_essential (field_of field))
essential_more (first ∷ fields) field =
    ap (λ rest. marks_essential (field_of first) || rest) (essential_more fields field)
    ∙ any_first (marks_essential (field_of first)) (is_essential fields) (marks_essential (field_of field))

pub found_more : (line : ℕ) (fields : List FieldText) (field : FieldText)
    → record_fields_in line (fields ++ field ∷ []) ≡ with_field (record_fields_in line fields) field
found_more line fields field =
    rw (
      fields_more line fields field,
      field_named_more (codes "Status") fields field,
      field_named_more (codes "Architecture") fields field,
      field_named_more (codes "Config-Version") fields field,
      essential_more fields field,
    ) refl

-- the value of a name is that of its first field
pub value_found : (name : List ℕ) (fields : List FieldText) → text_in (field_named name fields) ≡ value_named name fields
value_found name [] = refl
value_found name (field ∷ fields) = elim (cases_Bool (same_name field.name name)) [
  | inl called ↦ rw called refl
  | inr other ↦ rw other (value_found name fields)
]
