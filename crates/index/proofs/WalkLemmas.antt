-- What is found among some fields and one more is what is found among the first, with that one.
use Rattle.std.proofs.Common.{◌≡◌, ℕ, Bool, true, false, cond, List, [], ◌∷◌, ◌++◌, map, Option, Some, None, refl, ap, ◌∙◌, codes}
use Rattle.std.specs.Prelude.{◌||◌}
use Rattle.std.specs.Char.{to_ascii_lowercase}
use Rattle.std.specs.Option.{option_or}
use Rattle.std.specs.Str.{bytes_eq}
use Rattle.relation.specs.PackageStanza.{field_of, is_essential, says_essential}
use Rattle.relation.specs.Kind.{IsOfKind}
use Rattle.relation.specs.declared.kind.Kind.{Kind}
use Rattle.relation.specs.declared.kind.Kind.TheVariants.{Architecture, Essential, Protected}
use Rattle.relation.proofs.FieldsMore.{fields_more}
use Rattle.relation.proofs.KindLemmas.{not-kind, same-folded, with-none as pkg-none}
use Rattle.rules.specs.Stanza.{marks_essential, says_essential as field_says_essential}
use Rattle.stanza.specs.Field.{FieldText, same_name, value_named}
use Rattle.index.specs.Walk.{IndexFields, index_fields_in, value_if_named, with_field}

named_first : (test : Bool) (value : List ℕ) (earlier later : Option (List ℕ))
    → cond test (Some value) (option_or earlier later) ≡ option_or (cond test (Some value) earlier) later
named_first true value earlier later = refl
named_first false value earlier later = refl

pub value_named_more : (name : List ℕ) (fields : List FieldText) (field : FieldText)
    → value_named name (fields ++ field ∷ []) ≡ option_or (value_named name fields) (value_if_named name field)
value_named_more name [] field = refl
value_named_more name (first ∷ fields) field =
    ap (cond (same_name first.name name) (Some first.value)) (value_named_more name fields field)
    ∙ named_first (same_name first.name name) first.value (value_named name fields) (value_if_named name field)

any_first : (test earlier later : Bool) → (test || (earlier || later)) ≡ ((test || earlier) || later)
any_first true earlier later = refl
any_first false earlier later = refl

any_alone : (test : Bool) → (test || false) ≡ test
any_alone true = refl
any_alone false = refl

pub is_essential_more : (fields : List FieldText) (field : FieldText)
    → is_essential (fields ++ field ∷ []) ≡ (is_essential fields || marks_essential (field_of field))
is_essential_more [] field = any_alone (marks_essential (field_of field))
is_essential_more (first ∷ fields) field =
    ap (λ rest. marks_essential (field_of first) || rest) (is_essential_more fields field)
    ∙ any_first (marks_essential (field_of first)) (is_essential fields) (marks_essential (field_of field))

pub says_essential_more : (fields : List FieldText) (field : FieldText)
    → says_essential (fields ++ field ∷ []) ≡ (says_essential fields || field_says_essential (field_of field))
says_essential_more [] field = any_alone (field_says_essential (field_of field))
says_essential_more (first ∷ fields) field =
    ap (λ rest. field_says_essential (field_of first) || rest) (says_essential_more fields field)
    ∙ any_first (field_says_essential (field_of first)) (says_essential fields) (field_says_essential (field_of field))

pub found_more : (line : ℕ) (fields : List FieldText) (field : FieldText)
    → index_fields_in line (fields ++ field ∷ []) ≡ with_field (index_fields_in line fields) field
found_more line fields field = rw (
  fields_more line fields field,
  value_named_more (codes "Architecture") fields field,
  is_essential_more fields field,
  says_essential_more fields field,
) refl

-- ---- a field of a kind

or-none : {A : Type 0} (value : Option A) → option_or value None ≡ value
or-none None = refl
or-none (Some x) = refl

-- a field of no kind adds nothing
pub with-none : (index_fields : IndexFields) (field : FieldText) → ((kind : Kind) → IsOfKind kind field.name → ⊥) → with_field index_fields field ≡ index_fields
with-none index_fields field none =
    let pkg = pkg-none index_fields.pkg field none in
    let architecture = not-kind field.name Architecture none in
    let essential = not-kind field.name Essential none in
    let protected = not-kind field.name Protected none in
    rw (pkg, architecture, essential, protected) (simp (or-none, any_alone))

-- ---- a field of one kind

-- a name that is this one is no other one
unlike : (name this other : List ℕ) → same_name name this ≡ true → same_name this other ≡ false → same_name name other ≡ false
unlike name this other is differs = ap (λ (folded : List ℕ). bytes_eq folded (map to_ascii_lowercase other)) (same-folded name this is) ∙ differs

-- a field Architecture adds its value alone
pub with-architecture : (index_fields : IndexFields) (field : FieldText) → same_name field.name (codes "Architecture") ≡ true
    → with_field index_fields field ≡ record index_fields { architecture = option_or index_fields.architecture (Some field.value) }
with-architecture index_fields field is =
    let other : (name : List ℕ) → same_name (codes "Architecture") name ≡ false → same_name field.name name ≡ false =
    λ name differs. unlike field.name (codes "Architecture") name is differs in
    rw (
      other (codes "Package") refl,
      other (codes "Version") refl,
      other (codes "Pre-Depends") refl,
      other (codes "Depends") refl,
      other (codes "Conflicts") refl,
      other (codes "Breaks") refl,
      other (codes "Provides") refl,
      other (codes "Essential") refl,
      other (codes "Protected") refl,
      is,
    ) (simp (or-none, any_alone))

-- a field Protected adds that the package is marked, and no more
pub with-protected : (index_fields : IndexFields) (field : FieldText) → same_name field.name (codes "Protected") ≡ true
    → with_field index_fields field ≡ record index_fields { is_essential = index_fields.is_essential || marks_essential (field_of field) }
with-protected index_fields field is =
    let other : (name : List ℕ) → same_name (codes "Protected") name ≡ false → same_name field.name name ≡ false =
    λ name differs. unlike field.name (codes "Protected") name is differs in
    rw (
      other (codes "Package") refl,
      other (codes "Version") refl,
      other (codes "Pre-Depends") refl,
      other (codes "Depends") refl,
      other (codes "Conflicts") refl,
      other (codes "Breaks") refl,
      other (codes "Provides") refl,
      other (codes "Architecture") refl,
      other (codes "Essential") refl,
    ) (simp (or-none, any_alone))
