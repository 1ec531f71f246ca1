-- The fields of a package among some and one more are those among the first, or else that one.
use Rattle.std.proofs.Common.{◌≡◌, ℕ, Bool, true, false, cond, List, [], ◌∷◌, ◌++◌, Option, Some, None, refl, ap, ◌∙◌}
use Rattle.std.specs.List.{find}
use Rattle.std.specs.Option.{option_or}
use Rattle.stanza.specs.Field.{FieldText, same_name}
use Rattle.relation.specs.PkgFields.{field_named, fields_in, first_named, with_field}

choice : {A : Type 0} (test : Bool) (x : A) (earlier later : Option A) → cond test (Some x) (option_or earlier later) ≡ option_or (cond test (Some x) earlier) later
choice true x earlier later = refl
choice false x earlier later = refl

find_more : {A : Type 0} (test : A → Bool) (xs : List A) (x : A) → find test (xs ++ x ∷ []) ≡ option_or (find test xs) (cond (test x) (Some x) None)
find_more test [] x = refl
find_more test (y ∷ xs) x =
    ap (cond (test y) (Some y)) (find_more test xs x) ∙ choice (test y) y (find test xs) (cond (test x) (Some x) None)

pub field_named_more : (name : List ℕ) (fields : List FieldText) (field : FieldText) → field_named name (fields ++ field ∷ []) ≡ first_named name (field_named name fields) field
field_named_more name fields field = find_more (λ field. same_name field.name name) fields field

pub fields_more : (line : ℕ) (fields : List FieldText) (field : FieldText) → fields_in line (fields ++ field ∷ []) ≡ with_field (fields_in line fields) field
fields_more line fields field = simp field_named_more
