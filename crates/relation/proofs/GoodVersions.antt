-- Where a value has no refusal, none of its versions is refused.
use Rattle.std.proofs.Common.{◌≡◌, ℕ, Bool, true, false, cond, ltb, ◌+◌, List, [], ◌∷◌, ◌++◌, length, Option, Some, None, refl, subst}
use Rattle.std.specs.List.{flat_map}
use Rattle.std.specs.Option.{option_map, option_or}
use Rattle.relation_text.specs.Refusal.{sooner, least_refusal, fault_of, version_refusal_from, excess_from, shape_refusal_from, most_atoms, separator_of, bad_version_of, bad_version_at}
use Rattle.relation_text.specs.Spelling.{parts_of, separates}
use Rattle.relation.specs.Value.{HaveGoodVersions, HaveGoodParts}
use Rattle.relation_text.specs.declared.cut.Separator.TheVariants.{Bar, Comma, CommaOrBar}
use Rattle.relation_text.specs.declared.refusal.RelationRefusal.{RelationRefusal}
use Rattle.relation_text.specs.declared.shape.RelationForm.{RelationForm}
use Rattle.relation_text.specs.declared.shape.ShapePlace.TheVariants.{Between}
use Rattle.relation.proofs.SplitTwice.{split_twice}

pub none_mapped : {A B : Type 0} (f : A → B) (option : Option A) → option_map f option ≡ None → option ≡ None
none_mapped f None e = refl
none_mapped f (Some x) e = cc

pub none_or : {A : Type 0} (first second : Option A) → option_or first second ≡ None → (first ≡ None) × (second ≡ None)
none_or None second e = (refl, e)
none_or (Some x) second e = cc

some_chosen : (test : Bool) (refusal other : RelationRefusal) → cond test (Some other) (Some refusal) ≡ None → ⊥
some_chosen true refusal other e = cc
some_chosen false refusal other e = cc

none_sooner : (first second : Option RelationRefusal) → sooner first second ≡ None → (first ≡ None) × (second ≡ None)
none_sooner None second e = (refl, e)
none_sooner (Some refusal) None e = cc
none_sooner (Some refusal) (Some other) e = absurd (some_chosen (ltb other.offset refusal.offset) refusal other e)

pub good_from : (offset : ℕ) (texts : List (List ℕ)) → version_refusal_from offset texts ≡ None → HaveGoodVersions texts
good_from offset [] e = tt
good_from offset (text ∷ texts) e =
    let parts = none_or (option_map (λ at. bad_version_at (offset + at)) (bad_version_of text)) (version_refusal_from (offset + length text + 1) texts) e in
    (none_mapped (λ at. bad_version_at (offset + at)) (bad_version_of text) parts.0, good_from (offset + length text + 1) texts parts.1)

-- where a form has no refusal, its atoms' versions are good
pub good_unless_refused : (form : RelationForm) (value : List ℕ) → fault_of form value ≡ None → HaveGoodVersions (parts_of (separator_of form) value)
unfolding fault_of
good_unless_refused form value e =
    let texts = parts_of (separator_of form) value in
    let least = none_mapped (λ refusal. refusal.fault) (least_refusal form value) e in
    let later = none_sooner (shape_refusal_from form Between 0 value) (sooner (version_refusal_from 0 texts) (excess_from most_atoms 0 texts)) least in
    let both = none_sooner (version_refusal_from 0 texts) (excess_from most_atoms 0 texts) later.1 in
    good_from 0 texts both.0

good_front : (front more : List (List ℕ)) → HaveGoodVersions (front ++ more) → HaveGoodVersions front × HaveGoodVersions more
good_front [] more good = (tt, good)
good_front (text ∷ front) more good =
    let parts = good_front front more good.1 in
    ((good.0, parts.0), parts.1)

good_parts : (texts : List (List ℕ)) → HaveGoodVersions (flat_map (parts_of Bar) texts) → HaveGoodParts texts
good_parts [] good = tt
good_parts (text ∷ texts) good =
    let parts = good_front (parts_of Bar text) (flat_map (parts_of Bar) texts) good in
    (parts.0, good_parts texts parts.1)

-- the alternatives of each clause have good versions, where all of the value have
pub good_alternatives : (value : List ℕ) → HaveGoodVersions (parts_of CommaOrBar value) → HaveGoodParts (parts_of Comma value)
good_alternatives value good =
    good_parts (parts_of Comma value) (subst HaveGoodVersions (split_twice (separates Comma) (separates Bar) value) good)
