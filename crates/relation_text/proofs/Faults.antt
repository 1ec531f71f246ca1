-- A value isn't refused exactly where its shape, each version and the number of its atoms are well.
use Rattle.std.proofs.Common.{◌≡◌, ℕ, ◌+◌, ◌-◌, ◌≤◌, false, Option, Some, None, List, [], ◌∷◌, length, refl, arith, inl, inr, ◌==◌, nat_lt}
use Rattle.std.proofs.lemmas.Bool.{cases_Bool, eqb-false, ne_eqb}
use Rattle.std.specs.List.{AllByRecursion}
use Rattle.std.specs.Option.{option_map, option_or}
use Rattle.std.specs.Prelude.{Ok}
use Rattle.relation_text.specs.Refusal.{bad_version_of, excess_from, fault_of, least_refusal, most_atoms, separator_of, shape_refusal_from, sooner, unless_refused, version_refusal_from}
use Rattle.relation_text.specs.Spelling.{is_blank, items_of, parts_of}
use Rattle.relation_text.specs.declared.error.RelationFault.{RelationFault}
use Rattle.relation_text.specs.declared.refusal.RelationRefusal.{RelationRefusal}
use Rattle.relation_text.specs.declared.shape.RelationForm.{RelationForm}
use Rattle.relation_text.specs.declared.shape.ShapePlace.TheVariants.{Between}

sooner_first : (refusal other : Option RelationRefusal) → sooner refusal other ≡ None → refusal ≡ None
sooner_first None other e = refl
sooner_first (Some refusal) None e = cc e
sooner_first (Some refusal) (Some other) e = elim (cases_Bool (nat_lt other.offset refusal.offset)) [
  | inl less ↦ cc (rw less at e)
  | inr not_less ↦ cc (rw not_less at e)
]

sooner_second : (refusal other : Option RelationRefusal) → sooner refusal other ≡ None → other ≡ None
sooner_second None other e = e
sooner_second (Some refusal) other e = cc (sooner_first (Some refusal) other e)

no_refusal : (refusal : Option RelationRefusal) → option_map (λ (refusal : RelationRefusal). refusal.fault) refusal ≡ None → refusal ≡ None
no_refusal None e = refl
no_refusal (Some refusal) e = cc e

-- nothing of the value is refused
pub record IsFine (form : RelationForm) (value : List ℕ) : Type 0 where
  pub shape : shape_refusal_from form Between 0 value ≡ None
  pub versions : version_refusal_from 0 (parts_of (separator_of form) value) ≡ None
  pub few : excess_from most_atoms 0 (parts_of (separator_of form) value) ≡ None

pub fine_from : (form : RelationForm) (value : List ℕ) → fault_of form value ≡ None → IsFine form value
unfolding fault_of
fine_from form value e =
    let least = no_refusal (least_refusal form value) e in
    let later = sooner_second (shape_refusal_from form Between 0 value) _ least in
    record {
      shape = sooner_first (shape_refusal_from form Between 0 value) _ least;
      versions = sooner_first (version_refusal_from 0 (parts_of (separator_of form) value)) _ later;
      few = sooner_second (version_refusal_from 0 (parts_of (separator_of form) value)) _ later;
    }

pub no_fault : (form : RelationForm) (value : List ℕ) → IsFine form value → fault_of form value ≡ None
unfolding fault_of
no_fault form value fine = let shape = fine.shape in let versions = fine.versions in let few = fine.few in rw (shape, versions, few) refl

-- Versions

no_first : {A : Type 0} (first other : Option A) → option_or first other ≡ None → first ≡ None
no_first None other e = refl
no_first (Some x) other e = cc e

no_other : {A : Type 0} (first other : Option A) → option_or first other ≡ None → other ≡ None
no_other None other e = e
no_other (Some x) other e = cc e

no_mapped : {A B : Type 0} (f : A → B) (value : Option A) → option_map f value ≡ None → value ≡ None
no_mapped f None e = refl
no_mapped f (Some x) e = cc e

pub versions_fine : (offset : ℕ) (parts : List (List ℕ)) → version_refusal_from offset parts ≡ None → AllByRecursion (λ text. bad_version_of text ≡ None) parts
versions_fine offset [] e = tt
versions_fine offset (text ∷ parts) e = (
  no_mapped _ (bad_version_of text) (no_first _ (version_refusal_from (offset + length text + 1) parts) e),
  versions_fine (offset + length text + 1) parts (no_other _ (version_refusal_from (offset + length text + 1) parts) e),
)

pub versions_unrefused : (offset : ℕ) (parts : List (List ℕ)) → AllByRecursion (λ text. bad_version_of text ≡ None) parts → version_refusal_from offset parts ≡ None
versions_unrefused offset [] all = refl
versions_unrefused offset (text ∷ parts) all = let fine = all.0 in rw fine (versions_unrefused (offset + length text + 1) parts all.1)

-- The number of atoms

one_more : (more count : ℕ) → (more == 0) ≡ false → count ≤ more - 1 → count + 1 ≤ more
one_more more count some few = let positive = eqb-false more 0 some in omega (arith, positive)

pub few_items : (more offset : ℕ) (parts : List (List ℕ)) → excess_from more offset parts ≡ None → length (items_of parts) ≤ more
few_items more offset [] e = omega arith
few_items more offset (text ∷ parts) e = elim (cases_Bool (is_blank text)) [
  | inl blank ↦ rw blank (few_items more (offset + length text + 1) parts (rw blank at e))
  | inr atom ↦ elim (cases_Bool (more == 0)) [
    | inl full ↦ absurd (let none = rw (atom, full) at e in cc none)
    | inr some ↦ rw atom
        (let later : length (items_of parts) ≤ more - 1 = few_items (more - 1) (offset + length text + 1) parts (rw (atom, some) at e) in
        let both : length (items_of parts) + 1 ≤ more = one_more more (length (items_of parts)) some later in omega arith)
  ]
]

not_full : (more count : ℕ) → count + 1 ≤ more → (more == 0) ≡ false
not_full more count few = ne_eqb more 0 (λ none. absurd (omega arith))

pub items_unrefused : (more offset : ℕ) (parts : List (List ℕ)) → length (items_of parts) ≤ more → excess_from more offset parts ≡ None
items_unrefused more offset [] few = refl
items_unrefused more offset (text ∷ parts) few = elim (cases_Bool (is_blank text)) [
  | inl blank ↦ rw blank (items_unrefused more (offset + length text + 1) parts (rw blank at few))
  | inr atom ↦
      let room : length (items_of parts) + 1 ≤ more = (let less = rw atom at few in omega arith) in
      let some = not_full more (length (items_of parts)) room in
      rw (atom, some) (items_unrefused (more - 1) (offset + length text + 1) parts (omega arith))
]

-- What is read

pub record WasRead {A : Type 0} (fault : Option RelationFault) (read items : A) : Type 0 where
  pub faultless : fault ≡ None
  pub items_are : read ≡ items

ok_same : {A : Type 0} (read items : A) → unless_refused None read ≡ Ok items → read ≡ items
ok_same read items e = cc e

pub was_read : {A : Type 0} (fault : Option RelationFault) (read items : A) → unless_refused fault read ≡ Ok items → WasRead fault read items
was_read None read items e = record { faultless = refl; items_are = ok_same read items e }
was_read (Some fault) read items e = cc e
