-- A value that has no more parts than a field may have atoms has no atom too many.
use Rattle.std.proofs.Common.{◌≡◌, ℕ, ◌+◌, ◌-◌, ◌<◌, ◌≤◌, ◌==◌, true, None, List, [], ◌∷◌, length, refl, arith, inl, inr}
use Rattle.std.proofs.lemmas.Bool.{cases_Bool, eqb-true}
use Rattle.std.proofs.lemmas.List.Splits.{length-slice_split}
use Rattle.std.proofs.lemmas.List.Sums.{count_by-le-length}
use Rattle.std.specs.List.{count_by, slice_split}
use Rattle.relation_text.specs.Refusal.{excess_from, most_atoms}
use Rattle.relation_text.specs.Spelling.{is_blank, parts_of, separates}
use Rattle.relation_text.specs.declared.cut.Separator.{Separator}

none_left : (count more : ℕ) → count + 1 ≤ more → (more == 0) ≡ true → ⊥
none_left count more some none = let e : more ≡ 0 = eqb-true more 0 none in omega arith

pub few_parts : (more offset : ℕ) (parts : List (List ℕ)) → length parts ≤ more → excess_from more offset parts ≡ None
few_parts more offset [] few = refl
few_parts more offset (text ∷ texts) few = elim (cases_Bool (is_blank text)) [
  | inl blank ↦ rw blank (few_parts more (offset + length text + 1) texts (omega arith))
  | inr atom ↦ elim (cases_Bool (more == 0)) [
    | inl none ↦ absurd (none_left (length texts) more (omega arith) none)
    | inr some ↦ rw (atom, some) (few_parts (more - 1) (offset + length text + 1) texts (omega arith))
  ]
]

pub no_excess : (separator : Separator) (value : List ℕ) → length value < most_atoms
    → excess_from most_atoms 0 (parts_of separator value) ≡ None
no_excess separator value short =
    let parts : length (slice_split (separates separator) value) ≡ count_by (separates separator) value + 1 = length-slice_split (separates separator) value in
    let bound : count_by (separates separator) value ≤ length value = count_by-le-length (separates separator) value in
    few_parts most_atoms 0 (parts_of separator value) (omega arith)
