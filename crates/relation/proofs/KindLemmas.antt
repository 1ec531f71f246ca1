-- Kinds of fields: a name is that of at most one of them, and a field is taken by its kind as it is by its name.
use Rattle.std.proofs.Common.{◌≡◌, ℕ, Bool, true, false, List, [], ◌∷◌, length, map, Option, Some, None, refl, sym, ap, subst, ◌∙◌, eqb, inl, inr}
use Rattle.std.specs.Prelude.{◌↔◌}
use Rattle.std.proofs.lemmas.Bool.{cases_Bool, false≢true, eq-eqb}
use Rattle.std.proofs.lemmas.List.{length-map}
use Rattle.std.proofs.lemmas.Slice.Eq.{bytes_eq-Decides}
use Rattle.std.specs.Char.{to_ascii_lowercase}
use Rattle.std.specs.List.{find}
use Rattle.std.specs.Option.{option_or}
use Rattle.std.specs.Str.{bytes_eq}
use Rattle.stanza.specs.Field.{FieldText, same_name}
use Rattle.relation.specs.Kind.{IsOfKind, first_called, name_of}
use Rattle.relation.specs.PkgFields.{with_field}
use Rattle.relation.specs.declared.fields.PkgFields.{PkgFields}
use Rattle.relation.specs.declared.kind.Kind.{Kind}
use Rattle.relation.specs.declared.kind.Kind.TheVariants.{Package, Version, PreDepends, Depends, Conflicts, Breaks, Provides, Architecture, Essential, Protected}

folded : List ℕ → List ℕ
folded name = map to_ascii_lowercase name

-- names that are one are so in small letters
pub same-folded : (a b : List ℕ) → same_name a b ≡ true → map to_ascii_lowercase a ≡ map to_ascii_lowercase b
same-folded a b same = (bytes_eq-Decides (map to_ascii_lowercase a) (map to_ascii_lowercase b)).0 same

-- names that are one have one length
same-length : (a b : List ℕ) → same_name a b ≡ true → length a ≡ length b
same-length a b same = sym (length-map a to_ascii_lowercase) ∙ ap length (same-folded a b same) ∙ length-map b to_ascii_lowercase

other-length : (a b : List ℕ) → (length a ≡ length b → ⊥) → same_name a b ≡ false
other-length a b other = elim (cases_Bool (same_name a b)) [ inl h ↦ absurd (other (same-length a b h)) | inr h ↦ h ]

-- ---- the kind of a name

abbrev all_kinds : List Kind
all_kinds = Package ∷ Version ∷ PreDepends ∷ Depends ∷ Conflicts ∷ Breaks ∷ Provides ∷ Architecture ∷ Essential ∷ Protected ∷ []

-- what was found passes
find-passes : (test : Kind → Bool) (kinds : List Kind) (kind : Kind) → find test kinds ≡ Some kind → test kind ≡ true
find-passes test [] kind e = cc
find-passes test (first ∷ kinds) kind e = elim (cases_Bool (test first)) [
  | inl h ↦ let is : Some first ≡ Some kind = sym (rw h refl) ∙ e in subst (λ (k : Kind). test k ≡ true) (cc) h
  | inr h ↦ find-passes test kinds kind (sym (rw h refl) ∙ e)
]

-- the kind that has this name in small letters
kind_folded : List ℕ → Option Kind
kind_folded name = find (λ kind. bytes_eq name (map to_ascii_lowercase (name_of kind))) all_kinds

kind-folded : (kind : Kind) → kind_folded (map to_ascii_lowercase (name_of kind)) ≡ Some kind
unfolding kind_folded
kind-folded Package = refl
kind-folded Version = refl
kind-folded PreDepends = refl
kind-folded Depends = refl
kind-folded Conflicts = refl
kind-folded Breaks = refl
kind-folded Provides = refl
kind-folded Architecture = refl
kind-folded Essential = refl
kind-folded Protected = refl

-- the first kind of all that has the name is its kind
called-decides : (name : List ℕ) (kind : Kind) → (first_called all_kinds name ≡ Some kind) ↔ IsOfKind kind name
unfolding kind_folded
called-decides name kind = (
  find-passes (λ k. same_name name (name_of k)) all_kinds kind,
  λ is. ap kind_folded (same-folded name (name_of kind) is) ∙ kind-folded kind,
)

-- a name of another length is not that of the kind
not-called : (name : List ℕ) (n : ℕ) (kind : Kind) → length name ≡ n → eqb n (length (name_of kind)) ≡ false → same_name name (name_of kind) ≡ false
not-called name n kind len other = other-length name (name_of kind) (λ e. false≢true (sym other ∙ eq-eqb n (length (name_of kind)) (sym len ∙ e)))

pub called-6 : (name : List ℕ) → length name ≡ 6 → first_called all_kinds name ≡ first_called (Breaks ∷ []) name
called-6 name len = rw (not-called name 6 Package len refl, not-called name 6 Version len refl, not-called name 6 PreDepends len refl, not-called name 6 Depends len refl, not-called name 6 Conflicts len refl, not-called name 6 Provides len refl, not-called name 6 Architecture len refl, not-called name 6 Essential len refl, not-called name 6 Protected len refl) refl

pub called-7 : (name : List ℕ) → length name ≡ 7 → first_called all_kinds name ≡ first_called (Package ∷ Version ∷ Depends ∷ []) name
called-7 name len = rw (not-called name 7 PreDepends len refl, not-called name 7 Conflicts len refl, not-called name 7 Breaks len refl, not-called name 7 Provides len refl, not-called name 7 Architecture len refl, not-called name 7 Essential len refl, not-called name 7 Protected len refl) refl

pub called-8 : (name : List ℕ) → length name ≡ 8 → first_called all_kinds name ≡ first_called (Provides ∷ []) name
called-8 name len = rw (not-called name 8 Package len refl, not-called name 8 Version len refl, not-called name 8 PreDepends len refl, not-called name 8 Depends len refl, not-called name 8 Conflicts len refl, not-called name 8 Breaks len refl, not-called name 8 Architecture len refl, not-called name 8 Essential len refl, not-called name 8 Protected len refl) refl

pub called-9 : (name : List ℕ) → length name ≡ 9 → first_called all_kinds name ≡ first_called (Conflicts ∷ Essential ∷ Protected ∷ []) name
called-9 name len = rw (not-called name 9 Package len refl, not-called name 9 Version len refl, not-called name 9 PreDepends len refl, not-called name 9 Depends len refl, not-called name 9 Breaks len refl, not-called name 9 Provides len refl, not-called name 9 Architecture len refl) refl

pub called-11 : (name : List ℕ) → length name ≡ 11 → first_called all_kinds name ≡ first_called (PreDepends ∷ []) name
called-11 name len = rw (not-called name 11 Package len refl, not-called name 11 Version len refl, not-called name 11 Depends len refl, not-called name 11 Conflicts len refl, not-called name 11 Breaks len refl, not-called name 11 Provides len refl, not-called name 11 Architecture len refl, not-called name 11 Essential len refl, not-called name 11 Protected len refl) refl

pub called-12 : (name : List ℕ) → length name ≡ 12 → first_called all_kinds name ≡ first_called (Architecture ∷ []) name
called-12 name len = rw (not-called name 12 Package len refl, not-called name 12 Version len refl, not-called name 12 PreDepends len refl, not-called name 12 Depends len refl, not-called name 12 Conflicts len refl, not-called name 12 Breaks len refl, not-called name 12 Provides len refl, not-called name 12 Essential len refl, not-called name 12 Protected len refl) refl

-- what is found among the kinds of a length decides the kind
pub found-decides : (name : List ℕ) (answer : Option Kind) → answer ≡ first_called all_kinds name → (kind : Kind) → (answer ≡ Some kind) ↔ IsOfKind kind name
found-decides name answer is kind = rw is (called-decides name kind)

-- ---- a field of a kind

or-none : {A : Type 0} (value : Option A) → option_or value None ≡ value
or-none None = refl
or-none (Some x) = refl

-- where no kind was found, the name is of none
pub none-called : (name : List ℕ) (answer : Option Kind) → answer ≡ None → ((kind : Kind) → (answer ≡ Some kind) ↔ IsOfKind kind name) → (kind : Kind) → IsOfKind kind name → ⊥
none-called name answer none decides kind is = let some : answer ≡ Some kind = (decides kind).1 is in cc

pub not-kind : (name : List ℕ) (kind : Kind) → ((kind : Kind) → IsOfKind kind name → ⊥) → same_name name (name_of kind) ≡ false
not-kind name kind none = elim (cases_Bool (same_name name (name_of kind))) [ inl h ↦ absurd (none kind h) | inr h ↦ h ]

-- a field of no kind adds nothing
pub with-none : (pkg_fields : PkgFields) (field : FieldText) → ((kind : Kind) → IsOfKind kind field.name → ⊥) → with_field pkg_fields field ≡ pkg_fields
with-none pkg_fields field none = rw (not-kind field.name Package none, not-kind field.name Version none, not-kind field.name PreDepends none, not-kind field.name Depends none, not-kind field.name Conflicts none, not-kind field.name Breaks none, not-kind field.name Provides none) (simp or-none)
