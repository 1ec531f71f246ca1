-- Fields with distinct names: some of them, and two lists one behind the other.
use Rattle.std.proofs.Common.{◌≡◌, ℕ, Bool, true, false, not, ◌||◌, List, [], ◌∷◌, ◌++◌, map, sym, ◌∙◌, inl, inr}
use Rattle.std.proofs.lemmas.Bool.{false≢true, cases_Bool, or_parts, not-true, not_from_false}
use Rattle.std.proofs.lemmas.Slice.Eq.{bytes_eq-Decides}
use Rattle.std.specs.Char.{to_ascii_lowercase}
use Rattle.std.specs.List.{filter, AllByRecursion}
use Rattle.rules.specs.Stanza.{Field, is_called, is_called_one_of}
use Rattle.stanza.specs.declared.form.Form.TheVariants.{Plain}
use Rattle.stanza.specs.Field.{same_name}
use Rattle.stanza.specs.File.{AreDistinct}
use Rattle.status_text.proofs.StanzaLemmas.{name_in}

-- ---- names

folded : List ℕ → List ℕ
folded name = map to_ascii_lowercase name

same-folded : (a b : List ℕ) → same_name a b ≡ true → folded a ≡ folded b
unfolding folded
same-folded a b same = (bytes_eq-Decides (folded a) (folded b)).0 same

same-from_folded : (a b : List ℕ) → folded a ≡ folded b → same_name a b ≡ true
unfolding folded
same-from_folded a b e = (bytes_eq-Decides (folded a) (folded b)).1 e

-- what has a name differs from what hasn't
pub differs : (a b name : List ℕ) → same_name a name ≡ true → same_name b name ≡ false → same_name a b ≡ false
differs a b name same other = elim (cases_Bool (same_name a b)) [
  | inl h ↦ absurd (false≢true (sym other ∙ same-from_folded b name (sym (same-folded a b h) ∙ same-folded a name same)))
  | inr h ↦ h
]

pub differs-back : (a b : List ℕ) → same_name a b ≡ false → same_name b a ≡ false
differs-back a b other = elim (cases_Bool (same_name b a)) [
  | inl h ↦ absurd (false≢true (sym other ∙ same-from_folded a b (sym (same-folded b a h))))
  | inr h ↦ h
]

-- ---- predicates of lists

module _ {X : Type 0} where
  pub all_from : (P Q : X → Type 0) → ((x : X) → P x → Q x) → (xs : List X) → AllByRecursion P xs → AllByRecursion Q xs
  all_from P Q step [] all = tt
  all_from P Q step (x ∷ xs) all = (step x all.0, all_from P Q step xs all.1)

  pub all-filter : (P : X → Type 0) (test : X → Bool) (xs : List X) → AllByRecursion P xs → AllByRecursion P (filter test xs)
  all-filter P test [] all = tt
  all-filter P test (x ∷ xs) all = elim (cases_Bool (test x)) [
    | inl h ↦ rw h (all.0, all-filter P test xs all.1)
    | inr h ↦ rw h (all-filter P test xs all.1)
  ]

  pub all-passes : (test : X → Bool) (xs : List X) → AllByRecursion (λ x. test x ≡ true) (filter test xs)
  all-passes test [] = tt
  all-passes test (x ∷ xs) = elim (cases_Bool (test x)) [
    | inl h ↦ rw h (h, all-passes test xs)
    | inr h ↦ rw h (all-passes test xs)
  ]

  pub all-append : (P : X → Type 0) (xs ys : List X) → AllByRecursion P xs → AllByRecursion P ys → AllByRecursion P (xs ++ ys)
  all-append P [] ys all more = more
  all-append P (x ∷ xs) ys all more = (all.0, all-append P xs ys all.1 more)

-- ---- fields

-- the field has another name than each of these
abbrev pub IsApart : Field → List Field → Type 0
IsApart field fields = AllByRecursion (λ (other : Field). same_name field.name other.name ≡ false) fields

-- no two fields have the same name
abbrev pub HaveDistinctNames : List Field → Type 0
HaveDistinctNames [] = Unit {0}
HaveDistinctNames (field ∷ fields) = IsApart field fields × HaveDistinctNames fields

apart-names : (field : Field) (fields : List Field) → IsApart field fields → AllByRecursion (λ later. (false || not (same_name field.name later)) ≡ true) (map name_in fields)
apart-names field [] apart = tt
apart-names field (other ∷ fields) apart = (not_from_false (same_name field.name other.name) apart.0, apart-names field fields apart.1)

pub distinct-names : (fields : List Field) → HaveDistinctNames fields → AreDistinct Plain (map name_in fields)
distinct-names [] distinct = tt
distinct-names (field ∷ fields) distinct = (apart-names field fields distinct.0, distinct-names fields distinct.1)

names-apart : (field : Field) (fields : List Field) → AllByRecursion (λ later. (false || not (same_name field.name later)) ≡ true) (map name_in fields) → IsApart field fields
names-apart field [] all = tt
names-apart field (other ∷ fields) all = (not-true (same_name field.name other.name) all.0, names-apart field fields all.1)

pub names-distinct : (fields : List Field) → AreDistinct Plain (map name_in fields) → HaveDistinctNames fields
names-distinct [] distinct = tt
names-distinct (field ∷ fields) distinct = (names-apart field fields distinct.0, names-distinct fields distinct.1)

pub distinct-filter : (test : Field → Bool) (fields : List Field) → HaveDistinctNames fields → HaveDistinctNames (filter test fields)
distinct-filter test [] distinct = tt
distinct-filter test (field ∷ fields) distinct = elim (cases_Bool (test field)) [
  | inl h ↦ rw h (all-filter (λ (other : Field). same_name field.name other.name ≡ false) test fields distinct.0, distinct-filter test fields distinct.1)
  | inr h ↦ rw h (distinct-filter test fields distinct.1)
]

-- two lists of distinct names, where each of the first is apart from the second
pub distinct-append : (xs ys : List Field) → HaveDistinctNames xs → HaveDistinctNames ys → AllByRecursion (λ x. IsApart x ys) xs → HaveDistinctNames (xs ++ ys)
distinct-append [] ys distinct more apart = more
distinct-append (x ∷ xs) ys distinct more apart =
    (all-append (λ (other : Field). same_name x.name other.name ≡ false) xs ys distinct.0 apart.0, distinct-append xs ys distinct.1 more apart.1)

-- fields of a name are apart from those that haven't it
pub apart-named : (name : List ℕ) (field : Field) (others : List Field) → same_name field.name name ≡ true → AllByRecursion (λ (other : Field). same_name other.name name ≡ false) others → IsApart field others
apart-named name field others named all =
    all_from (λ (other : Field). same_name other.name name ≡ false) (λ (other : Field). same_name field.name other.name ≡ false)
    (λ other h. differs field.name other.name name named h) others all

pub apart-unnamed : (name : List ℕ) (field : Field) (others : List Field) → same_name field.name name ≡ false → AllByRecursion (λ (other : Field). same_name other.name name ≡ true) others → IsApart field others
apart-unnamed name field others unnamed all =
    all_from (λ (other : Field). same_name other.name name ≡ true) (λ (other : Field). same_name field.name other.name ≡ false)
    (λ other h. differs-back other.name field.name (differs other.name field.name name h unnamed)) others all

-- what has none of some names has not each of them
pub called_none : (names : List (List ℕ)) (field : Field) → not (is_called_one_of names field) ≡ true → AllByRecursion (λ name. same_name field.name name ≡ false) names
called_none [] field none = tt
called_none (name ∷ names) field none =
    let parts = or_parts (is_called name field) (is_called_one_of names field) (not-true (is_called_one_of (name ∷ names) field) none) in
    (parts.0, called_none names field (not_from_false (is_called_one_of names field) parts.1))

-- two that have a name have the same
pub both_named : (a b name : List ℕ) → same_name a name ≡ true → same_name b name ≡ true → same_name a b ≡ true
both_named a b name same also = same-from_folded a b (same-folded a name same ∙ sym (same-folded b name also))
