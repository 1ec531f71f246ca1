-- What is known of the names so far: the slots that they take, and the table that has the first of them in small letters.
use Rattle.std.proofs.Common.{◌≡◌, ℕ, ◌+◌, ◌<◌, ◌≤◌, Bool, true, false, cond, ◌||◌, List, [], ◌∷◌, ◌++◌, length, get_or, set, take, map, refl, sym, ap, subst, ◌∙◌, arith, inl, inr}
use Rattle.std.proofs.Math.Bool.{or-false}
use Rattle.std.proofs.lemmas.Bool.{true≢false, cases_Bool, or_right}
use Rattle.std.proofs.lemmas.List.{length_push, map-append, take-append-le, take_all, take_more}
use Rattle.std.proofs.lemmas.List.Folds.{list_any-append}
use Rattle.std.proofs.lemmas.Slice.Eq.{bytes_eq-Decides}
use Rattle.std.specs.Char.{to_ascii_lowercase}
use Rattle.std.specs.List.{list_any}
use Rattle.std.specs.Str.{bytes_eq}
use Rattle.indexmap.specs.IndexSet.{insert_key}
use Rattle.stanza.specs.declared.known.Known.{Known}
use Rattle.stanza.specs.Field.{same_name}
use Rattle.stanza.specs.Known.{AreKnown, HasNames}
use Rattle.stanza.specs.Seen.{AreSeen, is_seen, slot_of}
use Rattle.stanza.proofs.NameLemmas.{AreSeen-push, AreSeen-set}

-- ---- the table's keys are its names

module _ {X : Type 0} (f : X → List ℕ) where
  pub any-keys : (test : List ℕ → Bool) (keys : List X) → list_any (λ key. test (f key)) keys ≡ list_any test (map f keys)
  any-keys test [] = refl
  any-keys test (key ∷ keys) = ap (λ b. test (f key) || b) (any-keys test keys)

  pub insert-keys : (keys : List X) (key : X) → map f (insert_key (λ a b. bytes_eq (f a) (f b)) keys key) ≡ insert_key bytes_eq (map f keys) (f key)
  insert-keys keys key =
      each (list_any (λ b. bytes_eq (f key) (f b)) keys) ∙ ap (λ b. cond b (map f keys) (map f keys ++ f key ∷ [])) (any-keys (bytes_eq (f key)) keys)
    where
      each : (b : Bool) → map f (cond b keys (keys ++ key ∷ [])) ≡ cond b (map f keys) (map f keys ++ f key ∷ [])
      each true = refl
      each false = map-append f keys (key ∷ [])

-- ---- one more name

any-push : (test : List ℕ → Bool) (names : List (List ℕ)) (name : List ℕ) → list_any test (names ++ name ∷ []) ≡ (list_any test names || test name)
any-push test names name = list_any-append test names (name ∷ []) ∙ ap (λ b. list_any test names || b) (or-false (test name))

bytes_eq-sym : (a b : List ℕ) → bytes_eq a b ≡ bytes_eq b a
bytes_eq-sym a b = elim (cases_Bool (bytes_eq a b)) [
  | inl h ↦ h ∙ sym ((bytes_eq-Decides b a).1 (sym ((bytes_eq-Decides a b).0 h)))
  | inr h ↦ elim (cases_Bool (bytes_eq b a)) [
    | inl k ↦ absurd (true≢false (sym ((bytes_eq-Decides a b).1 (sym ((bytes_eq-Decides b a).0 k))) ∙ h))
    | inr k ↦ h ∙ sym k
  ]
]

pub HasNames-insert : (folded names : List (List ℕ)) (name : List ℕ) → HasNames folded names → HasNames (insert_key bytes_eq folded (map to_ascii_lowercase name)) (names ++ name ∷ [])
HasNames-insert folded names name has = λ other.
    let small = map to_ascii_lowercase name in
    let asked = map to_ascii_lowercase other in
    let known = list_any (λ earlier. same_name earlier other) names in
    let more = any-push (λ earlier. same_name earlier other) names name in
    elim (cases_Bool (list_any (bytes_eq small) folded)) [
      | inl h ↦ ap (λ b. list_any (bytes_eq asked) (cond b folded (folded ++ small ∷ []))) h ∙ elim (cases_Bool (same_name name other)) [
        | inl k ↦ ap (λ x. list_any (bytes_eq x) folded) (sym ((bytes_eq-Decides small asked).0 k)) ∙ h ∙ sym (more ∙ or_right known (same_name name other) k)
        | inr k ↦ has other ∙ sym (more ∙ ap (λ b. known || b) k ∙ or-false known)
      ]
      | inr h ↦ ap (λ b. list_any (bytes_eq asked) (cond b folded (folded ++ small ∷ []))) h
          ∙ any-push (bytes_eq asked) folded small ∙ ap (λ b. b || bytes_eq asked small) (has other) ∙ ap (λ b. known || b) (bytes_eq-sym asked small) ∙ sym more
    ]

-- the first of the names that isn't in the table is put there
pub AreKnown-note : (known : Known) (folded names : List (List ℕ)) (name : List ℕ) → AreKnown known names → known.noted < length names → name ≡ get_or names known.noted []
    → folded ≡ insert_key bytes_eq known.folded (map to_ascii_lowercase name) → AreKnown (record { seen = known.seen; folded = folded; noted = known.noted + 1 }) names
AreKnown-note known folded names name are within is put = record {
  seen = are.seen;
  few = omega (arith, within);
  noted = subst (HasNames folded) (ap (λ x. take known.noted names ++ x ∷ []) is ∙ sym (take_more names known.noted [] within))
      (subst (λ keys. HasNames keys (take known.noted names ++ name ∷ [])) (sym put) (HasNames-insert known.folded (take known.noted names) name are.noted));
}

-- a name more has its slot taken, and isn't in the table yet
pub AreKnown-push : (known : Known) (slots : List Bool) (names : List (List ℕ)) (name : List ℕ) → slots ≡ set known.seen.slots (slot_of name) true → is_seen slots name ≡ true
    → AreKnown known names → AreKnown (record { seen = record { slots = slots }; folded = known.folded; noted = known.noted }) (names ++ name ∷ [])
AreKnown-push known slots names name is taken are = record {
  seen = AreSeen-push slots names name (subst (λ (s : List Bool). AreSeen s names) (sym is) (AreSeen-set known.seen.slots names (slot_of name) are.seen)) taken;
  few = omega (arith, are.few, length_push names name);
  noted = subst (HasNames known.folded) (sym (take-append-le known.noted names (name ∷ []) are.few)) are.noted;
}

-- a table that has all the names answers for them
pub HasNames-all : (known : Known) (names : List (List ℕ)) → AreKnown known names → length names ≤ known.noted → HasNames known.folded names
HasNames-all known names are all = subst (HasNames known.folded) (take_all known.noted names all) are.noted
