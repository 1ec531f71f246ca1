-- Names that are put into a set of names, and taken out of it.
use Rattle.std.proofs.Common.{◌≡◌, ◌≢◌, ◌⊎◌, ℕ, ◌+◌, ◌<◌, ◌≤◌, if◌then◌else◌, Bool, true, false, cond, List, [], ◌∷◌, ◌++◌, length, bytes_eq, Bor, refl, sym, ap, subst, ◌∙◌, arith}
use Rattle.std.specs.Prelude.{◌↔◌}
use Rattle.std.specs.List.{All, Contains, list_any}
use Rattle.std.proofs.lemmas.Bool.{cases_Bool, true≢false}
use Rattle.std.proofs.lemmas.List.Elements.{All-contains, Contains-append_cases, Contains-append_left, Contains-append_right}
use Rattle.std.proofs.lemmas.List.{length-map, nil_from_length}
use Rattle.index.proofs.NameLemmas.{list_any-map}
use Rattle.index.proofs.NameTable.{names_at}
use Rattle.index.specs.Names.{with_name}
use Rattle.rules.specs.ElementLaws.{All-intro, Any-elim, Any-from_list_any, list_any-from_contains, Contains-cons, Contains-head, Contains-map, Contains-nil}
use Rattle.rules.specs.Database.{Record}
use Rattle.rules.specs.NamedLaws.{bytes_eq-same, bytes_eq-true, contains-is_among, is_among-contains}
use Rattle.rules.specs.Step.{is_among}
use Rattle.plancheck_group.specs.Part.{HaveSameNames, IsPartWith}
use mathlib.Core.Logic.{inl, inr}

-- one name more
one_more : (names : List (List ℕ)) (added name : List ℕ) → Contains (with_name names added) name ↔ (Contains names name ⊎ (added ≡ name))
one_more names added name = elim (cases_Bool (list_any (bytes_eq added) names)) [
  | inl there ↦ rw there (
    λ within. inl within,
    λ either. elim either [
      | inl within ↦ within
      | inr same ↦ subst (Contains names) same (has there)
    ],
  )
  | inr absent ↦ rw absent (
    λ within. elim (Contains-append_cases names (added ∷ []) name within) [
      | inl before ↦ inl before
      | inr last ↦ elim (Contains-cons added [] name last) [ inl same ↦ inr same | inr none ↦ absurd (Contains-nil name none) ]
    ],
    λ either. elim either [
      | inl before ↦ Contains-append_left names (added ∷ []) name before
      | inr same ↦ Contains-append_right names (added ∷ []) name (subst (Contains (added ∷ [])) same (Contains-head added []))
    ],
  )
]
  where
    has : list_any (bytes_eq added) names ≡ true → Contains names added
    has there = Any-elim (λ (n : List ℕ). bytes_eq added n ≡ true) names (Contains names added)
        (λ n within same. subst (Contains names) (sym (bytes_eq-true added n same)) within) (Any-from_list_any (bytes_eq added) names there)

-- a name that is put into a set of the names so far makes the set of these and the name
pub same_put : (part after so_far : List (List ℕ)) (added last : List ℕ) → after ≡ with_name part added → added ≡ last → HaveSameNames part so_far
    → HaveSameNames after (so_far ++ last ∷ [])
same_put part after so_far added last is named same name = subst (λ (set : List (List ℕ)). Contains set name ↔ Contains (so_far ++ last ∷ []) name) (sym is) (
  λ within. elim ((one_more part added name).0 within) [
    | inl before ↦ Contains-append_left so_far (last ∷ []) name ((same name).0 before)
    | inr here ↦ Contains-append_right so_far (last ∷ []) name (subst (Contains (last ∷ [])) (sym named ∙ here) (Contains-head last []))
  ],
  λ within. (one_more part added name).1 (elim (Contains-append_cases so_far (last ∷ []) name within) [
    | inl before ↦ inl ((same name).1 before)
    | inr there ↦ elim (Contains-cons last [] name there) [ inl here ↦ inr (named ∙ here) | inr none ↦ absurd (Contains-nil name none) ]
  ]),
)

-- what holds of all names of a set and of one more holds of all with it
pub all_put : (P : List ℕ → Type 0) (part after : List (List ℕ)) (added : List ℕ) → after ≡ with_name part added → P added → All P part → All P after
all_put P part after added is holds all = subst (All P) (sym is) (All-intro P (with_name part added) (λ name within.
    elim ((one_more part added name).0 within) [ inl before ↦ All-contains P part name all before | inr same ↦ subst P same holds ]))

-- what has the same names as a set has those of the list that the set has
pub same_through : (after whole names : List (List ℕ)) → HaveSameNames after whole → HaveSameNames whole names → HaveSameNames after names
same_through after whole names one two name = (
  λ there. (two name).0 ((one name).0 there),
  λ there. (one name).1 ((two name).1 there),
)

-- a set that a name was taken out of and put back into has the names that it had
pub same_put_back : (whole less after : List (List ℕ)) (name : List ℕ) → Contains whole name → IsPartWith (λ other. other ≢ name) whole less
    → after ≡ with_name less name → HaveSameNames after whole
same_put_back whole less after name there is put other = subst (λ (set : List (List ℕ)). Contains set other ↔ Contains whole other) (sym put) (
  λ within. elim ((one_more less name other).0 within) [
    | inl left ↦ ((is other).0 left).0
    | inr same ↦ subst (Contains whole) same there
  ],
  λ within. (one_more less name other).1 (elim (cases_Bool (bytes_eq name other)) [
    | inl same ↦ inr (bytes_eq-true name other same)
    | inr apart ↦ inl ((is other).1 (within, λ same. true≢false (sym (bytes_eq-same name other (sym same)) ∙ apart)))
  ]),
)

-- a set tells which names it has
pub found_in_set : (name : List ℕ) (keys : List (Bor (List ℕ))) (names : List (List ℕ)) (answer : Bool)
    → answer ≡ list_any (λ (key : Bor (List ℕ)). bytes_eq name key.now) keys → names_at keys ≡ names
    → (answer ≡ true) ↔ Contains names name
found_in_set name keys names answer is view =
    let at : answer ≡ list_any (bytes_eq name) names =
    is ∙ sym (list_any-map (bytes_eq name) (λ (key : Bor (List ℕ)). key.now) keys) ∙ ap (list_any (bytes_eq name)) view in (
      λ so. Any-elim (λ (n : List ℕ). bytes_eq name n ≡ true) names (Contains names name)
          (λ n within same. subst (Contains names) (sym (bytes_eq-true name n same)) within)
          (Any-from_list_any (bytes_eq name) names (sym at ∙ so)),
      λ within. at ∙ list_any-from_contains (bytes_eq name) names name within (bytes_eq-same name name refl),
    )

-- what a set says of a name after another was taken out
abbrev pub TakesOut : List ℕ → List (Bor (List ℕ)) → List (Bor (List ℕ)) → Type 0
TakesOut name old new = (key : Bor (List ℕ)) → list_any (λ (k : Bor (List ℕ)). bytes_eq key.now k.now) new
    ≡ cond (bytes_eq name key.now) false (list_any (λ (k : Bor (List ℕ)). bytes_eq key.now k.now) old)

has_key : (keys : List (Bor (List ℕ))) (key : Bor (List ℕ)) → list_any (λ (k : Bor (List ℕ)). bytes_eq key.now k.now) keys ≡ true ↔ Contains (names_at keys) key.now
has_key keys key = found_in_set key.now keys (names_at keys) (list_any (λ (k : Bor (List ℕ)). bytes_eq key.now k.now) keys) refl refl

both_of : (b c : Bool) → cond b false c ≡ true → (b ≡ false) × (c ≡ true)
both_of true c is = absurd (true≢false (sym is))
both_of false c is = (refl, is)

-- a set without the name has the other names
pub taken_out : (name : List ℕ) (old new : List (Bor (List ℕ))) → TakesOut name old new
    → IsPartWith (λ other. other ≢ name) (names_at old) (names_at new)
taken_out name old new says other = (
  λ within. down within,
  λ both. up both.0 both.1,
)
  where
    down : Contains (names_at new) other → Contains (names_at old) other × (other ≢ name)
    down within =
        let from = Contains-map (λ (key : Bor (List ℕ)). key.now) new other within in
        let key : Bor (List ℕ) = from.0 in
        let here : Contains (names_at new) key.now = subst (Contains (names_at new)) (sym from.2) within in
        let says_so = both_of (bytes_eq name key.now) (list_any (λ (k : Bor (List ℕ)). bytes_eq key.now k.now) old)
        (sym (says key) ∙ (has_key new key).1 here) in (
          subst (Contains (names_at old)) from.2 ((has_key old key).0 says_so.1),
          λ same. true≢false (sym (bytes_eq-same name key.now (sym same ∙ sym from.2)) ∙ says_so.0),
        )

    up : Contains (names_at old) other → other ≢ name → Contains (names_at new) other
    up within differs =
        let from = Contains-map (λ (key : Bor (List ℕ)). key.now) old other within in
        let key : Bor (List ℕ) = from.0 in
        let here : Contains (names_at old) key.now = subst (Contains (names_at old)) (sym from.2) within in
        let apart : bytes_eq name key.now ≡ false = elim (cases_Bool (bytes_eq name key.now)) [
          | inl same ↦ absurd (differs (sym from.2 ∙ sym (bytes_eq-true name key.now same)))
          | inr is ↦ is
        ] in
        subst (Contains (names_at new)) from.2 ((has_key new key).0
        (says key ∙ ap (λ b. cond b false (list_any (λ (k : Bor (List ℕ)). bytes_eq key.now k.now) old)) apart ∙ (has_key old key).1 here))

-- a set without a name has one less, if it had the name, and else as many
pub less_one : (name : List ℕ) (old new : List (Bor (List ℕ))) (answer : Bool) (names : List (List ℕ))
    → answer ≡ list_any (λ (key : Bor (List ℕ)). bytes_eq name key.now) old → length new + (if answer then 1 else 0) ≡ length old
    → names_at old ≡ names → Contains names name → length (names_at new) < length names
less_one name old new answer names is counted view there =
    let yes : answer ≡ true = (found_in_set name old names answer is view).1 there in
    let P : Bool → Type 0 = λ b. length new + (if b then 1 else 0) ≡ length old in
    let one : length new + 1 ≡ length old = subst P yes counted in
    let a : length (names_at new) ≡ length new = length-map new (λ (key : Bor (List ℕ)). key.now) in
    let b : length (names_at old) ≡ length old = length-map old (λ (key : Bor (List ℕ)). key.now) in
    let v : length (names_at old) ≡ length names = ap (λ (ns : List (List ℕ)). length ns) view in omega arith

pub no_more : (old new : List (Bor (List ℕ))) (answer : Bool) (names : List (List ℕ))
    → length new + (if answer then 1 else 0) ≡ length old → names_at old ≡ names → length (names_at new) ≤ length names
no_more old new answer names counted view =
    let a : length (names_at new) ≡ length new = length-map new (λ (key : Bor (List ℕ)). key.now) in
    let b : length (names_at old) ≡ length old = length-map old (λ (key : Bor (List ℕ)). key.now) in
    let v : length (names_at old) ≡ length names = ap (λ (ns : List (List ℕ)). length ns) view in omega arith

-- a set has no keys where it has no names
pub no_keys : (keys : List (Bor (List ℕ))) (names : List (List ℕ)) → names_at keys ≡ names → (length keys ≡ 0) ↔ (names ≡ [])
no_keys keys names view =
    let a : length (names_at keys) ≡ length keys = length-map keys (λ (key : Bor (List ℕ)). key.now) in
    let v : length (names_at keys) ≡ length names = ap (λ (ns : List (List ℕ)). length ns) view in (
      λ none. nil_from_length names (omega arith),
      λ empty. let e : length names ≡ 0 = ap (λ (ns : List (List ℕ)). length ns) empty in omega arith,
    )

-- what tells whether names contain that of a record tells whether it is among them
pub told_among : (names : List (List ℕ)) (entry : Record) (answer : Bool) → (answer ≡ true) ↔ Contains names entry.name
    → answer ≡ is_among names entry
told_among names entry answer both = elim (cases_Bool answer) [
  | inl so ↦ so ∙ sym (is_among-contains names entry (both.0 so))
  | inr none ↦ elim (cases_Bool (is_among names entry)) [
    | inl there ↦ absurd (true≢false (sym (both.1 (contains-is_among names entry there)) ∙ none))
    | inr is ↦ none ∙ sym is
  ]
]
