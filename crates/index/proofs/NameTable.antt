-- Items no two of which have one name, found by a table of their names.
use Rattle.std.proofs.Common.{◌≡◌, ◌≢◌, ℕ, ◌+◌, ◌<◌, ◌≤◌, Bool, true, false, not, cond, ◌||◌, List, [], ◌∷◌, ◌++◌, Some, None, length, map, fold, drop, get_or, position, ltb, refl, sym, ap, ◌∙◌, bytes_eq, Bor, append_assoc, inl, inr, arith}
use Rattle.std.specs.List.{AllByRecursion, find, list_any, position_or_len, slice_get}
use Rattle.std.proofs.lemmas.Bool.{cases_Bool, ltb-false, true≢false}
use Rattle.std.proofs.lemmas.List.{append-nil, drop_more, length-map}
use Rattle.std.proofs.lemmas.List.Folds.{find_at, list_any-append}
use Rattle.std.proofs.lemmas.Option.{slice_get_past}
use Rattle.indexmap.specs.IndexSet.{insert_key}
use Rattle.index.proofs.NameLemmas.{inserted}
use Rattle.index.specs.Names.{with_name}
use Rattle.rules.specs.NamedLaws.{bytes_eq-true, bytes_eq-same}

-- the names that keys of a set are
abbrev pub names_at : List (Bor (List ℕ)) → List (List ℕ)
names_at keys = map (λ (key : Bor (List ℕ)). key.now) keys

-- Names that are put into a table one after another

-- each name is another than those after it
abbrev pub AreApart : List (List ℕ) → Type 0
AreApart [] = Unit {0}
AreApart (name ∷ names) = AllByRecursion (λ later. bytes_eq later name ≡ false) names × AreApart names

pub not_same : (name other : List ℕ) → bytes_eq name other ≡ false → bytes_eq other name ≡ false
not_same name other apart = elim (cases_Bool (bytes_eq other name)) [
  | inl same ↦ absurd (true≢false (sym (bytes_eq-same name other (sym (bytes_eq-true other name same))) ∙ apart))
  | inr is ↦ is
]

pub unequal : (name other : List ℕ) → name ≢ other → bytes_eq name other ≡ false
unequal name other apart = elim (cases_Bool (bytes_eq name other)) [
  | inl same ↦ absurd (apart (bytes_eq-true name other same))
  | inr is ↦ is
]

-- none of the names is among the earlier ones
abbrev AreNew : List (List ℕ) → List (List ℕ) → Type 0
AreNew earlier names = AllByRecursion (λ name. list_any (bytes_eq name) earlier ≡ false) names

new_behind_none : (names : List (List ℕ)) → AreNew [] names
new_behind_none [] = tt
new_behind_none (name ∷ names) = (refl, new_behind_none names)

neither : (b c : Bool) → b ≡ false → c ≡ false → (b || (c || false)) ≡ false
neither b c none other = rw (none, other) refl

new_behind_more : (earlier : List (List ℕ)) (last : List ℕ) (names : List (List ℕ)) → AreNew earlier names
    → AllByRecursion (λ later. bytes_eq later last ≡ false) names → AreNew (earlier ++ last ∷ []) names
new_behind_more earlier last [] are apart = tt
new_behind_more earlier last (name ∷ names) are apart = (
  list_any-append (bytes_eq name) earlier (last ∷ [])
      ∙ neither (list_any (bytes_eq name) earlier) (bytes_eq name last) are.0 apart.0,
  new_behind_more earlier last names are.1 apart.1,
)

put_new : (earlier : List (List ℕ)) (name : List ℕ) → list_any (bytes_eq name) earlier ≡ false → with_name earlier name ≡ earlier ++ name ∷ []
put_new earlier name is_new = rw is_new refl

all_put : (earlier names : List (List ℕ)) → AreNew earlier names → AreApart names → fold with_name earlier names ≡ earlier ++ names
all_put earlier [] are apart = sym (append-nil earlier)
all_put earlier (name ∷ names) are apart =
    ap (λ put. fold with_name put names) (put_new earlier name are.0)
    ∙ all_put (earlier ++ name ∷ []) names (new_behind_more earlier name names are.1 apart.0) apart.1
    ∙ append_assoc earlier (name ∷ []) names

-- names that are apart, put one after another, are all these names
pub names_put : (names : List (List ℕ)) → AreApart names → fold with_name [] names ≡ names
names_put names apart = all_put [] names (new_behind_none names) apart

same_way : (one other : List ℕ) → bytes_eq one other ≡ bytes_eq other one
same_way one other = elim (cases_Bool (bytes_eq other one)) [
  | inl same ↦ bytes_eq-same one other (sym (bytes_eq-true other one same)) ∙ sym same
  | inr apart ↦ not_same other one apart ∙ sym apart
]

place_in_map : {X Y : Type 0} (test : X → Bool) (h : Y → X) (ys : List Y) → position_or_len test (map h ys) ≡ position_or_len (λ y. test (h y)) ys
place_in_map test h [] = refl
place_in_map test h (y ∷ ys) = ap (λ n. cond (not (test (h y))) (1 + n) 0) (place_in_map test h ys)

module _ {X : Type 0} (name_of : X → List ℕ) where
  -- the names of the items
  abbrev pub names_in : List X → List (List ℕ)
  names_in items = map name_of items

  -- the step of a loop: the name of the item at the place is put behind those so far
  pub name_put : (items : List X) (place : ℕ) (item : X) (keys after : List (Bor (List ℕ))) (name : Bor (List ℕ))
      → place < length items → item ≡ get_or items place item → name.now ≡ name_of item
      → after ≡ insert_key (λ (a b : Bor (List ℕ)). bytes_eq a.now b.now) keys name
      → fold with_name (names_at keys) (names_in (drop place items)) ≡ names_in items
      → fold with_name (names_at after) (names_in (drop (place + 1) items)) ≡ names_in items
  name_put items place item keys after name within is named put so_far =
      sym (ap (λ (rest : List X). fold with_name (names_at keys) (names_in rest)) (drop_more items place item within)
      ∙ ap (λ names. fold with_name names (names_in (drop (place + 1) items)))
      (ap (λ (here : X). with_name (names_at keys) (name_of here)) (sym is)
      ∙ ap (with_name (names_at keys)) (sym named)
      ∙ sym (inserted keys name) ∙ ap names_at (sym put)))
      ∙ so_far

  -- What a table finds

  place_alike : (name : List ℕ) (items : List X)
      → position_or_len (λ (item : X). bytes_eq name (name_of item)) items ≡ position_or_len (λ (item : X). bytes_eq (name_of item) name) items
  place_alike name [] = refl
  place_alike name (item ∷ items) =
      ap (λ b. cond (not b) (1 + position_or_len (λ (other : X). bytes_eq name (name_of other)) items) 0) (same_way name (name_of item))
      ∙ ap (λ n. cond (not (bytes_eq (name_of item) name)) (1 + n) 0) (place_alike name items)

  module _ (keys : List (Bor (List ℕ))) (items : List X) (same : names_at keys ≡ names_in items) (name : List ℕ) where
    place_of : position_or_len (λ (key : Bor (List ℕ)). bytes_eq name key.now) keys ≡ position_or_len (λ (item : X). bytes_eq (name_of item) name) items
    place_of = sym (place_in_map (bytes_eq name) (λ (key : Bor (List ℕ)). key.now) keys)
        ∙ ap (position_or_len (bytes_eq name)) same
        ∙ place_in_map (bytes_eq name) name_of items
        ∙ place_alike name items

    pub as_many : length keys ≡ length items
    as_many = sym (length-map keys (λ (key : Bor (List ℕ)). key.now)) ∙ ap length same ∙ length-map items name_of

    position_inside : ltb (position_or_len (λ (key : Bor (List ℕ)). bytes_eq name key.now) keys) (length keys) ≡ true
        → position (λ (key : Bor (List ℕ)). bytes_eq name key.now) keys ≡ Some (position_or_len (λ (key : Bor (List ℕ)). bytes_eq name key.now) keys)
    position_inside inside = rw inside refl

    position_past : ltb (position_or_len (λ (key : Bor (List ℕ)). bytes_eq name key.now) keys) (length keys) ≡ false
        → position (λ (key : Bor (List ℕ)). bytes_eq name key.now) keys ≡ None
    position_past past = rw past refl

    -- the item at the place of the name's key is that of the name
    pub found_item : (place : ℕ) → Some place ≡ position (λ (key : Bor (List ℕ)). bytes_eq name key.now) keys
        → slice_get items place ≡ find (λ (item : X). bytes_eq (name_of item) name) items
    found_item place is = elim (cases_Bool (ltb (position_or_len (λ (key : Bor (List ℕ)). bytes_eq name key.now) keys) (length keys))) [
      | inl inside ↦
          let at : place ≡ position_or_len (λ (key : Bor (List ℕ)). bytes_eq name key.now) keys = cc (is, position_inside inside) in
          ap (slice_get items) (at ∙ place_of) ∙ sym (find_at (λ (item : X). bytes_eq (name_of item) name) items)
      | inr past ↦ cc (is, position_past past)
    ]

    -- where no key is the name, no item is of the name
    pub found_none : None ≡ position (λ (key : Bor (List ℕ)). bytes_eq name key.now) keys
        → None ≡ find (λ (item : X). bytes_eq (name_of item) name) items
    found_none is = elim (cases_Bool (ltb (position_or_len (λ (key : Bor (List ℕ)). bytes_eq name key.now) keys) (length keys))) [
      | inl inside ↦ cc (is, position_inside inside)
      | inr past ↦
          let beyond : length keys ≤ position_or_len (λ (key : Bor (List ℕ)). bytes_eq name key.now) keys = ltb-false _ _ past in
          sym (find_at (λ (item : X). bytes_eq (name_of item) name) items ∙ ap (slice_get items) (sym place_of)
          ∙ slice_get_past items _ (omega (arith, as_many)))
    ]
