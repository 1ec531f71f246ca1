-- The names of packages, put together one after another.
use Rattle.std.proofs.Common.{◌≡◌, ℕ, Bool, true, false, ◌||◌, List, [], ◌∷◌, ◌++◌, map, fold, refl, sym, ap, ◌∙◌, bytes_eq, Bor, ◌+◌, ◌<◌, drop, get_or, length}
use Rattle.std.specs.List.{list_any}
use Rattle.std.proofs.lemmas.List.{drop_more}
use Rattle.indexmap.specs.IndexSet.{insert_key}
use Rattle.rules.specs.Step.{IndexPackage}
use Rattle.index.specs.Names.{names_of, with_name}

pub list_any-map : {X Y : Type 0} (p : X → Bool) (h : Y → X) (ys : List Y) → list_any p (map h ys) ≡ list_any (λ y. p (h y)) ys
list_any-map p h [] = refl
list_any-map p h (y ∷ ys) = ap (λ b. p (h y) || b) (list_any-map p h ys)

map-push : {X Y : Type 0} (h : Y → X) (ys : List Y) (y : Y) → map h (ys ++ y ∷ []) ≡ map h ys ++ h y ∷ []
map-push h [] y = refl
map-push h (z ∷ ys) y = ap (λ rest. h z ∷ rest) (map-push h ys y)

-- a name that is put into a set is put behind the names that the set has
pub inserted : (keys : List (Bor (List ℕ))) (name : Bor (List ℕ))
    → map (λ (key : Bor (List ℕ)). key.now) (insert_key (λ (a b : Bor (List ℕ)). bytes_eq a.now b.now) keys name)
    ≡ with_name (map (λ (key : Bor (List ℕ)). key.now) keys) name.now
inserted keys name = by (list_any (λ (key : Bor (List ℕ)). bytes_eq name.now key.now) keys) refl
  where
    by : (b : Bool) → list_any (λ (key : Bor (List ℕ)). bytes_eq name.now key.now) keys ≡ b
        → map (λ (key : Bor (List ℕ)). key.now) (insert_key (λ (a b : Bor (List ℕ)). bytes_eq a.now b.now) keys name)
        ≡ with_name (map (λ (key : Bor (List ℕ)). key.now) keys) name.now
    by true e = rw (list_any-map (bytes_eq name.now) (λ (key : Bor (List ℕ)). key.now) keys, e) refl
    by false e = rw (list_any-map (bytes_eq name.now) (λ (key : Bor (List ℕ)). key.now) keys, e)
        (map-push (λ (key : Bor (List ℕ)). key.now) keys name)

-- the names that keys of a set are
abbrev names_in : List (Bor (List ℕ)) → List (List ℕ)
names_in keys = map (λ (key : Bor (List ℕ)). key.now) keys

-- the step of a loop: the name of the package at the place is put behind those so far
pub names-next : (listed : List IndexPackage) (place : ℕ) (item : IndexPackage) (keys after : List (Bor (List ℕ))) (name : Bor (List ℕ))
    → place < length listed → item ≡ get_or listed place item → name.now ≡ item.pkg.name
    → after ≡ insert_key (λ (a b : Bor (List ℕ)). bytes_eq a.now b.now) keys name
    → names_of listed ≡ fold with_name (names_in keys) (map (λ (item : IndexPackage). item.pkg.name) (drop place listed))
    → names_of listed ≡ fold with_name (names_in after) (map (λ (item : IndexPackage). item.pkg.name) (drop (place + 1) listed))
names-next listed place item keys after name within is named put so_far = so_far
    ∙ ap (λ (rest : List IndexPackage). fold with_name (names_in keys) (map (λ (item : IndexPackage). item.pkg.name) rest)) (drop_more listed place item within)
    ∙ ap (λ names. fold with_name names (map (λ (item : IndexPackage). item.pkg.name) (drop (place + 1) listed)))
    (ap (λ (here : IndexPackage). with_name (names_in keys) here.pkg.name) (sym is)
    ∙ ap (with_name (names_in keys)) (sym named)
    ∙ sym (inserted keys name) ∙ ap names_in (sym put))
