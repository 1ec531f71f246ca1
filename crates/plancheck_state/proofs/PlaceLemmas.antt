-- The places that are listed for a name, where lists and names are added, and where a record is gone.
use Rattle.std.proofs.Common.{◌≡◌, ◌⊎◌, inl, inr, ℕ, zero, suc, ◌+◌, ◌<◌, Bool, true, false, cond, List, [], ◌∷◌, ◌++◌, map, length, get_or, take, drop, Option, Some, None, Result, Ok, Err, OnOk, IfSome, Contains, slice_get, slice_set, unwrap_or, refl, sym, ap, subst, ◌∙◌, bytes_eq, arith, length-append}
use Rattle.std.specs.Borrow.{Bor}
use Rattle.std.specs.List.{All, IsAmong, insert}
use Rattle.std.specs.Map.{lookup, values_of}
use Rattle.std.specs.Option.{option_copied, option_map}
use Rattle.std.proofs.lemmas.List.{drop_all, map-append, take-append-drop}
use Rattle.std.proofs.lemmas.List.Elements.{All-contains, All-push, All-weaker, Contains-append_cases, Contains-append_left, Contains-append_right}
use Rattle.std.proofs.lemmas.Option.{unwrap_or-slice_get, slice_get-map, slice_get_read}
use Rattle.rules.specs.ElementLaws.{All-intro, Contains-head, Contains-nil, Contains-rest}
use Rattle.rules.specs.NamedLaws.{bytes_eq-same}
use Rattle.plancheck_state.specs.Holders.{KeepsLists, KeepsPlaces, listed, places_in, places_left}

-- the number of the name
abbrev pub number_of : List ℕ → List (Bor (List ℕ) × ℕ) → Option ℕ
number_of name numbers = lookup (λ key. bytes_eq name key.now) numbers

-- the list of this number, if there is a number
abbrev pub list_at : List (List ℕ) → Option ℕ → List ℕ
list_at lists None = []
list_at lists (Some number) = unwrap_or (slice_get lists number) []

-- the places of a name are those of the list that it has
pub places-listed : (name : List ℕ) (lists : List (List ℕ)) (es : List (Bor (List ℕ) × ℕ))
    → places_in (listed lists es) name ≡ list_at lists (number_of name es)
places-listed name lists [] = refl
places-listed name lists (e ∷ es) = by (bytes_eq name e.0.now) (places-listed name lists es)
  where
    by : (b : Bool) → places_in (listed lists es) name ≡ list_at lists (number_of name es)
        → unwrap_or (cond b (Some (unwrap_or (slice_get lists e.1) [])) (lookup (λ key. bytes_eq name key) (listed lists es))) []
        ≡ list_at lists (cond b (Some e.1) (number_of name es))
    by true later = refl
    by false later = later

pub places-at : (name : List ℕ) (lists : List (List ℕ)) (es : List (Bor (List ℕ) × ℕ)) (number : ℕ) → number_of name es ≡ Some number
    → places_in (listed lists es) name ≡ get_or lists number []
places-at name lists es number e = places-listed name lists es ∙ ap (list_at lists) e ∙ unwrap_or-slice_get lists number []

pub places-nowhere : (name : List ℕ) (lists : List (List ℕ)) (es : List (Bor (List ℕ) × ℕ)) → number_of name es ≡ None
    → places_in (listed lists es) name ≡ []
places-nowhere name lists es e = places-listed name lists es ∙ ap (list_at lists) e

-- where each list keeps its places, each name does
pub keeps-lists : (old new : List (List ℕ)) (es : List (Bor (List ℕ) × ℕ))
    → KeepsLists old new → KeepsPlaces (places_in (listed old es)) (places_in (listed new es))
keeps-lists old new es each name place within = by (number_of name es) refl
  where
    by : (o : Option ℕ) → number_of name es ≡ o → Contains (places_in (listed new es) name) place
    by None e = absurd (Contains-nil place (subst (λ places. Contains places place) (places-nowhere name old es e) within))
    by (Some number) e = subst (λ places. Contains places place) (sym (places-at name new es number e))
        (each number place (subst (λ places. Contains places place) (places-at name old es number e) within))

-- a name that is there keeps its number where one is added
number-kept : (name : List ℕ) (es : List (Bor (List ℕ) × ℕ)) (e : Bor (List ℕ) × ℕ) (number : ℕ) → number_of name es ≡ Some number
    → number_of name (es ++ e ∷ []) ≡ Some number
number-kept name [] e number is = absurd (let h = is in cc)
number-kept name (first ∷ es) e number is = by (bytes_eq name first.0.now) is (number-kept name es e number)
  where
    by : (b : Bool) → cond b (Some first.1) (number_of name es) ≡ Some number
        → (number_of name es ≡ Some number → number_of name (es ++ e ∷ []) ≡ Some number)
        → cond b (Some first.1) (number_of name (es ++ e ∷ [])) ≡ Some number
    by true is later = is
    by false is later = later is

-- a name that is added has the number that comes with it
pub number-added : (name : List ℕ) (es : List (Bor (List ℕ) × ℕ)) (e : Bor (List ℕ) × ℕ) → number_of name es ≡ None
    → bytes_eq name e.0.now ≡ true → number_of name (es ++ e ∷ []) ≡ Some e.1
number-added name [] e none same = rw same refl
number-added name (first ∷ es) e none same = by (bytes_eq name first.0.now) none (λ none. number-added name es e none same)
  where
    by : (b : Bool) → cond b (Some first.1) (number_of name es) ≡ None
        → (number_of name es ≡ None → number_of name (es ++ e ∷ []) ≡ Some e.1)
        → cond b (Some first.1) (number_of name (es ++ e ∷ [])) ≡ Some e.1
    by true none later = absurd (let h = none in cc)
    by false none later = later none

-- each name keeps its places where one is added
pub keeps-more : (lists : List (List ℕ)) (es : List (Bor (List ℕ) × ℕ)) (e : Bor (List ℕ) × ℕ)
    → KeepsPlaces (places_in (listed lists es)) (places_in (listed lists (es ++ e ∷ [])))
keeps-more lists es e name place within = by (number_of name es) refl
  where
    by : (o : Option ℕ) → number_of name es ≡ o → Contains (places_in (listed lists (es ++ e ∷ [])) name) place
    by None is = absurd (Contains-nil place (subst (λ places. Contains places place) (places-nowhere name lists es is) within))
    by (Some number) is = subst (λ places. Contains places place)
        (places-at name lists es number is ∙ sym (places-at name lists (es ++ e ∷ []) number (number-kept name es e number is))) within

-- a list that is added leaves each other as it was
pub keeps-added : (lists : List (List ℕ)) (list : List ℕ) (number place : ℕ) → Contains (get_or lists number []) place
    → Contains (get_or (lists ++ list ∷ []) number []) place
keeps-added [] list number place within = absurd (Contains-nil place within)
keeps-added (first ∷ lists) list zero place within = within
keeps-added (first ∷ lists) list (suc number) place within = keeps-added lists list number place within

-- the list that is added comes last
pub added-last : (lists : List (List ℕ)) (list : List ℕ) → get_or (lists ++ list ∷ []) (length lists) [] ≡ list
added-last [] list = refl
added-last (first ∷ lists) list = added-last lists list

-- the number that was found is one of the lists'
pub number-within : (item : Option (Bor ℕ)) (numbers : List ℕ) (count number : ℕ) → All (λ n. n < count) numbers
    → IfSome item (λ (n : Bor ℕ). IsAmong numbers n.now) → option_copied item ≡ Some number → number < count
number-within None numbers count number all among is = absurd (let h = is in cc)
number-within (Some item) numbers count number all among is = let same : item.now ≡ number = let h = is in cc in
    subst (λ n. n < count) (sym among.1.1 ∙ same) (all among.0 item.now among.1.0)

-- the list of the number holds the places of the name
pub places-read : (name : List ℕ) (lists : List (List ℕ)) (es : List (Bor (List ℕ) × ℕ)) (number : ℕ) (list : List ℕ)
    → number_of name es ≡ Some number → number < length lists → list ≡ get_or lists number list → list ≡ places_in (listed lists es) name
places-read name lists es number list e within is =
    sym (places-listed name lists es ∙ ap (list_at lists) e
    ∙ ap (λ list. unwrap_or list []) (slice_get_read lists (length lists) number list refl within is))

-- where a list is put in the place of one whose places it keeps, each list keeps its places
pub set-keeps : (lists : List (List ℕ)) (at : ℕ) (list : List ℕ) → All (Contains list) (get_or lists at [])
    → KeepsLists lists (slice_set lists at list)
set-keeps [] at list all number place within = absurd (Contains-nil place within)
set-keeps (first ∷ lists) zero list all zero place within = All-contains (Contains list) first place all within
set-keeps (first ∷ lists) zero list all (suc number) place within = within
set-keeps (first ∷ lists) (suc at) list all zero place within = within
set-keeps (first ∷ lists) (suc at) list all (suc number) place within = set-keeps lists at list all number place within

-- and is there
pub set-is : (lists : List (List ℕ)) (at : ℕ) (list : List ℕ) → at < length lists → get_or (slice_set lists at list) at [] ≡ list
set-is [] at list within = absurd (omega (arith, within))
set-is (first ∷ lists) zero list within = refl
set-is (first ∷ lists) (suc at) list within = set-is lists at list (omega (arith, within))

-- a place that is put between others is there, and they are
pub inserted-there : (places : List ℕ) (at place : ℕ) → Contains (insert places at place) place
inserted-there places at place = Contains-append_right (take at places) (place ∷ drop at places) place (Contains-head place (drop at places))

pub inserted-keeps : (places : List ℕ) (at place : ℕ) → All (Contains (insert places at place)) places
inserted-keeps places at place = All-intro (Contains (insert places at place)) places (λ other within.
    elim (Contains-append_cases (take at places) (drop at places) other (subst (λ (xs : List ℕ). Contains xs other) (sym (take-append-drop at places)) within)) [
      | inl before ↦ Contains-append_left (take at places) (place ∷ drop at places) other before
      | inr behind ↦ Contains-append_right (take at places) (place ∷ drop at places) other (Contains-rest place (drop at places) other behind)
    ])

-- the list of the name's number is that of the name
pub entered-has : {E : Type 0} (r : Result (Unit {0}) E) (name : List ℕ) (new : List (List ℕ)) (es : List (Bor (List ℕ) × ℕ)) (at place : ℕ)
    → OnOk r (Contains (get_or new at []) place) → number_of name es ≡ Some at → OnOk r (Contains (places_in (listed new es) name) place)
entered-has (Ok done) name new es at place ok is = subst (λ places. Contains places place) (sym (places-at name new es at is)) ok
entered-has (Err failed) name new es at place ok is = tt

-- a list of its own that is added, with a number or without, leaves each other place where it was
pub keeps-new : (lists new : List (List ℕ)) (es : List (Bor (List ℕ) × ℕ)) (list : List ℕ) → new ≡ lists ++ list ∷ []
    → KeepsPlaces (places_in (listed lists es)) (places_in (listed new es))
keeps-new lists new es list is = keeps-lists lists new es (λ number place within.
    subst (λ table. Contains (get_or table number []) place) (sym is) (keeps-added lists list number place within))

pub keeps-both : (lists new : List (List ℕ)) (es entered : List (Bor (List ℕ) × ℕ)) (list : List ℕ) (e : Bor (List ℕ) × ℕ)
    → new ≡ lists ++ list ∷ [] → entered ≡ es ++ e ∷ [] → KeepsPlaces (places_in (listed lists es)) (places_in (listed new entered))
keeps-both lists new es entered list e is entered_is name place within =
    subst (λ (others : List (Bor (List ℕ) × ℕ)). Contains (places_in (listed new others) name) place) (sym entered_is)
    (keeps-more new es e name place (keeps-new lists new es list is name place within))

-- and is that of the name
pub both-has : (name : List ℕ) (lists new : List (List ℕ)) (es entered : List (Bor (List ℕ) × ℕ)) (list : List ℕ)
    (e : Bor (List ℕ) × ℕ) (place : ℕ) → new ≡ lists ++ list ∷ [] → entered ≡ es ++ e ∷ [] → list ≡ place ∷ []
    → number_of name es ≡ None → e.0.now ≡ name → e.1 ≡ length lists → Contains (places_in (listed new entered) name) place
both-has name lists new es entered list e place is entered_is list_is none named numbered =
    subst (λ places. Contains places place)
    (sym (list_is_that ∙ list_is)) (Contains-head place [])
  where
    list_is_that : places_in (listed new entered) name ≡ list
    list_is_that = ap (λ (others : List (Bor (List ℕ) × ℕ)). places_in (listed new others) name) entered_is
        ∙ places-at name new (es ++ e ∷ []) e.1 (number-added name es e none (bytes_eq-same name e.0.now (sym named)))
        ∙ ap (λ table. get_or table e.1 []) is ∙ ap (λ number. get_or (lists ++ list ∷ []) number []) numbered ∙ added-last lists list

-- each number stays one of the lists'
pub within-both : (lists new : List (List ℕ)) (es entered : List (Bor (List ℕ) × ℕ)) (list : List ℕ) (e : Bor (List ℕ) × ℕ)
    → All (λ n. n < length lists) (values_of es) → new ≡ lists ++ list ∷ [] → entered ≡ es ++ e ∷ [] → e.1 ≡ length lists
    → All (λ n. n < length new) (values_of entered)
within-both lists new es entered list e all is entered_is numbered =
    let count : length new ≡ length lists + 1 = omega (arith, ap length is, length-append lists (list ∷ [])) in
    let values : values_of entered ≡ values_of es ++ e.1 ∷ [] = ap values_of entered_is ∙ map-append (λ (p : Bor (List ℕ) × ℕ). p.1) es (e ∷ []) in
    subst (All (λ n. n < length new)) (sym values)
    (All-push (λ n. n < length new) (values_of es) e.1
    (All-weaker (λ n. n < length lists) (λ n. n < length new) (λ n below. omega (arith, count, below)) (values_of es) all)
    (omega (arith, count, numbered)))

-- where each list has its gap closed, each name has
pub closed-places : (gone : ℕ) (name : List ℕ) (lists new : List (List ℕ)) (es : List (Bor (List ℕ) × ℕ)) → new ≡ map (places_left gone) lists
    → places_in (listed new es) name ≡ places_left gone (places_in (listed lists es) name)
closed-places gone name lists new es is =
    places-listed name new es ∙ ap (λ table. list_at table (number_of name es)) is ∙ by (number_of name es)
    ∙ ap (places_left gone) (sym (places-listed name lists es))
  where
    at : (o : Option (List ℕ)) → unwrap_or (option_map (places_left gone) o) [] ≡ places_left gone (unwrap_or o [])
    at None = refl
    at (Some list) = refl

    by : (o : Option ℕ) → list_at (map (places_left gone) lists) o ≡ places_left gone (list_at lists o)
    by None = refl
    by (Some number) = ap (λ list. unwrap_or list []) (slice_get-map (places_left gone) lists number) ∙ at (slice_get lists number)

-- a list that is written over one of its length
pub refilled : {X : Type 0} (items new : List X) (count : ℕ) → count ≡ length items → length new ≡ length items
    → take count (new ++ drop (length new) items) ≡ new
refilled {X} items new count counted same =
    ap (λ n. take n (new ++ drop (length new) items)) (counted ∙ sym same) ∙ ap (λ (rest : List X). take (length new) (new ++ rest)) (none items same)
    ∙ all new
  where
    none : (items : List X) → length new ≡ length items → drop (length new) items ≡ []
    none items same = drop_all (length new) items (omega (arith, same))

    all : (xs : List X) → take (length xs) (xs ++ []) ≡ xs
    all [] = refl
    all (x ∷ xs) = ap (λ (rest : List X). x ∷ rest) (all xs)
