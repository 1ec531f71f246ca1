-- Names that make a table as long as they are many are different.
use Rattle.std.proofs.Common.{◌≡◌, ◌≢◌, ℕ, zero, suc, ◌+◌, ◌≤◌, Bool, true, false, cond, ◌||◌, List, [], ◌∷◌, ◌++◌, Option, Some, None, map, fold, length, length-append, refl, sym, ap, ◌∙◌, bytes_eq, arith, Bor, drop, nat_eq, get_or, ◌<◌}
use Rattle.std.specs.List.{All, filter_map, cons_option, list_any, slice_get}
use Rattle.std.specs.Option.{option_map}
use Rattle.std.proofs.lemmas.List.Elements.{All-cons, All-nil}
use Rattle.std.proofs.lemmas.List.Folds.{list_any-append}
use Rattle.std.proofs.lemmas.List.Kept.{AllPairs-cons}
use Rattle.std.proofs.Math.ListN.{drop_of_length-le}
use Rattle.std.proofs.lemmas.List.{drop_more, length-map}
use Rattle.indexmap.specs.IndexSet.{insert_key}
use Rattle.index.proofs.NameLemmas.{inserted}
use Rattle.std.proofs.lemmas.Bool.{eqb-true}
use Rattle.index.proofs.NameTable.{names_at}
use Rattle.index.specs.Names.{with_name}
use Rattle.rules.specs.Minimal.{pkg_at}
use Rattle.rules.specs.NamedLaws.{bytes_eq-same}
use Rattle.rules.specs.Package.{Pkg}
use Rattle.rules.specs.Universe.{Pair, Universe}
use Rattle.rules.proofs.Rising.{pairs_head, pairs_tail}
use Rattle.std.proofs.lemmas.List.Elements.{All-contains}
use Rattle.rules.specs.ElementLaws.{All-intro, Contains-map_intro}
use Rattle.forward_steps.specs.Selection.{AreApart, IsOneEach, chosen, name_at}

-- a table has no more names than those that it had and those that are put in
shorter : (earlier names : List (List ℕ)) → length (fold with_name earlier names) ≤ length earlier + length names
shorter earlier [] = omega arith
shorter earlier (name ∷ names) = at (list_any (bytes_eq name) earlier) (shorter earlier names) (shorter (earlier ++ name ∷ []) names)
  where
    at : (b : Bool) → length (fold with_name earlier names) ≤ length earlier + length names
        → length (fold with_name (earlier ++ name ∷ []) names) ≤ length (earlier ++ name ∷ []) + length names
        → length (fold with_name (cond b earlier (earlier ++ name ∷ [])) names) ≤ length earlier + suc (length names)
    at true less more = omega arith
    at false less more = let long = length-append earlier (name ∷ []) in omega arith

-- the name is none of these
abbrev IsNew : List (List ℕ) → List ℕ → Type 0
IsNew earlier name = list_any (bytes_eq name) earlier ≡ false

first_false : (b c : Bool) → (b || c) ≡ false → b ≡ false
first_false true c is = is
first_false false c is = refl

last_false : (b c : Bool) → (b || c) ≡ false → c ≡ false
last_false true c is = absurd (let e : true ≡ false = is in cc)
last_false false c is = is

or_false : (b : Bool) → (b || false) ≡ false → b ≡ false
or_false true is = is
or_false false is = refl

-- where it has as many, each is new and they are apart
apart_where_long : (earlier names : List (List ℕ)) → length (fold with_name earlier names) ≡ length earlier + length names
    → All (IsNew earlier) names × AreApart names
apart_where_long earlier [] long = (All-nil (IsNew earlier), λ i j d before within. absurd (omega arith))
apart_where_long earlier (name ∷ names) long = at (list_any (bytes_eq name) earlier) refl long (apart_where_long (earlier ++ name ∷ []) names)
  where
    at : (b : Bool) → list_any (bytes_eq name) earlier ≡ b
        → length (fold with_name (cond b earlier (earlier ++ name ∷ [])) names) ≡ length earlier + suc (length names)
        → (length (fold with_name (earlier ++ name ∷ []) names) ≡ length (earlier ++ name ∷ []) + length names
        → All (IsNew (earlier ++ name ∷ [])) names × AreApart names)
        → All (IsNew earlier) (name ∷ names) × AreApart (name ∷ names)
    at true is long later = absurd (let less = shorter earlier names in omega arith)
    at false is long later =
        let more = length-append earlier (name ∷ []) in
        let count : length (fold with_name (earlier ++ name ∷ []) names) ≡ length (earlier ++ name ∷ []) + length names = omega arith in
        let rest = later count in (
          All-cons (IsNew earlier) name names is (All-intro (IsNew earlier) names (λ other within.
              first_false (list_any (bytes_eq other) earlier) (list_any (bytes_eq other) (name ∷ []))
              (sym (list_any-append (bytes_eq other) earlier (name ∷ [])) ∙ All-contains (IsNew (earlier ++ name ∷ [])) names other rest.0 within))),
          AllPairs-cons (λ (one other : List ℕ). one ≢ other) name names
              (All-intro (λ (other : List ℕ). name ≢ other) names (λ other within same.
              let e : true ≡ false = sym (bytes_eq-same other name (sym same)) ∙ or_false (bytes_eq other name)
              (last_false (list_any (bytes_eq other) earlier) (list_any (bytes_eq other) (name ∷ []))
              (sym (list_any-append (bytes_eq other) earlier (name ∷ [])) ∙ All-contains (IsNew (earlier ++ name ∷ [])) names other rest.0 within)) in
              absurd cc)) rest.1,
        )

pub apart_where_all : (names : List (List ℕ)) → length (fold with_name [] names) ≡ length names → AreApart names
apart_where_all names long = (apart_where_long [] names (omega arith)).1

-- the names of the pairs are those of what is chosen
pub names_chosen : (u : Universe) (numbers : List ℕ) → filter_map (name_at u) numbers ≡ map (λ (pkg : Pkg). pkg.name) (chosen u numbers)
names_chosen u [] = refl
names_chosen u (number ∷ numbers) = at number (names_chosen u numbers)
  where
    by : (maybe_pair : Option Pair) → filter_map (name_at u) numbers ≡ map (λ (pkg : Pkg). pkg.name) (chosen u numbers)
        → cons_option (option_map (λ (pair : Pair). pair.pkg.name) maybe_pair) (filter_map (name_at u) numbers)
        ≡ map (λ (pkg : Pkg). pkg.name) (cons_option (option_map (λ (pair : Pair). pair.pkg) maybe_pair) (chosen u numbers))
    by None rest = rest
    by (Some pair) rest = ap (λ (names : List (List ℕ)). pair.pkg.name ∷ names) rest

    at : (n : ℕ) → filter_map (name_at u) numbers ≡ map (λ (pkg : Pkg). pkg.name) (chosen u numbers)
        → cons_option (name_at u n) (filter_map (name_at u) numbers) ≡ map (λ (pkg : Pkg). pkg.name) (cons_option (pkg_at u n) (chosen u numbers))
    at zero rest = rest
    at (suc place) rest = by (slice_get u.pairs place) rest

-- packages whose names are apart are one each
pub one_each_where_apart : (selected : List Pkg) → AreApart (map (λ (pkg : Pkg). pkg.name) selected) → IsOneEach selected
unfolding IsOneEach
one_each_where_apart [] apart = λ i j d before within. absurd (omega arith)
one_each_where_apart (pkg ∷ selected) apart = AllPairs-cons (λ (earlier later : Pkg). earlier.name ≢ later.name) pkg selected
    (All-intro (λ (later : Pkg). pkg.name ≢ later.name) selected (λ later within.
    All-contains (λ (name : List ℕ). pkg.name ≢ name) (map (λ (p : Pkg). p.name) selected) later.name
    (pairs_head (λ (one other : List ℕ). one ≢ other) pkg.name (map (λ (p : Pkg). p.name) selected) apart)
    (Contains-map_intro (λ (p : Pkg). p.name) selected later within)))
    (one_each_where_apart selected (pairs_tail (λ (one other : List ℕ). one ≢ other) pkg.name (map (λ (p : Pkg). p.name) selected) apart))

-- the same of a table with which a loop has put all names together
pub apart_from_table : (names keys : List (Bor (List ℕ))) (place len : ℕ) → length names ≤ place
    → fold with_name (names_at keys) (names_at (drop place names)) ≡ fold with_name [] (names_at names)
    → len ≡ length keys → nat_eq len (length names) ≡ true → AreApart (names_at names)
apart_from_table names keys place len past table is same =
    let all : fold with_name (names_at keys) (names_at (drop place names)) ≡ names_at keys =
    ap (λ (rest : List (Bor (List ℕ))). fold with_name (names_at keys) (names_at rest)) (drop_of_length-le names past) in
    let many : len ≡ length names = eqb-true len (length names) same in
    let one : length (names_at keys) ≡ length keys = length-map keys (λ (key : Bor (List ℕ)). key.now) in
    let two : length (names_at names) ≡ length names = length-map names (λ (key : Bor (List ℕ)). key.now) in
    apart_where_all (names_at names) (ap (λ (ns : List (List ℕ)). length ns) (sym table ∙ all) ∙ one ∙ sym is ∙ many ∙ sym two)

-- the step of the loop: the name at the place is put behind those so far
pub table_more : (names keys after : List (Bor (List ℕ))) (place : ℕ) (name : Bor (List ℕ)) (all : List (List ℕ)) → place < length names
    → name ≡ get_or names place name → after ≡ insert_key (λ (a b : Bor (List ℕ)). bytes_eq a.now b.now) keys name
    → fold with_name (names_at keys) (names_at (drop place names)) ≡ all
    → fold with_name (names_at after) (names_at (drop (place + 1) names)) ≡ all
table_more names keys after place name all within is put so_far =
    sym (ap (λ (rest : List (Bor (List ℕ))). fold with_name (names_at keys) (names_at rest)) (drop_more names place name within)
    ∙ ap (λ (put_in : List (List ℕ)). fold with_name put_in (names_at (drop (place + 1) names)))
    (ap (λ (here : Bor (List ℕ)). with_name (names_at keys) here.now) (sym is) ∙ sym (inserted keys name) ∙ ap names_at (sym put)))
    ∙ so_far
