-- Marks of numbers, the pairs that they pick, and the table of the pairs' names.
use Rattle.std.proofs.Common.{◌≡◌, ◌≢◌, ◌⊎◌, ℕ, ◌+◌, ◌<◌, Bool, true, false, cond, ◌||◌, List, [], ◌∷◌, ◌++◌, length, map, fold, take, get_or, bytes_eq, Bor, refl, sym, ap, subst, ◌∙◌, arith, nat_eq, ◌≤◌, drop, replicate, append_assoc}
use Rattle.std.specs.Prelude.{◌↔◌}
use Rattle.std.specs.List.{Contains, filter, list_any}
use Rattle.std.proofs.lemmas.Bool.{cases_Bool}
use Rattle.std.proofs.lemmas.List.Folds.{list_any_more}
use Rattle.index.proofs.NameLemmas.{list_any-map}
use Rattle.index.specs.Names.{with_name}
use Rattle.rules.specs.ElementLaws.{Any-elim, Any-intro, Any-from_list_any, list_any-from_contains, Contains-cons, Contains-head, Contains-map, Contains-map_intro, Contains-nil, Contains-rest}
use Rattle.rules.specs.NamedLaws.{bytes_eq-same, bytes_eq-true}
use Rattle.rules.specs.Package.{Pkg}
use Rattle.rules.specs.Sound.{HasMember, selected_from}
use Rattle.rules.specs.Universe.{Pair}
use Rattle.std.proofs.lemmas.List.Elements.{Contains-append_cases, Contains-append_left, Contains-append_right}
use Rattle.std.proofs.Math.ListN.{drop_of_length-le}
use Rattle.std.proofs.lemmas.Bool.Decides.{eqb_tells}
use Rattle.std.proofs.lemmas.List.{append-nil, drop_more, get_or-replicate}
use Rattle.rules.specs.Database.{Record}
use Rattle.refutation.specs.Selection.{selects}
use Rattle.fixed_order.specs.Selection.{is_away, marked, pkgs_of}
use mathlib.Core.Logic.{inl, inr}

-- The table of names

-- one name more
one_more : (names : List (List ℕ)) (added name : List ℕ) → Contains (with_name names added) name ↔ (Contains names name ⊎ (added ≡ name))
one_more names added name = elim (cases_Bool (list_any (bytes_eq added) names)) [
  | inl there ↦ rw there (
    λ within. inl within,
    λ either. elim either [
      | inl within ↦ within
      | inr same ↦ subst (Contains names) same (has there)
    ],
  )
  | inr absent ↦ rw absent (
    λ within. elim (Contains-append_cases names (added ∷ []) name within) [
      | inl before ↦ inl before
      | inr last ↦ elim (Contains-cons added [] name last) [ inl same ↦ inr same | inr none ↦ absurd (Contains-nil name none) ]
    ],
    λ either. elim either [
      | inl before ↦ Contains-append_left names (added ∷ []) name before
      | inr same ↦ Contains-append_right names (added ∷ []) name (subst (Contains (added ∷ [])) same (Contains-head added []))
    ],
  )
]
  where
    has : list_any (bytes_eq added) names ≡ true → Contains names added
    has there = Any-elim (λ (n : List ℕ). bytes_eq added n ≡ true) names (Contains names added)
        (λ n within same. subst (Contains names) (sym (bytes_eq-true added n same)) within) (Any-from_list_any (bytes_eq added) names there)

-- all names
all_put : (earlier names : List (List ℕ)) (name : List ℕ) → Contains (fold with_name earlier names) name ↔ (Contains earlier name ⊎ Contains names name)
all_put earlier [] name = (
  λ within. inl within,
  λ either. elim either [ inl within ↦ within | inr none ↦ absurd (Contains-nil name none) ],
)
all_put earlier (first ∷ names) name =
    let rest = all_put (with_name earlier first) names name in
    let here = one_more earlier first name in (
      λ within. elim (rest.0 within) [
        | inl one ↦ elim (here.0 one) [
          | inl before ↦ inl before
          | inr same ↦ inr (subst (Contains (first ∷ names)) same (Contains-head first names))
        ]
        | inr later ↦ inr (Contains-rest first names name later)
      ],
      λ either. elim either [
        | inl before ↦ rest.1 (inl (here.1 (inl before)))
        | inr within ↦ elim (Contains-cons first names name within) [
          | inl same ↦ rest.1 (inl (here.1 (inr same)))
          | inr later ↦ rest.1 (inr later)
        ]
      ],
    )

-- the table of the names of packages has a name exactly where a package has it
pub table_has : (pkgs : List Pkg) (name : List ℕ) → Contains (fold with_name [] (map (λ (pkg : Pkg). pkg.name) pkgs)) name ↔ HasMember name pkgs
unfolding HasMember
table_has pkgs name =
    let all = all_put [] (map (λ (pkg : Pkg). pkg.name) pkgs) name in (
      λ within. elim (all.0 within) [
        | inl none ↦ absurd (Contains-nil name none)
        | inr there ↦ let origin = Contains-map (λ (pkg : Pkg). pkg.name) pkgs name there in
            Any-intro (λ (pkg : Pkg). pkg.name ≡ name) pkgs origin.0 origin.1 origin.2
      ],
      λ some. all.1 (inr (Any-elim (λ (pkg : Pkg). pkg.name ≡ name) pkgs (Contains (map (λ (pkg : Pkg). pkg.name) pkgs) name)
          (λ pkg within same. subst (Contains (map (λ (p : Pkg). p.name) pkgs)) same (Contains-map_intro (λ (p : Pkg). p.name) pkgs pkg within)) some)),
    )

-- a name is found in the table exactly where it is there
pub found_in_table : (name : List ℕ) (keys : List (Bor (List ℕ))) (names : List (List ℕ)) (answer : Bool)
    → answer ≡ list_any (λ (key : Bor (List ℕ)). bytes_eq name key.now) keys → map (λ (key : Bor (List ℕ)). key.now) keys ≡ names
    → (answer ≡ true) ↔ Contains names name
found_in_table name keys names answer is view =
    let at : answer ≡ list_any (bytes_eq name) names =
    is ∙ sym (list_any-map (bytes_eq name) (λ (key : Bor (List ℕ)). key.now) keys) ∙ ap (list_any (bytes_eq name)) view in (
      λ so. Any-elim (λ (n : List ℕ). bytes_eq name n ≡ true) names (Contains names name)
          (λ n within same. subst (Contains names) (sym (bytes_eq-true name n same)) within)
          (Any-from_list_any (bytes_eq name) names (sym at ∙ so)),
      λ within. at ∙ list_any-from_contains (bytes_eq name) names name within (bytes_eq-same name name refl),
    )

-- Selected pairs

-- selections that agree on the numbers of the pairs pick the same
pub same_picked : (number : ℕ) (selection other : ℕ → Bool) (pairs : List Pair)
    → ((n : ℕ) → n < number + length pairs → selection n ≡ other n)
    → selected_from number selection pairs ≡ selected_from number other pairs
same_picked number selection other [] same = refl
same_picked number selection other (pair ∷ rest) same = at (selection number) (other number) (same number (omega arith))
    (same_picked (number + 1) selection other rest (λ n within. same n (omega arith)))
  where
    at : (b c : Bool) → b ≡ c → selected_from (number + 1) selection rest ≡ selected_from (number + 1) other rest
        → cond b (pair.pkg ∷ selected_from (number + 1) selection rest) (selected_from (number + 1) selection rest)
        ≡ cond c (pair.pkg ∷ selected_from (number + 1) other rest) (selected_from (number + 1) other rest)
    at b c alike later = rw (alike, later) refl

-- the table with which a loop has put all names together
pub table_done : (pairs : List (Bor Pair)) (names : List (List ℕ)) (place : ℕ) → length pairs ≤ place
    → fold with_name names (map (λ (pkg : Pkg). pkg.name) (pkgs_of (drop place pairs))) ≡ fold with_name [] (map (λ (pkg : Pkg). pkg.name) (pkgs_of pairs))
    → (name : List ℕ) → Contains names name ↔ HasMember name (pkgs_of pairs)
table_done pairs names place past put name =
    let all : fold with_name names (map (λ (pkg : Pkg). pkg.name) (pkgs_of (drop place pairs))) ≡ names =
    ap (λ (rest : List (Bor Pair)). fold with_name names (map (λ (pkg : Pkg). pkg.name) (pkgs_of rest))) (drop_of_length-le pairs past) in
    subst (λ (ns : List (List ℕ)). Contains ns name ↔ HasMember name (pkgs_of pairs)) (sym put ∙ all) (table_has (pkgs_of pairs) name)

-- Marks

-- no numbers are marked at first
pub none_marked : (count number : ℕ) → number < count → marked (replicate count false) number ≡ selects [] number
none_marked count number within = get_or-replicate count number false false within

-- one number more
pub marked_more : (old new : List Bool) (selection : List ℕ) (place number : ℕ) → place < length selection → number ≡ get_or selection place number
    → ((other : ℕ) → other ≢ number → marked new other ≡ marked old other) → (number < length old → marked new number ≡ true)
    → (other : ℕ) → other < length old → marked old other ≡ selects (take place selection) other
    → marked new other ≡ selects (take (place + 1) selection) other
marked_more old new selection place number inside is kept written other within so_far =
    at (eqb_tells number other) ∙ ap (λ (n : ℕ). selects (take place selection) other || nat_eq n other) is
    ∙ sym (list_any_more (λ (one : ℕ). nat_eq one other) selection place number inside)
  where
    or_true : (b : Bool) → (b || true) ≡ true
    or_true true = refl
    or_true false = refl

    or_false : (b : Bool) → (b || false) ≡ b
    or_false true = refl
    or_false false = refl

    at : ((nat_eq number other ≡ true) × (number ≡ other)) ⊎ ((nat_eq number other ≡ false) × (number ≢ other))
        → marked new other ≡ (selects (take place selection) other || nat_eq number other)
    at (inl both) = subst (λ (n : ℕ). marked new n ≡ true) both.1 (written (subst (λ (n : ℕ). n < length old) (sym both.1) within))
        ∙ sym (or_true (selects (take place selection) other))
        ∙ ap (λ (b : Bool). selects (take place selection) other || b) (sym both.0)
    at (inr both) = kept other (λ same. both.1 (sym same)) ∙ so_far
        ∙ sym (or_false (selects (take place selection) other))
        ∙ ap (λ (b : Bool). selects (take place selection) other || b) (sym both.0)

-- the pairs that marks pick are those that the selection does
pub marks_pick : (marks : List Bool) (selection : List ℕ) (pairs : List Pair)
    → ((number : ℕ) → number < length pairs + 1 → marked marks number ≡ selects selection number)
    → selected_from 1 (marked marks) pairs ≡ selected_from 1 (selects selection) pairs
marks_pick marks selection pairs same = same_picked 1 (marked marks) (selects selection) pairs (λ n within. same n (omega arith))

-- Lists that grow by what passes a test

-- one package more, if it passes, behind those that are there
grown : (done left : List Pkg) (pkg : Pkg) (b : Bool) → (done ++ cond b (pkg ∷ []) []) ++ left ≡ done ++ cond b (pkg ∷ left) left
grown done left pkg true = append_assoc done (pkg ∷ []) left
grown done left pkg false = ap (λ (d : List Pkg). d ++ left) (append-nil done)

-- the pair at the place is the first of those that are left
pub left_at : {X : Type 0} (items : List X) (place : ℕ) (item : X) → place < length items → item ≡ get_or items place item
    → drop place items ≡ item ∷ drop (place + 1) items
left_at {X} items place item within is = drop_more items place item within ∙ ap (λ (x : X). x ∷ drop (place + 1) items) (sym is)

-- one pair more, which is picked if its number is marked
pub picked_more : (marks : List Bool) (pairs : List Pair) (done more all : List Pkg) (place : ℕ) (pair : Pair) (b : Bool)
    → place < length pairs → pair ≡ get_or pairs place pair → marked marks (place + 1) ≡ b → more ≡ done ++ cond b (pair.pkg ∷ []) []
    → done ++ selected_from (place + 1) (marked marks) (drop place pairs) ≡ all
    → more ++ selected_from (place + 1 + 1) (marked marks) (drop (place + 1) pairs) ≡ all
picked_more marks pairs done more all place pair b within is mark grew so_far =
    let left : List Pkg = selected_from (place + 1 + 1) (marked marks) (drop (place + 1) pairs) in
    ap (λ (m : List Pkg). m ++ left) grew
    ∙ grown done left pair.pkg b
    ∙ ap (λ (c : Bool). done ++ cond c (pair.pkg ∷ left) left) (sym mark)
    ∙ ap (λ (rest : List Pair). done ++ selected_from (place + 1) (marked marks) rest) (sym (left_at pairs place pair within is))
    ∙ so_far

-- one pair more, which is kept if it doesn't stand
pub away_more : (start : List Record) (pairs : List (Bor Pair)) (done more all : List Pkg) (place : ℕ) (lent : Bor Pair) (b : Bool)
    → place < length pairs → lent ≡ get_or pairs place lent → is_away start lent.now.pkg ≡ b
    → more ≡ done ++ cond b (lent.now.pkg ∷ []) []
    → done ++ filter (is_away start) (pkgs_of (drop place pairs)) ≡ all
    → more ++ filter (is_away start) (pkgs_of (drop (place + 1) pairs)) ≡ all
away_more start pairs done more all place lent b within is test grew so_far =
    let left : List Pkg = filter (is_away start) (pkgs_of (drop (place + 1) pairs)) in
    ap (λ (m : List Pkg). m ++ left) grew
    ∙ grown done left lent.now.pkg b
    ∙ ap (λ (c : Bool). done ++ cond c (lent.now.pkg ∷ left) left) (sym test)
    ∙ ap (λ (rest : List (Bor Pair)). done ++ filter (is_away start) (pkgs_of rest)) (sym (left_at pairs place lent within is))
    ∙ so_far
