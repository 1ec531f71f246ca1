-- The package of the pair of a number, and which pairs are those of packages that are asked for.
use Rattle.std.proofs.Common.{◌≡◌, ◌≢◌, ℕ, zero, suc, ◌+◌, ◌<◌, ◌⊎◌, Bool, true, false, not, List, [], ◌∷◌, ◌++◌, Option, Some, None, length, take, get_or, if◌then◌else◌, eqb, refl, sym, ap, subst, ◌∙◌, add-one, arith}
use Rattle.std.specs.Prelude.{◌↔◌, bytes_eq, slice_get}
use Rattle.std.specs.List.{Any, Contains, filter, list_any}
use Rattle.std.specs.Option.{option_map, option_map_or}
use Rattle.std.proofs.lemmas.Bool.{eqb-true}
use Rattle.std.proofs.lemmas.List.{take_more}
use Rattle.std.proofs.lemmas.List.Elements.{Contains-append_cases, Contains-append_left, Contains-append_right}
use Rattle.std.proofs.lemmas.Option.{slice_get-map, same_Some}
use Rattle.rules.specs.ElementLaws.{Any-append, Any-append_left, Any-append_right, Any-elim, Any-intro, Any-weaker, Contains-cons, Contains-filter, Contains-filter_intro, Contains-head, Contains-nil}
use Rattle.rules.specs.NamedLaws.{bytes_eq-same, bytes_eq-true}
use Rattle.indexmap.specs.IndexSet.{insert_key}
use Rattle.indexmap.proofs.CallerLemmas.{Contains-list_any}
use Rattle.rules.specs.Package.{Atom, FitsByName, FitsByProvides, FitsProvided, Matches, MatchesSome, Pkg}
use Rattle.rules.specs.Universe.{Pair, Universe}
use Rattle.index.specs.Providers.{IsProviderAt, plain_atom}
use Rattle.refutation.specs.Clause.{item_at}
use Rattle.refutation.specs.Premise.{PairHas}
use Rattle.universe_parts.specs.Parts.{packages_of}
use Rattle.encode.specs.Numbers.{AreNumbersOf, IsNumberAt, is_of_other}
use mathlib.Core.Logic.{inl, inr}

-- what is taken with one more
pub any_more : {X : Type 0} (P : X → Type 0) (xs : List X) (index : ℕ) (d : X) → index < length xs
    → Any P (take (index + 1) xs) ↔ (Any P (take index xs) ⊎ P (get_or xs index d))
any_more {X} P xs index d within =
    let Over : List X → Type 0 = λ done. Any P done ↔ (Any P (take index xs) ⊎ P (get_or xs index d)) in
    subst Over (sym (take_more xs index d within)) (to, from)
  where
    last : X
    last = get_or xs index d

    only : Any P (last ∷ []) → P last
    only some = Any-elim P (last ∷ []) (P last) (λ x there holds. elim (Contains-cons last [] x there) [
      | inl same ↦ subst P (sym same) holds
      | inr none ↦ absurd (Contains-nil x none)
    ]) some

    to : Any P (take index xs ++ last ∷ []) → Any P (take index xs) ⊎ P last
    to some = elim (Any-append P (take index xs) (last ∷ []) some) [ inl before ↦ inl before | inr here ↦ inr (only here) ]

    from : Any P (take index xs) ⊎ P last → Any P (take index xs ++ last ∷ [])
    from (inl before) = Any-append_left P (take index xs) (last ∷ []) before
    from (inr here) = Any-append_right P (take index xs) (last ∷ []) (Any-intro P (last ∷ []) last (Contains-head last []) here)

-- nothing is taken of a list at first
pub any_none : {X : Type 0} (P : X → Type 0) (xs : List X) → ¬ Any P (take 0 xs)
any_none P xs some = Any-elim P [] ⊥ (λ x within holds. Contains-nil x within) some

-- what a mapped value comes from
mapped_from : {X Y : Type 0} (f : X → Y) (o : Option X) (y : Y) → option_map f o ≡ Some y → (x : X) × (o ≡ Some x) × (f x ≡ y)
mapped_from f None y is = absurd (let e : None ≡ Some y = is in cc)
mapped_from f (Some x) y is = (x, refl, same_Some (f x) y is)

-- the package of the pair at a place has what the pair of the next number has
pub has_in : (u : Universe) (place : ℕ) (pkg : Pkg) (P : Pkg → Type 0) → Some pkg ≡ slice_get (packages_of u.pairs) place
    → P pkg ↔ PairHas u (place + 1) P
has_in u place pkg P is =
    let N : ℕ → Type 0 = λ n. P pkg ↔ PairHas u n P in subst N (sym (add-one place)) (to, from)
  where
    first : Pair → Pkg
    first pair = pair.pkg

    mapped : slice_get (packages_of u.pairs) place ≡ option_map first (slice_get u.pairs place)
    mapped = slice_get-map first u.pairs place

    to : P pkg → PairHas u (suc place) P
    to holds = let origin = mapped_from first (slice_get u.pairs place) pkg (sym mapped ∙ sym is) in
        (origin.0, origin.1, subst P (sym origin.2) holds)

    from : PairHas u (suc place) P → P pkg
    from (pair, there, holds) =
        let same : pair.pkg ≡ pkg = same_Some pair.pkg pkg (sym (mapped ∙ ap (option_map first) there) ∙ sym is) in subst P same holds

-- the pair of a number has a package at the place before it
pub place_of : (u : Universe) (number : ℕ) (P : Pkg → Type 0) → PairHas u number P
    → (place : ℕ) × (number ≡ place + 1) × ((pkg : Pkg) × (slice_get (packages_of u.pairs) place ≡ Some pkg) × P pkg)
place_of u zero P (pair, there, holds) = absurd (let e : None ≡ Some pair = there in cc)
place_of u (suc place) P (pair, there, holds) =
    let first : Pair → Pkg = λ p. p.pkg in
    (place, sym (add-one place), (pair.pkg, slice_get-map first u.pairs place ∙ ap (option_map first) there, holds))

-- a package of the name matches it without a restriction
pub of_name : (pkg : Pkg) (name : List ℕ) → pkg.name ≡ name → Matches pkg (plain_atom name)
unfolding Matches FitsByName
of_name pkg name is = (refl, inl (is, tt))

-- among places that have all providers of a name, which all that have the property have or provide, are those of the pairs with it
pub all_places : (u : Universe) (name places : List ℕ) (P : Pkg → Type 0)
    → ((place : ℕ) → IsProviderAt name (packages_of u.pairs) place → Contains places place)
    → ((pkg : Pkg) → P pkg → Matches pkg (plain_atom name))
    → (number : ℕ) → Any (λ place. IsNumberAt u P place number) places ↔ PairHas u number P
all_places u name places P listed named number = (to, from)
  where
    to : Any (λ place. IsNumberAt u P place number) places → PairHas u number P
    to some = Any-elim (λ place. IsNumberAt u P place number) places (PairHas u number P) (λ place within both. both.1) some

    from : PairHas u number P → Any (λ place. IsNumberAt u P place number) places
    from has =
        let at = place_of u number P has in
        let pkg = at.2 in
        Any-intro (λ place. IsNumberAt u P place number) places at.0 (listed at.0 (pkg.0, pkg.1, named pkg.0 pkg.2)) (at.1, has)

-- a package matches an atom of a list with one more where it matches one of the list or that one
pub matches_more : (pkg : Pkg) (atoms : List Atom) (index : ℕ) (d : Atom) → index < length atoms
    → MatchesSome pkg (take (index + 1) atoms) ↔ (MatchesSome pkg (take index atoms) ⊎ Matches pkg (get_or atoms index d))
unfolding MatchesSome
matches_more pkg atoms index d within = any_more (Matches pkg) atoms index d within

pub matches_none : (pkg : Pkg) (atoms : List Atom) → ¬ MatchesSome pkg (take 0 atoms)
unfolding MatchesSome
matches_none pkg atoms some = any_none (Matches pkg) atoms some

-- the pair has one of two properties where it has the one or the other
pub has_either : (u : Universe) (number : ℕ) (P Q R : Pkg → Type 0) → ((pkg : Pkg) → R pkg ↔ (P pkg ⊎ Q pkg))
    → PairHas u number R ↔ (PairHas u number P ⊎ PairHas u number Q)
has_either u number P Q R either = (to, from)
  where
    to : PairHas u number R → PairHas u number P ⊎ PairHas u number Q
    to (pair, there, holds) = elim ((either pair.pkg).0 holds) [ inl one ↦ inl (pair, there, one) | inr two ↦ inr (pair, there, two) ]

    from : PairHas u number P ⊎ PairHas u number Q → PairHas u number R
    from (inl (pair, there, one)) = (pair, there, (either pair.pkg).1 (inl one))
    from (inr (pair, there, two)) = (pair, there, (either pair.pkg).1 (inr two))

-- where there is no package at a place, the pair of the next number has nothing
pub none_in : (u : Universe) (place : ℕ) (P : Pkg → Type 0) → None ≡ slice_get (packages_of u.pairs) place → ¬ PairHas u (place + 1) P
none_in u place P is has =
    let at = place_of u (place + 1) P has in
    let same : place ≡ at.0 = omega (arith, at.1) in
    let Gets : ℕ → Type 0 = λ p. None ≡ slice_get (packages_of u.pairs) p in
    let e : None ≡ Some at.2.0 = subst Gets same is ∙ at.2.1 in
    absurd (let f : None ≡ Some at.2.0 = e in cc)

-- where the pair at a place doesn't have the property, nothing is added; where it has, its number is
pub adds_none : (u : Universe) (P : Pkg → Type 0) (place : ℕ) (numbers : List ℕ) → ¬ PairHas u (place + 1) P → (number : ℕ)
    → Contains numbers number ↔ (Contains numbers number ⊎ IsNumberAt u P place number)
adds_none u P place numbers not number = (
  λ within. inl within,
  λ either. elim either [
    | inl within ↦ within
    | inr at ↦ absurd (not (let N : ℕ → Type 0 = λ n. PairHas u n P in subst N at.0 at.1))
  ],
)

pub adds_one : (u : Universe) (P : Pkg → Type 0) (place new : ℕ) (numbers more : List ℕ) → PairHas u (place + 1) P → new ≡ place + 1
    → ((number : ℕ) → Contains more number ↔ (Contains numbers number ⊎ (number ≡ new))) → (number : ℕ)
    → Contains more number ↔ (Contains numbers number ⊎ IsNumberAt u P place number)
adds_one u P place new numbers more has next adds number = (
  λ within. elim ((adds number).0 within) [
    | inl before ↦ inl before
    | inr same ↦ inr (same ∙ next, let N : ℕ → Type 0 = λ n. PairHas u n P in subst N (sym (same ∙ next)) has)
  ],
  λ either. elim either [
    | inl before ↦ (adds number).1 (inl before)
    | inr at ↦ (adds number).1 (inr (at.0 ∙ sym next))
  ],
)

-- one place more, where what is at the places so far was put behind others, or behind none
pub one_place_more : (At : ℕ → ℕ → Type 0) (places : List ℕ) (index : ℕ) → index < length places → (before middle after : List ℕ)
    → ((number : ℕ) → Contains middle number ↔ (Contains before number ⊎ Any (λ place. At place number) (take index places)))
    → ((number : ℕ) → Contains after number ↔ (Contains middle number ⊎ At (get_or places index 0) number))
    → (number : ℕ) → Contains after number ↔ (Contains before number ⊎ Any (λ place. At place number) (take (index + 1) places))
one_place_more At places index within before middle after so_far adds number =
    let more = any_more (λ place. At place number) places index 0 within in (
      λ now. elim ((adds number).0 now) [
        | inl earlier ↦ elim ((so_far number).0 earlier) [ inl was ↦ inl was | inr some ↦ inr (more.1 (inl some)) ]
        | inr here ↦ inr (more.1 (inr here))
      ],
      λ either. elim either [
        | inl was ↦ (adds number).1 (inl ((so_far number).1 (inl was)))
        | inr some ↦ elim (more.0 some) [
          | inl earlier ↦ (adds number).1 (inl ((so_far number).1 (inr earlier)))
          | inr here ↦ (adds number).1 (inr here)
        ]
      ],
    )

pub first_place_more : (At : ℕ → ℕ → Type 0) (places : List ℕ) (index : ℕ) → index < length places → (middle after : List ℕ)
    → ((number : ℕ) → Contains middle number ↔ Any (λ place. At place number) (take index places))
    → ((number : ℕ) → Contains after number ↔ (Contains middle number ⊎ At (get_or places index 0) number))
    → (number : ℕ) → Contains after number ↔ Any (λ place. At place number) (take (index + 1) places)
first_place_more At places index within middle after so_far adds number =
    let more = any_more (λ place. At place number) places index 0 within in (
      λ now. elim ((adds number).0 now) [
        | inl earlier ↦ more.1 (inl ((so_far number).0 earlier))
        | inr here ↦ more.1 (inr here)
      ],
      λ some. elim (more.0 some) [
        | inl earlier ↦ (adds number).1 (inl ((so_far number).1 earlier))
        | inr here ↦ (adds number).1 (inr here)
      ],
    )

-- at no places there are no numbers
pub no_places : (At : ℕ → ℕ → Type 0) (places numbers : List ℕ) → numbers ≡ [] → (number : ℕ)
    → Contains numbers number ↔ Any (λ place. At place number) (take 0 places)
no_places At places numbers is number = (
  λ within. absurd (Contains-nil number (subst (λ (xs : List ℕ). Contains xs number) is within)),
  λ some. absurd (any_none (λ place. At place number) places some),
)

-- the places that were found, in another order
pub same_places : (packages offered : List Pkg) (At : List Pkg → ℕ → Type 0) → offered ≡ packages → (first_places places : List ℕ)
    → ((place : ℕ) → Contains first_places place ↔ At offered place) → ((place : ℕ) → Contains places place ↔ Contains first_places place)
    → (place : ℕ) → Contains places place ↔ At packages place
same_places packages offered At is first_places places are same place =
    let Over : List Pkg → Type 0 = λ xs. Contains places place ↔ At xs place in
    subst Over is (
      λ within. (are place).0 ((same place).0 within),
      λ at. (same place).1 ((are place).1 at),
    )

-- the numbers of the places of the packages with a property are those of their pairs
pub numbers_at : (u : Universe) (P : Pkg → Type 0) (places : List ℕ)
    → ((place : ℕ) → Contains places place ↔ ((pkg : Pkg) × (slice_get (packages_of u.pairs) place ≡ Some pkg) × P pkg))
    → (number : ℕ) → Any (λ place. number ≡ place + 1) places ↔ PairHas u number P
numbers_at u P places are number = (
  λ some. Any-elim (λ place. number ≡ place + 1) places (PairHas u number P) (λ place within same.
      let (pkg, there, holds) = (are place).0 within in
      let Has : ℕ → Type 0 = λ n. PairHas u n P in
      subst Has (sym same) ((has_in u place pkg P (sym there)).0 holds)) some,
  λ has.
      let at = place_of u number P has in
      Any-intro (λ place. number ≡ place + 1) places at.0 ((are at.0).1 at.2) at.1,
)

-- the same, put behind others
pub adds_matching : (u : Universe) (P : Pkg → Type 0) (places slice : List ℕ) → slice ≡ places
    → ((place : ℕ) → Contains places place ↔ ((pkg : Pkg) × (slice_get (packages_of u.pairs) place ≡ Some pkg) × P pkg))
    → (before after : List ℕ)
    → ((number : ℕ) → Contains after number ↔ (Contains before number ⊎ Any (λ place. number ≡ place + 1) slice))
    → (number : ℕ) → Contains after number ↔ (Contains before number ⊎ PairHas u number P)
adds_matching u P places slice is are before after adds number =
    let Adds : List ℕ → Type 0 = λ ps. Contains after number ↔ (Contains before number ⊎ Any (λ place. number ≡ place + 1) ps) in
    let here : Adds places = subst Adds is (adds number) in
    let all = numbers_at u P places are number in (
      λ now. elim (here.0 now) [ inl was ↦ inl was | inr some ↦ inr (all.0 some) ],
      λ either. elim either [ inl was ↦ here.1 (inl was) | inr has ↦ here.1 (inr (all.1 has)) ],
    )

-- the numbers with those of one property more
pub numbers_more : (u : Universe) (P Q R : Pkg → Type 0) → ((pkg : Pkg) → R pkg ↔ (P pkg ⊎ Q pkg)) → (before after : List ℕ)
    → AreNumbersOf u P before → ((number : ℕ) → Contains after number ↔ (Contains before number ⊎ PairHas u number Q))
    → AreNumbersOf u R after
numbers_more u P Q R either before after are adds number =
    let both = has_either u number P Q R either in (
      λ now. elim ((adds number).0 now) [ inl was ↦ both.1 (inl ((are number).0 was)) | inr here ↦ both.1 (inr here) ],
      λ has. elim (both.0 has) [ inl was ↦ (adds number).1 (inl ((are number).1 was)) | inr here ↦ (adds number).1 (inr here) ],
    )

-- no numbers are those of a property that no package has
pub numbers_none : (u : Universe) (P : Pkg → Type 0) → ((pkg : Pkg) → ¬ P pkg) → (numbers : List ℕ) → numbers ≡ [] → AreNumbersOf u P numbers
numbers_none u P none numbers is number = (
  λ within. absurd (Contains-nil number (subst (λ (xs : List ℕ). Contains xs number) is within)),
  λ (pair, there, has). absurd (none pair.pkg has),
)

-- of the places of all that have or provide a name, those of what is asked for, which all has or provides it
pub asked_numbers : (u : Universe) (name places slice : List ℕ) → slice ≡ places
    → ((place : ℕ) → Contains places place ↔ IsProviderAt name (packages_of u.pairs) place) → (P : Pkg → Type 0)
    → ((pkg : Pkg) → P pkg → Matches pkg (plain_atom name)) → (numbers : List ℕ)
    → ((number : ℕ) → Contains numbers number ↔ Any (λ place. IsNumberAt u P place number) slice) → AreNumbersOf u P numbers
asked_numbers u name places slice is are P named numbers at number =
    let At : List ℕ → Type 0 = λ ps. Contains numbers number ↔ Any (λ place. IsNumberAt u P place number) ps in
    let here : At places = subst At is (at number) in
    let all = all_places u name places P (λ place provides. (are place).1 provides) named number in
    (λ within. all.0 (here.0 within), λ has. here.1 (all.1 has))

-- whether the pair of a number has another name
other_named : (u : Universe) (name : List ℕ) (number : ℕ) (pair : Pair) → item_at u.pairs number ≡ Some pair
    → (is_of_other u name number ≡ true) ↔ (pair.pkg.name ≢ name)
other_named u name number pair there =
    let Is : Option Pair → Type 0 = λ maybe_pair. (option_map_or (λ p. not (bytes_eq p.pkg.name name)) maybe_pair false ≡ true) ↔ (pair.pkg.name ≢ name) in
    subst Is (sym there) (by (bytes_eq pair.pkg.name name) refl)
  where
    by : (b : Bool) → bytes_eq pair.pkg.name name ≡ b → (not (bytes_eq pair.pkg.name name) ≡ true) ↔ (pair.pkg.name ≢ name)
    by true is = (
      λ passes. absurd (let e : false ≡ true = sym (ap not is) ∙ passes in cc),
      λ apart. absurd (apart (bytes_eq-true pair.pkg.name name is)),
    )
    by false is = (
      λ _. λ same. let e : true ≡ false = sym (bytes_eq-same pair.pkg.name name same) ∙ is in absurd (let f : true ≡ false = e in cc),
      λ _. ap not is,
    )

-- of the numbers of pairs with a property those of other names
pub others_are : (u : Universe) (name : List ℕ) (P : Pkg → Type 0) (numbers slice others : List ℕ) → slice ≡ numbers
    → AreNumbersOf u P numbers → others ≡ filter (is_of_other u name) slice → AreNumbersOf u (λ pkg. (pkg.name ≢ name) × P pkg) others
others_are u name P numbers slice others same are is number =
    let Over : List ℕ → Type 0 = λ xs. Contains xs number ↔ PairHas u number (λ pkg. (pkg.name ≢ name) × P pkg) in
    let Of : List ℕ → Type 0 = λ xs. Over (filter (is_of_other u name) xs) in
    subst Over (sym is) (subst Of (sym same) (
      λ within.
          let both = Contains-filter (is_of_other u name) numbers number within in
          let (pair, there, holds) = (are number).0 both.0 in
          (pair, there, ((other_named u name number pair there).0 both.1, holds)),
      λ (pair, there, (apart, holds)). Contains-filter_intro (is_of_other u name) numbers number ((are number).1 (pair, there, holds))
          ((other_named u name number pair there).1 apart),
    ))

-- a place at which a list has an item
pub there_at : {X : Type 0} (xs : List X) (place : ℕ) (x : X) → place < length xs → x ≡ get_or xs place x → slice_get xs place ≡ Some x
there_at [] place x within is = absurd (let e : place < 0 = within in omega arith)
there_at (first ∷ xs) zero x within is = ap Some (sym is)
there_at (first ∷ xs) (suc place) x within is = there_at xs place x (omega (arith, within)) is

-- a number that is put behind the others, or behind them unless it is one of them
pub new_is_last : (numbers more : List ℕ) (new : ℕ) → more ≡ numbers ++ new ∷ [] → (number : ℕ)
    → Contains more number ↔ (Contains numbers number ⊎ (number ≡ new))
new_is_last numbers more new is number =
    let Over : List ℕ → Type 0 = λ xs. Contains xs number ↔ (Contains numbers number ⊎ (number ≡ new)) in
    subst Over (sym is) (
      λ within. elim (Contains-append_cases numbers (new ∷ []) number within) [
        | inl before ↦ inl before
        | inr here ↦ elim (Contains-cons new [] number here) [ inl same ↦ inr (sym same) | inr none ↦ absurd (Contains-nil number none) ]
      ],
      λ either. elim either [
        | inl before ↦ Contains-append_left numbers (new ∷ []) number before
        | inr same ↦ Contains-append_right numbers (new ∷ []) number (subst (Contains (new ∷ [])) (sym same) (Contains-head new []))
      ],
    )

pub new_is_in : (numbers more : List ℕ) (new : ℕ) → more ≡ insert_key eqb numbers new → (number : ℕ)
    → Contains more number ↔ (Contains numbers number ⊎ (number ≡ new))
new_is_in numbers more new is = by (list_any (eqb new) numbers) refl
  where
    by : (b : Bool) → list_any (eqb new) numbers ≡ b → (number : ℕ) → Contains more number ↔ (Contains numbers number ⊎ (number ≡ new))
    by true there number =
        let Over : List ℕ → Type 0 = λ xs. Contains xs number ↔ (Contains numbers number ⊎ (number ≡ new)) in
        subst Over (sym (is ∙ ap (λ b. if b then numbers else numbers ++ new ∷ []) there)) (
          λ within. inl within,
          λ either. elim either [
            | inl within ↦ within
            | inr same ↦ subst (Contains numbers) (sym same) (Contains-list_any eqb eqb-true numbers new there)
          ],
        )
    by false there number = new_is_last numbers more new (is ∙ ap (λ b. if b then numbers else numbers ++ new ∷ []) there) number

-- one put behind the others of what is next to a place
pub next_is_in : (numbers more : List ℕ) (place new : ℕ) → new ≡ place + 1
    → ((number : ℕ) → Contains more number ↔ (Contains numbers number ⊎ (number ≡ new))) → (number : ℕ)
    → Contains more number ↔ (Contains numbers number ⊎ (number ≡ place + 1))
next_is_in numbers more place new next adds number =
    let At : ℕ → Type 0 = λ n. Contains more number ↔ (Contains numbers number ⊎ (number ≡ n)) in subst At next (adds number)
