-- The package of a pair by its number, and which pairs are those of packages that are sought.
use Rattle.std.proofs.Common.{◌≡◌, ℕ, zero, suc, ◌+◌, ◌<◌, ◌⊎◌, Bool, List, [], ◌∷◌, ◌++◌, Option, Some, None, map, length, take, get_or, refl, sym, ap, subst, ◌∙◌, add-one, arith}
use Rattle.std.specs.Prelude.{◌↔◌, IsTrue, slice_get}
use Rattle.std.specs.List.{All, Any, Contains}
use Rattle.std.specs.Option.{option_map}
use Rattle.std.proofs.lemmas.List.{length-map, take_more}
use Rattle.std.proofs.lemmas.List.Elements.{Contains-append_cases, Contains-append_left, Contains-append_right}
use Rattle.std.proofs.lemmas.Option.{slice_get-map, slice_get_within, same_Some}
use Rattle.rules.specs.ElementLaws.{All-intro, Any-append, Any-append_left, Any-append_right, Any-elim, Any-intro, Contains-cons, Contains-head, Contains-map, Contains-map_intro, Contains-nil}
use Rattle.rules.specs.Package.{Atom, Matches, Pkg}
use Rattle.rules.specs.Universe.{Pair, Universe}
use Rattle.index.specs.Providers.{IsProviderAt, plain_atom}
use Rattle.providers.specs.Matching.{IsMatchAt}
use Rattle.refutation.specs.Clause.{IsListOf, item_at}
use Rattle.refutation.specs.Premise.{PairHas, PairsAre, Selects}
use Rattle.refutation.specs.declared.literal.Literal.{Literal}
use Rattle.refutation.specs.declared.literal.Literal.TheVariants as literal
use Rattle.universe_parts.specs.Parts.{packages_of}
use Rattle.refutecheck.specs.Sought.{IsSelectedAt}
use mathlib.Core.Logic.{inl, inr}

-- what a mapped value comes from
mapped_from : {X Y : Type 0} (f : X → Y) (o : Option X) (y : Y) → option_map f o ≡ Some y → (x : X) × (o ≡ Some x) × (f x ≡ y)
mapped_from f None y is = absurd (let e : None ≡ Some y = is in cc)
mapped_from f (Some x) y is = (x, refl, same_Some (f x) y is)

-- the package of the pair of a number, and the pair of a package
pub pair_at : (u : Universe) (number : ℕ) (pkg : Pkg) → item_at (packages_of u.pairs) number ≡ Some pkg
    → (pair : Pair) × (item_at u.pairs number ≡ Some pair) × (pair.pkg ≡ pkg)
pair_at u zero pkg is = absurd (let e : None ≡ Some pkg = is in cc)
pair_at u (suc place) pkg is =
    let f : Pair → Pkg = λ pair. pair.pkg in
    mapped_from f (slice_get u.pairs place) pkg (sym (slice_get-map f u.pairs place) ∙ is)

pub pkg_there : (u : Universe) (number : ℕ) (pair : Pair) → item_at u.pairs number ≡ Some pair
    → item_at (packages_of u.pairs) number ≡ Some pair.pkg
pkg_there u zero pair is = absurd (let e : None ≡ Some pair = is in cc)
pkg_there u (suc place) pair is =
    let f : Pair → Pkg = λ p. p.pkg in
    slice_get-map f u.pairs place ∙ ap (option_map f) is

-- the pair has what its package has
pub has_at : (u : Universe) (number : ℕ) (pkg : Pkg) (P : Pkg → Type 0) → item_at (packages_of u.pairs) number ≡ Some pkg
    → P pkg ↔ PairHas u number P
has_at u number pkg P is = (to, from)
  where
    to : P pkg → PairHas u number P
    to holds = let pair = pair_at u number pkg is in (pair.0, pair.1, subst P (sym pair.2) holds)

    from : PairHas u number P → P pkg
    from (pair, there, holds) =
        let same : pair.pkg ≡ pkg = same_Some pair.pkg pkg (sym (pkg_there u number pair there) ∙ is) in subst P same holds

-- what decides of the package decides of the pair
pub decides_at : (u : Universe) (number : ℕ) (pkg : Pkg) (P : Pkg → Type 0) (answer : Bool) → Some pkg ≡ item_at (packages_of u.pairs) number
    → (IsTrue answer ↔ P pkg) → IsTrue answer ↔ PairHas u number P
decides_at u number pkg P answer is decides =
    let has = has_at u number pkg P (sym is) in
    (λ so. has.0 (decides.0 so), λ there. decides.1 (has.1 there))

-- what decides of two packages decides of their pairs
pub decides_of_two : (u : Universe) (number other : ℕ) (pkg other_pkg : Pkg) (R : Pkg → Pkg → Type 0) (answer : Bool)
    → Some pkg ≡ item_at (packages_of u.pairs) number → Some other_pkg ≡ item_at (packages_of u.pairs) other
    → (IsTrue answer ↔ R pkg other_pkg) → IsTrue answer ↔ PairsAre u number other R
decides_of_two u number other pkg other_pkg R answer is here decides =
    decides_at u number pkg (λ p. PairHas u other (R p)) answer is (decides_at u other other_pkg (R pkg) answer here decides)

-- the literals of the places of all providers of a name are those of the packages with a property that has the name
pub at_places : (u : Universe) (name : List ℕ) (places : List ℕ) (P : Pkg → Type 0)
    → ((place : ℕ) → Contains places place ↔ IsProviderAt name (packages_of u.pairs) place)
    → ((pkg : Pkg) → P pkg → Matches pkg (plain_atom name))
    → (disjunct : Literal) → Any (λ place. IsSelectedAt (packages_of u.pairs) P place disjunct) places ↔ Selects u P disjunct
at_places u name places P exact named disjunct = (to, from disjunct)
  where
    to : Any (λ place. IsSelectedAt (packages_of u.pairs) P place disjunct) places → Selects u P disjunct
    to some = Any-elim (λ place. IsSelectedAt (packages_of u.pairs) P place disjunct) places (Selects u P disjunct)
        (λ place within (is, (pkg, there, holds)).
        let has : PairHas u (suc place) P = (has_at u (suc place) pkg P there).0 holds in
        subst (Selects u P) (sym is) (let N : ℕ → Type 0 = λ n. PairHas u n P in subst N (sym (add-one place)) has)) some

    from : (f : Literal) → Selects u P f → Any (λ place. IsSelectedAt (packages_of u.pairs) P place f) places
    from (literal.Selected zero) (pair, there, holds) = absurd (let e : None ≡ Some pair = there in cc)
    from (literal.Selected (suc place)) (pair, there, holds) =
        let lent : slice_get (packages_of u.pairs) place ≡ Some pair.pkg = pkg_there u (suc place) pair there in
        let within : Contains places place = (exact place).1 (pair.pkg, lent, named pair.pkg holds) in
        Any-intro (λ p. IsSelectedAt (packages_of u.pairs) P p (literal.Selected (suc place))) places place within
        (ap literal.Selected (sym (add-one place)), (pair.pkg, lent, holds))
    from (literal.Unselected number) has = absurd has

-- one place more: what is selected at it
pub one_place_more : (packages : List Pkg) (P : Pkg → Type 0) (places : List ℕ) (index : ℕ) → index < length places
    → (before middle after : Literal → Type 0)
    → ((disjunct : Literal) → middle disjunct ↔ (before disjunct ⊎ Any (λ place. IsSelectedAt packages P place disjunct) (take index places)))
    → ((disjunct : Literal) → after disjunct ↔ (middle disjunct ⊎ IsSelectedAt packages P (get_or places index 0) disjunct))
    → (disjunct : Literal) → after disjunct ↔ (before disjunct ⊎ Any (λ place. IsSelectedAt packages P place disjunct) (take (index + 1) places))
one_place_more packages P places index within before middle after so_far adds disjunct =
    let Step : List ℕ → Type 0 = λ done. after disjunct ↔ (before disjunct ⊎ Any (λ place. IsSelectedAt packages P place disjunct) done) in
    subst Step (sym (take_more places index 0 within)) (to, from)
  where
    last : ℕ
    last = get_or places index 0

    to : after disjunct → before disjunct ⊎ Any (λ place. IsSelectedAt packages P place disjunct) (take index places ++ last ∷ [])
    to now = elim ((adds disjunct).0 now) [
      | inl earlier ↦ elim ((so_far disjunct).0 earlier) [
        | inl was ↦ inl was
        | inr some ↦ inr (Any-append_left (λ place. IsSelectedAt packages P place disjunct) (take index places) (last ∷ []) some)
      ]
      | inr here ↦ inr (Any-append_right (λ place. IsSelectedAt packages P place disjunct) (take index places) (last ∷ [])
          (Any-intro (λ place. IsSelectedAt packages P place disjunct) (last ∷ []) last (Contains-head last []) here))
    ]

    from : before disjunct ⊎ Any (λ place. IsSelectedAt packages P place disjunct) (take index places ++ last ∷ []) → after disjunct
    from (inl was) = (adds disjunct).1 (inl ((so_far disjunct).1 (inl was)))
    from (inr some) = elim (Any-append (λ place. IsSelectedAt packages P place disjunct) (take index places) (last ∷ []) some) [
      | inl earlier ↦ (adds disjunct).1 (inl ((so_far disjunct).1 (inr earlier)))
      | inr here ↦ (adds disjunct).1 (inr (only here))
    ]
      where
        only : Any (λ place. IsSelectedAt packages P place disjunct) (last ∷ []) → IsSelectedAt packages P last disjunct
        only there = Any-elim (λ place. IsSelectedAt packages P place disjunct) (last ∷ []) (IsSelectedAt packages P last disjunct)
            (λ place within holds. elim (Contains-cons last [] place within) [
              | inl same ↦ let Q : ℕ → Type 0 = λ p. IsSelectedAt packages P p disjunct in subst Q (sym same) holds
              | inr none ↦ absurd (Contains-nil place none)
            ]) there

-- of no literals before, those of the places of the packages that are sought, all of which have or provide the name
pub by_places : (u : Universe) (packages : List Pkg) → packages ≡ packages_of u.pairs → (name places slice : List ℕ) → slice ≡ places
    → (P : Pkg → Type 0) → ((place : ℕ) → Contains places place ↔ IsProviderAt name packages place)
    → ((pkg : Pkg) → P pkg → Matches pkg (plain_atom name)) → (before after : List Literal) → before ≡ []
    → ((disjunct : Literal) → Contains after disjunct
    ↔ (Contains before disjunct ⊎ Any (λ place. IsSelectedAt (packages_of u.pairs) P place disjunct) slice))
    → IsListOf (Selects u P) after
by_places u packages are name places slice is P matching named before after none adds disjunct =
    let Exact : List Pkg → Type 0 = λ ps. (place : ℕ) → Contains places place ↔ IsProviderAt name ps place in
    let Adds : List ℕ → Type 0 = λ ps.
    Contains after disjunct ↔ (Contains before disjunct ⊎ Any (λ place. IsSelectedAt (packages_of u.pairs) P place disjunct) ps) in
    let all = at_places u name places P (subst Exact are matching) named disjunct in
    let here : Adds places = subst Adds is (adds disjunct) in (
      λ now. elim (here.0 now) [
        | inl was ↦ absurd (Contains-nil disjunct (subst (λ (ls : List Literal). Contains ls disjunct) none was))
        | inr some ↦ all.0 some
      ],
      λ selects. here.1 (inr (all.1 selects)),
    )

-- the places of the packages that match an atom are those of pairs
pub within_pairs : (u : Universe) (packages : List Pkg) → packages ≡ packages_of u.pairs → (atom : Atom) (places slice : List ℕ)
    → slice ≡ places → ((place : ℕ) → Contains places place ↔ IsMatchAt packages atom place)
    → All (λ place. place < length u.pairs) slice
within_pairs u packages are atom places slice is exact =
    subst (All (λ place. place < length u.pairs)) (sym is) (All-intro (λ place. place < length u.pairs) places within)
  where
    within : (place : ℕ) → Contains places place → place < length u.pairs
    within place listed =
        let (pkg, there, holds) = (exact place).0 listed in
        let here : slice_get (packages_of u.pairs) place ≡ Some pkg = ap (λ (ps : List Pkg). slice_get ps place) (sym are) ∙ there in
        let under : place < length (packages_of u.pairs) = slice_get_within (packages_of u.pairs) place pkg here in
        let same : length (packages_of u.pairs) ≡ length u.pairs = length-map u.pairs (λ (pair : Pair). pair.pkg) in
        omega (arith, under, same)

-- the literals of the places of all packages that match an atom, behind those before
pub by_matching : (u : Universe) (packages : List Pkg) → packages ≡ packages_of u.pairs → (atom : Atom) (places slice : List ℕ)
    → slice ≡ places → ((place : ℕ) → Contains places place ↔ IsMatchAt packages atom place) → (before after : List Literal)
    → after ≡ before ++ map (λ place. literal.Selected (place + 1)) slice
    → (disjunct : Literal) → Contains after disjunct ↔ (Contains before disjunct ⊎ Selects u (λ pkg. Matches pkg atom) disjunct)
by_matching u packages are atom places slice is exact before after behind disjunct =
    let Over : List Literal → Type 0 = λ ls. Contains ls disjunct ↔ (Contains before disjunct ⊎ Selects u P disjunct) in
    subst Over (sym (behind ∙ ap (λ (ps : List ℕ). before ++ map selected ps) is)) (to, from)
  where
    P : Pkg → Type 0
    P pkg = Matches pkg atom

    selected : ℕ → Literal
    selected place = literal.Selected (place + 1)

    at : (place : ℕ) → IsMatchAt packages atom place → Selects u P (selected place)
    at place (pkg, there, holds) =
        let here : slice_get (packages_of u.pairs) place ≡ Some pkg = ap (λ (ps : List Pkg). slice_get ps place) (sym are) ∙ there in
        let has : PairHas u (suc place) P = (has_at u (suc place) pkg P here).0 holds in
        let N : ℕ → Type 0 = λ n. PairHas u n P in subst N (sym (add-one place)) has

    there : (f : Literal) → Selects u P f → Contains (map selected places) f
    there (literal.Selected zero) (pair, here, holds) = absurd (let e : None ≡ Some pair = here in cc)
    there (literal.Selected (suc place)) (pair, here, holds) =
        let lent : slice_get packages place ≡ Some pair.pkg = ap (λ (ps : List Pkg). slice_get ps place) are ∙ pkg_there u (suc place) pair here in
        let within : Contains places place = (exact place).1 (pair.pkg, lent, holds) in
        subst (Contains (map selected places)) (ap literal.Selected (add-one place)) (Contains-map_intro selected places place within)
    there (literal.Unselected number) has = absurd has

    to : Contains (before ++ map selected places) disjunct → Contains before disjunct ⊎ Selects u P disjunct
    to within = elim (Contains-append_cases before (map selected places) disjunct within) [
      | inl was ↦ inl was
      | inr here ↦ inr (let (place, known, same) = Contains-map selected places disjunct here in subst (Selects u P) same (at place ((exact place).0 known)))
    ]

    from : Contains before disjunct ⊎ Selects u P disjunct → Contains (before ++ map selected places) disjunct
    from (inl was) = Contains-append_left before (map selected places) disjunct was
    from (inr selects) = Contains-append_right before (map selected places) disjunct (there disjunct selects)
