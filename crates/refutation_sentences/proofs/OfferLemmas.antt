-- The numbers of the pairs that have or provide a name, by their places.
use Rattle.std.proofs.Common.{◌≡◌, ℕ, zero, suc, ◌+◌, ◌<◌, ◌⊎◌, List, [], ◌∷◌, ◌++◌, Option, Some, None, length, take, get_or, refl, sym, ap, subst, ◌∙◌, add-one}
use Rattle.std.specs.Prelude.{◌↔◌, slice_get}
use Rattle.std.specs.List.{Any, Contains}
use Rattle.std.specs.Option.{option_map}
use Rattle.std.proofs.lemmas.List.{take_more}
use Rattle.std.proofs.lemmas.Option.{same_Some, slice_get-map}
use Rattle.index.specs.Providers.{IsProviderAt, plain_atom}
use Rattle.refutation.specs.Premise.{PairHas}
use Rattle.refutation_sentences.specs.Offers.{AreNumbersOf, IsBy, IsNumberAt}
use Rattle.refutation_sentences.specs.declared.offers.By.{By}
use Rattle.refutation_sentences.specs.declared.offers.By.TheVariants as by
use Rattle.rules.specs.ElementLaws.{Any-append, Any-append_left, Any-append_right, Any-elim, Any-intro, Contains-cons, Contains-head, Contains-nil}
use Rattle.rules.specs.Package.{FitsByName, Matches, Pkg}
use Rattle.rules.specs.Universe.{Pair, Universe}
use Rattle.universe_parts.specs.Parts.{packages_of}
use mathlib.Core.Logic.{inl, inr}

-- what has or provides the name matches it without a restriction
pub by_matches : (way : By) (name : List ℕ) (pkg : Pkg) → IsBy way name pkg → Matches pkg (plain_atom name)
unfolding Matches FitsByName
by_matches by.Name name pkg is = (refl, inl (is, tt))
by_matches by.Provides name pkg is = (refl, inr is)

-- what a mapped value comes from
mapped_from : {X Y : Type 0} (f : X → Y) (o : Option X) (y : Y) → option_map f o ≡ Some y → (x : X) × (o ≡ Some x) × (f x ≡ y)
mapped_from f None y is = absurd (let e : None ≡ Some y = is in cc)
mapped_from f (Some x) y is = (x, refl, same_Some (f x) y is)

-- the pair of the next number has what the package at a place has
has_next : (u : Universe) (place : ℕ) (pkg : Pkg) (P : Pkg → Type 0) → slice_get (packages_of u.pairs) place ≡ Some pkg → P pkg
    → PairHas u (suc place) P
has_next u place pkg P is holds =
    let first : Pair → Pkg = λ pair. pair.pkg in
    let origin = mapped_from first (slice_get u.pairs place) pkg (sym (slice_get-map first u.pairs place) ∙ is) in
    (origin.0, origin.1, subst P (sym origin.2) holds)

-- one place more: the numbers with that of the pair at it
pub place_more : (packages : List Pkg) (P : Pkg → Type 0) (places : List ℕ) (index : ℕ) → index < length places
    → (before middle after : ℕ → Type 0)
    → ((number : ℕ) → middle number ↔ (before number ⊎ Any (λ place. IsNumberAt packages P place number) (take index places)))
    → ((number : ℕ) → after number ↔ (middle number ⊎ IsNumberAt packages P (get_or places index 0) number))
    → (number : ℕ) → after number ↔ (before number ⊎ Any (λ place. IsNumberAt packages P place number) (take (index + 1) places))
place_more packages P places index within before middle after so_far adds number =
    let Step : List ℕ → Type 0 = λ done. after number ↔ (before number ⊎ Any (λ place. IsNumberAt packages P place number) done) in
    subst Step (sym (take_more places index 0 within)) (to, from)
  where
    last : ℕ
    last = get_or places index 0

    At : ℕ → Type 0
    At place = IsNumberAt packages P place number

    to : after number → before number ⊎ Any At (take index places ++ last ∷ [])
    to now = elim ((adds number).0 now) [
      | inl earlier ↦ elim ((so_far number).0 earlier) [
        | inl was ↦ inl was
        | inr some ↦ inr (Any-append_left At (take index places) (last ∷ []) some)
      ]
      | inr here ↦ inr (Any-append_right At (take index places) (last ∷ []) (Any-intro At (last ∷ []) last (Contains-head last []) here))
    ]

    only : Any At (last ∷ []) → At last
    only there = Any-elim At (last ∷ []) (At last)
        (λ place within holds. elim (Contains-cons last [] place within) [
          | inl same ↦ subst At (sym same) holds
          | inr none ↦ absurd (Contains-nil place none)
        ]) there

    from : before number ⊎ Any At (take index places ++ last ∷ []) → after number
    from (inl was) = (adds number).1 (inl ((so_far number).1 (inl was)))
    from (inr some) = elim (Any-append At (take index places) (last ∷ []) some) [
      | inl earlier ↦ (adds number).1 (inl ((so_far number).1 (inr earlier)))
      | inr here ↦ (adds number).1 (inr (only here))
    ]

-- the numbers at the places of all providers of a name are those of the pairs with a property that has or provides the name
at_places : (u : Universe) (name places : List ℕ) (P : Pkg → Type 0)
    → ((place : ℕ) → Contains places place ↔ IsProviderAt name (packages_of u.pairs) place)
    → ((pkg : Pkg) → P pkg → Matches pkg (plain_atom name))
    → (number : ℕ) → Any (λ place. IsNumberAt (packages_of u.pairs) P place number) places ↔ PairHas u number P
at_places u name places P exact named number = (to, from number)
  where
    to : Any (λ place. IsNumberAt (packages_of u.pairs) P place number) places → PairHas u number P
    to some = Any-elim (λ place. IsNumberAt (packages_of u.pairs) P place number) places (PairHas u number P)
        (λ place within (is, (pkg, there, holds)).
        let has : PairHas u (suc place) P = has_next u place pkg P there holds in
        let N : ℕ → Type 0 = λ n. PairHas u n P in subst N (sym (is ∙ add-one place)) has) some

    from : (n : ℕ) → PairHas u n P → Any (λ place. IsNumberAt (packages_of u.pairs) P place n) places
    from zero (pair, there, holds) = absurd (let e : None ≡ Some pair = there in cc)
    from (suc place) (pair, there, holds) =
        let first : Pair → Pkg = λ p. p.pkg in
        let lent : slice_get (packages_of u.pairs) place ≡ Some pair.pkg = slice_get-map first u.pairs place ∙ ap (option_map first) there in
        let within : Contains places place = (exact place).1 (pair.pkg, lent, named pair.pkg holds) in
        Any-intro (λ p. IsNumberAt (packages_of u.pairs) P p (suc place)) places place within (sym (add-one place), (pair.pkg, lent, holds))

-- of no numbers before, those at the places of all that have or provide the name
pub by_places : (u : Universe) (packages : List Pkg) → packages ≡ packages_of u.pairs → (name places slice : List ℕ) → slice ≡ places
    → (P : Pkg → Type 0) → ((place : ℕ) → Contains places place ↔ IsProviderAt name packages place)
    → ((pkg : Pkg) → P pkg → Matches pkg (plain_atom name)) → (before after : List ℕ) → before ≡ []
    → ((number : ℕ) → Contains after number
    ↔ (Contains before number ⊎ Any (λ place. IsNumberAt (packages_of u.pairs) P place number) slice))
    → AreNumbersOf u P after
by_places u packages are name places slice is P matching named before after none adds number =
    let Exact : List Pkg → Type 0 = λ ps. (place : ℕ) → Contains places place ↔ IsProviderAt name ps place in
    let Adds : List ℕ → Type 0 = λ ps.
    Contains after number ↔ (Contains before number ⊎ Any (λ place. IsNumberAt (packages_of u.pairs) P place number) ps) in
    let all = at_places u name places P (subst Exact are matching) named number in
    let here : Adds places = subst Adds is (adds number) in (
      λ now. elim (here.0 now) [
        | inl was ↦ absurd (Contains-nil number (subst (λ (ns : List ℕ). Contains ns number) none was))
        | inr some ↦ all.0 some
      ],
      λ has. here.1 (inr (all.1 has)),
    )
