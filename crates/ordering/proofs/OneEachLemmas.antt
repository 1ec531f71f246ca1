-- Of an acceptable selection no two packages are of one name.
use Rattle.std.proofs.Common.{◌≡◌, ◌≢◌, ℕ, zero, suc, ◌<◌, true, false, List, [], ◌∷◌, Option, Some, None, refl, sym, ap, subst, ◌∙◌, arith}
use Rattle.std.specs.Prelude.{slice_get, ◌==◌, Bool, ◌⊎◌, IsTrue}
use Rattle.std.specs.List.{AllPairs, Contains, cons_option, filter_map, list_any}
use Rattle.std.specs.Option.{option_map}
use Rattle.std.proofs.lemmas.List.Elements.{All-contains}
use Rattle.std.proofs.lemmas.List.Kept.{AllPairs-cons}
use Rattle.std.proofs.lemmas.Option.{same_Some}
use Rattle.refutation.specs.Clause.{IsTrueOf, item_at}
use Rattle.refutation.specs.Laws.{HasAscendingPairs, PremisesAreTrue}
use Rattle.refutation.specs.Premise.{IsInPremise}
use Rattle.refutation.specs.declared.line.Premise.TheVariants as premise
use Rattle.refutation.specs.declared.literal.Literal.{Literal}
use Rattle.refutation.specs.declared.literal.Literal.TheVariants as literal
use Rattle.rules.specs.ElementLaws.{All-intro, Contains-cons, Contains-head, Contains-nil, Contains-rest, list_any-from_contains}
use Rattle.plain.specs.Counted.{IsCounted}
use Rattle.rules.specs.Database.{Record}
use Rattle.rules.specs.Minimal.{pkg_at}
use Rattle.rules.specs.Package.{Pkg}
use Rattle.rules.specs.Sound.{IsAcceptable}
use Rattle.rules.specs.Universe.{Pair, Universe}
use Rattle.rules.proofs.Rising.{pairs_head, pairs_tail}
use Rattle.refutation.specs.Selection.{selects}
use Rattle.forward_steps.specs.Selection.{IsOneEach, chosen}
use Rattle.ordering.specs.Ordering.{AreAscending}
use mathlib.Core.Logic.{inl, inr}

-- what is left by a filter that changes comes from an element
Contains-filter_map : {X Y : Type 0} (h : X → Option Y) (xs : List X) (y : Y) → Contains (filter_map h xs) y
    → (x : X) × Contains xs x × (h x ≡ Some y)
Contains-filter_map h [] y within = absurd (Contains-nil y within)
Contains-filter_map {X} {Y} h (x ∷ xs) y within = at (h x) refl within (Contains-filter_map h xs y)
  where
    later : ((z : X) × Contains xs z × (h z ≡ Some y)) → (z : X) × Contains (x ∷ xs) z × (h z ≡ Some y)
    later there = (there.0, Contains-rest x xs there.0 there.1, there.2)

    at : (o : Option Y) → h x ≡ o → Contains (cons_option o (filter_map h xs)) y
        → (Contains (filter_map h xs) y → (z : X) × Contains xs z × (h z ≡ Some y))
        → (z : X) × Contains (x ∷ xs) z × (h z ≡ Some y)
    at None is whole rest = later (rest whole)
    at (Some w) is whole rest = elim (Contains-cons w (filter_map h xs) y whole) [
      | inl same ↦ (x, Contains-head x xs, is ∙ ap Some same)
      | inr there ↦ later (rest there)
    ]

-- a number with a package is that of a pair with it
pair_of : (u : Universe) (number : ℕ) (pkg : Pkg) → pkg_at u number ≡ Some pkg
    → (pair : Pair) × (item_at u.pairs number ≡ Some pair) × (pair.pkg ≡ pkg)
pair_of u zero pkg is = absurd (let e : None ≡ Some pkg = is in cc)
pair_of u (suc place) pkg is = at (slice_get u.pairs place) refl is
  where
    at : (o : Option Pair) → slice_get u.pairs place ≡ o → option_map (λ (pair : Pair). pair.pkg) o ≡ Some pkg
        → (pair : Pair) × (slice_get u.pairs place ≡ Some pair) × (pair.pkg ≡ pkg)
    at None there is = absurd (let e : None ≡ Some pkg = is in cc)
    at (Some pair) there is = (pair, there, same_Some pair.pkg pkg is)

same_number : (n : ℕ) → (n == n) ≡ true
same_number n = grind arith

-- a number of the list is selected
selects_it : (numbers : List ℕ) (number : ℕ) → Contains numbers number → IsTrue (selects numbers number)
selects_it numbers number within = list_any-from_contains (λ (one : ℕ). one == number) numbers number within (same_number number)

-- two numbers of an acceptable selection have pairs of different names
apart_in : PremisesAreTrue → (u : Universe) (numbers : List ℕ) (number other : ℕ) (pkg later : Pkg) → HasAscendingPairs u
    → IsAcceptable u (selects numbers) → number < other → IsTrue (selects numbers number) → IsTrue (selects numbers other)
    → pkg_at u number ≡ Some pkg → pkg_at u other ≡ Some later → pkg.name ≢ later.name
apart_in premises u numbers number other pkg later ascending acceptable before one two is is' same =
    let (pair, there, of) = pair_of u number pkg is in
    let (pair', there', of') = pair_of u other later is' in
    let named : pair'.pkg.name ≡ pair.pkg.name = ap (λ (p : Pkg). p.name) of' ∙ sym same ∙ sym (ap (λ (p : Pkg). p.name) of) in
    let (item, within, holds) = premises u (selects numbers) ascending acceptable (premise.Same number other)
    (before, (pair, there, (pair', there', named))) in
    at item within holds
  where
    out : (n : ℕ) (item : Literal) → item ≡ literal.Unselected n → IsTrue (selects numbers n)
        → IsTrueOf (selects numbers) item → ⊥
    out n item is so holds =
        let P : Literal → Type 0 = λ l. IsTrueOf (selects numbers) l in
        let no : selects numbers n ≡ false = subst P is holds in
        let yes : selects numbers n ≡ true = so in
        let e : true ≡ false = sym yes ∙ no in absurd cc

    at : (item : Literal) → IsInPremise u (premise.Same number other) item
        → IsTrueOf (selects numbers) item → ⊥
    at item (inl first) holds = out number item first one holds
    at item (inr second) holds = out other item second two holds

-- the same of a part of the numbers
one_each_of : PremisesAreTrue → (u : Universe) (numbers some : List ℕ) → HasAscendingPairs u → IsAcceptable u (selects numbers)
    → AllPairs (λ earlier later. earlier < later) some → ((number : ℕ) → Contains some number → IsTrue (selects numbers number))
    → AllPairs (λ (earlier later : Pkg). earlier.name ≢ later.name) (chosen u some)
one_each_of premises u numbers [] ascending acceptable apart all = λ i j d before within. absurd (omega arith)
one_each_of premises u numbers (number ∷ some) ascending acceptable apart all =
    at (pkg_at u number) refl (one_each_of premises u numbers some ascending acceptable
    (pairs_tail (λ (one other : ℕ). one < other) number some apart) (λ n within. all n (Contains-rest number some n within)))
  where
    at : (maybe_pkg : Option Pkg) → pkg_at u number ≡ maybe_pkg → AllPairs (λ (earlier later : Pkg). earlier.name ≢ later.name) (chosen u some)
        → AllPairs (λ (earlier later : Pkg). earlier.name ≢ later.name) (cons_option maybe_pkg (chosen u some))
    at None is rest = rest
    at (Some pkg) is rest = AllPairs-cons (λ (earlier later : Pkg). earlier.name ≢ later.name) pkg (chosen u some)
        (All-intro (λ (later : Pkg). pkg.name ≢ later.name) (chosen u some) (λ later within.
        let (other, there, of) = Contains-filter_map (pkg_at u) some later within in
        apart_in premises u numbers number other pkg later ascending acceptable
        (All-contains (λ (n : ℕ). number < n) some other (pairs_head (λ (one other : ℕ). one < other) number some apart) there)
        (all number (Contains-head number some)) (all other (Contains-rest number some other there)) is of))
        rest

-- of an acceptable selection, as ascending numbers, no two packages are of one name
pub acceptable_is_one_each : PremisesAreTrue → (u : Universe) (numbers : List ℕ) → HasAscendingPairs u
    → AreAscending numbers → IsAcceptable u (selects numbers) → IsOneEach (chosen u numbers)
unfolding IsOneEach
acceptable_is_one_each premises u numbers ascending apart acceptable =
    one_each_of premises u numbers numbers ascending acceptable apart (λ number within. selects_it numbers number within)

-- the pairs of a universe that is counted ascend
pub ascending_where_counted : (u : Universe) (start : List Record) → IsCounted start u → HasAscendingPairs u
unfolding HasAscendingPairs
ascending_where_counted u start counted = counted.ascending
