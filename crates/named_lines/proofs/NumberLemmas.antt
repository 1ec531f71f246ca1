-- The numbers of pairs.
use Rattle.std.proofs.Common.{◌≡◌, ℕ, zero, suc, Bool, ◌+◌, ◌<◌, ◌≤◌, List, length, Option, Some, None, get_or, refl, sym, ap, ◌∙◌, arith}
use Rattle.std.proofs.lemmas.Grind.{common_steps}
use Rattle.std.proofs.lemmas.Option.{slice_get-get_or, slice_get_within}
use Rattle.std.specs.List.{position, slice_get}
use Rattle.std.specs.List.Sorted.{IsStrictlySortedBy}
use Rattle.std.specs.Cmp.{Equal-is}
use Rattle.std.specs.Option.{option_map}
use Rattle.std.specs.declared.cmp.Ordering.TheVariants.{Equal}
use Rattle.rules.specs.Available.{is_of}
use Rattle.rules.specs.Package.{Pkg}
use Rattle.rules.specs.Universe.{Pair, pair_cmp}
use Rattle.universe_parts.specs.Pair.{pkg_order}
use Rattle.universe_parts.specs.PairLaws.{is_of-from, of_itself, pkg_order-ties}
use Rattle.universe_parts.specs.Parts.{number_among, numbered, place_among}
use Rattle.universe_parts.proofs.Numbering.{searched_place}

position_inside : {X : Type 0} (p : X → Bool) (xs : List X) (i : ℕ) → position p xs ≡ Some i → i < length xs
position_inside p xs i e = grind (arith, common_steps)

-- a number that is found is at most that of the pairs
pub number_within : (pairs : List Pair) (name version : List ℕ) (number : ℕ) → number_among pairs name version ≡ Some number → number ≤ length pairs
number_within pairs name version number h = go (place_among pairs name version) refl h where
  go : (place : Option ℕ) → place_among pairs name version ≡ place → option_map (λ index. index + 1) place ≡ Some number → number ≤ length pairs
  go None e g = cc
  go (Some index) e g =
      let same : index + 1 ≡ number = cc in
      let inside : index < length pairs = position_inside (λ (pair : Pair). is_of name version pair.pkg) pairs index e in
      omega arith

got_is : {X : Type 0} (xs : List X) (i : ℕ) (x : X) → slice_get xs i ≡ Some x → (d : X) → get_or xs i d ≡ x
got_is xs i x e d = let inside : i < length xs = slice_get_within xs i x e in let read = slice_get-get_or xs i d inside in cc

-- a pair with a number is found by its name and its version
pub number_again : (pairs : List Pair) (number : ℕ) (pair : Pair) → IsStrictlySortedBy pair_cmp pairs → numbered number pairs ≡ Some pair
    → number_among pairs pair.pkg.name pair.pkg.version ≡ Some number
number_again pairs zero pair ascending h = cc
number_again pairs (suc place) pair ascending h =
    let inside : place < length pairs = slice_get_within pairs place pair h in
    let ties : (d : Pair) → pkg_order (get_or pairs place d).pkg pair.pkg.name pair.pkg.version ≡ Equal = λ d. rw (got_is pairs place pair h d) (tied pair.pkg) in
    let one : place + 1 ≡ suc place = omega arith in
    ap (option_map (λ index. index + 1)) (sym (searched_place pairs pair.pkg.name pair.pkg.version place ascending inside ties))
    ∙ ap (λ n. Some n) one where
      tied : (pkg : Pkg) → pkg_order pkg pkg.name pkg.version ≡ Equal
      tied pkg = (Equal-is (pkg_order pkg pkg.name pkg.version)).0 (pkg_order-ties pkg.name pkg.version pkg ∙ is_of-from pkg.name pkg.version pkg (of_itself pkg))
