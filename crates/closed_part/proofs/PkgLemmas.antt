-- The packages of a part are those that its pairs have in the universe, and what was present of a name that stands.
use Rattle.std.proofs.Common.{◌≡◌, ℕ, zero, suc, List, Option, Some, None, MatchOption, refl, sym, ap, ◌∙◌}
use Rattle.std.specs.Prelude.{IsTrue, ⊤}
use Rattle.std.specs.List.{AllZip}
use Rattle.std.specs.Option.{option_map, unwrap_or}
use Rattle.std.proofs.lemmas.List.Elements.{All-contains}
use Rattle.std.proofs.lemmas.Option.{same_Some}
use Rattle.rules.specs.ElementLaws.{Any-weaker}
use Rattle.rules.specs.Minimal.{Stood, WasPresent, pkg_at}
use Rattle.rules.specs.Package.{Pkg}
use Rattle.rules.specs.Universe.{Universe, Pair, Start}
use Rattle.rules.specs.Version.{SameVersion}
use Rattle.refutation.specs.Clause.{item_at}
use Rattle.closed_part.specs.Part.{StandingWerePresent}
use Rattle.closed_part.specs.Part.{number_in}
use Rattle.closed_part.proofs.PlaceLemmas.{left_item, right_item}

-- the pair of a package
pub pair_of : (u : Universe) (number : ℕ) (pkg : Pkg) → pkg_at u number ≡ Some pkg
    → (pair : Pair) × (item_at u.pairs number ≡ Some pair) × (pair.pkg ≡ pkg)
pair_of u zero pkg there = absurd (let e : None ≡ Some pkg = there in cc)
pair_of u (suc place) pkg there = at (item_at u.pairs (suc place)) there
  where
    at : (o : Option Pair) → option_map (λ (pair : Pair). pair.pkg) o ≡ Some pkg → (pair : Pair) × (o ≡ Some pair) × (pair.pkg ≡ pkg)
    at None is = absurd (let e : None ≡ Some pkg = is in cc)
    at (Some pair) is = (pair, refl, same_Some pair.pkg pkg is)

-- the package of a pair
pub pkg_of_pair : (u : Universe) (number : ℕ) (pair : Pair) → item_at u.pairs number ≡ Some pair → pkg_at u number ≡ Some pair.pkg
pkg_of_pair u zero pair there = absurd (let e : None ≡ Some pair = there in cc)
pkg_of_pair u (suc place) pair there = ap (option_map (λ (pair : Pair). pair.pkg)) there

-- the number that a place stands for
pub number_is : (numbers : List ℕ) (place number : ℕ) → item_at numbers place ≡ Some number → number_in numbers place ≡ number
number_is numbers place number there = ap (λ o. unwrap_or o 0) there

module _ (u part : Universe) (numbers : List ℕ)
    (zip : AllZip (λ number pair. item_at u.pairs number ≡ Some pair) numbers part.pairs) where
  -- a pair of the part is one of the universe
  pub raised_pair : (place : ℕ) (pair : Pair) → item_at part.pairs place ≡ Some pair
      → (number : ℕ) × (item_at numbers place ≡ Some number) × (item_at u.pairs number ≡ Some pair)
  raised_pair place pair there = right_item (λ number pair. item_at u.pairs number ≡ Some pair) numbers part.pairs zip place pair there

  -- a pair of the universe whose number has a place is one of the part
  pub lowered_pair : (place number : ℕ) (pair : Pair) → item_at numbers place ≡ Some number → item_at u.pairs number ≡ Some pair
      → item_at part.pairs place ≡ Some pair
  lowered_pair place number pair at there =
      let counterpart = left_item (λ number pair. item_at u.pairs number ≡ Some pair) numbers part.pairs zip place number at in
      counterpart.1 ∙ sym counterpart.2 ∙ there

  -- so it is of packages
  pub raised_pkg : (place : ℕ) (pkg : Pkg) → pkg_at part place ≡ Some pkg
      → (number : ℕ) × (item_at numbers place ≡ Some number) × (pkg_at u number ≡ Some pkg)
  raised_pkg place pkg there =
      let pair = pair_of part place pkg there in
      let counterpart = raised_pair place pair.0 pair.1 in
      (counterpart.0, counterpart.1, pkg_of_pair u counterpart.0 pair.0 counterpart.2 ∙ ap (λ p. Some p) pair.2)

  pub lowered_pkg : (place number : ℕ) (pkg : Pkg) → item_at numbers place ≡ Some number → pkg_at u number ≡ Some pkg
      → pkg_at part place ≡ Some pkg
  lowered_pkg place number pkg at there =
      let pair = pair_of u number pkg there in
      pkg_of_pair part place pair.0 (lowered_pair place number pair.0 at pair.1) ∙ ap (λ p. Some p) pair.2

-- what stands was present, where each name that stands was
pub present_of : {X : Type 0} (o : Option X) (P : X → Type 0) (Q : Type 0) → MatchOption o ⊤ (λ _. Q) → MatchOption o ⊥ P → Q
present_of None P Q holds is = absurd is
present_of (Some x) P Q holds is = holds

pub stood_present : (u : Universe) (pkg : Pkg) → StandingWerePresent u → Stood u pkg → WasPresent u pkg.name
unfolding Stood WasPresent
stood_present u pkg standing stood =
    Any-weaker (λ (start : Start). (start.name ≡ pkg.name) × MatchOption start.standing ⊥ (SameVersion pkg.version))
    (λ (start : Start). (start.name ≡ pkg.name) × IsTrue start.is_present) u.starts (λ start within of. (
      of.0,
      present_of start.standing (SameVersion pkg.version) (IsTrue start.is_present)
          (All-contains (λ (start : Start). MatchOption start.standing ⊤ (λ _. IsTrue start.is_present)) u.starts start standing within) of.1,
    )) stood
