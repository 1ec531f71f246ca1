-- Members of different names, and those of a list of numbers.
use Rattle.std.proofs.Common.{◌≡◌, ◌≢◌, ℕ, zero, suc, false, List, [], ◌∷◌, Option, Some, None, map, refl, sym, ap, bytes_eq, arith}
use Rattle.std.specs.List.{All, AllByRecursion, filter_map, cons_option, slice_get}
use Rattle.std.specs.Option.{option_map}
use Rattle.std.proofs.lemmas.List.Elements.{All-head, All-map, All-tail}
use Rattle.std.proofs.lemmas.List.Kept.{AllPairs-cons}
use Rattle.index.proofs.NameTable.{AreApart, names_in, unequal}
use Rattle.rules.specs.Minimal.{pkg_at}
use Rattle.rules.specs.Package.{Pkg}
use Rattle.rules.specs.Universe.{Pair, Universe}
use Rattle.rules.proofs.Rising.{pairs_head, pairs_tail}
use Rattle.universe_parts.specs.Parts.{packages_of}
use Rattle.forward_steps.specs.Selection.{IsOneEach, bare, chosen, member_at, with_stanza}

-- the name of a member
abbrev pub name_of : Pair → List ℕ
name_of member = member.pkg.name

abbrev AreOfTwo : Pkg → Pkg → Type 0
AreOfTwo earlier later = earlier.name ≢ later.name

later_apart : (member : Pair) (members : List Pair) → All (AreOfTwo member.pkg) (packages_of members)
    → AllByRecursion (λ later. bytes_eq later member.pkg.name ≡ false) (names_in name_of members)
later_apart member [] apart = tt
later_apart member (later ∷ members) apart = (
  unequal later.pkg.name member.pkg.name (λ same. All-head (AreOfTwo member.pkg) later.pkg (packages_of members) apart (sym same)),
  later_apart member members (All-tail (AreOfTwo member.pkg) later.pkg (packages_of members) apart),
)

pub apart_names : (members : List Pair) → IsOneEach (packages_of members) → AreApart (names_in name_of members)
unfolding IsOneEach
apart_names [] each = tt
apart_names (member ∷ members) each = (
  later_apart member members (pairs_head AreOfTwo member.pkg (packages_of members) each),
  apart_names members (pairs_tail AreOfTwo member.pkg (packages_of members) each),
)

-- the packages of the members of these numbers are those that are chosen, without relations
pub chosen_members : (u : Universe) (numbers : List ℕ) → packages_of (filter_map (member_at u) numbers) ≡ map bare (chosen u numbers)
chosen_members u [] = refl
chosen_members u (number ∷ numbers) = at number (chosen_members u numbers)
  where
    by : (maybe_pair : Option Pair) → packages_of (filter_map (member_at u) numbers) ≡ map bare (chosen u numbers)
        → packages_of (cons_option (option_map (with_stanza u) maybe_pair) (filter_map (member_at u) numbers))
        ≡ map bare (cons_option (option_map (λ (pair : Pair). pair.pkg) maybe_pair) (chosen u numbers))
    by None rest = rest
    by (Some pair) rest = ap (λ (pkgs : List Pkg). bare pair.pkg ∷ pkgs) rest

    at : (n : ℕ) → packages_of (filter_map (member_at u) numbers) ≡ map bare (chosen u numbers)
        → packages_of (cons_option (member_at u n) (filter_map (member_at u) numbers)) ≡ map bare (cons_option (pkg_at u n) (chosen u numbers))
    at zero rest = rest
    at (suc place) rest = by (slice_get u.pairs place) rest

-- packages of different names are so without their relations
pub bare_one_each : (selected : List Pkg) → IsOneEach selected → IsOneEach (map bare selected)
unfolding IsOneEach
bare_one_each [] each = λ i j d before within. absurd (omega arith)
bare_one_each (pkg ∷ selected) each = AllPairs-cons AreOfTwo (bare pkg) (map bare selected)
    (All-map (AreOfTwo (bare pkg)) bare selected (pairs_head AreOfTwo pkg selected each))
    (bare_one_each selected (pairs_tail AreOfTwo pkg selected each))
