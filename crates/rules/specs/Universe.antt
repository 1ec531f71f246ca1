-- The versions that a request may choose from, and what it asks for (this project's own, after apt-get(8)).
use Rattle.std.specs.Prelude.{◌≡◌, ℕ, ℤ, Bool, List, map, ◌⊎◌, ◌↔◌, Option, Some, None, MatchOption, IsTrue, if◌then◌else◌, bytes_eq}
use Rattle.std.specs.List.{Any, All, AllPairs, find}
use Rattle.std.specs.Option.{option_map, option_and_then}
use Rattle.std.specs.Ordering.{then_cmp, on}
use Rattle.std.specs.declared.cmp.Ordering.{Ordering}
use Rattle.std.specs.declared.cmp.Ordering.TheVariants.{Less}
use Rattle.rules.specs.Available.{Inputs, IsAvailable, counting_package, index_package, is_of}
use Rattle.rules.specs.Database.{Record, Stands, IsHeld, HasRecord, stands}
use Rattle.rules.specs.State.{is_present_state, is_hold}
use Rattle.rules.specs.Name.{name_cmp}
use Rattle.rules.specs.Package.{Pkg}
use Rattle.rules.specs.Priority.{IsCandidate, IsEligible}
use Rattle.rules.specs.Step.{IndexPackage}
use Rattle.rules.specs.Version.{version_cmp, SameVersion}
use Rattle.rules.specs.declared.goal.Goal.{Goal}
use Rattle.rules.specs.declared.goal.Goal.TheVariants as goal
use Rattle.rules.specs.declared.op.Op.TheVariants.{ExactlyEqual}
use Rattle.rules.specs.declared.step.Step.{Step}
use Rattle.rules.specs.declared.step.Step.TheVariants as step

-- an admitted pair of a name and a version: its counting package, and its stanza in the indices, if any
pub record Pair : Type 0 where
  pub pkg : Pkg
  pub listed : Option IndexPackage

-- what the start says of a name
pub record Start : Type 0 where
  pub name : List ℕ
  pub is_present : Bool
  pub standing : Option (List ℕ)
  pub is_held : Bool
  pub is_essential : Bool

-- the candidate of a name
pub record Candidate : Type 0 where
  pub name : List ℕ
  pub version : List ℕ

-- what a plan and a refutation are judged by: the admitted pairs, numbered from 1, the goals, numbered
-- from 1, the facts of the start and the candidates
pub record Universe : Type 0 where
  pub pairs : List Pair
  pub goals : List Goal
  pub starts : List Start
  pub candidates : List Candidate

-- the facts of a record at the start
abbrev pub start_of : Record → Start
start_of entry = record {
  name = entry.name;
  is_present = is_present_state entry.state;
  standing = if stands entry then Some entry.version else None;
  is_held = is_hold entry.want;
  is_essential = entry.is_essential;
}

-- the facts of the start, in file order
abbrev pub starts_of : List Record → List Start
starts_of db = map start_of db

-- the package has the name and the version
abbrev pub IsOf : List ℕ → List ℕ → Pkg → Type 0
IsOf name version pkg = (pkg.name ≡ name) × SameVersion pkg.version version

-- the goal is to install just this version of the name
abbrev pub NamesExactly : List ℕ → List ℕ → Goal → Type 0
NamesExactly name version (goal.Install asked None) = ⊥
NamesExactly name version (goal.Install asked (Some restriction)) =
    (asked ≡ name) × (restriction.op ≡ ExactlyEqual) × SameVersion version restriction.version
NamesExactly name version (goal.Remove asked) = ⊥
NamesExactly name version (goal.Purge asked) = ⊥
NamesExactly name version (goal.Upgrade asked) = ⊥
NamesExactly name version goal.UpgradeAll = ⊥
NamesExactly name version goal.NoRemove = ⊥

-- the version is the one of the name that stands
unfoldable pub StandsAs : List Record → List ℕ → List ℕ → Type 0
StandsAs db name version = HasRecord (λ entry. Stands entry × SameVersion entry.version version) name db

-- the version is the candidate of the name, with some priority
abbrev pub IsACandidate : Inputs → List ℕ → List ℕ → Type 0
IsACandidate inputs name version = (priority : ℤ) × IsCandidate inputs name version priority

-- the version is available and asked for by an install goal with `=`
abbrev pub IsAskedFor : Inputs → List ℕ → List ℕ → Type 0
IsAskedFor inputs name version = IsAvailable inputs name version × Any (NamesExactly name version) inputs.request.goals

-- all versions are asked for, and the version may be chosen by itself
abbrev pub IsOneOfAll : Inputs → List ℕ → List ℕ → Type 0
IsOneOfAll inputs name version =
    IsTrue inputs.request.asks_all_versions × ((priority : ℤ) × IsEligible inputs name version priority)

-- offered: the candidate of the name, what an install goal asks for with `=`, and where all versions are asked for
-- each one that may be chosen
unfoldable pub IsOffered : Inputs → List ℕ → List ℕ → Type 0
IsOffered inputs name version =
    IsACandidate inputs name version ⊎ (IsAskedFor inputs name version ⊎ IsOneOfAll inputs name version)

-- admitted: the version that stands, and for a name that isn't held what is offered
unfoldable pub IsAdmitted : Inputs → List ℕ → List ℕ → Type 0
IsAdmitted inputs name version = StandsAs inputs.start name version
    ⊎ ((¬ HasRecord IsHeld name inputs.start) × IsOffered inputs name version)

-- the order of pairs: by name and then by version
abbrev pub pair_cmp : Pair → Pair → Ordering
pair_cmp = then_cmp (on (λ pair. pair.pkg.name) name_cmp) (on (λ pair. pair.pkg.version) version_cmp)

-- the text is that of the version's counting package
unfoldable pub IsKeptText : Inputs → List ℕ → List ℕ → Type 0
IsKeptText inputs name version = MatchOption (counting_package inputs name version) ⊥ (λ pkg. pkg.version ≡ version)

-- the candidate of its name, in the text of the counting package
unfoldable pub IsKeptCandidate : Inputs → Candidate → Type 0
IsKeptCandidate inputs candidate =
    IsACandidate inputs candidate.name candidate.version × IsKeptText inputs candidate.name candidate.version

-- the order of candidates: by name
abbrev pub candidate_cmp : Candidate → Candidate → Ordering
candidate_cmp = on (λ candidate. candidate.name) name_cmp

-- the fact is about the name, as a test
abbrev pub is_start_of : List ℕ → Start → Bool
is_start_of name start = bytes_eq start.name name

-- what the start says of the name, if it knows it
abbrev pub start_in : Universe → List ℕ → Option Start
start_in u name = find (is_start_of name) u.starts

-- the candidate's version, if the name has one
abbrev pub candidate_of : Universe → List ℕ → Option (List ℕ)
candidate_of u name =
    option_map (λ candidate. candidate.version) (find (λ candidate. bytes_eq candidate.name name) u.candidates)

-- the index package of this version of the name among the pairs, if there is one
abbrev pub listed_among : List Pair → List ℕ → List ℕ → Option IndexPackage
listed_among pairs name version =
    option_and_then (λ pair. pair.listed) (find (λ pair. is_of name version pair.pkg) pairs)

-- the index package of an admitted pair, if the pair is admitted and in an index
abbrev pub listed_of : Universe → List ℕ → List ℕ → Option IndexPackage
listed_of u name version = listed_among u.pairs name version

-- the stanza that a step unpacks
abbrev pub listed_for : Universe → Step → Option IndexPackage
listed_for u (step.Unpack name version) = listed_of u name version
listed_for u (step.Deconfigure name) = None
listed_for u (step.Configure names) = None
listed_for u (step.Remove name) = None
listed_for u (step.Purge name) = None

-- the universe of the inputs: its pairs are the admitted ones in their order, each with its counting package
-- and its index package, and its candidates are those of their names in their order, each in its kept text
pub record IsUniverse (inputs : Inputs) (u : Universe) : Type 0 where
  pub ascending : AllPairs (λ earlier later. pair_cmp earlier later ≡ Less) u.pairs
  pub admitted : (name version : List ℕ) → IsAdmitted inputs name version ↔ Any (λ pair. IsOf name version pair.pkg) u.pairs
  pub counting : All (λ pair. counting_package inputs pair.pkg.name pair.pkg.version ≡ Some pair.pkg) u.pairs
  pub listed : All (λ pair. index_package inputs.indices pair.pkg.name pair.pkg.version ≡ pair.listed) u.pairs
  pub goals : u.goals ≡ inputs.request.goals
  pub starts : u.starts ≡ starts_of inputs.start
  pub candidates : All (IsKeptCandidate inputs) u.candidates
  pub every_candidate : (name version : List ℕ) (priority : ℤ) → IsCandidate inputs name version priority
      → Any (λ candidate. (candidate.name ≡ name) × SameVersion candidate.version version) u.candidates
  pub candidates_ascending : AllPairs (λ earlier later. candidate_cmp earlier later ≡ Less) u.candidates
