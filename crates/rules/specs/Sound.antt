-- Sets of packages that fit together and fulfil a request (Policy 7.2 to 7.4; the goals after apt-get(8)).
-- A set is a list of packages of which two of one name are of one version.
use Rattle.std.specs.Prelude.{◌≡◌, ◌≢◌, ℕ, ◌+◌, Bool, false, List, [], ◌∷◌, cond, Some, MatchOption, IsTrue}
use Rattle.std.specs.List.{Any, All}
use Rattle.std.specs.declared.cmp.Ordering.TheVariants.{Less}
use Rattle.rules.specs.Package.{Pkg, Atom, Meets, MatchesSome, MeetsClause}
use Rattle.rules.specs.Universe.{Universe, Pair, Start, IsOf, candidate_of}
use Rattle.rules.specs.Version.{version_cmp, SameVersion}
use Rattle.rules.specs.declared.goal.Goal.{Goal}
use Rattle.rules.specs.declared.goal.Goal.TheVariants as goal

-- a member has this name
unfoldable pub HasMember : List ℕ → List Pkg → Type 0
HasMember name members = Any (λ member. member.name ≡ name) members

-- a member has this name and version
unfoldable pub HasVersion : List ℕ → List ℕ → List Pkg → Type 0
HasVersion name version members = Any (IsOf name version) members

-- each clause of the list is met by the members
unfoldable pub MeetsClauses : List Pkg → List (List Atom) → Type 0
MeetsClauses members clauses = All (MeetsClause members) clauses

-- no member of another name matches an atom of the list
unfoldable pub MatchedByNoOther : List Pkg → List ℕ → List Atom → Type 0
MatchedByNoOther members name atoms = All (λ other. other.name ≢ name → ¬ MatchesSome other atoms) members

-- the member has what it needs among the members, and conflicts with and breaks none of another name
pub record HasItsRelations (members : List Pkg) (member : Pkg) : Type 0 where
  pub pre_depends : MeetsClauses members member.relations.pre_depends
  pub depends : MeetsClauses members member.relations.depends
  pub conflicts : MatchedByNoOther members member.name member.relations.conflicts
  pub breaks : MatchedByNoOther members member.name member.relations.breaks

-- sound: each member is content
unfoldable pub IsSound : List Pkg → Type 0
IsSound members = All (HasItsRelations members) members

-- the second package, if it has the name of the first, is of its version
unfoldable pub AgreesWith : Pkg → Pkg → Type 0
AgreesWith member other = other.name ≡ member.name → SameVersion member.version other.version

-- at most one version a name
unfoldable pub HasOneVersionEach : List Pkg → Type 0
HasOneVersionEach members = All (λ member. All (AgreesWith member) members) members

-- each member is an admitted pair
unfoldable pub IsAdmittedIn : Universe → List Pkg → Type 0
IsAdmittedIn u members = All (λ member. Any (λ pair. IsOf member.name member.version pair.pkg) u.pairs) members

-- the name, if it is unheld, stands in a version and has a higher candidate, has that candidate as a member
unfoldable pub IsUpgraded : Universe → List Pkg → Start → Type 0
IsUpgraded u members start = (start.is_held ≡ false) → (standing candidate : List ℕ) → start.standing ≡ Some standing
    → candidate_of u start.name ≡ Some candidate → version_cmp standing candidate ≡ Less
    → HasVersion start.name candidate members

-- the name, if it stands at the start, has a member
unfoldable pub IsKept : List Pkg → Start → Type 0
IsKept members start = MatchOption start.standing (Unit {0}) (λ _. HasMember start.name members)

-- the members fulfil the goal
abbrev pub Fulfils : Universe → List Pkg → Goal → Type 0
Fulfils u members (goal.Install name restriction) =
    Any (λ member. (member.name ≡ name) × Meets member.version restriction) members
Fulfils u members (goal.Remove name) = ¬ HasMember name members
Fulfils u members (goal.Purge name) = ¬ HasMember name members
Fulfils u members (goal.Upgrade name) =
    MatchOption (candidate_of u name) ⊥ (λ candidate. HasVersion name candidate members)
Fulfils u members goal.UpgradeAll = All (IsUpgraded u members) u.starts
Fulfils u members goal.NoRemove = All (IsKept members) u.starts

-- the members fulfil all goals
unfoldable pub FulfilsAll : Universe → List Pkg → Type 0
FulfilsAll u members = All (Fulfils u members) u.goals

-- the name, if it is held and stands at the start, keeps its version
unfoldable pub KeepsHold : List Pkg → Start → Type 0
KeepsHold members start = IsTrue start.is_held
    → MatchOption start.standing (Unit {0}) (λ version. HasVersion start.name version members)

-- the name, if it is essential and present at the start, has a member
unfoldable pub KeepsEssential : List Pkg → Start → Type 0
KeepsEssential members start = IsTrue start.is_essential → IsTrue start.is_present → HasMember start.name members

-- fitting: admitted, of one version a name, sound, fulfilling all goals, with all holds and all essential names kept
pub record IsFitting (u : Universe) (members : List Pkg) : Type 0 where
  pub admitted : IsAdmittedIn u members
  pub one_version : HasOneVersionEach members
  pub sound : IsSound members
  pub goals : FulfilsAll u members
  pub held : All (KeepsHold members) u.starts
  pub essential : All (KeepsEssential members) u.starts

-- the counting packages of the pairs whose numbers, counted from this one on, are selected
abbrev pub selected_from : ℕ → (ℕ → Bool) → List Pair → List Pkg
selected_from number selection [] = []
selected_from number selection (pair ∷ rest) = cond (selection number)
    (pair.pkg ∷ selected_from (number + 1) selection rest) (selected_from (number + 1) selection rest)

-- the counting packages of the selected pairs
unfoldable pub selected : Universe → (ℕ → Bool) → List Pkg
selected u selection = selected_from 1 selection u.pairs

-- acceptable: the packages of the selected pairs are fitting
unfoldable pub IsAcceptable : Universe → (ℕ → Bool) → Type 0
IsAcceptable u selection = IsFitting u (selected u selection)
