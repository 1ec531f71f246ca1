-- The pairs and the candidate of one name, and those of the names so far (this project's own, after apt-get(8)).
use Rattle.std.specs.Prelude.{◌≡◌, ◌⊎◌, ℕ, ℤ, Bool, false, List, map, ◌++◌, ◌&&◌, ◌||◌, Option, Some, None, if◌then◌else◌}
use Rattle.std.specs.List.{Any, Contains, filter, filter_map, list_any}
use Rattle.std.specs.List.Sorted.{IsStrictlySortedBy}
use Rattle.std.specs.Option.{option_map_or}
use Rattle.candidates.specs.Inputs.{inputs_of}
use Rattle.candidates.specs.Names.{AreNames, IsAmong, IsBefore, NameTable, OfName, part_of}
use Rattle.candidates.specs.Offer.{Offer}
use Rattle.candidates.specs.Recorded as Recorded
use Rattle.candidates.specs.Stanza.{stanza_of}
use Rattle.pins.specs.Prefs.{Preferences}
use Rattle.rules.specs.Available.{Index, Inputs, Request, counting_package, index_package, same_version}
use Rattle.rules.specs.Database.{HasDistinctNames, Record, pkg_of, stands}
use Rattle.rules.specs.Priority.{IsCandidate}
use Rattle.rules.specs.Step.{IndexPackage}
use Rattle.rules.specs.Universe.{Candidate, IsAdmitted, IsKeptCandidate, IsOf, Pair, candidate_cmp, pair_cmp}
use Rattle.rules.specs.Version.{SameVersion}
use Rattle.universe_build.specs.Choice.{AreExacts, Exact, exacts_of, is_asked}

-- the stanza of what stands, if there is one
abbrev pub standing_stanza : List IndexPackage → Record → Option IndexPackage
standing_stanza listed entry = if stands entry then stanza_of listed entry.name entry.version else None

-- the pair of the record, if it stands: its package, and the stanza of its version
abbrev pub standing_pair : List IndexPackage → Record → Option Pair
standing_pair listed entry =
    if stands entry then Some (record { pkg = pkg_of entry; listed = standing_stanza listed entry }) else None

-- the pairs of what stands
abbrev pub standing_pairs : List IndexPackage → List Record → List Pair
standing_pairs listed db = filter_map (standing_pair listed) db

-- the pair of a stanza that counts alone
abbrev pub listed_pair : IndexPackage → Pair
listed_pair stanza = record { pkg = stanza.pkg; listed = Some stanza }

-- the stanza is free to be chosen: its version doesn't stand, and its name isn't held
abbrev pub is_free : List Record → IndexPackage → Bool
is_free db stanza = Recorded.is_free db stanza.pkg.name stanza.pkg.version

-- the offer is of the version of the stanza
abbrev pub is_version_of : IndexPackage → Offer → Bool
is_version_of stanza offer = same_version offer.version stanza.pkg.version

-- the stanza is of the candidate's version, of one of these versions, or of one that is asked for
abbrev pub is_wanted : Option Offer → List Offer → List Exact → IndexPackage → Bool
is_wanted candidate versions asked stanza = option_map_or (is_version_of stanza) candidate false
    || (list_any (is_version_of stanza) versions || is_asked asked stanza)

-- the stanza is free and wanted
abbrev pub is_chosen : List Record → Option Offer → List Offer → List Exact → IndexPackage → Bool
is_chosen known candidate versions asked stanza = is_free known stanza && is_wanted candidate versions asked stanza

-- the pairs of the stanzas that are chosen
abbrev pub listed_pairs : List Record → List IndexPackage → Option Offer → List Offer → List Exact → List Pair
listed_pairs known ordered candidate versions asked =
    map listed_pair (filter (is_chosen known candidate versions asked) ordered)

-- the pairs of one name: that of what stands, and those of the stanzas that are chosen
abbrev pub chosen_pairs : OfName → Option Offer → List Offer → List Exact → List Pair
chosen_pairs own candidate versions asked =
    standing_pairs own.ordered own.known ++ listed_pairs own.known own.ordered candidate versions asked

-- the pairs in their order, and of those of one version of a name one alone
pub record ArePairs (pairs ordered : List Pair) : Type 0 where
  pub ascending : IsStrictlySortedBy pair_cmp ordered
  pub drawn : (pair : Pair) → Contains ordered pair → Contains pairs pair
  pub covered : (pair : Pair) → Contains pairs pair → Any (λ other. IsOf pair.pkg.name pair.pkg.version other.pkg) ordered

-- the pair is of an admitted version, with the package that counts and the stanza of the indices
pub record IsPair (inputs : Inputs) (pair : Pair) : Type 0 where
  pub admitted : (name version : List ℕ) → IsOf name version pair.pkg → IsAdmitted inputs name version
  pub counting : counting_package inputs pair.pkg.name pair.pkg.version ≡ Some pair.pkg
  pub listed : index_package inputs.indices pair.pkg.name pair.pkg.version ≡ pair.listed

-- there is a pair of the version of the name
abbrev pub HasPair : List ℕ → List ℕ → List Pair → Type 0
HasPair name version pairs = Any (λ pair. IsOf name version pair.pkg) pairs

-- there is a candidate of this version of the name
abbrev pub HasCandidate : List ℕ → List ℕ → List Candidate → Type 0
HasCandidate name version candidates = Any (λ candidate. (candidate.name ≡ name) × SameVersion candidate.version version) candidates

-- the pairs and the candidates are each in their order
pub record AreAscending (pairs : List Pair) (candidates : List Candidate) : Type 0 where
  pub of_pairs : IsStrictlySortedBy pair_cmp pairs
  pub of_candidates : IsStrictlySortedBy candidate_cmp candidates

-- the pairs and the candidates are of the name
pub record AreNamed (name : List ℕ) (pairs : List Pair) (candidates : List Candidate) : Type 0 where
  pub pairs_are : (pair : Pair) → Contains pairs pair → pair.pkg.name ≡ name
  pub candidates_are : (candidate : Candidate) → Contains candidates candidate → candidate.name ≡ name

-- the pairs and the candidates are of names before all that are left
pub record AreBefore (left : NameTable) (pairs : List Pair) (candidates : List Candidate) : Type 0 where
  pub pairs_are : (pair : Pair) → Contains pairs pair → IsBefore pair.pkg.name left
  pub candidates_are : (candidate : Candidate) → Contains candidates candidate → IsBefore candidate.name left

-- the pairs are of admitted versions, and the candidates are those of their names
pub record AreDrawn (inputs : Inputs) (pairs : List Pair) (candidates : List Candidate) : Type 0 where
  pub pairs_are : (pair : Pair) → Contains pairs pair → IsPair inputs pair
  pub candidates_are : (candidate : Candidate) → Contains candidates candidate → IsKeptCandidate inputs candidate

-- the pairs and the candidates are those of the name
pub record AreOfName (inputs : Inputs) (name : List ℕ) (pairs : List Pair) (candidates : List Candidate) : Type 0 where
  pub drawn : AreDrawn inputs pairs candidates
  pub pairs_covered : (version : List ℕ) → IsAdmitted inputs name version → HasPair name version pairs
  pub candidates_covered : (version : List ℕ) (priority : ℤ) → IsCandidate inputs name version priority → HasCandidate name version candidates

-- the pairs and the candidates are those of all names but these
pub record AreBehind (inputs : Inputs) (left : NameTable) (pairs : List Pair) (candidates : List Candidate) : Type 0 where
  pub drawn : AreDrawn inputs pairs candidates
  pub pairs_covered : (name version : List ℕ) → IsAdmitted inputs name version → IsAmong name left ⊎ HasPair name version pairs
  pub candidates_covered : (name version : List ℕ) (priority : ℤ) → IsCandidate inputs name version priority
      → IsAmong name left ⊎ HasCandidate name version candidates

-- the pairs and the candidates are those of all names
pub record AreAdmitted (inputs : Inputs) (pairs : List Pair) (candidates : List Candidate) : Type 0 where
  pub drawn : AreDrawn inputs pairs candidates
  pub pairs_covered : (name version : List ℕ) → IsAdmitted inputs name version → HasPair name version pairs
  pub candidates_covered : (name version : List ℕ) (priority : ℤ) → IsCandidate inputs name version priority
      → HasCandidate name version candidates

-- a start, indices and a request
pub record Given : Type 0 where
  pub start : List Record
  pub indices : List Index
  pub request : Request

-- what is given, with preferences
abbrev pub given_inputs : Given → Preferences → Inputs
given_inputs given prefs = inputs_of given.start given.indices prefs given.request

-- the names are those of the start and the indices, and what is asked for is what the request asks for
pub record AreGiven (given : Given) (names : NameTable) (asked : List Exact) (all : Bool) : Type 0 where
  pub distinct : HasDistinctNames given.start
  pub names_are : AreNames given.start given.indices names
  pub asked_is : AreExacts (exacts_of given.request.goals) asked
  pub all_is : given.request.asks_all_versions ≡ all

-- what there is of one of the names, and the same
pub record IsGiven (given : Given) (own : OfName) (asked : List Exact) (all : Bool) : Type 0 where
  pub names : NameTable
  pub of : AreGiven given names asked all
  pub among : IsAmong own.name names
  pub own_is : own ≡ part_of names own.name

-- the records and the stanzas are of the name
pub record IsOfName (own : OfName) : Type 0 where
  pub records : (item : Record) → Contains own.known item → item.name ≡ own.name
  pub stanzas : (item : IndexPackage) → Contains own.ordered item → item.pkg.name ≡ own.name
