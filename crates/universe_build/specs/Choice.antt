-- Which versions goals ask for with `=` (this project's own, after apt-get(8)).
use Rattle.std.specs.Prelude.{ℕ, Bool, false, true, List, [], ◌∷◌, Option, Some, None, if◌then◌else◌}
use Rattle.std.specs.List.{list_any, filter_map}
use Rattle.std.specs.List.Sorted.{IsPermutation, IsSorted}
use Rattle.std.specs.Ordering.{on, then_cmp}
use Rattle.std.specs.declared.cmp.Ordering.{Ordering}
use Rattle.rules.specs.Available.{is_of}
use Rattle.rules.specs.Name.{name_cmp}
use Rattle.rules.specs.Step.{IndexPackage}
use Rattle.rules.specs.Universe.{Candidate}
use Rattle.rules.specs.Version.{version_cmp}
use Rattle.rules.specs.declared.goal.Goal.{Goal}
use Rattle.rules.specs.declared.goal.Goal.TheVariants as goal
use Rattle.rules.specs.declared.goal.Restriction.{Restriction}
use Rattle.rules.specs.declared.op.Op.{Op}
use Rattle.rules.specs.declared.op.Op.TheVariants as op
use Rattle.candidates.specs.Offer.{Offer}

-- a version of a name that is asked for
pub record Exact : Type 0 where
  pub name : List ℕ
  pub version : List ℕ

-- the order of what is asked for: by name and then by version
abbrev pub exact_cmp : Exact → Exact → Ordering
exact_cmp = then_cmp (on (λ exact. exact.name) name_cmp) (on (λ exact. exact.version) version_cmp)

-- the version of a stanza, as it is asked for
abbrev pub exact_at : IndexPackage → Exact
exact_at stanza = record { name = stanza.pkg.name; version = stanza.pkg.version }

-- the operator is `=`
abbrev pub is_exactly : Op → Bool
is_exactly op.StrictlyEarlier = false
is_exactly op.EarlierOrEqual = false
is_exactly op.ExactlyEqual = true
is_exactly op.LaterOrEqual = false
is_exactly op.StrictlyLater = false

-- what a restriction of a name asks for with `=`, if it does
abbrev pub exact_by : List ℕ → Restriction → Option Exact
exact_by name restriction =
    if is_exactly restriction.op then Some (record { name = name; version = restriction.version }) else None

-- what the goal asks for with `=`, if it does
abbrev pub exact_of : Goal → Option Exact
exact_of (goal.Install name None) = None
exact_of (goal.Install name (Some restriction)) = exact_by name restriction
exact_of (goal.Remove name) = None
exact_of (goal.Purge name) = None
exact_of (goal.Upgrade name) = None
exact_of goal.UpgradeAll = None
exact_of goal.NoRemove = None

-- what the goals ask for with `=`
abbrev pub exacts_of : List Goal → List Exact
exacts_of goals = filter_map exact_of goals

-- what is asked for, in order
pub record AreExacts (asked exacts : List Exact) : Type 0 where
  pub ascending : IsSorted exact_cmp exacts
  pub same : IsPermutation asked exacts

-- the stanza is of a version that is asked for
abbrev pub is_asked : List Exact → IndexPackage → Bool
is_asked exacts stanza = list_any (λ exact. is_of exact.name exact.version stanza.pkg) exacts

-- the candidate of the name that the offer is, if there is one
abbrev pub candidates_at : List ℕ → Option Offer → List Candidate
candidates_at name None = []
candidates_at name (Some offer) = record { name = name; version = offer.version } ∷ []
