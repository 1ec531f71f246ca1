-- The stanzas that the steps of a plan unpack.
use Rattle.std.specs.Prelude.{◌≡◌, ◌<◌, ℕ, List, Some}
use Rattle.std.specs.List.{All, Any, slice_get}
use Rattle.rules.specs.Step.{IndexPackage}
use Rattle.rules.specs.Universe.{Universe, listed_for}
use Rattle.rules.specs.declared.step.Step.{Step}

-- a stanza that the step at a place unpacks; places are counted from 0
pub record WantedStanza : Type 0 where
  pub step : ℕ
  pub listed : IndexPackage

-- the step at this place unpacks this stanza
pub record Unpacks (u : Universe) (steps : List Step) (place : ℕ) (listed : IndexPackage) : Type 0 where
  pub step : Step
  pub there : slice_get steps place ≡ Some step
  pub unpacks : listed_for u step ≡ Some listed

-- the step at the place of the wanted stanza unpacks it
abbrev pub IsWanted : Universe → List Step → WantedStanza → Type 0
IsWanted u steps wanted = Unpacks u steps wanted.step wanted.listed

-- these are the stanzas that the steps unpack
pub record AreWanted (u : Universe) (steps : List Step) (wanted : List WantedStanza) : Type 0 where
  pub each : All (IsWanted u steps) wanted
  pub every : (place : ℕ) (listed : IndexPackage) → Unpacks u steps place listed → Any (λ one. one.step ≡ place) wanted

-- each is of the index of this number
abbrev pub AreOfIndex : ℕ → List WantedStanza → Type 0
AreOfIndex number wanted = All (λ one. one.listed.place.index ≡ number) wanted

-- each of these stanzas is of a step at one of so many places
abbrev pub AreWithin : ℕ → List WantedStanza → Type 0
AreWithin count wanted = All (λ one. one.step < count) wanted
