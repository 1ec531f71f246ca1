-- What follows for plain changes: that they are at peace, that they are ordered, and that they have an order.
use Rattle.std.specs.Prelude.{◌≡◌, ℕ, Bool, List}
use Rattle.rules.specs.Available.{Inputs}
use Rattle.rules.specs.Database.{Record, HasDistinctNames, IsQuiet}
use Rattle.rules.specs.Package.{Pkg}
use Rattle.rules.specs.Sound.{selected}
use Rattle.rules.specs.Universe.{Universe, IsUniverse}
use Rattle.rules.specs.declared.step.Step.{Step}
use Rattle.plain.specs.Change.{IsPlain, IsPlainChange}
use Rattle.plain.specs.Counted.{IsCounted}
use Rattle.plain.specs.Order.{IsInFixedOrder}
use Rattle.plain.specs.PhaseLaws.{EndsWell}
use Rattle.plain.specs.Underway.{HasOldAndNew, IsUndisturbed}

-- the universe of inputs is counted by their start
abbrev pub UniverseIsCounted : Type 0
UniverseIsCounted = (inputs : Inputs) (u : Universe) → HasDistinctNames inputs.start → IsUniverse inputs u
    → IsCounted inputs.start u

-- the start of a plain change is quiet
abbrev pub StartIsQuiet : Type 0
StartIsQuiet = (u : Universe) (start : List Record) (members : List Pkg) → IsPlain u start members → IsQuiet start

-- where each present package was present at the start of a plain change or is a member, nothing conflicts or breaks
abbrev pub NothingClashes : Type 0
NothingClashes = (u : Universe) (start : List Record) (members : List Pkg) (db : List Record) → IsPlain u start members
    → HasOldAndNew start members db → IsUndisturbed start members db

-- a plain change to an acceptable selection is ordered: steps in the fixed order are a good plan, at whose end just the
-- selected packages are installed
abbrev pub PlainChangeIsOrdered : Type 0
PlainChangeIsOrdered = (u : Universe) (start : List Record) (selection : ℕ → Bool) (steps : List Step)
    → IsPlainChange u start selection → IsInFixedOrder u start (selected u selection) steps
    → IsQuiet start × ((finish : List Record) × EndsWell u start (selected u selection) steps finish)

-- a plain change to an acceptable selection has steps in the fixed order
abbrev pub PlainChangeHasOrder : Type 0
PlainChangeHasOrder = (u : Universe) (start : List Record) (selection : ℕ → Bool) → IsPlainChange u start selection
    → (steps : List Step) × IsInFixedOrder u start (selected u selection) steps

-- steps in the fixed order are the only ones
abbrev pub OneFixedOrder : Type 0
OneFixedOrder = (u : Universe) (start : List Record) (members : List Pkg) (steps other : List Step)
    → IsInFixedOrder u start members steps → IsInFixedOrder u start members other → steps ≡ other
