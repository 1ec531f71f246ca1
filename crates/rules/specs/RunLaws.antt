-- What follows for runs: they go on, they have one end, and they keep names distinct and packages at peace.
use Rattle.std.specs.Prelude.{◌≡◌, List, ◌++◌, ◌⊎◌, ◌↔◌, ℕ, Option}
use Rattle.rules.specs.Database.{Record, HasDistinctNames, IsQuiet}
use Rattle.rules.specs.Legal.{Allowed}
use Rattle.rules.specs.Run.{Run, StopsAt, after}
use Rattle.rules.specs.Step.{IndexPackage, result_of}
use Rattle.rules.specs.Universe.{Universe}
use Rattle.rules.specs.declared.step.Rule.{Rule}
use Rattle.rules.specs.declared.step.Step.{Step}

-- a run of two lists of steps in a row is a run of the first, and from its end one of the second
abbrev pub RunGoesOn : Type 0
RunGoesOn = (u : Universe) (start finish : List Record) (steps more : List Step)
    → Run u start (steps ++ more) finish
    ↔ ((reached : List Record) × Run u start steps reached × Run u reached more finish)

-- a run has one end
abbrev pub OneEnd : Type 0
OneEnd = (u : Universe) (start first second : List Record) (steps : List Step)
    → Run u start steps first → Run u start steps second → first ≡ second

-- each list of steps is a run to some end or stops at a step
abbrev pub RunOrStops : Type 0
RunOrStops = (u : Universe) (start : List Record) (steps : List Step)
    → ((finish : List Record) × Run u start steps finish) ⊎ ((number : ℕ) × (rule : Rule) × StopsAt u start steps number rule)

-- every action keeps the names of the database distinct
abbrev pub DistinctNamesKept : Type 0
DistinctNamesKept = (listed : Option IndexPackage) (step : Step) (db : List Record)
    → HasDistinctNames db → HasDistinctNames (result_of listed step db)

-- every allowed action keeps a quiet database quiet
abbrev pub QuietKept : Type 0
QuietKept = (u : Universe) (db : List Record) (step : Step) → HasDistinctNames db → IsQuiet db → Allowed u db step
    → IsQuiet (after u db step)

-- after every run from a quiet start, and so after every beginning of one, the database is quiet
abbrev pub QuietAfterRun : Type 0
QuietAfterRun = (u : Universe) (start reached : List Record) (steps : List Step) → HasDistinctNames start → IsQuiet start
    → Run u start steps reached → IsQuiet reached
