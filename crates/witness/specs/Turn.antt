-- Steps of which each is allowed when its turn comes.
use Rattle.std.specs.Prelude.{List}
use Rattle.rules.specs.Database.{Record}
use Rattle.rules.specs.Run.{Run}
use Rattle.rules.specs.Universe.{Universe}
use Rattle.rules.specs.declared.step.Step.{Step}

-- the steps are a run to some end
abbrev pub HasRun : Universe → List Record → List Step → Type 0
HasRun u start steps = (finish : List Record) × Run u start steps finish
