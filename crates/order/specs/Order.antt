-- What an order of steps for a selection is, and when there is none (this project's own; the actions are those of dpkg(1)).
use Rattle.std.specs.Prelude.{List}
use Rattle.std.specs.List.{All}
use Rattle.rules.specs.Database.{Record, IsQuiet, installed_of}
use Rattle.rules.specs.Package.{Pkg}
use Rattle.rules.specs.Run.{IsGoodEnd, Run}
use Rattle.rules.specs.Sound.{HasVersion}
use Rattle.rules.specs.Universe.{Universe}
use Rattle.rules.specs.declared.step.Step.{Step}
use Rattle.forward_steps.specs.Forward.{IsAtRest}
use Rattle.order.specs.declared.ordered.Ordered.{Ordered}
use Rattle.order.specs.declared.ordered.Ordered.TheVariants as ordered

-- each installed package is selected, and each selected one is installed
pub record InstalledAreSelected (selected : List Pkg) (db : List Record) : Type 0 where
  pub are_selected : All (λ member. HasVersion member.name member.version selected) (installed_of db)
  pub are_installed : All (λ pkg. HasVersion pkg.name pkg.version (installed_of db)) selected

-- a good end at which the selection is installed
pub record IsWantedEnd (u : Universe) (selected : List Pkg) (db : List Record) : Type 0 where
  pub good : IsGoodEnd u db
  pub exact : InstalledAreSelected selected db

-- from a quiet start the steps are a run to the end that is wanted
pub record IsPlanFor (u : Universe) (start : List Record) (selected : List Pkg) (steps : List Step) : Type 0 where
  pub quiet : IsQuiet start
  pub finish : List Record
  pub run : Run u start steps finish
  pub wanted : IsWantedEnd u selected finish

-- from a quiet start the steps are a run to an end that isn't wanted, and from which no step leads on
pub record IsBlockedAfter (u : Universe) (start : List Record) (selected : List Pkg) (steps : List Step) : Type 0 where
  pub quiet : IsQuiet start
  pub finish : List Record
  pub run : Run u start steps finish
  pub unwanted : ¬ IsWantedEnd u selected finish
  pub rest : IsAtRest u selected finish

-- what is answered is true of the selection: a plan, a start that isn't quiet, or steps after which it is blocked
abbrev pub IsOrder : Universe → List Record → List Pkg → Ordered → Type 0
IsOrder u start selected (ordered.Plan steps) = IsPlanFor u start selected steps.items
IsOrder u start selected ordered.Start = ¬ IsQuiet start
IsOrder u start selected (ordered.Stuck steps) = IsBlockedAfter u start selected steps.items
