-- What an order of an acceptable selection is: a plain change has a plan in the fixed order (this project's own).
use Rattle.std.specs.Prelude.{ℕ, ◌<◌, List}
use Rattle.std.specs.List.{AllPairs}
use Rattle.refutation.specs.Selection.{selects}
use Rattle.forward_steps.specs.Selection.{chosen}
use Rattle.order.specs.Order.{IsPlanFor, IsWantedEnd}
use Rattle.order.specs.declared.ordered.Ordered.{Ordered}
use Rattle.order.specs.declared.ordered.Ordered.TheVariants as ordered
use Rattle.ordering.specs.Leading.{NothingLeadsOn}
use Rattle.plain.specs.Change.{IsPlain}
use Rattle.plain.specs.Order.{IsInFixedOrder}
use Rattle.rules.specs.Database.{IsQuiet, Record}
use Rattle.rules.specs.Package.{Pkg}
use Rattle.rules.specs.Run.{Run}
use Rattle.rules.specs.Sound.{selected}
use Rattle.rules.specs.Universe.{Universe}
use Rattle.rules.specs.declared.step.Step.{Step}

-- the numbers ascend
abbrev pub AreAscending : List ℕ → Type 0
AreAscending numbers = AllPairs (λ earlier later. earlier < later) numbers

-- from a quiet start the steps are a run to an end that isn't wanted, and from which no step that leads on is allowed
pub record IsStuckAfter (u : Universe) (start : List Record) (members : List Pkg) (steps : List Step) : Type 0 where
  pub quiet : IsQuiet start
  pub finish : List Record
  pub run : Run u start steps finish
  pub unwanted : ¬ IsWantedEnd u members finish
  pub rest : NothingLeadsOn u members finish

-- what is answered is true of the selection: a plan, a start that isn't quiet, or steps after which it is stuck
abbrev pub IsOrderOf : Universe → List Record → List Pkg → Ordered → Type 0
IsOrderOf u start members (ordered.Plan steps) = IsPlanFor u start members steps.items
IsOrderOf u start members ordered.Start = ¬ IsQuiet start
IsOrderOf u start members (ordered.Stuck steps) = IsStuckAfter u start members steps.items

-- what is answered is a plan, and its steps are in the fixed order
abbrev pub IsFixedPlan : Universe → List Record → List Pkg → Ordered → Type 0
IsFixedPlan u start members (ordered.Plan steps) = IsInFixedOrder u start members steps.items
IsFixedPlan u start members ordered.Start = ⊥
IsFixedPlan u start members (ordered.Stuck steps) = ⊥

-- what is answered is an order of the packages of these numbers, and where the change to them is plain, a plan in the fixed order
pub record IsOrdering (u : Universe) (start : List Record) (numbers : List ℕ) (answer : Ordered) : Type 0 where
  pub order : IsOrderOf u start (chosen u numbers) answer
  pub fixed : IsPlain u start (selected u (selects numbers)) → IsFixedPlan u start (selected u (selects numbers)) answer
