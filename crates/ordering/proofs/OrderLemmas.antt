-- What an order promises by its forward steps, it promises by all that lead on.
use Rattle.std.proofs.Common.{ℕ, List}
use Rattle.std.specs.Prelude.{IsTrue}
use Rattle.std.proofs.lemmas.List.Elements.{All-contains}
use Rattle.refutation.specs.Selection.{selects}
use Rattle.fixed_order.proofs.NamedLemmas.{selected_named}
use Rattle.fixed_order.specs.Names.{AreNamed}
use Rattle.rules.specs.Names.{HasNames, HasPairNames}
use Rattle.forward_steps.specs.Selection.{chosen}
use Rattle.order.specs.Order.{IsOrder}
use Rattle.order.specs.declared.ordered.Ordered.{Ordered}
use Rattle.order.specs.declared.ordered.Ordered.TheVariants as ordered
use Rattle.ordering.specs.Ordering.{IsOrderOf}
use Rattle.ordering.proofs.LeadingLemmas.{nothing_leads_on}
use Rattle.ordering.proofs.PlanLemmas.{same_chosen}
use Rattle.rules.specs.Database.{Record}
use Rattle.rules.specs.ElementLaws.{All-intro}
use Rattle.rules.specs.Name.{is_name}
use Rattle.rules.specs.Package.{Pkg}
use Rattle.rules.specs.Sound.{selected}
use Rattle.rules.specs.Universe.{Universe}
use Rattle.rules.specs.Verdict.{IsBuiltOn}

-- what is chosen of pairs with package names has package names
pub chosen_named : (u : Universe) (numbers : List ℕ) → HasPairNames u → AreNamed (chosen u numbers)
chosen_named u numbers named = All-intro (λ (pkg : Pkg). IsTrue (is_name pkg.name)) (chosen u numbers) (λ pkg within.
    All-contains (λ (p : Pkg). IsTrue (is_name p.name)) (selected u (selects numbers)) pkg (selected_named u (selects numbers) named)
    ((same_chosen u numbers pkg).0 within))

pub order_of : (u : Universe) (start : List Record) (members : List Pkg) (answer : Ordered) → IsBuiltOn start u → HasPairNames u
    → HasNames start → AreNamed members → IsOrder u start members answer → IsOrderOf u start members answer
order_of u start members (ordered.Plan steps) built pairs names named is = is
order_of u start members ordered.Start built pairs names named is = is
order_of u start members (ordered.Stuck steps) built pairs names named is = record {
  quiet = is.quiet;
  finish = is.finish;
  run = is.run;
  unwanted = is.unwanted;
  rest = nothing_leads_on u members start is.finish steps.items built pairs names named is.run is.rest;
}
