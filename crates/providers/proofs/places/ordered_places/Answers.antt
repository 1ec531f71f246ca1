-- The places in order are those of the offers.
use Rattle.std.proofs.Common.{◌↔◌, ℕ, List, Contains, subst}
use Rattle.providers.proofs.FoundLemmas.{of_value}
use Rattle.providers.proofs.places.ordered_places.Goals as goal

pub returns-clause-same : goal.returns-clause-same
returns-clause-same c = of_value c.in_order.result
    (λ ordered same place. subst (λ (items : List ℕ). Contains ordered.items place ↔ Contains items place) c.in_ok-places_of.ensures (same place))
    c.in_order.ensures.same
