-- The names in their order are those of what isn't configured.
use Rattle.std.proofs.Common.{List, ℕ, subst}
use Rattle.std.specs.List.{Contains}
use Rattle.fixed_order.specs.Names.{AreAllWith}
use Rattle.fixed_order.proofs.waiting.unconfigured_keys.Goals as goal

pub returns : goal.returns
returns c = subst (λ (names : List (List ℕ)). AreAllWith (Contains names) c.in_ok-ordered.ordered.items) c.in_ok-keys.ensures
    c.in_ok-ordered.ensures
