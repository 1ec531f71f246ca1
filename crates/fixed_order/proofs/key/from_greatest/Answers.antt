-- The keys in their order fall when they are reversed.
use Rattle.std.proofs.Common.{ℕ, List, subst}
use Rattle.std.specs.List.{Contains}
use Rattle.fixed_order.specs.Names.{AreAllWith}
use Rattle.fixed_order.proofs.WalkLemmas.{falling_of}
use Rattle.fixed_order.proofs.key.from_greatest.Goals as goal

pub returns : goal.returns
returns c = falling_of c.args.names.now c.in_ok-ordered.ordered.items c.falling.result.items
    (subst (λ (names : List (List ℕ)). AreAllWith (Contains names) c.in_ok-ordered.ordered.items) c.in_ok-keys.ensures c.in_ok-ordered.ensures)
    c.falling.ensures
