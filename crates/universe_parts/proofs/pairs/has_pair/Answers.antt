-- A binary search among the pairs in order.
use Rattle.std.proofs.Common.{rules, ◌∙◌}
use Rattle.std.proofs.lemmas.Fn.{always_returns_same}
use Rattle.rules.specs.Universe.{Pair}
use Rattle.universe_parts.specs.Pair.{pkg_order}
use Rattle.universe_parts.proofs.PairOrder.{searched_any_pair}
use Rattle.universe_parts.proofs.pairs.has_pair.Goals as goal

pub returns : goal.returns
returns c = c.is_ok.ensures.value ∙ searched_any_pair c.args.pairs.now c.args.name.now c.args.version.now c.binary_search_by.result c.requires
    c.binary_search_by.ensures.bound
    (c.binary_search_by.ensures.position (λ (pair : Pair). pkg_order pair.pkg c.args.name.now c.args.version.now) (always_returns_same _ _ _ (λ a r f k. search rules)))
