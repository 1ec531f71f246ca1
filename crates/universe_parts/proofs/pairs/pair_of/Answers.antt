-- A binary search among the pairs in order.
use Rattle.std.proofs.Common.{rules, arith, ◌<◌, ◌∙◌, Result, ℕ, length, subst}
use Rattle.std.specs.List.Sorted.{IsBinarySearchResult, IsSearchInRange}
use Rattle.std.proofs.lemmas.Fn.{always_returns_same}
use Rattle.rules.specs.Universe.{Pair}
use Rattle.universe_parts.specs.Pair.{pkg_order}
use Rattle.universe_parts.proofs.PairOrder.{searched_no_pair, searched_pair}
use Rattle.universe_parts.specs.SearchLaws.{got}
use Rattle.universe_parts.proofs.pairs.pair_of.Goals as goal

pub returns-in-Ok : goal.returns-in-Ok
returns-in-Ok c =
    let within : c.in-Ok.place < length c.args.pairs.now = subst (λ (r : Result ℕ ℕ). IsSearchInRange r (length c.args.pairs.now)) c.in-Ok.is c.binary_search_by.ensures.bound in
    got _ c.get.result c.args.pairs.now c.in-Ok.place within (c.get.ensures.lookup.2 within) (c.get.ensures.lookup.4 (omega arith))
    ∙ searched_pair c.args.pairs.now c.args.name.now c.args.version.now c.in-Ok.place c.requires
    within
    (subst (λ (r : Result ℕ ℕ). IsBinarySearchResult (λ (pair : Pair). pkg_order pair.pkg c.args.name.now c.args.version.now) c.args.pairs.now r) c.in-Ok.is
    (c.binary_search_by.ensures.position (λ (pair : Pair). pkg_order pair.pkg c.args.name.now c.args.version.now) (always_returns_same _ _ _ (λ a r f k. search rules))))

pub returns-in-Err : goal.returns-in-Err
returns-in-Err c = searched_no_pair c.args.pairs.now c.args.name.now c.args.version.now c.in-Err.field-0 c.requires
    (subst (λ (r : Result ℕ ℕ). IsSearchInRange r (length c.args.pairs.now)) c.in-Err.is c.binary_search_by.ensures.bound)
    (subst (λ (r : Result ℕ ℕ). IsBinarySearchResult (λ (pair : Pair). pkg_order pair.pkg c.args.name.now c.args.version.now) c.args.pairs.now r) c.in-Err.is
    (c.binary_search_by.ensures.position (λ (pair : Pair). pkg_order pair.pkg c.args.name.now c.args.version.now) (always_returns_same _ _ _ (λ a r f k. search rules))))
