-- A binary search among the pairs in order.
use Rattle.std.proofs.Common.{rules, Result, ℕ, length, subst}
use Rattle.std.specs.List.Sorted.{IsBinarySearchResult, IsSearchInRange}
use Rattle.std.proofs.lemmas.Fn.{always_returns_same}
use Rattle.rules.specs.Universe.{Pair}
use Rattle.universe_parts.specs.Pair.{pkg_order}
use Rattle.universe_parts.proofs.Numbering.{searched_no_place, searched_place}
use Rattle.universe_parts.proofs.pairs.place_of.Goals as goal

pub returns-in-Ok-clause-value : goal.returns-in-Ok-clause-value
returns-in-Ok-clause-value c = searched_place c.args.pairs.now c.args.name.now c.args.version.now c.in-Ok.place c.requires
    (subst (λ (r : Result ℕ ℕ). IsSearchInRange r (length c.args.pairs.now)) c.in-Ok.is c.binary_search_by.ensures.bound)
    (subst (λ (r : Result ℕ ℕ). IsBinarySearchResult (λ (pair : Pair). pkg_order pair.pkg c.args.name.now c.args.version.now) c.args.pairs.now r) c.in-Ok.is
    (c.binary_search_by.ensures.position (λ (pair : Pair). pkg_order pair.pkg c.args.name.now c.args.version.now) (always_returns_same _ _ _ (λ a r f k. search rules))))

pub returns-in-Err-clause-value : goal.returns-in-Err-clause-value
returns-in-Err-clause-value c = searched_no_place c.args.pairs.now c.args.name.now c.args.version.now c.in-Err.field-0 c.requires
    (subst (λ (r : Result ℕ ℕ). IsSearchInRange r (length c.args.pairs.now)) c.in-Err.is c.binary_search_by.ensures.bound)
    (subst (λ (r : Result ℕ ℕ). IsBinarySearchResult (λ (pair : Pair). pkg_order pair.pkg c.args.name.now c.args.version.now) c.args.pairs.now r) c.in-Err.is
    (c.binary_search_by.ensures.position (λ (pair : Pair). pkg_order pair.pkg c.args.name.now c.args.version.now) (always_returns_same _ _ _ (λ a r f k. search rules))))
