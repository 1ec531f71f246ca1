-- A binary search among the stanzas in order.
use Rattle.std.proofs.Common.{rules, arith, ◌<◌, ◌∙◌, Result, ℕ, length, subst}
use Rattle.std.specs.List.Sorted.{IsBinarySearchResult, IsSearchInRange}
use Rattle.std.proofs.lemmas.Fn.{always_returns_same}
use Rattle.rules.specs.Step.{IndexPackage}
use Rattle.universe_parts.specs.SearchLaws.{got}
use Rattle.universe_parts.specs.Pair.{pkg_order}
use Rattle.candidates.proofs.RecordOrder.{searched_stanza, searched_no_stanza}
use Rattle.candidates.proofs.order.stanza_of.Goals as goal

pub returns-in-Ok : goal.returns-in-Ok
returns-in-Ok c =
    let within : c.in-Ok.place < length c.args.ordered.now = subst (λ (r : Result ℕ ℕ). IsSearchInRange r (length c.args.ordered.now)) c.in-Ok.is c.binary_search_by.ensures.bound in
    got _ c.get.result c.args.ordered.now c.in-Ok.place within (c.get.ensures.lookup.2 within) (c.get.ensures.lookup.4 (omega arith))
    ∙ searched_stanza c.args.ordered.now c.args.name.now c.args.version.now c.in-Ok.place c.requires
    within
    (subst (λ (r : Result ℕ ℕ). IsBinarySearchResult (λ (stanza : IndexPackage). pkg_order stanza.pkg c.args.name.now c.args.version.now) c.args.ordered.now r) c.in-Ok.is
    (c.binary_search_by.ensures.position (λ (stanza : IndexPackage). pkg_order stanza.pkg c.args.name.now c.args.version.now) (always_returns_same _ _ _ (λ a r f k. search rules))))

pub returns-in-Err : goal.returns-in-Err
returns-in-Err c = searched_no_stanza c.args.ordered.now c.args.name.now c.args.version.now c.in-Err.field-0 c.requires
    (subst (λ (r : Result ℕ ℕ). IsSearchInRange r (length c.args.ordered.now)) c.in-Err.is c.binary_search_by.ensures.bound)
    (subst (λ (r : Result ℕ ℕ). IsBinarySearchResult (λ (stanza : IndexPackage). pkg_order stanza.pkg c.args.name.now c.args.version.now) c.args.ordered.now r) c.in-Err.is
    (c.binary_search_by.ensures.position (λ (stanza : IndexPackage). pkg_order stanza.pkg c.args.name.now c.args.version.now) (always_returns_same _ _ _ (λ a r f k. search rules))))
