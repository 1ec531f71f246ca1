-- A binary search among the versions.
use Rattle.std.proofs.Common.{rules, ◌<◌, ◌∙◌, ℕ, Result, Ok, Err, length, subst}
use Rattle.std.specs.List.Sorted.{IsBinarySearchResult, IsSearchInRange}
use Rattle.std.proofs.lemmas.Fn.{always_returns_same}
use Rattle.candidates.specs.Offer.{Offer}
use Rattle.rules.specs.Version.{version_cmp}
use Rattle.universe_build.proofs.Searching.{searched_offer}
use Rattle.universe_build.proofs.pairs.offer_of.Goals as goal

pub returns-in-Ok : goal.returns-in-Ok
returns-in-Ok c =
    let within : c.in-Ok.place < length c.args.versions.now = subst (λ (r : Result ℕ ℕ). IsSearchInRange r (length c.args.versions.now)) c.in-Ok.is c.binary_search_by.ensures.bound in
    (c.get.ensures.lookup.2 within) ∙ searched_offer c.args.versions.now c.args.stanza.now (Ok c.in-Ok.place) c.requires within
    (subst (λ (r : Result ℕ ℕ). IsBinarySearchResult (λ (offer : Offer). version_cmp offer.version c.args.stanza.now.pkg.version) c.args.versions.now r) c.in-Ok.is
    (c.binary_search_by.ensures.position (λ (offer : Offer). version_cmp offer.version c.args.stanza.now.pkg.version) (always_returns_same _ _ _ (λ a r f k. search rules))))

pub returns-in-Err : goal.returns-in-Err
returns-in-Err c = searched_offer c.args.versions.now c.args.stanza.now (Err c.in-Err.field-0) c.requires
    (subst (λ (r : Result ℕ ℕ). IsSearchInRange r (length c.args.versions.now)) c.in-Err.is c.binary_search_by.ensures.bound)
    (subst (λ (r : Result ℕ ℕ). IsBinarySearchResult (λ (offer : Offer). version_cmp offer.version c.args.stanza.now.pkg.version) c.args.versions.now r) c.in-Err.is
    (c.binary_search_by.ensures.position (λ (offer : Offer). version_cmp offer.version c.args.stanza.now.pkg.version) (always_returns_same _ _ _ (λ a r f k. search rules))))
