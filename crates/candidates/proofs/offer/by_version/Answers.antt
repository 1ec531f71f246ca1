-- A sort by version that is freed of repeated versions.
use Rattle.std.proofs.Common.{rules}
use Rattle.std.proofs.lemmas.Fn.{always_returns_same, dedup_same}
use Rattle.candidates.specs.Offer.{Offer}
use Rattle.candidates.proofs.VersionOrder.{AreByVersion-from_sort, have_one_version}
use Rattle.candidates.proofs.offer.by_version.Goals as goal

pub returns : goal.returns
returns c = AreByVersion-from_sort c.args.offers.items c.sort_by_key.new.self.items c.dedup_by.new.self.items
    (c.in_ok-sort_by_key.ensures.sorted (λ (offer : Offer). offer.version) (always_returns_same _ _ _ (λ a r f k. search rules)))
    c.sort_by_key.ensures.permutation
    (dedup_same _ have_one_version _ (λ x y b f' x' y' k. search rules) c.sort_by_key.new.self.items c.dedup_by.new.self.items c.dedup_by.ensures.filtered)
