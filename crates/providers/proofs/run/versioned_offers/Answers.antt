-- What follows the point up to which offers have no version.
use Rattle.std.proofs.Common.{Bool, true, false, not, is_some, refl, rules, ◌≡◌, ◌∙◌}
use Rattle.std.proofs.lemmas.Fn.{always_returns_same}
use Rattle.providers.specs.Offers.{Offer}
use Rattle.providers.proofs.CutLemmas.{back_passes, filter_alike}
use Rattle.providers.proofs.RunLemmas.{parted_unversioned}
use Rattle.providers.proofs.run.versioned_offers.Goals as goal

not_not : (b : Bool) → not (not b) ≡ b
not_not true = refl
not_not false = refl

pub returns : goal.returns
returns c =
    let none = λ (offer : Offer). not (is_some offer.version) in
    c.split_at.ensures.back
    ∙ back_passes none c.args.run.now c.partition_point-start.result
    (c.partition_point-start.ensures.partitioned none (always_returns_same _ _ _ (λ a r f k. search rules))
    (parted_unversioned c.args.run.now c.requires))
    ∙ filter_alike (λ (offer : Offer). not (not (is_some offer.version))) (λ (offer : Offer). is_some offer.version)
    (λ offer. not_not (is_some offer.version)) c.args.run.now
