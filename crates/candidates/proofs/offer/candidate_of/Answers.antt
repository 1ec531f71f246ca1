-- The least offer is the one to choose first.
use Rattle.std.proofs.Common.{◌≡◌, refl, sym, subst}
use Rattle.std.specs.Option.{option_copied}
use Rattle.std.specs.Ordering.{min_by_ordering}
use Rattle.std.specs.declared.cmp.Ordering.{Ordering}
use Rattle.std.specs.declared.cmp.Ordering.TheVariants.{Less, Equal, Greater}
use Rattle.std.proofs.lemmas.Iterator.{YieldsList-from_slice}
use Rattle.std.proofs.lemmas.Iterator.Consumers.{reduce_by_from_yields_List}
use Rattle.candidates.specs.Offer.{Offer, offer_cmp}
use Rattle.candidates.proofs.FirstChoice.{IsCandidateOf-first, IsFirstChoice, IsFirstChoice-reduce}
use Rattle.candidates.proofs.offer.candidate_of.Goals as goal
use denote.Ref.{Bor}

-- what is picked of two references refers to what is picked of the two
picked : (o : Ordering) (best offer : Bor Offer) → (min_by_ordering o best offer).now ≡ min_by_ordering o best.now offer.now
picked Less best offer = refl
picked Equal best offer = refl
picked Greater best offer = refl

pub returns : goal.returns
returns c = λ inputs name are. IsCandidateOf-first inputs name c.args.eligible.now are (option_copied c.min.result)
    (subst (IsFirstChoice c.args.eligible.now)
    (sym (reduce_by_from_yields_List (λ (best offer : Bor Offer). min_by_ordering (offer_cmp best.now offer.now) best offer)
    (λ (best offer : Offer). min_by_ordering (offer_cmp best offer) best offer) c.iter.result c.min.result
    (λ best offer. picked (offer_cmp best.now offer.now) best offer) c.min.ensures.ran (YieldsList-from_slice c.args.eligible.now cc)))
    (IsFirstChoice-reduce c.args.eligible.now))
