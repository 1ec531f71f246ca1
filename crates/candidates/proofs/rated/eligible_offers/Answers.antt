-- What may be chosen of the places, and what may of what stands alone.
use Rattle.std.proofs.Common.{sym, subst}
use Rattle.candidates.specs.Rated.{AreEligible}
use Rattle.candidates.proofs.Alone.{AreEligible-both}
use Rattle.candidates.proofs.rated.eligible_offers.Goals as goal

pub returns : goal.returns
returns c = subst (AreEligible c.args.prefs.now c.args.known.now c.args.places.now) (sym c.in_ok-append.ensures.items)
    (AreEligible-both c.args.prefs.now c.args.known.now c.args.places.now c.in_ok-offers.offers.items c.in_ok-further.further.items
    c.eligible-alone.result.items c.in_ok-offers.ensures c.in_ok-further.ensures c.eligible-alone.ensures)
