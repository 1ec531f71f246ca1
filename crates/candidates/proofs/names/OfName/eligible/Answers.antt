-- The versions of the name that may be chosen, among its own records and places.
use Rattle.std.proofs.Common.{sym, subst}
use Rattle.candidates.specs.Eligible.{AreEligibleOf}
use Rattle.candidates.specs.Inputs.{inputs_of}
use Rattle.candidates.specs.Names.{IsAllOf, OfName}
use Rattle.candidates.proofs.OneName.{AreEligibleOf-given}
use Rattle.candidates.proofs.names.OfName.eligible.Goals as goal

pub returns-clause-versions : goal.returns-clause-versions
returns-clause-versions c = λ db indices request distinct all.
    let is = subst (IsAllOf db indices) (sym c.self.view_is) all in
    subst (λ (own : OfName). AreEligibleOf (inputs_of db indices c.args.prefs.now request) own.name c.in_ok-offers.offers.items) c.self.view_is
    (AreEligibleOf-given db c.self.inside.known.now indices c.args.prefs.now request c.self.inside.name.now c.self.inside.places.now
    c.in_ok-offers.offers.items distinct is.known is.places c.in_ok-offers.ensures)

pub returns-clause-ascending : goal.returns-clause-ascending
returns-clause-ascending c = c.in_ok-offers.ensures.order.ascending
