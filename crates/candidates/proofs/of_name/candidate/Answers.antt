-- The candidate of the name is the first of its versions that may be chosen.
use Rattle.std.proofs.Common.{Some, sym, subst}
use Rattle.std.specs.Prelude.{map}
use Rattle.rules.specs.FileRecord.{records_of}
use Rattle.candidates.specs.Candidates.{IsCandidateOf}
use Rattle.candidates.specs.Eligible.{AreEligibleOf}
use Rattle.candidates.specs.Inputs.{indices_of, inputs_of}
use Rattle.candidates.specs.Offer.{Offer}
use Rattle.candidates.proofs.of_name.candidate.Goals as goal

pub returns-in-None : goal.returns-in-None
returns-in-None c = λ request.
    let inputs = inputs_of (records_of (map (λ r. r.now) c.args.start.now)) (indices_of c.args.indices.now) c.args.prefs.now request in
    c.in-None.ensures inputs c.args.name.now
    (subst (AreEligibleOf inputs c.args.name.now) (sym c.as_slice.ensures.value) (c.in_ok-offers.ensures request))

pub returns : goal.returns
returns c = λ request.
    let inputs = inputs_of (records_of (map (λ r. r.now) c.args.start.now)) (indices_of c.args.indices.now) c.args.prefs.now request in
    subst (λ (offer : Offer). IsCandidateOf inputs c.args.name.now (Some offer)) (sym c.again.ensures)
    (c.in-Some.ensures inputs c.args.name.now
    (subst (AreEligibleOf inputs c.args.name.now) (sym c.as_slice.ensures.value) (c.in_ok-offers.ensures request)))
