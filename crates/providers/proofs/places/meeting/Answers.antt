-- What has a version is a run, and its range is what meets the restriction.
use Rattle.std.proofs.Common.{◌≡◌, ◌<◌, IsSome, List, true, false, is_some, length, sym, subst}
use Rattle.std.proofs.lemmas.List.Elements.{filter_passes}
use Rattle.providers.specs.Offers.{Offer}
use Rattle.providers.specs.Range.{AreVersioned, IsRun}
use Rattle.providers.proofs.RunLemmas.{IsRun-filter, meeting_none, meeting_some}
use Rattle.providers.proofs.places.meeting.Goals as goal

pub range_of-requires-clause-run : goal.range_of-requires-clause-run
range_of-requires-clause-run c = subst IsRun (sym c.versioned_offers-with_versions.ensures) (IsRun-filter (λ (offer : Offer). is_some offer.version) c.args.run.now c.requires)

pub range_of-requires-clause-versioned : goal.range_of-requires-clause-versioned
range_of-requires-clause-versioned c = subst AreVersioned (sym c.versioned_offers-with_versions.ensures) (filter_passes (λ (offer : Offer). is_some offer.version) c.args.run.now)

pub returns-in-None-clause-meeting : goal.returns-in-None-clause-meeting
returns-in-None-clause-meeting c = meeting_none c.args.atom.now.restriction c.args.run.now c.in-None.ensures

pub returns-in-Some-clause-meeting : goal.returns-in-Some-clause-meeting
returns-in-Some-clause-meeting c = meeting_some c.in-Some.op c.in-Some.version.now c.args.atom.now.restriction c.args.run.now
    c.versioned_offers-with_versions.result.now c.range_of.result.now c.in-Some.ensures c.versioned_offers-with_versions.ensures c.range_of.ensures.meeting

pub returns-in-Some-clause-compared : goal.returns-in-Some-clause-compared
returns-in-Some-clause-compared c = λ restricted some.
    c.range_of.ensures.compared (subst (λ (offers : List Offer). 0 < length offers) (sym c.versioned_offers-with_versions.ensures) some)

pub returns-in-None-clause-compared : goal.returns-in-None-clause-compared
returns-in-None-clause-compared c = λ restricted. absurd (let e : false ≡ true = subst (λ r. IsSome r) (sym c.in-None.ensures) restricted in cc)
