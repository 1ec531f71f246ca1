-- The versions of the name that may be chosen, among its own records and places.
use Rattle.std.proofs.Common.{◌≡◌, List, map, ap, subst, ◌∙◌}
use Rattle.std.specs.List.{filter}
use Rattle.rules.specs.Database.{Record}
use Rattle.rules.specs.FileRecord.{records_of}
use Rattle.rules.specs.Step.{is_named}
use Rattle.candidates.specs.Inputs.{indices_of}
use Rattle.candidates.specs.Place.{Place}
use Rattle.candidates.specs.Rated.{AreInOrder}
use Rattle.candidates.specs.Recorded.{IsByName}
use Rattle.candidates.proofs.OneName.{AreEligibleOf-given}
use Rattle.candidates.proofs.of_name.eligible.Goals as goal

pub returns : goal.returns
returns c = λ request.
    let start : List Record = records_of (map (λ r. r.now) c.args.start.now) in
    let named : c.records_named-named.result.items ≡ filter (is_named c.args.name.now) start =
    c.records_named-named.ensures ∙ ap (filter (is_named c.args.name.now)) c.in_ok-records_in.ensures in
    AreEligibleOf-given start c.in_ok-known.known.items (indices_of c.args.indices.now) c.args.prefs.now request c.args.name.now
    c.in_ok-places.places.items c.in_ok-offers.offers.items c.requires
    (subst (λ (db : List Record). IsByName db c.in_ok-known.known.items) named c.in_ok-known.ensures)
    c.in_ok-places.ensures
    (subst (λ (places : List Place). AreInOrder c.args.prefs.now c.in_ok-known.known.items places c.in_ok-offers.offers.items)
    c.as_slice-3.ensures.value
    (subst (λ (known : List Record). AreInOrder c.args.prefs.now known c.as_slice-3.result.now c.in_ok-offers.offers.items)
    c.as_slice-2.ensures.value c.in_ok-offers.ensures))
