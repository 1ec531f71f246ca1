-- What has the least name, and what is left behind it.
use Rattle.std.proofs.Common.{◌+◌, ◌<◌, length, sym, ap, subst, ◌∙◌}
use Rattle.std.specs.Option.{option_copied}
use Rattle.candidates.specs.Names.{IsSplit, NameTable}
use Rattle.candidates.proofs.NameSplit.{InOrder-kept, IsSplit-least, fewer_left, least_is, least_place, other_than, own_of, this}
use Rattle.candidates.proofs.names.NamesLeft.split_first.Goals as goal

pub split_records-requires-clause-least : goal.split_records-requires-clause-least
split_records-requires-clause-least c = (least_is c.self.inside.known.now c.self.inside.places.now c.self.inside.ordered.now c.self.invariant
    c.in_ok-name.name.now (sym c.least_of.ensures ∙ ap option_copied c.in_ok-name.was)).records

pub split_places-requires-clause-least : goal.split_places-requires-clause-least
split_places-requires-clause-least c = least_place c.self.inside.places.now c.self.inside.ordered.now c.self.invariant.earliest c.in_ok-name.name.now
    (least_is c.self.inside.known.now c.self.inside.places.now c.self.inside.ordered.now c.self.invariant
    c.in_ok-name.name.now (sym c.least_of.ensures ∙ ap option_copied c.in_ok-name.was)).stanzas

pub split_stanzas-requires-clause-least : goal.split_stanzas-requires-clause-least
split_stanzas-requires-clause-least c = (least_is c.self.inside.known.now c.self.inside.places.now c.self.inside.ordered.now c.self.invariant
    c.in_ok-name.name.now (sym c.least_of.ensures ∙ ap option_copied c.in_ok-name.was)).stanzas

pub invariant_of-own : goal.invariant_of-own
invariant_of-own c = rw (c.split_records.ensures.own, c.split_places.ensures.own, c.split_stanzas.ensures.own)
    (InOrder-kept (this c.in_ok-name.name.now) c.self.inside.known.now c.self.inside.places.now c.self.inside.ordered.now c.self.invariant)

pub invariant_of-left : goal.invariant_of-left
invariant_of-left c = rw (c.split_records.ensures.left, c.split_places.ensures.left, c.split_stanzas.ensures.left)
    (InOrder-kept (other_than c.in_ok-name.name.now) c.self.inside.known.now c.self.inside.places.now c.self.inside.ordered.now c.self.invariant)

pub returns-clause-split : goal.returns-clause-split
returns-clause-split c =
    let names : NameTable = record { known = c.self.inside.known.now; places = c.self.inside.places.now; ordered = c.self.inside.ordered.now } in
    subst (λ (whole : NameTable). IsSplit whole
    (own_of c.in_ok-name.name.now c.split_records.result.0.now c.split_places.result.0.now c.split_stanzas.result.0.now)
    (record { known = c.split_records.result.1.now; places = c.split_places.result.1.now; ordered = c.split_stanzas.result.1.now }))
    c.self.view_is
    (rw (
      c.split_records.ensures.own,
      c.split_places.ensures.own,
      c.split_stanzas.ensures.own,
      c.split_records.ensures.left,
      c.split_places.ensures.left,
      c.split_stanzas.ensures.left,
    )
    (IsSplit-least names c.in_ok-name.name.now
    (least_is c.self.inside.known.now c.self.inside.places.now c.self.inside.ordered.now c.self.invariant
    c.in_ok-name.name.now (sym c.least_of.ensures ∙ ap option_copied c.in_ok-name.was))))

pub returns-clause-fewer : goal.returns-clause-fewer
returns-clause-fewer c =
    let names : NameTable = record { known = c.self.inside.known.now; places = c.self.inside.places.now; ordered = c.self.inside.ordered.now } in
    subst (λ (whole : NameTable). length c.split_records.result.1.now + length c.split_stanzas.result.1.now < length whole.known + length whole.ordered)
    c.self.view_is
    (rw (c.split_records.ensures.left, c.split_stanzas.ensures.left)
    (fewer_left names c.in_ok-name.name.now
    (least_is c.self.inside.known.now c.self.inside.places.now c.self.inside.ordered.now c.self.invariant
    c.in_ok-name.name.now (sym c.least_of.ensures ∙ ap option_copied c.in_ok-name.was))))
