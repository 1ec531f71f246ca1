-- The record at its place is gone, and the places behind it have moved down.
use Rattle.std.proofs.Common.{◌∙◌, ap, not, subst, sym}
use Rattle.std.specs.List.{filter}
use Rattle.std.proofs.lemmas.Option.{slice_get_within}
use Rattle.rules.specs.Database.{HasDistinctNames}
use Rattle.rules.specs.Step.{is_named}
use Rattle.plancheck_state.specs.Holders.{AreListed, IsPlaceOf, places_in}
use Rattle.plancheck_state.proofs.ListedLemmas.{listed-removed, place-at}
use Rattle.plancheck_state.proofs.NamedChanges.{kept-nowhere, purged-at}
use Rattle.plancheck_state.proofs.lookup.Records.purge.Goals as goal

pub invariant_of-self : goal.invariant_of-self
invariant_of-self c =
    let records = c.self.inside.records.items in
    let gone = c.in-Some.place in
    let at = place-at c.args.name.now records gone (subst (λ db. IsPlaceOf c.args.name.now db gone) (sym c.self.view_is) c.in-Some.ensures) in
    subst (AreListed (places_in c.close_gap.new.self)) (sym c.remove.ensures.items)
    (listed-removed records gone (places_in c.self.inside.places) (places_in c.close_gap.new.self)
    (slice_get_within records gone at.0 at.1) c.close_gap.ensures c.self.invariant)

pub returns-in-Some : goal.returns-in-Some
returns-in-Some c =
    let name = c.args.name.now in
    c.remove.ensures.items
    ∙ purged-at name c.self.inside.records.items c.in-Some.place (subst HasDistinctNames (sym c.self.view_is) c.requires)
    (subst (λ db. IsPlaceOf name db c.in-Some.place) (sym c.self.view_is) c.in-Some.ensures)
    ∙ ap (filter (λ entry. not (is_named name entry))) c.self.view_is

pub returns-in-None : goal.returns-in-None
returns-in-None c = kept-nowhere c.args.name.now c.args.self.now c.in-None.ensures
