-- The record at its place is changed.
use Rattle.std.proofs.Common.{◌∙◌, ap, subst, sym}
use Rattle.rules.specs.Database.{HasDistinctNames}
use Rattle.rules.specs.Step.{changed, deconfigured, is_named}
use Rattle.plancheck_state.specs.Holders.{AreListed, IsPlaceOf, places_in}
use Rattle.plancheck_state.proofs.ListedLemmas.{listed-changed}
use Rattle.plancheck_state.proofs.NamedChanges.{changed-at, changed-nowhere}
use Rattle.plancheck_state.proofs.lookup.Records.deconfigure.Goals as goal

pub invariant_of-self : goal.invariant_of-self
invariant_of-self c =
    let name = c.args.name.now in
    let records = c.self.inside.records.items in
    subst (AreListed (places_in c.self.inside.places))
    (sym (changed-at name deconfigured records c.in-Some.place c.index.result.now c.after_deconfigure.result
    (subst HasDistinctNames (sym c.self.view_is) c.requires.distinct)
    (subst (λ db. IsPlaceOf name db c.in-Some.place) (sym c.self.view_is) c.in-Some.ensures) c.index.ensures c.after_deconfigure.ensures))
    (listed-changed (is_named name) deconfigured records (places_in c.self.inside.places) (λ wanted entry holds. holds) c.self.invariant)

pub returns-in-Some : goal.returns-in-Some
returns-in-Some c =
    let name = c.args.name.now in
    let records = c.self.inside.records.items in
    changed-at name deconfigured records c.in-Some.place c.index.result.now c.after_deconfigure.result
    (subst HasDistinctNames (sym c.self.view_is) c.requires.distinct)
    (subst (λ db. IsPlaceOf name db c.in-Some.place) (sym c.self.view_is) c.in-Some.ensures) c.index.ensures c.after_deconfigure.ensures
    ∙ ap (changed (is_named name) deconfigured) c.self.view_is

pub returns-in-None : goal.returns-in-None
returns-in-None c = changed-nowhere c.args.name.now deconfigured c.args.self.now c.in-None.ensures
