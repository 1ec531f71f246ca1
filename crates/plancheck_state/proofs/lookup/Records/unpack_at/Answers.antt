-- The place is entered for the package that is unpacked, whose record is written there.
use Rattle.std.proofs.Common.{◌∙◌, ap, subst, sym}
use Rattle.rules.specs.Database.{Record, HasDistinctNames}
use Rattle.rules.specs.Package.{Pkg}
use Rattle.rules.specs.Step.{changed, is_named, unpacked_over}
use Rattle.plancheck_state.specs.Holders.{IsPlaceOf, places_in}
use Rattle.plancheck_state.proofs.ListedLemmas.{entered-for, listed-set}
use Rattle.plancheck_state.proofs.NamedChanges.{changed-at}
use Rattle.plancheck_state.proofs.lookup.Records.unpack_at.Goals as goal

pub invariant_of-self-2 : goal.invariant_of-self-2
invariant_of-self-2 c =
    let new = c.unpacked_over.result in
    let places = places_in c.enter.new.self in
    let named = c.name.ensures ∙ ap (λ (p : Pkg). p.name) c.pkg-pkg.ensures ∙ sym (ap (λ (r : Record). r.name) c.unpacked_over.ensures) in
    let provided = c.provides.ensures ∙ ap (λ (p : Pkg). p.relations.provides) c.pkg-pkg.ensures
    ∙ sym (ap (λ (r : Record). r.relations.provides) c.unpacked_over.ensures) in
    listed-set c.self.inside.records.items c.args.place new (places_in c.self.inside.places) places c.in_ok-enter.ensures.kept
    (entered-for new c.name.result.now c.provides.result.now c.args.place places named provided c.in_ok-enter.ensures.entered)
    c.self.invariant

pub returns-clause-ok : goal.returns-clause-ok
returns-clause-ok c =
    let name = c.args.listed.now.pkg.name in
    changed-at name (unpacked_over c.args.listed.now) c.self.inside.records.items c.args.place c.index.result.now c.unpacked_over.result
    (subst HasDistinctNames (sym c.self.view_is) c.requires.distinct)
    (subst (λ db. IsPlaceOf name db c.args.place) (sym c.self.view_is) c.requires.place) c.index.ensures c.unpacked_over.ensures
    ∙ ap (changed (is_named name) (unpacked_over c.args.listed.now)) c.self.view_is
