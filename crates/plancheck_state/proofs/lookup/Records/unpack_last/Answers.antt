-- The place behind the last is entered for the package that is unpacked, whose record comes there.
use Rattle.std.proofs.Common.{◌∙◌, ap, subst, sym}
use Rattle.rules.specs.Database.{Record}
use Rattle.rules.specs.Package.{Pkg}
use Rattle.plancheck_state.specs.Holders.{AreListed, places_in}
use Rattle.plancheck_state.proofs.ListedLemmas.{entered-for, listed-push}
use Rattle.plancheck_state.proofs.lookup.Records.unpack_last.Goals as goal

pub invariant_of-self-2 : goal.invariant_of-self-2
invariant_of-self-2 c =
    let new = c.unpacked_with.result in
    let places = places_in c.enter.new.self in
    let named = c.name.ensures ∙ ap (λ (p : Pkg). p.name) c.pkg-pkg.ensures ∙ sym (ap (λ (r : Record). r.name) c.unpacked_with.ensures) in
    let provided = c.provides.ensures ∙ ap (λ (p : Pkg). p.relations.provides) c.pkg-pkg.ensures
    ∙ sym (ap (λ (r : Record). r.relations.provides) c.unpacked_with.ensures) in
    subst (AreListed places) (sym c.in_ok-push.ensures.items)
    (listed-push c.self.inside.records.items c.len.result new (places_in c.self.inside.places) places c.in_ok-enter.ensures.kept
    (entered-for new c.name.result.now c.provides.result.now c.len.result places named provided c.in_ok-enter.ensures.entered)
    (c.len.ensures ∙ c.self.inside.records.ok.0) c.self.invariant)
