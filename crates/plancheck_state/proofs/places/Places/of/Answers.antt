-- The list of the name's number, or none where the name has no number.
use Rattle.std.proofs.Common.{◌≡◌, ◌∙◌, None, ap, sym}
use Rattle.plancheck_state.specs.Holders.{places_in}
use Rattle.plancheck_state.proofs.PlaceLemmas.{number-within, number_of, places-nowhere, places-read}
use Rattle.plancheck_state.proofs.places.Places.of.Goals as goal

pub returns-in-Some : goal.returns-in-Some
returns-in-Some c =
    let lists = c.self.inside.lists.items in
    let es = c.self.inside.numbers.entries in
    let name = c.args.name.now in
    let copied = sym c.copied.ensures ∙ c.in-Some.is in
    let within = number-within c.get.result _ _ c.in-Some.number c.self.invariant c.get.ensures.member copied in
    c.as_slice.ensures
    ∙ places-read name lists es c.in-Some.number c.index.result.now (sym c.get.ensures.value ∙ copied) within c.index.ensures
    ∙ ap (λ table. places_in table name) c.self.view_is

pub returns-in-None : goal.returns-in-None
returns-in-None c =
    let lists = c.self.inside.lists.items in
    let es = c.self.inside.numbers.entries in
    let name = c.args.name.now in
    let e : number_of name es ≡ None = sym c.get.ensures.value ∙ sym c.copied.ensures ∙ c.in-None.is in
    sym (ap (λ table. places_in table name) (sym c.self.view_is) ∙ places-nowhere name lists es e)
