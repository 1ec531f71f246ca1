-- What is entered in a list, or is a list of its own, leaves each other place where it was.
use Rattle.std.proofs.Common.{◌≡◌, ◌∙◌, None, Contains, refl, subst, sym}
use Rattle.indexmap.proofs.CallerLemmas.{insert_entry-new}
use Rattle.plancheck_state.specs.Holders.{listed, places_in}
use Rattle.plancheck_state.proofs.PlaceLemmas.{both-has, entered-has, keeps-both, keeps-lists, keeps-new, number_of, within-both}
use Rattle.plancheck_state.proofs.places.Places.add.Goals as goal

pub returns-in_err-insert-in-None-clause-kept : goal.returns-in_err-insert-in-None-clause-kept
returns-in_err-insert-in-None-clause-kept c name place within =
    subst (λ es. Contains (places_in (listed c.push.new.self.items es) name) place) (sym c.in_err-insert-in-None.ensures.err)
    (keeps-new c.self.inside.lists.items c.push.new.self.items c.self.inside.numbers.entries c.in_ok-of-in-None.field-0
    c.in_ok-push-in-None.ensures.items name place
    (subst (λ table. Contains (places_in table name) place) (sym c.self.view_is) within))

pub returns-in-Some-clause-kept : goal.returns-in-Some-clause-kept
returns-in-Some-clause-kept c name place within =
    keeps-lists c.self.inside.lists.items c.enter_in.new.lists.items c.self.inside.numbers.entries c.enter_in.ensures.kept name place
    (subst (λ table. Contains (places_in table name) place) (sym c.self.view_is) within)

pub returns-in-Some-clause-added : goal.returns-in-Some-clause-added
returns-in-Some-clause-added c =
    let copied = sym c.copied.ensures ∙ c.in-Some.is in
    entered-has c.enter_in.result c.args.name.now c.enter_in.new.lists.items c.self.inside.numbers.entries c.in-Some.number c.args.place
    c.enter_in.ensures.entered (sym c.get.ensures.value ∙ copied)

pub invariant_of-self-in-None : goal.invariant_of-self-in-None
invariant_of-self-in-None c =
    let e : number_of c.args.name.now c.self.inside.numbers.entries ≡ None = sym c.get.ensures.value ∙ sym c.copied.ensures ∙ c.in-None.is in
    within-both c.self.inside.lists.items c.push.new.self.items c.self.inside.numbers.entries c.insert.new.self.entries
    c.in_ok-of-in-None.field-0 (c.args.name, c.len-number.result) c.self.invariant c.in_ok-push-in-None.ensures.items
    (c.in_ok-insert-in-None.ensures.entries ∙ insert_entry-new _ c.self.inside.numbers c.args.name c.len-number.result e)
    (c.len-number.ensures ∙ c.self.inside.lists.ok.0)

pub returns-in_ok-insert-in-None-clause-kept : goal.returns-in_ok-insert-in-None-clause-kept
returns-in_ok-insert-in-None-clause-kept c name place within =
    let e : number_of c.args.name.now c.self.inside.numbers.entries ≡ None = sym c.get.ensures.value ∙ sym c.copied.ensures ∙ c.in-None.is in
    keeps-both c.self.inside.lists.items c.push.new.self.items c.self.inside.numbers.entries c.insert.new.self.entries
    c.in_ok-of-in-None.field-0 (c.args.name, c.len-number.result) c.in_ok-push-in-None.ensures.items
    (c.in_ok-insert-in-None.ensures.entries ∙ insert_entry-new _ c.self.inside.numbers c.args.name c.len-number.result e) name place
    (subst (λ table. Contains (places_in table name) place) (sym c.self.view_is) within)

pub returns-in_ok-insert-in-None-clause-added : goal.returns-in_ok-insert-in-None-clause-added
returns-in_ok-insert-in-None-clause-added c =
    let e : number_of c.args.name.now c.self.inside.numbers.entries ≡ None = sym c.get.ensures.value ∙ sym c.copied.ensures ∙ c.in-None.is in
    both-has c.args.name.now c.self.inside.lists.items c.push.new.self.items c.self.inside.numbers.entries c.insert.new.self.entries
    c.in_ok-of-in-None.field-0 (c.args.name, c.len-number.result) c.args.place c.in_ok-push-in-None.ensures.items
    (c.in_ok-insert-in-None.ensures.entries ∙ insert_entry-new _ c.self.inside.numbers c.args.name c.len-number.result e)
    c.in_ok-of-in-None.ensures e refl (c.len-number.ensures ∙ c.self.inside.lists.ok.0)
