-- The last place is that of the last clause.
use Rattle.std.proofs.Common.{◌==◌, ◌<◌, List, [], length, slice_index_or, ap, sym, ◌∙◌}
use Rattle.std.proofs.lemmas.List.{get_or_default}
use Rattle.refutation.specs.declared.literal.Literal.{Literal}
use Rattle.refutecheck.proofs.KeptLemmas.{ends_where, last_has}
use Rattle.refutecheck.proofs.kept.Kept.ends_with_none.Goals as goal

pub returns-in-Some : goal.returns-in-Some
returns-in-Some c =
    let lists = c.self.inside.lists.items in
    let places = c.self.inside.places.items in
    let last = c.in-Some.last.now in
    let is = sym c.as_slice.ensures.value ∙ c.in-Some.ensures.cases.0 in
    let within = last_has (λ place. place < length lists) places c.in-Some.field-0-1.now last is c.self.invariant in
    ends_where (λ place. slice_index_or lists place []) c.args.self.now places c.in-Some.field-0-1.now last c.is_empty.result is c.self.view_is
    (c.is_empty.ensures ∙ ap (λ (clause : List Literal). length clause == 0)
    (c.as_slice-in-Some.ensures ∙ c.index.ensures ∙ get_or_default lists last c.index.result.now [] within))
