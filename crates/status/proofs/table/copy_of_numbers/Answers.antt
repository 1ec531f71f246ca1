use Rattle.std.proofs.Common.{◌≡◌, ◌∙◌, ◌<◌, Some, add-one, ap, get_or, map, slice_get, subst, sym, take, ℕ, List}
use Rattle.std.proofs.lemmas.Option.{slice_get-map}
use Rattle.std.specs.List.{zip}
use Rattle.std.specs.Option.{option_map}
use Rattle.indexmap.proofs.CallerLemmas.{insert_entry-new}
use Rattle.status.proofs.TextLemmas.{at-default, at-place, copy-fresh, copy-more, items-length, names_in}
use Rattle.status.proofs.table.copy_of_numbers.Goals as goal

pub loop-place-preserved : goal.loop-place-preserved
loop-place-preserved c =
    let place = c.loop-place.place in
    let names = map (λ name. name.items) c.args.names.now in
    let numbers = c.args.numbers.now in
    let owned = c.in_ok-owned.owned in
    let there : slice_get names place ≡ Some owned.items =
    slice_get-map (λ name. name.items) c.args.names.now place
    ∙ ap (option_map (λ name. name.items)) (at-place c.args.names.now place c.index-names-place.result c.loop-place-test.true c.index-names-place.is)
    ∙ ap (λ (name : List ℕ). Some name) (sym (c.in_ok-owned.ensures.items ∙ c.as_slice.ensures.value)) in
    let numbered : slice_get numbers place ≡ Some (get_or numbers place 0) =
    at-default numbers place 0 (subst (λ n. place < n) (sym c.requires.each) c.loop-place-test.true) in
    let fresh = copy-fresh c.loop-place.copy.entries names numbers place owned.items c.requires.distinct (c.requires.each ∙ sym (items-length c.args.names.now))
    c.loop-place.invariant there in
    ap names_in (c.in_ok-insert.ensures.entries ∙ insert_entry-new _ c.loop-place.copy owned (get_or numbers place 0) fresh)
    ∙ copy-more c.loop-place.copy.entries names numbers place owned (get_or numbers place 0) c.loop-place.invariant there numbered
    ∙ (λ i. zip (take (sym (add-one place) i) names) (take (sym (add-one place) i) numbers))
