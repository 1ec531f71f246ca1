-- A place that is found is there, and one that isn't comes behind the lower and before the higher ones.
use Rattle.std.proofs.Common.{ℕ, List, Contains, Err, subst, sym, ◌∙◌}
use Rattle.std.specs.List.{All, insert}
use Rattle.std.proofs.lemmas.List.Elements.{All-contains_itself}
use Rattle.std.proofs.lemmas.List.Sorted.{searched}
use Rattle.plancheck_state.specs.Holders.{IsAscending}
use Rattle.plancheck_state.proofs.AscendingLemmas.{inserted-ascends, never-falls}
use Rattle.plancheck_state.proofs.PlaceLemmas.{inserted-keeps}
use Rattle.plancheck_state.proofs.place_list.PlaceList.enter.Goals as goal

pub returns-in-Ok-clause-kept : goal.returns-in-Ok-clause-kept
returns-in-Ok-clause-kept c = All-contains_itself c.args.self.now

pub returns-in_err-insert-in-Err-clause-kept : goal.returns-in_err-insert-in-Err-clause-kept
returns-in_err-insert-in-Err-clause-kept c =
    let There : List ℕ → Type 0 = λ places. All (Contains places) c.args.self.now in
    subst There (sym (c.in_err-insert-in-Err.ensures.items ∙ c.self.view_is)) (All-contains_itself c.args.self.now)

pub returns-in_ok-insert-in-Err-clause-kept : goal.returns-in_ok-insert-in-Err-clause-kept
returns-in_ok-insert-in-Err-clause-kept c =
    let old = c.self.inside.places.items in
    let There : List ℕ → Type 0 = λ places. All (Contains places) c.args.self.now in
    subst There (sym c.in_ok-insert-in-Err.ensures.items)
    (subst (All (Contains (insert old c.in-Err.at c.args.place))) c.self.view_is (inserted-keeps old c.in-Err.at c.args.place))

pub invariant_of-self-in-Err : goal.invariant_of-self-in-Err
invariant_of-self-in-Err c =
    let places = c.as_slice.result.now in
    let up : IsAscending places = subst IsAscending (sym c.as_slice.ensures.value) c.self.invariant in
    let position = searched places c.args.place (Err c.in-Err.at) c.in-Err.ensures.position (never-falls places up) in
    subst IsAscending (sym c.in_ok-insert-in-Err.ensures.items)
    (subst (λ (xs : List ℕ). IsAscending (insert xs c.in-Err.at c.args.place)) c.as_slice.ensures.value
    (inserted-ascends places c.in-Err.at c.args.place up position.0 position.1 position.2))
