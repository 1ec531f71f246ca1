-- The places that stay are moved.
use Rattle.std.proofs.Common.{◌≡◌, ◌==◌, ℕ, List, not, map, length, take, drop, ◌++◌, ap, subst, sym, rules, ◌∙◌}
use Rattle.std.proofs.Math.ListN.{length-map}
use Rattle.std.specs.List.{filter}
use Rattle.std.proofs.lemmas.Fn.{filter_same}
use Rattle.plancheck_state.specs.Holders.{IsAscending, moved_down, places_left}
use Rattle.plancheck_state.proofs.AscendingLemmas.{left-ascends}
use Rattle.plancheck_state.proofs.PlaceLemmas.{refilled}
use Rattle.plancheck_state.proofs.place_list.PlaceList.close_gap.Goals as goal

pub invariant_of-self : goal.invariant_of-self
invariant_of-self c = subst IsAscending (sym (refilled c.retain.new.self.items c.move_down.new.places _ c.retain.new.self.ok.0
    (ap length c.move_down.ensures ∙ length-map c.as_mut_slice.result.now (moved_down c.args.gone) ∙ ap length c.as_mut_slice.ensures.value)
    ∙ c.move_down.ensures
    ∙ ap (map (moved_down c.args.gone)) (c.as_mut_slice.ensures.value ∙ filter_same _ (λ (place : ℕ). not (place == c.args.gone)) _
    (λ place stays f called. search rules) _ _ c.retain.ensures.filtered)))
    (left-ascends c.args.gone c.self.inside.places.items c.self.invariant)

pub returns : goal.returns
returns c = refilled c.retain.new.self.items c.move_down.new.places _ c.retain.new.self.ok.0
    (ap length c.move_down.ensures ∙ length-map c.as_mut_slice.result.now (moved_down c.args.gone) ∙ ap length c.as_mut_slice.ensures.value)
    ∙ c.move_down.ensures
    ∙ ap (map (moved_down c.args.gone)) (c.as_mut_slice.ensures.value ∙ filter_same _ (λ (place : ℕ). not (place == c.args.gone)) _
    (λ place stays f called. search rules) _ _ c.retain.ensures.filtered)
    ∙ ap (places_left c.args.gone) c.self.view_is
