-- Each list has its gap closed.
use Rattle.std.proofs.Common.{◌∙◌, length, map, ap}
use Rattle.std.proofs.Math.ListN.{length-map}
use Rattle.plancheck_state.specs.Holders.{places_in, places_left}
use Rattle.plancheck_state.proofs.PlaceLemmas.{closed-places, refilled}
use Rattle.plancheck_state.proofs.places.Places.close_gap.Goals as goal

pub returns : goal.returns
returns c name = closed-places c.args.gone name c.self.inside.lists.items _ c.self.inside.numbers.entries
    (refilled c.self.inside.lists.items c.close_gaps.new.lists _ c.self.inside.lists.ok.0
    (ap length c.close_gaps.ensures ∙ length-map c.as_mut_slice.result.now (places_left c.args.gone) ∙ ap length c.as_mut_slice.ensures.value)
    ∙ c.close_gaps.ensures
    ∙ ap (map (places_left c.args.gone)) c.as_mut_slice.ensures.value)
    ∙ ap (λ table. places_left c.args.gone (places_in table name)) c.self.view_is
