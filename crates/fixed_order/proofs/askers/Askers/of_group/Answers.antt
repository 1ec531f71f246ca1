-- The places of one name more are added.
use Rattle.std.proofs.Common.{ℕ, List, ap, take, ◌∙◌}
use Rattle.std.specs.List.{All, Contains}
use Rattle.plancheck_group.proofs.PartLemmas.{up_to_end, up_to_next}
use Rattle.fixed_order.specs.Askers.{asking_in}
use Rattle.fixed_order.proofs.MarkLemmas.{places_more}
use Rattle.fixed_order.proofs.askers.Askers.of_group.Goals as goal

pub loop-name-preserved : goal.loop-name-preserved
loop-name-preserved c = up_to_next (All (λ name. All (Contains c.extend_from_slice.new.self.items) (asking_in c.args.self.now name))) c.args.group.now
    c.loop-name.name-index c.name-item.result c.loop-name-test.true c.name-item.is
    (places_more c.args.self.now (take c.loop-name.name-index c.args.group.now) c.name-item.result c.loop-name.places.items c.of.result.now
    c.extend_from_slice.new.self.items c.in_ok-extend_from_slice.ensures.items
    (c.of.ensures ∙ ap (λ (name : List ℕ). asking_in c.args.self.now name) c.as_bytes.ensures.bytes) c.loop-name.invariant)

pub returns : goal.returns
returns c = up_to_end (All (λ name. All (Contains c.loop-name.places.items) (asking_in c.args.self.now name))) c.args.group.now
    c.loop-name.name-index c.loop-name-test.false c.loop-name.invariant
