-- Nothing passes where a lost name is gone, or where nothing is left.
use Rattle.std.proofs.Common.{refl}
use Rattle.plancheck_group.proofs.DropLemmas.{nothing_where_empty, nothing_where_lost, within_others}
use Rattle.plancheck_group.proofs.PartLemmas.{has_through}
use Rattle.plancheck_group.proofs.group.is_lost_without.Goals as goal

pub keep_supplied-requires : goal.keep_supplied-requires
keep_supplied-requires c = within_others c.args.db.now c.args.ready.now c.in_ok-part.part c.drop_without.new.part c.args.name.now c.in_ok-part.ensures
    c.in_ok-hit.ensures.narrowed.has

pub returns-then-hit : goal.returns-then-hit
returns-then-hit c = (
  λ _. nothing_where_lost c.args.db.now c.args.ready.now c.in_ok-part.part c.drop_without.new.part c.args.lost.now c.args.name.now c.in_ok-part.ensures
      c.in_ok-hit.ensures.narrowed.has c.requires.lost (c.in_ok-hit.ensures.lost c.if-hit.true),
  λ _. refl,
)

pub returns : goal.returns
returns c =
    let both = nothing_where_empty c.args.db.now c.args.ready.now c.in_ok-part.part c.keep_supplied.new.part c.args.name.now c.requires.ready c.in_ok-part.ensures
    (has_through c.args.db.now c.in_ok-part.part c.drop_without.new.part c.keep_supplied.new.part c.in_ok-hit.ensures.narrowed.has
    c.in_ok-keep_supplied.ensures.has) c.in_ok-keep_supplied.ensures.supplied in (
      λ answer. both.0 (c.is_empty.ensures.0 answer),
      λ nothing. c.is_empty.ensures.1 (both.1 nothing),
    )
