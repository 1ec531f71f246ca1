-- The ready names stand for all.
use Rattle.std.proofs.Common.{subst, sym}
use Rattle.std.specs.List.{All}
use Rattle.plancheck_group.specs.Part.{IsReady, NothingWithout}
use Rattle.plancheck_group.proofs.DropLemmas.{nothing_without_each, of_none}
use Rattle.plancheck_group.proofs.PartLemmas.{part_has}
use Rattle.plancheck_group.proofs.group.has_no_part.Goals as goal

pub lose-requires-clause-ready : goal.lose-requires-clause-ready
lose-requires-clause-ready c = part_has (IsReady c.args.db.now) c.args.names.now c.args.ready.now c.requires

pub are_lost-requires-clause-ready : goal.are_lost-requires-clause-ready
are_lost-requires-clause-ready c = part_has (IsReady c.args.db.now) c.args.names.now c.args.ready.now c.requires

pub lose-requires-clause-lost : goal.lose-requires-clause-lost
lose-requires-clause-lost c = subst (All (NothingWithout c.args.db.now c.args.ready.now)) (sym c.new-lost.ensures)
    (of_none (NothingWithout c.args.db.now c.args.ready.now))

pub returns : goal.returns
returns c =
    let both = nothing_without_each c.args.db.now c.args.names.now c.args.ready.now c.requires in (
      λ answer. both.0 (c.in_ok-answer.ensures.0 answer),
      λ all. c.in_ok-answer.ensures.1 (both.1 all),
    )
