-- A member that can't be left out or replaced is at rest.
use Rattle.search_settle.specs.Truth.{holds}
use Rattle.search_settle.proofs.RestLemmas.{member_at_rest}
use Rattle.search_settle.proofs.moves.move_of_member.Goals as goal

pub returns-in-None : goal.returns-in-None
returns-in-None c = member_at_rest c.args.given.now c.args.known.now (holds c.args.set.now.items) c.args.number c.replacing.result
    c.requires.selected c.in-None.ensures c.replacing.ensures
