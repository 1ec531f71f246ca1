-- Another number that can't be added is at rest.
use Rattle.std.proofs.Common.{sym, ◌∙◌}
use Rattle.search_settle.specs.Truth.{holds}
use Rattle.search_settle.proofs.RestLemmas.{other_at_rest}
use Rattle.search_settle.proofs.moves.move_of.Goals as goal

pub returns-else-has : goal.returns-else-has
returns-else-has c = other_at_rest c.args.given.now c.args.known.now (holds c.args.set.now.items) c.args.number c.adding.result
    (sym c.has.ensures ∙ c.if-has.false) c.adding.ensures
