-- What the clause selects is needed, and reached.
use Rattle.std.proofs.Common.{◌≡◌, true}
use Rattle.search_settle.specs.Truth.{holds}
use Rattle.search_settle.proofs.ReachLemmas.{needed_sound, each_selected}
use Rattle.search_settle.proofs.reached.Reached.reach_clause.Goals as goal

pub reach_literal-requires-clause-sound : goal.reach_literal-requires-clause-sound
reach_literal-requires-clause-sound c = needed_sound c.args.given.now c.args.known.now (holds c.args.set.now.items) c.loop-literal.self
    c.args.number c.args.place c.clause-literal-items.result.now c.loop-literal.literal-index c.loop-literal.invariant.0
    (c.loop-literal.invariant.1.kept c.args.number c.requires.marked) c.requires.listed c.requires.need c.clause-literal-items.ensures
    c.loop-literal-test.true

pub returns-clause-reached : goal.returns-clause-reached
returns-clause-reached c = each_selected c.clause-literal-items.result.now _
    (λ other. holds c.args.set.now.items other ≡ true → holds c.loop-literal.self.marks other ≡ true) c.clause-literal-items.ensures
    c.loop-literal.literal-index c.loop-literal-test.false c.loop-literal.invariant.2
