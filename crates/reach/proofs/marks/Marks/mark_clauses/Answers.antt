-- What one more clause asks for is marked, and in the end what all ask for.
use Rattle.std.proofs.Common.{List, refl}
use Rattle.rules.specs.Package.{Atom, MatchesSome}
use Rattle.reach.proofs.ListLemmas.{item_in}
use Rattle.reach.proofs.MarkLemmas.{extends_further}
use Rattle.reach.proofs.ReachLemmas.{all_items, more_items}
use Rattle.reach.proofs.marks.Marks.mark_clauses.Goals as goal

pub loop-clause-preserved : goal.loop-clause-preserved
loop-clause-preserved c = (
  extends_further c.args.self.now c.loop-clause.self c.mark_clause.new.self c.loop-clause.invariant.0 c.in_ok-mark_clause.ensures.extends,
  more_items c.args.providers.now c.loop-clause.self c.mark_clause.new.self (λ (each : List Atom) pkg. MatchesSome pkg each) c.args.clauses.now c.loop-clause.clause-index c.clause-item.result
      c.in_ok-mark_clause.ensures.extends
      (item_in c.args.clauses.now c.args.clauses.now c.loop-clause.clause-index c.clause-item.result refl c.loop-clause-test.true c.clause-item.is)
      c.loop-clause.invariant.1 c.in_ok-mark_clause.ensures.marked,
)

pub returns-clause-marked : goal.returns-clause-marked
returns-clause-marked c = all_items c.args.providers.now c.loop-clause.self (λ (each : List Atom) pkg. MatchesSome pkg each) c.args.clauses.now c.loop-clause.clause-index
    c.loop-clause-test.false c.loop-clause.invariant.1
