-- What one more atom asks for is marked, and in the end what all ask for.
use Rattle.std.proofs.Common.{arith, ap, length}
use Rattle.rules.specs.Package.{Atom, Matches, MatchesSome}
use Rattle.reach.proofs.ListLemmas.{item_in}
use Rattle.reach.proofs.MarkLemmas.{extends_further}
use Rattle.reach.proofs.ReachLemmas.{all_items, more_items}
use Rattle.reach.proofs.marks.Marks.mark_clause.Goals as goal

pub loop-atom-preserved : goal.loop-atom-preserved
loop-atom-preserved c = (
  extends_further c.args.self.now c.loop-atom.self c.mark_matching.new.self c.loop-atom.invariant.0 c.in_ok-mark_matching.ensures.extends,
  more_items c.args.providers.now c.loop-atom.self c.mark_matching.new.self (λ (each : Atom) pkg. Matches pkg each) c.args.clause.now c.loop-atom.atom-index c.atom-item.result
      c.in_ok-mark_matching.ensures.extends
      (item_in c.as_slice-atom-items.result.now c.args.clause.now c.loop-atom.atom-index c.atom-item.result c.as_slice-atom-items.ensures c.loop-atom-test.true c.atom-item.is)
      c.loop-atom.invariant.1 c.in_ok-mark_matching.ensures.marked,
)

pub returns-clause-marked : goal.returns-clause-marked
unfolding MatchesSome
returns-clause-marked c = all_items c.args.providers.now c.loop-atom.self (λ (each : Atom) pkg. Matches pkg each) c.args.clause.now c.loop-atom.atom-index
    (omega (arith, ap length c.as_slice-atom-items.ensures)) c.loop-atom.invariant.1
