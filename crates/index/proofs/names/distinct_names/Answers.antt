use Rattle.index.proofs.NameLemmas.{names-next}
use Rattle.index.proofs.names.distinct_names.Goals as goal

pub loop-entry-preserved : goal.loop-entry-preserved
loop-entry-preserved c = names-next c.args.entries.now c.loop-entry.entry-index c.entry-item.result c.loop-entry.names.keys
    c.insert.new.self.keys c.name.result c.loop-entry-test.true c.entry-item.is c.name.ensures c.in_ok-insert.ensures.keys
    c.loop-entry.invariant
