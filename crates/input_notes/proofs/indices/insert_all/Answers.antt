-- One stanza more.
use Rattle.std.proofs.Common.{subst}
use Rattle.std.proofs.lemmas.List.{take_all}
use Rattle.input_notes.specs.Keys.{AddsKeys}
use Rattle.input_notes.proofs.IndexLemmas.{adds_next, adds_nothing}
use Rattle.input_notes.proofs.indices.insert_all.Goals as goal

pub loop-entry-init : goal.loop-entry-init
loop-entry-init c = adds_nothing c.args.table.now.keys

pub loop-entry-preserved : goal.loop-entry-preserved
loop-entry-preserved c = adds_next c.args.table.now.keys c.loop-entry.table.keys c.insert_one.new.table.keys c.args.entries.now
    c.loop-entry.entry-index c.entry-item.result c.loop-entry-test.true c.entry-item.is c.loop-entry.invariant c.in_ok-insert_one.ensures

pub returns : goal.returns
returns c = subst (AddsKeys c.args.table.now.keys c.loop-entry.table.keys)
    (take_all c.loop-entry.entry-index c.args.entries.now c.loop-entry-test.false) c.loop-entry.invariant
