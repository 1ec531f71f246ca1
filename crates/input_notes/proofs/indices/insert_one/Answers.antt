-- The name and the version are put into the table.
use Rattle.input_notes.proofs.IndexLemmas.{key_put}
use Rattle.input_notes.proofs.indices.insert_one.Goals as goal

pub returns : goal.returns
returns c = key_put c.args.table.now.keys c.insert.new.self.keys c.args.entry.now c.name.result c.version.result c.name.ensures
    c.version.ensures c.in_ok-insert.ensures.updates.0
