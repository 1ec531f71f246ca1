-- The table tells for which names the goals ask.
use Rattle.search_settle.proofs.AskedLemmas.{asked_decides}
use Rattle.search_settle.proofs.asked.Asked.has.Goals as goal

pub returns : goal.returns
returns c = λ goals same. asked_decides c.args.name.now goals c.self.inside.names.keys c.args.self.now c.contains.result c.contains.ensures c.self.view_is same
