-- The table tells which names the steps unpack.
use Rattle.json_answers.proofs.UnpackedLemmas.{table_tells}
use Rattle.json_answers.proofs.unpacked.UnpackedNames.has.Goals as goal

pub returns : goal.returns
returns c = λ steps same. table_tells c.args.name.now steps c.self.inside.names.keys c.args.self.now c.contains.result c.contains.ensures c.self.view_is same
