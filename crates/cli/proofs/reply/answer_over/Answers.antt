-- The texts with the request are what the universe is built from, and their indices are those that are lent.
use Rattle.candidates.specs.Inputs.{indices_of}
use Rattle.inputs.specs.ReadAs.{asking}
use Rattle.inputs.proofs.ReadAsLemmas.{indexed-asking}
use Rattle.cli.proofs.reply.answer_over.Goals as goal

pub returns : goal.returns
returns g c = λ texts read. c.answer.ensures.said (asking c.args.request.now texts) (c.in_ok-requested.ensures.asked texts read)
    (indexed-asking texts c.args.request.now (indices_of c.args.before.now.indices.now) read.read.listed.indexed)
