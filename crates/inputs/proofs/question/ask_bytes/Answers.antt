-- The texts in memory are what is found on their shelf.
use Rattle.std.proofs.Common.{refl}
use Rattle.std.specs.Option.{option_copied}
use Rattle.inputs.specs.Inputs.{shelved}
use Rattle.inputs.proofs.question.ask_bytes.Goals as goal

pub returns-clause-said : goal.returns-clause-said
returns-clause-said g c = c.ask.ensures.said (shelved c.args.inputs.now (option_copied c.args.judged))
    (rw (c.new-shelf.ensures.inputs, c.new-shelf.ensures.judged) refl)
