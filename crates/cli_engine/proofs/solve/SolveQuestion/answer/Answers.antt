-- The indices of the texts are those that are lent.
use Rattle.inputs.specs.Texts.{texts_of}
use Rattle.cli_engine.proofs.solve.SolveQuestion.answer.Goals as goal

pub returns-clause-said : goal.returns-clause-said
returns-clause-said g c = λ at known read. c.answer.ensures.said (texts_of c.args.before.now.settings.now at)
    (c.in_ok-requested.ensures.asked at known read) read.read.listed.indexed
