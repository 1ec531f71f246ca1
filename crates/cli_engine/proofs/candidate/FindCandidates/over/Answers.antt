-- What the texts are read as says whose candidates these are.
use Rattle.std.proofs.Common.{map, subst, sym}
use Rattle.candidates.specs.Inputs.{indices_of}
use Rattle.inputs.specs.ReadAs.{start_of}
use Rattle.cli_engine.specs.Answer.{AreCandidateAnswers}
use Rattle.cli_engine.proofs.NameLemmas.{answered_by}
use Rattle.cli_engine.proofs.candidate.FindCandidates.over.Goals as goal

pub returns-clause-said : goal.returns-clause-said
returns-clause-said c = λ texts read.
    let before = c.args.before.now in
    let names = map (λ name. name.now) c.args.self.now.names.now in
    subst (AreCandidateAnswers texts names) (sym c.new.ensures)
    (answered_by texts (start_of before) (indices_of before.indices.now) before.prefs.now names c.in_ok-candidates.candidates.items read.read
    c.in_ok-candidates.ensures)
