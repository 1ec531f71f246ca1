-- The request is that of the shelf.
use Rattle.std.proofs.Common.{IfErr, IfOk, subst}
use Rattle.inputs.specs.Meaning.{DenotesAsked}
use Rattle.inputs.specs.ReadAs.{start_of}
use Rattle.inputs.specs.Refused.{IsRefusal}
use Rattle.inputs.specs.Texts.{Texts, texts_of}
use Rattle.inputs.proofs.ReadAsLemmas.{asking-same}
use Rattle.cli_engine.proofs.requested.read_asked.Goals as goal

pub returns-clause-asked : goal.returns-clause-asked
returns-clause-asked g c = λ at known read.
    let texts = texts_of c.args.before.now.settings.now at in
    let same = asking-same texts c.as_slice.result.now (rw c.as_slice.ensures.value (c.in_ok-text.ensures.text at known)) in
    subst (λ (ts : Texts). IfOk c.requested_in-answer.result (λ requested.
    DenotesAsked ts requested.universe (start_of c.args.before.now) requested.asks_all_versions)) same
    (c.requested_in-answer.ensures.asked texts read)

pub returns-clause-refused : goal.returns-clause-refused
returns-clause-refused g c = λ at known read.
    let texts = texts_of c.args.before.now.settings.now at in
    let same = asking-same texts c.as_slice.result.now (rw c.as_slice.ensures.value (c.in_ok-text.ensures.text at known)) in
    subst (λ (ts : Texts). IfErr c.requested_in-answer.result (λ refused. IsRefusal ts refused)) same
    (c.requested_in-answer.ensures.refused texts read)
