-- The request is that of the shelf.
use Rattle.std.proofs.Common.{◌≡◌, ◌∙◌, IfErr, IfOk, Some, ap, subst, sym}
use Rattle.inputs.specs.Meaning.{DenotesAsked}
use Rattle.inputs.specs.ReadAs.{asking, start_of}
use Rattle.inputs.specs.Refused.{IsRefusal}
use Rattle.inputs.specs.Texts.{Texts, texts_of}
use Rattle.inputs.proofs.ReadAsLemmas.{asking-same}
use Rattle.inputs.proofs.request.read_requested.Goals as goal

pub returns-clause-asked : goal.returns-clause-asked
returns-clause-asked g c = λ at known read.
    let before = c.args.before.now in
    let texts = texts_of before.settings.now at in
    let same : asking c.as_slice.result.now texts ≡ texts = asking-same texts c.as_slice.result.now (c.in_ok-text.ensures.text at known ∙ ap Some (sym c.as_slice.ensures.value)) in
    subst (λ (t : Texts). IfOk c.requested_in.result (λ requested. DenotesAsked t requested.universe (start_of before) requested.asks_all_versions)) same
    (c.requested_in.ensures.asked texts read)

pub returns-clause-refused : goal.returns-clause-refused
returns-clause-refused g c = λ at known read.
    let before = c.args.before.now in
    let texts = texts_of before.settings.now at in
    let same : asking c.as_slice.result.now texts ≡ texts = asking-same texts c.as_slice.result.now (c.in_ok-text.ensures.text at known ∙ ap Some (sym c.as_slice.ensures.value)) in
    subst (λ (t : Texts). IfErr c.requested_in.result (λ refused. IsRefusal t refused)) same (c.requested_in.ensures.refused texts read)
