-- What was read before each text says that its refusal is the first; behind the indices it goes on.
use Rattle.std.proofs.Common.{◌∙◌, Some, ap, map, sym}
use Rattle.std.proofs.lemmas.Result.{err_from_is_err_and}
use Rattle.status_text.specs.Slot.{slot_records}
use Rattle.inputs.specs.ReadAs.{files_of}
use Rattle.inputs.specs.Texts.{texts_of}
use Rattle.inputs.proofs.ReadAsLemmas.{lent_indexed}
use Rattle.inputs.proofs.question.ask.Goals as goal

pub returns-in_err-text-clause-said : goal.returns-in_err-text-clause-said
returns-in_err-text-clause-said g c = λ at known.
    let texts = texts_of c.args.settings.now at in
    let started = c.in_ok-status_file.ensures.ok texts (c.in_ok-status.ensures.text at known) in
    let p = err_from_is_err_and c.from_residual-in_err-text.result c.from_residual-in_err-text.ensures.1 in
    rw (p.1, p.2) (g.met.Q.Question.refuses c.args.question.now texts at.judged c.args.beside.now _
    (c.in_err-text.ensures.refused at c.args.settings.now (c.in_ok-status.ensures.read.same ∙ known) (slot_records c.in_ok-status_file.status_file.slots, started)))

pub returns-in_err-sources-clause-said : goal.returns-in_err-sources-clause-said
returns-in_err-sources-clause-said g c = λ at known.
    let texts = texts_of c.args.settings.now at in
    let started = c.in_ok-status_file.ensures.ok texts (c.in_ok-status.ensures.text at known) in
    let p = err_from_is_err_and c.from_residual-in_err-sources.result c.from_residual-in_err-sources.ensures.1 in
    rw (p.1, p.2) (g.met.Q.Question.refuses c.args.question.now texts at.judged c.args.beside.now _
    (c.in_err-sources.ensures.refused at c.args.settings.now
    (c.in_ok-text.ensures.text at (c.in_ok-status.ensures.read.same ∙ known) ∙ ap Some (sym c.as_slice.ensures.value))
    (slot_records c.in_ok-status_file.status_file.slots, started)))

pub returns-in_err-kept-clause-said : goal.returns-in_err-kept-clause-said
returns-in_err-kept-clause-said g c = λ at known.
    let texts = texts_of c.args.settings.now at in
    let started = c.in_ok-status_file.ensures.ok texts (c.in_ok-status.ensures.text at known) in
    let named = c.in_ok-sources.ensures.ok at c.args.settings.now
    (c.in_ok-text.ensures.text at (c.in_ok-status.ensures.read.same ∙ known) ∙ ap Some (sym c.as_slice.ensures.value)) in
    let p = err_from_is_err_and c.from_residual-in_err-kept.result c.from_residual-in_err-kept.ensures.1 in
    rw (p.1, p.2) (g.met.Q.Question.refuses c.args.question.now texts at.judged c.args.beside.now _
    (c.in_err-kept.ensures.refused at (c.in_ok-text.ensures.read.same ∙ (c.in_ok-status.ensures.read.same ∙ known)) named
    (slot_records c.in_ok-status_file.status_file.slots, started)))

pub returns-clause-said : goal.returns-clause-said
returns-clause-said g c = λ at known.
    let texts = texts_of c.args.settings.now at in
    let text = c.in_ok-status.ensures.text at known in
    let still_known = c.in_ok-text.ensures.read.same ∙ (c.in_ok-status.ensures.read.same ∙ known) in
    let named = c.in_ok-sources.ensures.ok at c.args.settings.now
    (c.in_ok-text.ensures.text at (c.in_ok-status.ensures.read.same ∙ known) ∙ ap Some (sym c.as_slice.ensures.value)) in
    c.ask_by.ensures.said at (c.in_ok-kept.ensures.read.same ∙ still_known)
    (c.in_ok-status_file.ensures.ok texts text)
    (c.in_ok-status_file.ensures.slots texts text)
    (record {
      sources = c.in_ok-sources.sources.items;
      sources_are = named;
      files_are = ap (map (λ file. file.now)) c.as_slice-3.ensures.value ∙ c.in_ok-files.ensures ∙ ap files_of c.as_slice-2.ensures.value;
    })
    (lent_indexed texts c.in_ok-kept.releases.items c.in_ok-kept.kept.items c.as_slice-4.result.now
    (c.in_ok-kept.ensures.ok at still_known named) c.as_slice-4.ensures.value)
