-- What was read before the preferences says that their refusal is the first, and what all are read as.
use Rattle.std.proofs.Common.{◌∙◌, refl}
use Rattle.std.proofs.lemmas.Result.{err_from_is_err_and}
use Rattle.candidates.specs.Inputs.{indices_of}
use Rattle.status_text.specs.Slot.{slot_records}
use Rattle.inputs.specs.Texts.{texts_of}
use Rattle.inputs.proofs.ReadAsLemmas.{lent_listed}
use Rattle.inputs.proofs.question.ask_by.Goals as goal

pub returns-in_err-prefs-clause-said : goal.returns-in_err-prefs-clause-said
returns-in_err-prefs-clause-said g c = λ at known started slots named indexed.
    let texts = texts_of c.args.settings.now at in
    let listed = lent_listed texts (slot_records c.args.status_file.now.slots) c.args.releases.items
    c.args.kept.now c.in_ok-indices.indices.items c.in_ok-indices.indices.items started indexed c.in_ok-indices.ensures refl in
    let p = err_from_is_err_and c.from_residual-in_err-prefs.result c.from_residual-in_err-prefs.ensures.1 in
    rw (p.1, p.2) (g.met.Q.Question.refuses c.args.question.now texts at.judged c.args.beside.now _
    (c.in_err-prefs.ensures.refused at (slot_records c.args.status_file.now.slots) (indices_of c.in_ok-indices.indices.items) known listed))

pub returns-clause-said : goal.returns-clause-said
returns-clause-said g c = λ at known started slots named indexed.
    let texts = texts_of c.args.settings.now at in
    let listed = lent_listed texts (slot_records c.args.status_file.now.slots) c.args.releases.items
    c.args.kept.now c.in_ok-indices.indices.items c.as_slice.result.now started indexed c.in_ok-indices.ensures c.as_slice.ensures.value in
    c.answer.ensures.said at (c.in_ok-prefs.ensures.read.same ∙ known) (record {
      arch = refl;
      read = c.in_ok-prefs.ensures.ok at (slot_records c.args.status_file.now.slots) (indices_of c.as_slice.result.now) known listed;
      status_is = slots;
      named = named;
    })
