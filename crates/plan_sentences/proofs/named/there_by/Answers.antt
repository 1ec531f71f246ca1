-- The record of the name is one of the database.
use Rattle.std.proofs.Common.{◌∙◌, ap, sym}
use Rattle.rules.specs.State.{is_present_state}
use Rattle.plan_sentences.proofs.ThereLemmas.{is_there}
use Rattle.plan_sentences.proofs.named.there_by.Goals as goal

pub returns-in_ok-record_text-in-Some : goal.returns-in_ok-record_text-in-Some
returns-in_ok-record_text-in-Some c = λ atoms distinct within.
    is_there c.args.db.now atoms c.args.atom.now c.name.result.now c.in_ok-record_text-in-Some.field-0.items c.in-Some.entry.now within
    c.name.ensures (c.in-Some.ensures distinct) (sym (c.is_present.ensures ∙ ap is_present_state c.state.ensures) ∙ c.if-is_present.true)
    c.in_ok-record_text-in-Some.ensures
