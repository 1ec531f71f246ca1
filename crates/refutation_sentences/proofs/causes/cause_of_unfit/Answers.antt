-- Where no pair has the name none of its versions is admitted, and so none fits.
use Rattle.std.proofs.Common.{◌∙◌, List, ℕ, [], subst, sym}
use Rattle.input_notes.specs.Inputs.{stanzas_of}
use Rattle.refutation_sentences.specs.Offers.{AreNumbersOf, IsBy}
use Rattle.refutation_sentences.specs.declared.offers.By.TheVariants as by
use Rattle.refutation_sentences.proofs.CauseLemmas.{none_fits}
use Rattle.refutation_sentences.proofs.causes.cause_of_unfit.Goals as goal

pub cause_of_unnamed-requires : goal.cause_of_unnamed-requires
cause_of_unnamed-requires c =
    let u = c.args.context.now.premises.now in
    let asked = c.args.wanted.now in
    let pairs : AreNumbersOf u (IsBy by.Name asked.name) c.in_ok-named.named.items =
    subst (λ (name : List ℕ). AreNumbersOf u (IsBy by.Name name) c.in_ok-named.named.items) c.name-name.ensures c.in_ok-named.ensures in
    let none : AreNumbersOf u (IsBy by.Name asked.name) [] =
    subst (AreNumbersOf u (IsBy by.Name asked.name)) (c.is_none.ensures.0 c.if-is_none.true)
    (subst (AreNumbersOf u (IsBy by.Name asked.name)) (sym c.as_slice.ensures.value) pairs) in
    record { pairs = none; stanzas = none_fits u asked (stanzas_of c.args.context.now.indices.now) none c.requires }

pub cause_of_named-requires : goal.cause_of_named-requires
cause_of_named-requires c =
    subst (λ (name : List ℕ). AreNumbersOf c.args.context.now.premises.now (IsBy by.Name name) c.in_ok-named.named.items) c.name-name.ensures
    c.in_ok-named.ensures
