-- The pairs are those of which the clause says that one is selected.
use Rattle.std.proofs.Common.{◌≡◌, ◌++◌, ◌∙◌, ap, subst, sym}
use Rattle.std.specs.Prelude.{codes}
use Rattle.refutation.specs.Clause.{IsListOf}
use Rattle.refutation.specs.Premise.{IsInPremise}
use Rattle.refutation.specs.declared.literal.Literal.TheVariants as literal
use Rattle.refutation_sentences.specs.Sentences.{IsTold}
use Rattle.refutation_sentences.proofs.sentence.sentence_of.Goals as goal

pub returns : goal.returns
returns c =
    let u = c.args.context.now.premises.now in
    let premise = c.args.basis.now.premise.now in
    let grown = c.in_ok-push_premise.ensures in
    let said = grown.0 in
    let clause : IsListOf (IsInPremise u premise) c.as_slice.result.now =
    subst (IsListOf (IsInPremise u premise)) (sym c.as_slice.ensures) c.requires in
    let last : c.extend_from_slice.new.self.items ≡ c.push_premise.new.text.items ++ codes ".\n" = cc c.in_ok-extend_from_slice.ensures.items in
    let first : c.push_premise.new.text.items ≡ said = grown.1 ∙ ap (λ text. text ++ said) c.new-text.ensures.items in (
      c.in_ok-numbers.numbers.keys,
      said,
      λ number. (
        λ within. (clause (literal.Selected number)).0 ((c.in_ok-numbers.ensures number).0 within),
        λ is. (c.in_ok-numbers.ensures number).1 ((clause (literal.Selected number)).1 is),
      ),
      last ∙ ap (λ text. text ++ codes ".\n") first,
      subst (λ numbers. IsTold u c.args.context.now.indices.now premise numbers said) c.as_slice-2.ensures.keys grown.2,
    )
