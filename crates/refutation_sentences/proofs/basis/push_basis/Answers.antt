-- A premise of the universe with its clause is put behind the others.
use Rattle.std.proofs.Common.{◌≡◌, ◌∙◌, subst, sym}
use Rattle.std.specs.List.{All, Contains}
use Rattle.std.proofs.lemmas.List.Elements.{All-push, Contains-push}
use Rattle.refutation.specs.declared.line.Line.TheVariants as variant
use Rattle.refutecheck.specs.Answer.{IsAnswer}
use Rattle.refutation_sentences.specs.Sentences.{HasBasis, IsBasis}
use Rattle.refutation_sentences.proofs.LineLemmas.{basis_on}
use Rattle.refutation_sentences.proofs.basis.push_basis.Goals as goal

pub returns-in_ok-push-clause-bases : goal.returns-in_ok-push-clause-bases
returns-in_ok-push-clause-bases c = λ lines within all.
    let u = c.args.premises.now in
    let answered = subst (IsAnswer u _) c.in-Some.is c.in_ok-clause.ensures in
    subst (All (IsBasis u lines)) (sym c.in_ok-push.ensures.items)
    (All-push (IsBasis u lines) c.args.bases.now.items _ all (subst (Contains lines) c.in-Premise.is within, answered.0, answered.1))

pub returns-in_ok-push-clause-kept : goal.returns-in_ok-push-clause-kept
returns-in_ok-push-clause-kept c = λ claim has. subst (HasBasis claim) (sym c.in_ok-push.ensures.items) (basis_on claim c.args.bases.now.items _ has)

pub returns-in_ok-push-clause-added : goal.returns-in_ok-push-clause-added
returns-in_ok-push-clause-added c = λ claim is premise. subst (HasBasis claim) (sym c.in_ok-push.ensures.items)
    (_, Contains-push c.args.bases.now.items _, let e : variant.Premise _ ≡ variant.Premise claim = sym c.in-Premise.is ∙ is in cc)
