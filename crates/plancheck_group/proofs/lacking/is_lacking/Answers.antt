-- A name that is left is lacking where it isn't supplied.
use Rattle.std.proofs.Common.{◌≡◌, ◌∙◌, true, false, not, Bool, subst, sym}
use Rattle.plancheck_group.proofs.DropLemmas.{not_not}
use Rattle.plancheck_group.proofs.lacking.is_lacking.Goals as goal

pub returns-then-not-has-clause-supplied : goal.returns-then-not-has-clause-supplied
returns-then-not-has-clause-supplied c = λ _ there. absurd (let e : true ≡ false = sym (c.has.ensures.1 there) ∙ c.if-not-has.true in cc)

pub returns-clause-lacks : goal.returns-clause-lacks
returns-clause-lacks c = λ so. (
  c.has.ensures.0 c.if-not-has.false,
  λ met. absurd (let P : Bool → Type 0 = λ b. not b ≡ true in let e : false ≡ true = subst P (c.is_met_in.ensures.1 met) so in cc),
)

pub returns-clause-supplied : goal.returns-clause-supplied
returns-clause-supplied c = λ so _. c.is_met_in.ensures.0 (not_not c.is_met_in.result so)
