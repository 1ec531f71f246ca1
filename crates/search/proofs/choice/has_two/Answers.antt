-- The first number that is selected decides.
use Rattle.std.proofs.Common.{◌∙◌, get_or, pos, refl, sym}
use Rattle.search.proofs.ChoiceLemmas.{none_by_first, two_by_first}
use Rattle.search.proofs.choice.has_two.Goals as goal

pub returns-in-Some : goal.returns-in-Some
returns-in-Some c =
    let place = sym c.first_positive.ensures ∙ c.in-Some.is in
    let two = two_by_first c.args.clause.now c.in-Some.place (get_or c.args.clause.now c.in-Some.place (pos 0)) place refl in (
      λ has. two.0 (c.has_other_than.ensures.0 has),
      λ has. c.has_other_than.ensures.1 (two.1 has),
    )

pub returns-in-None : goal.returns-in-None
returns-in-None c = (
  λ has. absurd (let h = has in cc),
  λ has. absurd (none_by_first c.args.clause.now (sym c.first_positive.ensures ∙ c.in-None.is) has),
)
