-- The names are those of what is chosen.
use Rattle.std.proofs.Common.{List, ℕ, Bor, map, ap, subst, ◌∙◌}
use Rattle.forward_steps.specs.Selection.{AreApart, chosen}
use Rattle.order.proofs.OneEachLemmas.{names_chosen, one_each_where_apart}
use Rattle.order.proofs.one_each.is_one_each.Goals as goal

pub returns : goal.returns
returns c = λ is. one_each_where_apart (chosen c.args.universe.now c.args.selection.now)
    (subst AreApart (ap (λ (names : List (Bor (List ℕ))). map (λ (name : Bor (List ℕ)). name.now) names) c.as_slice.ensures.value ∙ c.in_ok-names.ensures
    ∙ names_chosen c.args.universe.now c.args.selection.now) (c.in_ok-answer.ensures is))
