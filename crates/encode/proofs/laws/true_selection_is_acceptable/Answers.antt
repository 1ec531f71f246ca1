-- All premises are true of it.
use Rattle.refutation.specs.Selection.{selects}
use Rattle.encode.proofs.EncodingLemmas.{all_premises_true}
use Rattle.encode.proofs.laws.true_selection_is_acceptable.Goals as goal

pub returns : goal.returns
returns c = λ u encoding selection ascending needed is positive makes.
    (c.acceptable_where_premises_are_true.ensures u (selects selection) ascending needed).1 (all_premises_true u encoding selection is positive makes)
