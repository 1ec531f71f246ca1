-- Behind an output what is left is that of its putting.
use Rattle.cli.proofs.possible.outcome_of_left.Goals as goal

pub returns-in-Some-clause-left : goal.returns-in-Some-clause-left
returns-in-Some-clause-left g c at was f k = rw c.in-Some.is (c.outcome_of_put.ensures.left at was f k)
