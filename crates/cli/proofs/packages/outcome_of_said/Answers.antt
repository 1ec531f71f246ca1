-- In a folder what is left is that of its files.
use Rattle.cli.proofs.packages.outcome_of_said.Goals as goal

pub returns-in-Some-clause-left : goal.returns-in-Some-clause-left
returns-in-Some-clause-left g c at was f k = rw c.in-Some.is (c.outcome_in_folder.ensures.left at was f k)
