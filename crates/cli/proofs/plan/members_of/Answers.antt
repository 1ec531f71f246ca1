-- The members are those of the answer.
use Rattle.cli.proofs.plan.members_of.Goals as goal

pub returns-in-Ok-clause-members : goal.returns-in-Ok-clause-members
returns-in-Ok-clause-members g c = λ at known. rw c.in-Ok.is (c.members_of_plan.ensures.members at known)
