-- The members are those of a document.
use Rattle.cli.proofs.members.members_of_plan.Goals as goal

pub returns-in-Json-clause-members : goal.returns-in-Json-clause-members
returns-in-Json-clause-members g c = λ at known. rw c.in-Json.is (c.plan_members.ensures.members at known)
