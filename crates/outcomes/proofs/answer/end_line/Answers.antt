use Rattle.outcomes.proofs.answer.end_line.Goals as goal

pub returns-in-Unfinished : goal.returns-in-Unfinished
returns-in-Unfinished c = rw c.in-Unfinished.is c.named_line.ensures

pub returns-in-Relation : goal.returns-in-Relation
returns-in-Relation c = rw c.in-Relation.is c.named_line-in-Relation.ensures

pub returns-in-Essential : goal.returns-in-Essential
returns-in-Essential c = rw c.in-Essential.is c.named_line-in-Essential.ensures
