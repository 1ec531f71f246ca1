-- The pairs of each kind.
use Rattle.encode.proofs.AgainstLemmas.{breaks_premises, conflicts_premises, same_premises}
use Rattle.encode.proofs.against.others_of.Goals as goal

pub returns-in_ok-others-in-Same : goal.returns-in_ok-others-in-Same
returns-in_ok-others-in-Same c = same_premises c.args.facts.now c.args.number c.args.pkg.now c.name.result.now c.args.against
    c.in_ok-others-in-Same.others.items c.requires c.name.ensures c.in-Same.is c.in_ok-others-in-Same.ensures

pub returns-in_ok-others-in-Conflicts : goal.returns-in_ok-others-in-Conflicts
returns-in_ok-others-in-Conflicts c = conflicts_premises c.args.facts.now c.args.number c.args.pkg.now c.name-in-Conflicts.result.now
    c.conflicts.result.now c.args.against c.in_ok-others-in-Conflicts.others.items c.requires c.name-in-Conflicts.ensures c.conflicts.ensures
    c.in-Conflicts.is c.in_ok-others-in-Conflicts.ensures

pub returns-in_ok-others-in-Breaks : goal.returns-in_ok-others-in-Breaks
returns-in_ok-others-in-Breaks c = breaks_premises c.args.facts.now c.args.number c.args.pkg.now c.name-in-Breaks.result.now
    c.breaks.result.now c.args.against c.in_ok-others-in-Breaks.others.items c.requires c.name-in-Breaks.ensures c.breaks.ensures
    c.in-Breaks.is c.in_ok-others-in-Breaks.ensures
