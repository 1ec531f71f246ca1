use Rattle.std.proofs.Common.{rules, tests}
use Rattle.std.proofs.lemmas.Iterator.{YieldsList-from_slice, YieldsList-from_zip, same_from_all}
use Rattle.unpack_texts.proofs.same.same_clauses.Goals as goal

pub returns-then-clauses-others : goal.returns-then-clauses-others
returns-then-clauses-others c = same_from_all c.all.new.self _ _ _ _ c.all.ensures.ran
    (YieldsList-from_zip (YieldsList-from_slice c.args.clauses.now cc) (YieldsList-from_slice c.args.others.now cc))
    (search rules) (λ x q k. search (rules, tests)) (λ x q k. search (rules, tests))
