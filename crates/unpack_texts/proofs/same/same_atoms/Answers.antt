use Rattle.std.proofs.Common.{rules, tests}
use Rattle.std.proofs.lemmas.Iterator.{YieldsList-from_slice, YieldsList-from_zip, same_from_all}
use Rattle.unpack_texts.proofs.same.same_atoms.Goals as goal

pub returns-then-atoms-others : goal.returns-then-atoms-others
returns-then-atoms-others c = same_from_all c.all.new.self _ _ _ _ c.all.ensures.ran
    (YieldsList-from_zip (YieldsList-from_slice c.args.atoms.now cc) (YieldsList-from_slice c.args.others.now cc))
    (search rules) (λ x q k. search (rules, tests)) (λ x q k. search (rules, tests))
