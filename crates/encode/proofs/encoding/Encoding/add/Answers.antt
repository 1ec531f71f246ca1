-- One premise more.
use Rattle.encode.specs.Basis.{premise_of}
use Rattle.encode.proofs.GrowLemmas.{one_more}
use Rattle.encode.proofs.encoding.Encoding.add.Goals as goal

pub returns : goal.returns
returns c = one_more c.args.facts.now c.args.self.now c.push.new.self (premise_of c.args.basis) c.args.literals.now c.requires
    c.in_ok-push.ensures.premises c.in_ok-push.ensures.clauses c.in_ok-push.ensures.numbers c.in_ok-push.ensures.opened
