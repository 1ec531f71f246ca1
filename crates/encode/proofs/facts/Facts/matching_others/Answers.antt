-- Of the numbers of what matches those of other names.
use Rattle.rules.specs.Package.{MatchesSome}
use Rattle.encode.proofs.NumberLemmas.{others_are}
use Rattle.encode.proofs.facts.Facts.matching_others.Goals as goal

pub returns : goal.returns
returns c = others_are c.args.self.now c.args.name.now (λ pkg. MatchesSome pkg c.args.atoms.now) c.in_ok-numbers.numbers.keys
    c.as_slice.result.now c.in_ok-others.others.items c.as_slice.ensures.keys c.in_ok-numbers.ensures c.in_ok-others.ensures
