-- The numbers of the places of what matches.
use Rattle.rules.specs.Package.{Matches}
use Rattle.encode.proofs.NumberLemmas.{adds_matching}
use Rattle.encode.proofs.facts.Facts.insert_matching.Goals as goal

pub returns : goal.returns
returns c = adds_matching c.args.self.now (λ pkg. Matches pkg c.args.atom.now) c.in_ok-places.places.items c.as_slice.result.now
    c.as_slice.ensures.value c.in_ok-places.ensures c.args.numbers.now.keys c.insert_each.new.numbers.keys c.in_ok-insert_each.ensures
