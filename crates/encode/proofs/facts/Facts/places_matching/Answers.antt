-- What matches, the preferred first.
use Rattle.std.proofs.Common.{ℕ, List}
use Rattle.rules.specs.Package.{Pkg}
use Rattle.universe_parts.specs.Parts.{packages_of}
use Rattle.providers.specs.Matching.{IsMatchAt}
use Rattle.encode.proofs.NumberLemmas.{same_places}
use Rattle.encode.proofs.facts.Facts.places_matching.Goals as goal

pub returns : goal.returns
returns c =
    let At : List Pkg → ℕ → Type 0 = λ packages place. IsMatchAt packages c.args.atom.now place in
    same_places (packages_of c.args.self.now.pairs) c.providers.result.now At c.providers.ensures c.in_ok-places.places.items
    c.in_ok-preferred.preferred.items c.in_ok-places.ensures.matching c.in_ok-preferred.ensures
