-- What has or provides the name, the preferred first.
use Rattle.std.proofs.Common.{ℕ, List}
use Rattle.rules.specs.Package.{Pkg}
use Rattle.index.specs.Providers.{IsProviderAt}
use Rattle.universe_parts.specs.Parts.{packages_of}
use Rattle.encode.proofs.NumberLemmas.{same_places}
use Rattle.encode.proofs.facts.Facts.places_of.Goals as goal

pub returns : goal.returns
returns c =
    let At : List Pkg → ℕ → Type 0 = λ packages place. IsProviderAt c.args.name.now packages place in
    same_places (packages_of c.args.self.now.pairs) c.providers.result.now At c.providers.ensures c.in_ok-places.places.items
    c.in_ok-preferred.preferred.items c.in_ok-places.ensures.matching c.in_ok-preferred.ensures
