-- What is kept of the places of the name are those of the version.
use Rattle.std.proofs.Common.{ap, ◌∙◌, rules}
use Rattle.std.specs.List.{filter}
use Rattle.std.proofs.lemmas.Fn.{filter_same}
use Rattle.rules.specs.Available.{is_of}
use Rattle.candidates.specs.Inputs.{indices_of}
use Rattle.candidates.specs.Place.{Place, places_of}
use Rattle.candidates.proofs.OfVersion.{with_version-named}
use Rattle.candidates.proofs.place.version_places.Goals as goal

pub returns : goal.returns
returns c = filter_same _ _ _ (λ x b f' k. search rules) _ _ c.retain.ensures.filtered
    ∙ ap (filter (λ (place : Place). is_of c.args.name.now c.args.version.now place.listed.pkg)) c.in_ok-places.ensures
    ∙ with_version-named c.args.name.now c.args.version.now (places_of (indices_of c.args.indices.now))
