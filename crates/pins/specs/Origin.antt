-- The places that a version comes from, as the priorities of `rules` see them (apt_preferences(5)).
use Rattle.rules.specs.Priority.{Origin, default_priority, status_origin}
use Rattle.rules.specs.declared.release.Release.{Release}
use Rattle.pins.specs.declared.origin.Place.{Place}
use Rattle.pins.specs.declared.origin.Place.TheVariants.{StatusFile, Index}

-- an index with these release keys as an origin
abbrev pub release_origin : Release → Origin
release_origin release = record { release = release; by_default = default_priority release }

-- a place as an origin
abbrev pub origin_at : Place → Origin
origin_at StatusFile = status_origin
origin_at (Index release) = release_origin release.now
