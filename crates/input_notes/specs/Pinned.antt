-- The two parts of what a pin matches (apt_preferences(5)): the place that a version comes from, and the version.
use Rattle.std.specs.Prelude.{ℕ, Bool, true, List, bytes_eq, nat_eq}
use Rattle.std.specs.List.{list_all, starts_with}
use Rattle.rules.specs.Available.{same_version}
use Rattle.rules.specs.Priority.{has_key}
use Rattle.rules.specs.declared.release.Pin.{Pin}
use Rattle.rules.specs.declared.release.Pin.TheVariants as pin
use Rattle.rules.specs.declared.release.Release.{Release}

-- the pin may match versions in a place with these release keys
abbrev pub takes_place : Pin → Release → Bool
takes_place (pin.VersionBeginning beginning) release = true
takes_place (pin.Version pinned) release = true
takes_place (pin.Release items) release = list_all (λ item. has_key release item.key item.value) items
takes_place (pin.Origin host) release = bytes_eq release.host host

-- the pin matches the version of this text in each place that it takes versions from
abbrev pub takes_version : Pin → List ℕ → Bool
takes_version (pin.VersionBeginning beginning) version = starts_with nat_eq version beginning
takes_version (pin.Version pinned) version = same_version version pinned
takes_version (pin.Release items) version = true
takes_version (pin.Origin host) version = true
