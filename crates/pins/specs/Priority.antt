-- The priority that a place gives a version, where these are preferred (apt_preferences(5)).
use Rattle.std.specs.Prelude.{ℕ, ℤ, List, Option, Some, None}
use Rattle.std.specs.Int.{int_max}
use Rattle.rules.specs.Priority.{Origin, priority_in}
use Rattle.pins.specs.Prefs.{Preferences}

-- the priority that an origin gives a version, where these are preferred
abbrev pub priority_by : Preferences → List ℕ → Origin → ℤ
priority_by prefs version origin = priority_in prefs.preferences prefs.target version origin

-- the greater of a number, if there is one, and another
abbrev pub greater : Option ℤ → ℤ → ℤ
greater None number = number
greater (Some greatest) number = int_max greatest number
