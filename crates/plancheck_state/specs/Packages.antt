-- The packages of the records that are present (dpkg(1), "Package states").
use Rattle.std.specs.Prelude.{List, map, Option, Some, None, if◌then◌else◌}
use Rattle.rules.specs.Database.{Record, pkg_of}
use Rattle.rules.specs.FileRecord.{FileRecord}
use Rattle.rules.specs.Package.{Pkg}
use Rattle.rules.specs.State.{is_present_state}

-- the package of a record, if it is present
abbrev pub present_pkg : Record → Option Pkg
present_pkg entry = if is_present_state entry.state then Some (pkg_of entry) else None

-- the packages of the records of these entries, of each that is present
abbrev pub packages_of : List FileRecord → List (Option Pkg)
packages_of entries = map (λ entry. present_pkg entry.status) entries
