-- How much is left to be done for a selection, as a number that each step which leads there makes less.
use Rattle.std.specs.Prelude.{ℕ, ◌+◌, Bool, cond, List, [], ◌∷◌, ◌&&◌}
use Rattle.std.specs.List.{list_any}
use Rattle.std.specs.Ordering.{is_eq}
use Rattle.rules.specs.Database.{Record, stands}
use Rattle.rules.specs.Package.{Pkg}
use Rattle.rules.specs.Step.{is_named}
use Rattle.rules.specs.Version.{version_cmp}
use Rattle.rules.specs.declared.status.State.{State}
use Rattle.rules.specs.declared.status.State.TheVariants.{NotInstalled, ConfigFiles, HalfInstalled, Unpacked, HalfConfigured, TriggersAwaited, TriggersPending, Installed}

-- what may be left to be done with a package in this state
abbrev pub work_in : State → ℕ
work_in NotInstalled = 1
work_in ConfigFiles = 1
work_in HalfInstalled = 3
work_in Unpacked = 3
work_in HalfConfigured = 3
work_in TriggersAwaited = 3
work_in TriggersPending = 3
work_in Installed = 2

-- the work with all records
abbrev pub work_with : List Record → ℕ
work_with [] = 0
work_with (entry ∷ db) = work_in entry.state + work_with db

-- the record is one in which the package stands, as a test
abbrev pub is_standing : Pkg → Record → Bool
is_standing pkg entry = is_named pkg.name entry && (stands entry && is_eq (version_cmp entry.version pkg.version))

-- the work of unpacking the packages that don't stand: more than what an unpacked one asks for
abbrev pub unpacking : List Record → List Pkg → ℕ
unpacking db [] = 0
unpacking db (pkg ∷ selected) = cond (list_any (is_standing pkg) db) 0 4 + unpacking db selected

-- all that is left
unfoldable pub work_left : List Pkg → List Record → ℕ
work_left selected db = unpacking db selected + work_with db
