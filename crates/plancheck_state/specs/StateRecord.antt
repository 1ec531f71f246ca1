-- What a record of the database keeps of its package.
use Rattle.std.specs.Prelude.{◌≡◌, ℕ, List, ⊤, Option, Some, MatchOption, is_some}
use Rattle.rules.specs.Package.{Pkg}
use Rattle.rules.specs.State.{is_present_state}
use Rattle.rules.specs.declared.status.State.{State}

-- there is a package just where the record is present, and it has the record's name and version
pub record HasItsPkg (state : State) (name : List ℕ) (version : Option (List ℕ)) (pkg : Option Pkg) : Type 0 where
  pub there : is_some pkg ≡ is_present_state state
  pub same : MatchOption pkg ⊤ (λ one. (one.name ≡ name) × (version ≡ Some one.version))
