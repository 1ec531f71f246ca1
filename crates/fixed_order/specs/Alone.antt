-- Names that pass alone, and those below a bound (Policy 7.2 and 7.3).
use Rattle.std.specs.Prelude.{◌≡◌, ℕ, ◌<◌, ◌≤◌, Bool, true, List, [], ◌∷◌, Option, get_or, length, take}
use Rattle.std.specs.List.{All}
use Rattle.std.specs.Option.{option_map_or}
use Rattle.std.specs.Ordering.{is_lt}
use Rattle.rules.specs.Configure.{AreConfigurable, AreDependsInstalled, ArePreDependsInstalled, AreUnbroken}
use Rattle.rules.specs.Database.{Record}
use Rattle.rules.specs.Name.{name_cmp}

-- the name passes alone
unfoldable pub PassesAlone : List Record → List ℕ → Type 0
PassesAlone db name = AreConfigurable db (name ∷ []) × AreDependsInstalled db (name ∷ [])
    × ArePreDependsInstalled db (name ∷ []) × AreUnbroken db (name ∷ [])

-- the name is below the bound, if there is one, as a test
abbrev pub is_below : Option (List ℕ) → List ℕ → Bool
is_below bound name = option_map_or (λ other. is_lt (name_cmp name other)) bound true

-- the name is below the bound, and its record may be configured
unfoldable pub MayPass : List Record → Option (List ℕ) → List ℕ → Type 0
MayPass db bound name = (is_below bound name ≡ true) × AreConfigurable db (name ∷ [])

-- no present package breaks another
abbrev pub NoneIsBroken : List Record → Type 0
NoneIsBroken db = (names : List (List ℕ)) → AreUnbroken db names

-- the place is that of the first name with the property, or the end
pub record IsFirstWith (P : List ℕ → Type 0) (names : List (List ℕ)) (place : ℕ) : Type 0 where
  pub within : place ≤ length names
  pub before : All (λ name. ¬ P name) (take place names)
  pub has : (default : List ℕ) → place < length names → P (get_or names place default)
