-- Who asks for whom, by a table, and which names are marked since they have what they ask for (Policy 7.2; this project's own).
use Rattle.std.specs.Prelude.{◌≡◌, ℕ, Bool, true, List, [], ◌∷◌, ◌⊎◌, Some, bytes_eq, slice_get}
use Rattle.std.specs.List.{Contains}
use Rattle.std.specs.Map.{lookup}
use Rattle.std.specs.Option.{option_map_or}
use Rattle.rules.specs.Configure.{AreConfigurable, AreDependsInstalled, ArePreDependsInstalled}
use Rattle.rules.specs.Database.{Record}
use Rattle.fixed_order.specs.Selection.{marked}
use Rattle.fixed_order.specs.Turn.{AsksOnly}
use Rattle.fixed_order.specs.declared.askers.Askers.{Askers}

-- the places of those that ask for the name
abbrev pub asking_in : Askers → List ℕ → List ℕ
asking_in askers name = option_map_or (λ list. list.items) (lookup (λ key. bytes_eq name key.now) askers.lists.entries) []

-- the place is one of those that ask for the name
unfoldable pub IsAsking : Askers → ℕ → List ℕ → Type 0
IsAsking askers place asked = Contains (asking_in askers asked) place

-- each of the names asks for those alone by which its place stands
abbrev pub AreAskers : List Record → Askers → List (List ℕ) → Type 0
AreAskers db askers names = (place : ℕ) (name : List ℕ) → slice_get names place ≡ Some name → AsksOnly (IsAsking askers place) db name

-- the name may be configured, and what it asks for is installed
abbrev pub HasWhatItAsks : List Record → List ℕ → Type 0
HasWhatItAsks db name = AreConfigurable db (name ∷ []) × AreDependsInstalled db (name ∷ []) × ArePreDependsInstalled db (name ∷ [])

-- each of the names that has what it asks for is marked
abbrev pub AreMarked : List Record → List (List ℕ) → List Bool → Type 0
AreMarked db names marks = (place : ℕ) (name : List ℕ) → slice_get names place ≡ Some name → HasWhatItAsks db name
    → marked marks place ≡ true

-- each of the names that has what it asks for is marked anew, if it was marked or its place is one of these
abbrev pub AreMarkedAnew : (ℕ → Type 0) → List Record → List (List ℕ) → List Bool → List Bool → Type 0
AreMarkedAnew P db names old new = (place : ℕ) (name : List ℕ) → slice_get names place ≡ Some name → HasWhatItAsks db name
    → (marked old place ≡ true) ⊎ P place → marked new place ≡ true
