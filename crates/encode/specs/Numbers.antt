-- Which pairs a clause speaks of: those whose package is asked for.
use Rattle.std.specs.Prelude.{◌≡◌, ◌↔◌, ◌⊎◌, ℕ, ◌+◌, Bool, false, not, List, bytes_eq}
use Rattle.std.specs.Option.{option_map_or}
use Rattle.std.specs.List.{Contains}
use Rattle.rules.specs.Package.{Atom, MatchesSome, Meets, Pkg}
use Rattle.rules.specs.Universe.{IsOf, Universe}
use Rattle.refutation.specs.Clause.{item_at}
use Rattle.refutation.specs.Premise.{PairHas, Selects}
use Rattle.refutation.specs.declared.literal.Literal.{Literal}
use Rattle.refutation.specs.declared.literal.Literal.TheVariants as literal
use Rattle.encode.specs.declared.query.Query.{Query}
use Rattle.encode.specs.declared.query.Query.TheVariants as query

-- the package is asked for: of the name, of the name in a version that meets the restriction, or of the name in the version
abbrev pub IsAsked : Query → Pkg → Type 0
IsAsked (query.Named name) pkg = pkg.name ≡ name.now
IsAsked (query.Meeting name restriction) pkg = (pkg.name ≡ name.now) × Meets pkg.version restriction.now
IsAsked (query.InVersion name version) pkg = IsOf name.now version.now pkg

-- the numbers are just those of the pairs whose package has the property
abbrev pub AreNumbersOf : Universe → (Pkg → Type 0) → List ℕ → Type 0
AreNumbersOf u P numbers = (number : ℕ) → Contains numbers number ↔ PairHas u number P

-- the number is that of the pair at this place, and its package has the property
abbrev pub IsNumberAt : Universe → (Pkg → Type 0) → ℕ → ℕ → Type 0
IsNumberAt u P place number = (number ≡ place + 1) × PairHas u number P

-- there is a pair of the number, and it has another name, as a test
abbrev pub is_of_other : Universe → List ℕ → ℕ → Bool
is_of_other u name number = option_map_or (λ pair. not (bytes_eq pair.pkg.name name)) (item_at u.pairs number) false

-- the literal says that the pair of one of the numbers is selected
abbrev pub SelectsOneOf : List ℕ → Literal → Type 0
SelectsOneOf numbers item = (number : ℕ) × Contains numbers number × (item ≡ literal.Selected number)

-- the literal says that the pair isn't selected, or that one is whose package matches an atom of the list
abbrev pub IsOutOrMatching : Universe → ℕ → List Atom → Literal → Type 0
IsOutOrMatching u number atoms item =
    (item ≡ literal.Unselected number) ⊎ Selects u (λ other. MatchesSome other atoms) item
