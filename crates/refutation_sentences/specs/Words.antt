-- The words on a premise of a refutation (this project's own form): pairs by their names and versions, and which of them satisfy what is
-- asked for.
use Rattle.std.specs.Prelude.{◌≡◌, ◌++◌, ◌-◌, ◌==◌, ℕ, List, [], ◌∷◌, Option, Some, None, codes, decimal, length, map, take, if◌then◌else◌}
use Rattle.phrases.specs.Phrases.{joined, versioned}
use Rattle.refutation.specs.Clause.{item_at}
use Rattle.rules.specs.Package.{Pkg}
use Rattle.rules.specs.Universe.{Universe}
use Rattle.universe_parts.specs.Parts.{packages_of}

-- a package, by its name and its version
abbrev pub package_words : Pkg → List ℕ
package_words pkg = versioned pkg.name pkg.version

-- the same, where there is one
abbrev pub words_of : Option Pkg → List ℕ
words_of None = []
words_of (Some pkg) = package_words pkg

-- the package of the pair of this number, if there is one
abbrev pub package_at : Universe → ℕ → Option Pkg
package_at u number = item_at (packages_of u.pairs) number

-- the pair of this number
abbrev pub pair_words : Universe → ℕ → List ℕ
pair_words u number = words_of (package_at u number)

-- how many pairs aren't named
abbrev pub others_words : ℕ → List ℕ
others_words count = if count == 1 then codes "1 other" else decimal count ++ codes " others"

-- the same, as an item of a list, where there are some
abbrev pub others_item : ℕ → List (List ℕ)
others_item count = if count == 0 then [] else others_words count ∷ []

-- pairs: the first five of them by their names, and how many others there are
abbrev pub listed : Universe → List ℕ → List ℕ
listed u numbers = joined (codes " or ") (map (pair_words u) (take 5 numbers) ++ others_item (length numbers - 5))

-- which pairs alone satisfy what stands before, and else why none does
abbrev pub satisfying : Universe → List ℕ → List ℕ → List ℕ
satisfying u [] why = why
satisfying u (number ∷ []) why = codes " (that is " ++ (pair_words u number ++ codes ")")
satisfying u (number ∷ other ∷ numbers) why =
    codes ", which only " ++ (listed u (number ∷ other ∷ numbers) ++ codes " can satisfy")

-- a text grows by words of which the fact holds
abbrev pub Grows : (List ℕ → Type 0) → List ℕ → List ℕ → Type 0
Grows P old new = (said : List ℕ) × (new ≡ old ++ said) × P said
