-- Pieces of sentences: names with versions, relations as their fields have them, and lists.
use Rattle.std.specs.Prelude.{ℕ, List, [], ◌∷◌, ◌++◌, Option, None, Some, codes}
use Rattle.std.specs.List.{flat_map}
use Rattle.rules.specs.Package.{Atom}
use Rattle.rules.specs.declared.goal.Restriction.{Restriction}
use Rattle.rules.specs.declared.op.Op.{Op}
use Rattle.rules.specs.declared.op.Op.TheVariants as op

-- a name and a version: `foo 1.0`
abbrev pub versioned : List ℕ → List ℕ → List ℕ
versioned name version = name ++ (codes " " ++ version)

-- an operator, as relation fields have it (Policy 7.1)
abbrev pub op_words : Op → List ℕ
op_words op.StrictlyEarlier = codes "<<"
op_words op.EarlierOrEqual = codes "<="
op_words op.ExactlyEqual = codes "="
op_words op.LaterOrEqual = codes ">="
op_words op.StrictlyLater = codes ">>"

-- a restriction behind a name: ` (>= 2)`
abbrev pub restriction_words : Restriction → List ℕ
restriction_words restriction = codes " (" ++ (op_words restriction.op ++ (codes " " ++ (restriction.version ++ codes ")")))

-- a name, with its restriction if it has one: `foo (>= 2)`
abbrev pub wanted_words : List ℕ → Option Restriction → List ℕ
wanted_words name None = name
wanted_words name (Some restriction) = name ++ restriction_words restriction

-- the alternatives of a clause: `foo (>= 2) | bar`
abbrev pub clause_words : List Atom → List ℕ
clause_words [] = []
clause_words (atom ∷ atoms) =
    wanted_words atom.name atom.restriction ++ flat_map (λ other. codes " | " ++ wanted_words other.name other.restriction) atoms

-- what stands between an item and those behind it: the word before the last one, and else a comma
abbrev pub separator : List ℕ → List (List ℕ) → List ℕ
separator word [] = []
separator word (last ∷ []) = word
separator word (next ∷ more ∷ items) = codes ", "

-- a list of items: `a, b or c`
abbrev pub joined : List ℕ → List (List ℕ) → List ℕ
joined word [] = []
joined word (item ∷ items) = item ++ (separator word items ++ joined word items)
