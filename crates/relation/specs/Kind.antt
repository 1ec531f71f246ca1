-- The fields that a reader of packages looks for (Debian Policy 5.3 and chapter 7), and their names.
use Rattle.std.specs.Prelude.{◌≡◌, ℕ, List, Option, true, codes}
use Rattle.std.specs.List.{find}
use Rattle.stanza.specs.Field.{same_name}
use Rattle.relation.specs.declared.kind.Kind.{Kind}
use Rattle.relation.specs.declared.kind.Kind.TheVariants.{Package, Version, PreDepends, Depends, Conflicts, Breaks, Provides, Architecture, Essential, Protected}

-- the name of such a field
abbrev pub name_of : Kind → List ℕ
name_of Package = codes "Package"
name_of Version = codes "Version"
name_of PreDepends = codes "Pre-Depends"
name_of Depends = codes "Depends"
name_of Conflicts = codes "Conflicts"
name_of Breaks = codes "Breaks"
name_of Provides = codes "Provides"
name_of Architecture = codes "Architecture"
name_of Essential = codes "Essential"
name_of Protected = codes "Protected"

-- a field of this name is of the kind, whatever the case of its letters
abbrev pub IsOfKind : Kind → List ℕ → Type 0
IsOfKind kind name = same_name name (name_of kind) ≡ true

-- the first of these kinds whose name this is
abbrev pub first_called : List Kind → List ℕ → Option Kind
first_called kinds name = find (λ kind. same_name name (name_of kind)) kinds
