-- The laws of what is read of a relation field's value: it is what the grammar says that the value spells.
use Rattle.std.specs.Prelude.{◌≡◌, ℕ, ◌≤◌, List, length, Ok}
use Rattle.std.specs.List.{flat_map}
use Rattle.rules.specs.Package.{Atom, Provided}
use Rattle.relation_text.specs.Grammar.{SpellsAtoms, SpellsClauses, SpellsProvides}
use Rattle.relation_text.specs.Refusal.{most_atoms, read_atoms, read_clauses, read_provides}

-- a field may have so many atoms (this project's own)
abbrev pub AreFew : {A : Type 0} → List A → Type 0
AreFew atoms = length atoms ≤ most_atoms

-- all alternatives of the clauses
abbrev pub alternatives_of : List (List Atom) → List Atom
alternatives_of clauses = flat_map (λ clause. clause) clauses

-- clauses are read of a value that spells them, and they have no more atoms than a field may have
abbrev pub ClausesReadAreSpelled : Type 0
ClausesReadAreSpelled = (arch value : List ℕ) (clauses : List (List Atom)) → read_clauses arch value ≡ Ok clauses
    → SpellsClauses arch value clauses × AreFew (alternatives_of clauses)

-- atoms are read of a value that spells them, and they are no more than a field may have
abbrev pub AtomsReadAreSpelled : Type 0
AtomsReadAreSpelled = (arch value : List ℕ) (atoms : List Atom) → read_atoms arch value ≡ Ok atoms
    → SpellsAtoms arch value atoms × AreFew atoms

-- items of Provides are read of a value that spells them, and they are no more than a field may have
abbrev pub ProvidesReadAreSpelled : Type 0
ProvidesReadAreSpelled = (arch value : List ℕ) (items : List Provided) → read_provides arch value ≡ Ok items
    → SpellsProvides arch value items × AreFew items

-- of a value that spells so many clauses just these are read
abbrev pub ClausesSpelledAreRead : Type 0
ClausesSpelledAreRead = (arch value : List ℕ) (clauses : List (List Atom)) → SpellsClauses arch value clauses → AreFew (alternatives_of clauses)
    → read_clauses arch value ≡ Ok clauses

-- of a value that spells so many atoms just these are read
abbrev pub AtomsSpelledAreRead : Type 0
AtomsSpelledAreRead = (arch value : List ℕ) (atoms : List Atom) → SpellsAtoms arch value atoms → AreFew atoms
    → read_atoms arch value ≡ Ok atoms

-- of a value that spells so many items of Provides just these are read
abbrev pub ProvidesSpelledAreRead : Type 0
ProvidesSpelledAreRead = (arch value : List ℕ) (items : List Provided) → SpellsProvides arch value items → AreFew items
    → read_provides arch value ≡ Ok items
