-- A table of names with versions, as one is looked for among the stanzas of indices.
use Rattle.std.specs.Prelude.{◌≡◌, ℕ, Bool, ◌&&◌, ◌||◌, List, bytes_eq}
use Rattle.std.specs.Borrow.{Bor}
use Rattle.std.specs.List.{list_any}
use Rattle.rules.specs.Available.{same_version}
use Rattle.rules.specs.Step.{IndexPackage}
use Rattle.input_notes.specs.Indices.{is_in}

-- the table has the name and the version of the stanza
abbrev pub has_key_of : List (Bor (List ℕ) × List ℕ) → IndexPackage → Bool
has_key_of keys listed = list_any (λ key. bytes_eq listed.pkg.name key.0.now && same_version listed.pkg.version key.1) keys

-- the table gets the names and the versions of these stanzas
abbrev pub AddsKeys : List (Bor (List ℕ) × List ℕ) → List (Bor (List ℕ) × List ℕ) → List IndexPackage → Type 0
AddsKeys old new listed = (wanted : IndexPackage) → has_key_of new wanted ≡ (has_key_of old wanted || is_in listed wanted)

-- the table has the names and the versions of these stanzas and no others
abbrev pub HasKeysOf : List (Bor (List ℕ) × List ℕ) → List IndexPackage → Type 0
HasKeysOf keys listed = (wanted : IndexPackage) → has_key_of keys wanted ≡ is_in listed wanted
