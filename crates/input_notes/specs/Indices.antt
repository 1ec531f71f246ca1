-- Indices that add no version to those before them, in sentences. That a version counts once for each name, whichever
-- index has it, is this project's own.
use Rattle.std.specs.Prelude.{ℕ, ◌+◌, Bool, List, [], ◌∷◌, ◌++◌, codes, decimal, if◌then◌else◌, take}
use Rattle.std.specs.List.{enumerate_from, flat_map, list_all, list_any}
use Rattle.index.specs.Index.{ReadIndex}
use Rattle.rules.specs.Available.{is_of}
use Rattle.rules.specs.Step.{IndexPackage}
use Rattle.input_notes.specs.Inputs.{stanzas_of}

-- one of these stanzas has the name and the version of the stanza
abbrev pub is_in : List IndexPackage → IndexPackage → Bool
is_in earlier listed = list_any (λ other. is_of listed.pkg.name listed.pkg.version other.pkg) earlier

-- each of the stanzas has a name and a version that one of the earlier stanzas has
abbrev pub adds_none : List IndexPackage → List IndexPackage → Bool
adds_none earlier listed = list_all (is_in earlier) listed

-- why an index of these stanzas adds nothing
abbrev pub why_none : List IndexPackage → List ℕ
why_none [] = codes " adds nothing: it has no package for this architecture.\n"
why_none (first ∷ others) =
    codes " adds no version: an index before it has each of its own. It may give one of them another priority.\n"

-- the line of an index that adds no version, with its number
abbrev pub index_line : ℕ → List IndexPackage → List ℕ
index_line number listed = codes "Index " ++ (decimal number ++ why_none listed)

-- the line of the index at this place, counted from 0, where it adds no version to the indices before it
abbrev pub idle_index : List ReadIndex → ℕ → ReadIndex → List ℕ
idle_index indices place read = if adds_none (stanzas_of (take place indices)) read.index.listed
    then index_line (place + 1) read.index.listed else []

-- of the indices in order the line of each that adds no version to those before it
abbrev pub idle_indices : List ReadIndex → List ℕ
idle_indices indices = flat_map (λ placed. idle_index indices placed.0 placed.1) (enumerate_from 0 indices)
