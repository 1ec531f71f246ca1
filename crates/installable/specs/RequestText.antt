-- The request for a package by itself (this project's own).
use Rattle.std.specs.Prelude.{ℕ, Bool, List, [], ◌++◌, codes, if◌then◌else◌}
use Rattle.std.specs.List.{flat_map}
use Rattle.rules.specs.Step.{IndexPackage}

-- the line that asks for the name
abbrev pub line_of : List ℕ → List ℕ
line_of name = codes "install " ++ name ++ codes "\n"

-- the line that asks for all versions, where they are asked for
abbrev pub line_if : Bool → List ℕ
line_if asks_all_versions = if asks_all_versions then codes "all-versions\n" else []

-- the lines beside that of each package: one for each of these names, and where all versions are asked for the one that asks for them
abbrev pub lines_beside : List (List ℕ) → Bool → List ℕ
lines_beside names asks_all_versions = flat_map line_of names ++ line_if asks_all_versions

-- the line that asks for this version of the package
abbrev pub line_for : IndexPackage → List ℕ
line_for stanza = codes "install " ++ stanza.pkg.name ++ codes " (= " ++ stanza.pkg.version ++ codes ")\n"

-- the request for this version of the package, beside these lines
abbrev pub request_of : List ℕ → IndexPackage → List ℕ
request_of beside stanza = line_for stanza ++ beside
