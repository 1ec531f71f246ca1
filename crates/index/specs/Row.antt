-- Where in an arena of bytes the texts of the packages of an index stand: those of a package one behind another.
use Rattle.std.specs.Prelude.{ℕ, ◌+◌, ◌≤◌, List, ◌++◌, drop, length, map, take}
use Rattle.std.specs.List.{All}
use Rattle.relation.specs.PkgTexts.{AreTested}
use Rattle.relation.specs.PkgValues.{PkgValues, spelled}
use Rattle.rules.specs.Step.{IndexPackage}
use Rattle.index.specs.Index.{ReadStanzas}
use Rattle.index.specs.declared.row.Row.{Row}
use Rattle.index.specs.declared.rows.KeptRows.{KeptRows}

-- the texts of a package, one behind another
abbrev pub joined_text : PkgValues → List ℕ
joined_text values =
    values.name ++ (values.version ++ (values.pre_depends ++ (values.depends ++ (values.conflicts ++ (values.breaks ++ values.provides)))))

-- the bytes of a row
abbrev pub bytes_at : List ℕ → Row → List ℕ
bytes_at arena row = take row.len (drop row.at arena)

-- what stands behind each text of a row
abbrev pub behind_name : Row → List ℕ → List ℕ
behind_name row bytes = drop row.name bytes

abbrev pub behind_version : Row → List ℕ → List ℕ
behind_version row bytes = drop row.version (behind_name row bytes)

abbrev pub behind_pre_depends : Row → List ℕ → List ℕ
behind_pre_depends row bytes = drop row.pre_depends (behind_version row bytes)

abbrev pub behind_depends : Row → List ℕ → List ℕ
behind_depends row bytes = drop row.depends (behind_pre_depends row bytes)

abbrev pub behind_conflicts : Row → List ℕ → List ℕ
behind_conflicts row bytes = drop row.conflicts (behind_depends row bytes)

abbrev pub behind_breaks : Row → List ℕ → List ℕ
behind_breaks row bytes = drop row.breaks (behind_conflicts row bytes)

-- the values that these bytes of a row are
abbrev pub values_of : Row → List ℕ → PkgValues
values_of row bytes = record {
  name = take row.name bytes;
  version = take row.version (behind_name row bytes);
  pre_depends = take row.pre_depends (behind_version row bytes);
  depends = take row.depends (behind_pre_depends row bytes);
  conflicts = take row.conflicts (behind_depends row bytes);
  breaks = take row.breaks (behind_conflicts row bytes);
  provides = behind_breaks row bytes;
}

-- the values that a row has in an arena
abbrev pub values_at : List ℕ → Row → PkgValues
values_at arena row = values_of row (bytes_at arena row)

-- the package of a row with these values, for an architecture, in the index of this number
abbrev pub package_of : List ℕ → ℕ → PkgValues → Row → IndexPackage
package_of arch number values row = record {
  pkg = spelled arch values;
  is_essential = row.is_essential;
  says_essential = row.says_essential;
  place = record { index = number; stanza = row.stanza };
}

-- the package of a row
abbrev pub package_at : List ℕ → ℕ → List ℕ → Row → IndexPackage
package_at arch number arena row = package_of arch number (values_at arena row) row

-- the packages of rows
abbrev pub packages_at : List ℕ → ℕ → List ℕ → List Row → List IndexPackage
packages_at arch number arena rows = map (package_at arch number arena) rows

-- the row's bytes lie within the arena, and its values were tested
pub record IsRow (arena : List ℕ) (row : Row) : Type 0 where
  pub within : row.at + row.len ≤ length arena
  pub tested : AreTested (values_at arena row)

-- so do those of all of these
abbrev pub AreRows : List ℕ → List Row → Type 0
AreRows arena rows = All (IsRow arena) rows

-- the stanzas of these rows, and how many were skipped
abbrev pub stanzas_at : List ℕ → ℕ → KeptRows → ReadStanzas
stanzas_at arch number kept = record { listed = packages_at arch number kept.arena.items kept.rows.items; skipped = kept.skipped }
