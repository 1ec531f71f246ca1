-- Where all names are package names (Policy 5.6.1).
use Rattle.std.specs.Prelude.{List, IsTrue}
use Rattle.std.specs.List.{All}
use Rattle.rules.specs.Database.{Record}
use Rattle.rules.specs.Name.{is_name}
use Rattle.rules.specs.Step.{IndexPackage}
use Rattle.rules.specs.Universe.{Universe}

-- the name of each record is a package name
abbrev pub HasNames : List Record → Type 0
HasNames db = All (λ entry. IsTrue (is_name entry.name)) db

-- the name of each stanza's package is a package name
abbrev pub HasListedNames : List IndexPackage → Type 0
HasListedNames listed = All (λ stanza. IsTrue (is_name stanza.pkg.name)) listed

-- the name of each pair is a package name
abbrev pub HasPairNames : Universe → Type 0
HasPairNames u = All (λ pair. IsTrue (is_name pair.pkg.name)) u.pairs
