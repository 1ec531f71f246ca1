-- The names that the indices say are essential: that these are installed a package may take for granted (Policy 3.8).
use Rattle.std.specs.Prelude.{ℕ, List, [], fold, map}
use Rattle.std.specs.List.{filter}
use Rattle.index.specs.Names.{with_name}
use Rattle.rules.specs.Available.{Index, all_listed}
use Rattle.rules.specs.Step.{IndexPackage}

-- the names of the stanzas with a field `Essential: yes` (Policy 5.6.9)
abbrev pub names_marked : List IndexPackage → List (List ℕ)
names_marked listed = map (λ stanza. stanza.pkg.name) (filter (λ stanza. stanza.says_essential) listed)

-- the names that a stanza of the indices says are essential, each once, in the order in which each comes first
abbrev pub essential_names : List Index → List (List ℕ)
essential_names indices = fold with_name [] (names_marked (all_listed indices))
