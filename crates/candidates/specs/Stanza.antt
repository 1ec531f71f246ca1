-- The stanzas of the indices in their order, and which of those of one version counts: the earliest (this project's own).
use Rattle.std.specs.Prelude.{◌≡◌, ℕ, Bool, List, Option, bytes_eq}
use Rattle.std.specs.List.{find, list_any}
use Rattle.std.specs.List.Sorted.{IsStrictlySortedBy}
use Rattle.std.specs.Ordering.{on, then_cmp}
use Rattle.std.specs.declared.cmp.Ordering.{Ordering}
use Rattle.rules.specs.Available.{is_of}
use Rattle.rules.specs.Name.{name_cmp}
use Rattle.rules.specs.Step.{IndexPackage}
use Rattle.rules.specs.Version.{version_cmp}

-- the order of stanzas: by name and then by version
abbrev pub listed_cmp : IndexPackage → IndexPackage → Ordering
listed_cmp = then_cmp (on (λ stanza. stanza.pkg.name) name_cmp) (on (λ stanza. stanza.pkg.version) version_cmp)

-- the earliest stanza of this version of the name
abbrev pub stanza_of : List IndexPackage → List ℕ → List ℕ → Option IndexPackage
stanza_of listed name version = find (λ stanza. is_of name version stanza.pkg) listed

-- the stanza has the name
abbrev pub has_stanza_name : List ℕ → IndexPackage → Bool
has_stanza_name name stanza = bytes_eq stanza.pkg.name name

-- a stanza has the name
abbrev pub has_name : List IndexPackage → List ℕ → Bool
has_name listed name = list_any (has_stanza_name name) listed

-- the stanzas in their order, and of those of one version of a name the earliest alone
pub record IsOrdered (listed ordered : List IndexPackage) : Type 0 where
  pub ascending : IsStrictlySortedBy listed_cmp ordered
  pub earliest : (name version : List ℕ) → stanza_of ordered name version ≡ stanza_of listed name version
