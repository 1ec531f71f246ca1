-- Which packages are asked about.
use Rattle.std.specs.Prelude.{◌≡◌, ◌+◌, ℕ, Bool, not, ◌==◌, ◌||◌, List, length, Option, None, bytes_eq}
use Rattle.std.specs.List.{filter, list_any, position}
use Rattle.candidates.specs.Stanza.{IsOrdered}
use Rattle.inputs.specs.declared.refusal.Fault.TheVariants as fault
use Rattle.inputs.specs.declared.refusal.Input.TheVariants as place
use Rattle.inputs.specs.declared.refusal.Refusal.{Refusal}
use Rattle.rules.specs.Available.{Index, all_listed}
use Rattle.rules.specs.Step.{IndexPackage}
use Rattle.installable.specs.Shard.{IsShardOf}
use Rattle.installable.specs.declared.shard.Shard.{Shard}

-- a stanza of the indices has the name
abbrev pub has_package : List Index → List ℕ → Bool
has_package indices name = list_any (λ index. list_any (λ stanza. bytes_eq stanza.pkg.name name) index.listed) indices

-- where the first of the names stands that no stanza has
abbrev pub first_missing : List Index → List (List ℕ) → Option ℕ
first_missing indices names = position (λ name. not (has_package indices name)) names

-- the refusal of the name at this place among those that are asked about: it is counted from 1, as the line of a request
abbrev pub unknown_name : ℕ → Refusal
unknown_name at = record { place = place.Request; fault = fault.UnknownName (at + 1) }

-- the package has one of the names, or there are none
abbrev pub is_asked : List (List ℕ) → IndexPackage → Bool
is_asked names stanza = (length names == 0) || list_any (λ name. bytes_eq name stanza.pkg.name) names

-- the stanzas of the indices that are asked about where these names are, each of which a stanza has: by name and version, of those of
-- one version the earliest alone; and of these the shard
pub record AreAsked (indices : List Index) (names : List (List ℕ)) (shard : Shard) (asked : List IndexPackage) : Type 0 where
  pub named : first_missing indices names ≡ None
  pub ordered : List IndexPackage
  pub is_ordered : IsOrdered (filter (is_asked names) (all_listed indices)) ordered
  pub is_shard : IsShardOf shard ordered asked
