-- Which packages steps unpack.
use Rattle.std.specs.Prelude.{ℕ, Bool, false, ◌&&◌, List, [], Option, None, Some, bytes_eq, fold, if◌then◌else◌}
use Rattle.std.specs.Ordering.{is_eq}
use Rattle.index.specs.Names.{with_name}
use Rattle.json_answers.specs.Archives.{archive_in}
use Rattle.json_answers.specs.declared.archives.Archive.{Archive}
use Rattle.rules.specs.Version.{version_cmp}
use Rattle.rules.specs.declared.step.Step.{Step}
use Rattle.rules.specs.declared.step.Step.TheVariants as step
use Rattle.stanza.specs.Stanza.{StanzaText}

-- the step unpacks a package of this name
abbrev pub unpacks : List ℕ → Step → Bool
unpacks name (step.Unpack other version) = bytes_eq name other
unpacks name (step.Deconfigure other) = false
unpacks name (step.Configure names) = false
unpacks name (step.Remove other) = false
unpacks name (step.Purge other) = false

-- the step unpacks the package of this name, of an equal version
abbrev pub unpacks_same : List ℕ → List ℕ → Step → Bool
unpacks_same name version (step.Unpack other wanted) = bytes_eq name other && is_eq (version_cmp version wanted)
unpacks_same name version (step.Deconfigure other) = false
unpacks_same name version (step.Configure names) = false
unpacks_same name version (step.Remove other) = false
unpacks_same name version (step.Purge other) = false

-- the names, with the one behind them that the step unpacks unless it is there
abbrev pub with_unpacked : List (List ℕ) → Step → List (List ℕ)
with_unpacked names (step.Unpack name version) = with_name names name
with_unpacked names (step.Deconfigure name) = names
with_unpacked names (step.Configure group) = names
with_unpacked names (step.Remove name) = names
with_unpacked names (step.Purge name) = names

-- the names of the packages that the steps unpack, each once
abbrev pub unpacked_in : List Step → List (List ℕ)
unpacked_in steps = fold with_unpacked [] steps

-- the archive that the stanza names, where the step unpacks its package of this name and an equal version
abbrev pub archive_where : List ℕ → List ℕ → StanzaText → Step → Option Archive
archive_where name version stanza step = if unpacks_same name version step then Some (archive_in stanza) else None
