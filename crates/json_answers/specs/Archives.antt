-- The archives of the packages that steps unpack, as the stanzas of indices name them (Debian repository format, "Packages" indices;
-- of which stanza is this project's own).
use Rattle.std.specs.Prelude.{ℕ, ◌^◌, Bool, false, true, ◌&&◌, List, [], ◌∷◌, length, Option, None, Some, Result, Ok, Err, bytes_eq, codes, is_none, is_some, nat_lt, replicate, if◌then◌else◌}
use Rattle.std.specs.List.{find}
use Rattle.std.specs.Option.{option_and_then, option_map, option_map_or, option_or}
use Rattle.std.specs.Ordering.{is_eq}
use Rattle.std.specs.Str.Parse.{digits_value}
use Rattle.json_answers.specs.declared.archives.Archive.{Archive}
use Rattle.relation.specs.PackageStanza.{counts_for}
use Rattle.rules.specs.Version.{version_cmp}
use Rattle.rules.specs.VersionFault.{first_fault, is_numeral}
use Rattle.rules.specs.declared.limits.TheConstants.{TEXT_BYTES}
use Rattle.rules.specs.declared.step.Step.{Step}
use Rattle.rules.specs.declared.step.Step.TheVariants as step
use Rattle.stanza.specs.Field.{value_named}
use Rattle.stanza.specs.Stanza.{StanzaText}
use Rattle.stanza.specs.Streamed.{read_within}
use Rattle.stanza.specs.declared.error.ReaderError.{ReaderError}
use Rattle.stanza.specs.declared.form.Form.TheVariants.{Plain}

-- The stanza of what is unpacked

-- the stanza has a field of this name, and its value passes
abbrev pub has_value : List ℕ → (List ℕ → Bool) → StanzaText → Bool
has_value field passes stanza = option_map_or passes (value_named field stanza.fields) false

-- the text is a version, and equal to this one
abbrev pub is_same_version : List ℕ → List ℕ → Bool
is_same_version version text = is_none (first_fault text) && is_eq (version_cmp text version)

-- the stanza is of the package of this name, of an equal version, and counts for the architecture
abbrev pub is_stanza_of : List ℕ → List ℕ → List ℕ → StanzaText → Bool
is_stanza_of arch name version stanza = has_value (codes "Package") (λ value. bytes_eq value name) stanza
    && (has_value (codes "Architecture") (counts_for arch) stanza && has_value (codes "Version") (is_same_version version) stanza)

-- What it says

-- the number that digits write, where they are digits alone and it has no more than 64 bits
abbrev pub number_in : List ℕ → Option ℕ
number_in digits = if is_numeral digits && nat_lt (digits_value 10 digits) (2 ^ 64) then Some (digits_value 10 digits) else None

-- what the stanza says of the archive of its package: each field as far as it is there
abbrev pub archive_in : StanzaText → Archive
archive_in stanza = record {
  filename = value_named (codes "Filename") stanza.fields;
  size = option_and_then number_in (value_named (codes "Size") stanza.fields);
  sha256 = value_named (codes "SHA256") stanza.fields;
}

-- the archive of this version of the package of this name: of the first of these stanzas that is of it, if one is
abbrev pub archive_among : List ℕ → List StanzaText → List ℕ → List ℕ → Option Archive
archive_among arch stanzas name version = option_map archive_in (find (is_stanza_of arch name version) stanzas)

-- the archive of what the step unpacks, if it unpacks something
abbrev pub archive_for : List ℕ → List StanzaText → Step → Option Archive
archive_for arch stanzas (step.Unpack name version) = archive_among arch stanzas name version
archive_for arch stanzas (step.Deconfigure name) = None
archive_for arch stanzas (step.Configure names) = None
archive_for arch stanzas (step.Remove name) = None
archive_for arch stanzas (step.Purge name) = None

-- The stanzas of a text

-- the stanzas before the first refusal
abbrev pub stanzas_before : List (Result StanzaText ReaderError) → List StanzaText
stanzas_before [] = []
stanzas_before (Ok stanza ∷ items) = stanza ∷ stanzas_before items
stanzas_before (Err refused ∷ items) = []

-- the stanzas of the text of an index, up to its first fault
abbrev pub stanzas_of : List ℕ → List StanzaText
stanzas_of text = stanzas_before (read_within Plain 1 TEXT_BYTES text)

-- What was found

-- steps, and what was found of the archive of each
pub record StepArchives : Type 0 where
  pub steps : List Step
  pub archives : List (Option Archive)

-- nothing was found of any of these steps
abbrev pub none_found : List Step → StepArchives
none_found steps = record { steps = steps; archives = replicate (length steps) None }

-- what was found of each step, or where nothing was, what these give
abbrev pub found_or : (Step → Option Archive) → List Step → List (Option Archive) → List (Option Archive)
found_or give (step ∷ steps) (archive ∷ archives) = option_or archive (give step) ∷ found_or give steps archives
found_or give _ archives = archives

-- what was found, and of each step of which nothing was, its archive among the stanzas
abbrev pub found_also : List ℕ → List StanzaText → StepArchives → StepArchives
found_also arch stanzas old = record { steps = old.steps; archives = found_or (archive_for arch stanzas) old.steps old.archives }

-- nothing is left to be found of the step: it unpacks nothing, or something was found
abbrev pub is_settled : Step → Option Archive → Bool
is_settled (step.Unpack name version) archive = is_some archive
is_settled (step.Deconfigure name) archive = true
is_settled (step.Configure names) archive = true
is_settled (step.Remove name) archive = true
is_settled (step.Purge name) archive = true

-- nothing is left to be found of any of the steps
abbrev pub are_settled : List Step → List (Option Archive) → Bool
are_settled (step ∷ steps) (archive ∷ archives) = is_settled step archive && are_settled steps archives
are_settled _ _ = true
