-- A sources text (this project's own): control text with comments, each stanza of which is an index.
use Rattle.std.specs.Prelude.{ℕ, ◌+◌, ◌==◌, Bool, false, List, [], ◌∷◌, ◌++◌, length, Option, Some, None, Result, Ok, Err, codes, bytes_eq, nat_lt, if◌then◌else◌}
use Rattle.std.specs.Option.{option_map_or}
use Rattle.rules.specs.declared.release.Release.{Release}
use Rattle.stanza.specs.declared.form.Form.TheVariants.{Commented}
use Rattle.stanza.specs.declared.error.StanzaError.{StanzaError}
use Rattle.stanza.specs.Field.{FieldText, value_named}
use Rattle.stanza.specs.Stanza.{StanzaText, items_of}
use Rattle.index.specs.declared.error.SourcesFault.{SourcesFault}
use Rattle.index.specs.declared.error.SourcesFault.TheVariants.{Stanza, MissingFile, TooLarge}
use Rattle.rules.specs.declared.limits.TheConstants.{TEXT_BYTES, INDICES}

-- an index as the sources text names it: the path of its text, and its release keys
pub record SourceText : Type 0 where
  pub file : List ℕ
  pub release : Release

-- the value is exactly `yes`
abbrev pub is_yes : Option (List ℕ) → Bool
is_yes value = option_map_or (λ bytes. bytes_eq bytes (codes "yes")) value false

-- the value, or the empty text where there is none
abbrev pub text_or_empty : Option (List ℕ) → List ℕ
text_or_empty value = option_map_or (λ bytes. bytes) value []

-- the release keys that the fields give
abbrev pub release_of : List FieldText → Release
release_of fields = record {
  archive = value_named (codes "Archive") fields;
  suite = value_named (codes "Suite") fields;
  codename = value_named (codes "Codename") fields;
  version = value_named (codes "Version") fields;
  component = value_named (codes "Component") fields;
  origin = value_named (codes "Origin") fields;
  label = value_named (codes "Label") fields;
  host = text_or_empty (value_named (codes "Host") fields);
  not_automatic = is_yes (value_named (codes "NotAutomatic") fields);
  but_automatic_upgrades = is_yes (value_named (codes "ButAutomaticUpgrades") fields);
}

-- the index of a stanza with this value of File, if it has one
abbrev pub source_with : StanzaText → Option (List ℕ) → Result SourceText SourcesFault
source_with stanza None = Err (MissingFile stanza.line)
source_with stanza (Some file) = Ok (record { file = file; release = release_of stanza.fields })

-- the index of a stanza, or its refusal: the field File is missing
abbrev pub read_source : StanzaText → Result SourceText SourcesFault
read_source stanza = source_with stanza (value_named (codes "File") stanza.fields)

-- the index of an item of the text, or its refusal
abbrev pub read_source_item : Result StanzaText StanzaError → Result SourceText SourcesFault
read_source_item (Err fault) = Err (Stanza fault)
read_source_item (Ok stanza) = read_source stanza

-- these indices and then the later ones, if those aren't refused
abbrev pub with_sources : List SourceText → Result (List SourceText) SourcesFault → Result (List SourceText) SourcesFault
with_sources sources (Err fault) = Err fault
with_sources sources (Ok later) = Ok (sources ++ later)

-- an index after so many others, and what is read behind it after so many: the one past the thousandth is refused
abbrev pub source_then : ℕ → Result SourceText SourcesFault → (ℕ → Result (List SourceText) SourcesFault) → Result (List SourceText) SourcesFault
source_then count (Err fault) later = Err fault
source_then count (Ok source) later = if count == INDICES then Err TooLarge else with_sources (source ∷ []) (later (count + 1))

-- the indices of these items after so many others, or the first refusal
abbrev pub sources_in : List (Result StanzaText StanzaError) → ℕ → Result (List SourceText) SourcesFault
sources_in [] count = Ok []
sources_in (item ∷ items) count = source_then count (read_source_item item) (sources_in items)

-- the indices of a sources text in order, or its first refusal
abbrev pub read_sources : List ℕ → Result (List SourceText) SourcesFault
read_sources text = if nat_lt TEXT_BYTES (length text) then Err TooLarge else sources_in (items_of Commented text) 0
