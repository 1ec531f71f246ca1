-- What the texts before a request are read as, as it is lent to what is asked; and requests in the place of another.
use Rattle.std.specs.Prelude.{◌≡◌, ℕ, ◌<◌, ◌^◌, List, length, map, Ok, Some}
use Rattle.candidates.specs.Inputs.{indices_of, inputs_of}
use Rattle.index.specs.Sources.{SourceText}
use Rattle.rules.specs.Available.{Request}
use Rattle.rules.specs.Database.{HasDistinctNames, Record}
use Rattle.rules.specs.Names.{HasNames, HasPairNames}
use Rattle.rules.specs.Universe.{IsUniverse, Universe}
use Rattle.rules.specs.Verdict.{IsBuiltOn}
use Rattle.status_text.specs.Slot.{slot_records}
use Rattle.universe_build.specs.Listing.{IsListing, Listing}
use Rattle.universe_parts.specs.Parts.{HaveDistinctNames}
use Rattle.inputs.specs.Before.{AreRead}
use Rattle.inputs.specs.Texts.{Texts, sources_of, status_file_of}
use Rattle.inputs.specs.declared.before.Before.{Before}

-- the records that the status file is read as
abbrev pub start_of : Before → List Record
start_of before = slot_records before.status_file.now.slots

-- the files that sources name
abbrev pub files_of : List SourceText → List (List ℕ)
files_of sources = map (λ source. source.file) sources

-- the sources are read without refusal, and these are the files that they name
pub record AreNamed (texts : Texts) (files : List (List ℕ)) : Type 0 where
  pub sources : List SourceText
  pub sources_are : sources_of texts ≡ Ok sources
  pub files_are : files ≡ files_of sources

-- the texts before the request are read as this, for the architecture of the settings
pub record AreReadAs (texts : Texts) (before : Before) : Type 0 where
  pub arch : texts.arch ≡ before.settings.now.arch.now
  pub read : AreRead texts (start_of before) (indices_of before.indices.now) before.prefs.now
  pub status_is : status_file_of texts ≡ Ok before.status_file.now.slots
  pub named : AreNamed texts (map (λ file. file.now) before.files.now)

-- the listing is that of what is read
abbrev pub IsListed : Before → Listing → Type 0
IsListed before listing = IsListing (start_of before) (indices_of before.indices.now) before.prefs.now listing

-- the universe is that of a request over what is read, it is built on the start, and it is no larger than is kept; its facts are about
-- distinct names, as the start is, and all names are those of packages
pub record IsOver (before : Before) (u : Universe) : Type 0 where
  pub request : Request
  pub universe : IsUniverse (inputs_of (start_of before) (indices_of before.indices.now) before.prefs.now request) u
  pub built : IsBuiltOn (start_of before) u
  pub few : length u.pairs < 2 ^ 32
  pub start : HasDistinctNames (start_of before)
  pub distinct : HaveDistinctNames u.starts
  pub start_names : HasNames (start_of before)
  pub pair_names : HasPairNames u

-- the texts with this request in the place of theirs
abbrev pub asking : List ℕ → Texts → Texts
asking request texts = record {
  arch = texts.arch;
  target = texts.target;
  status = texts.status;
  sources = texts.sources;
  index = texts.index;
  preferences = texts.preferences;
  request = Some request;
}
