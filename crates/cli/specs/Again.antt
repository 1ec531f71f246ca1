-- What is read a second time for a document: the stanzas of the indices, for the archives of what a plan unpacks.
use Rattle.std.specs.Prelude.{◌≡◌, ℕ, ◌+◌, Bool, true, false, List, [], ◌∷◌, ◌++◌, Option, None, Some, Result, Ok, Err}
use Rattle.index.specs.Sources.{SourceText}
use Rattle.inputs.specs.ReadAs.{files_of}
use Rattle.inputs.specs.Texts.{Found, Texts, sources_of}
use Rattle.inputs.specs.declared.refusal.Fault.{Fault}
use Rattle.json_answers.specs.Archives.{StepArchives, archive_for, found_also, stanzas_of}
use Rattle.json_answers.specs.declared.archives.Archive.{Archive}
use Rattle.rules.specs.declared.step.Step.{Step}
use Rattle.stanza.specs.Stanza.{StanzaText}

-- the stanzas of an index, and those of the indices behind it; where it isn't found, none is read any more
abbrev pub stanzas_then : Found → List StanzaText → List StanzaText
stanzas_then None later = []
stanzas_then (Some text) later = stanzas_of text ++ later

-- the stanzas of the indices that are these files, of which the first has this number
abbrev pub stanzas_from : (ℕ → List ℕ → Found) → ℕ → List (List ℕ) → List StanzaText
stanzas_from index number [] = []
stanzas_from index number (file ∷ files) = stanzas_then (index number file) (stanzas_from index (number + 1) files)

-- the stanzas of the indices that the sources name: none where these are refused
abbrev pub stanzas_named : (ℕ → List ℕ → Found) → Result (List SourceText) Fault → List StanzaText
stanzas_named index (Ok sources) = stanzas_from index 1 (files_of sources)
stanzas_named index (Err refused) = []

-- the stanzas of the indices of the texts, in their order
abbrev pub stanzas_again : Texts → List StanzaText
stanzas_again texts = stanzas_named texts.index (sources_of texts)

-- what is found of the archive that a step unpacks
abbrev pub ArchiveOf : Type 0
ArchiveOf = Step → Option Archive

-- the archives among the stanzas of the indices of the texts
abbrev pub archives_by : Texts → ArchiveOf
archives_by texts = archive_for texts.arch (stanzas_again texts)

-- no archives, where nothing is read a second time
abbrev pub no_archives : ArchiveOf
no_archives step = None

-- archives are found in the index that there is, or none in one that isn't found
abbrev pub IsReadAgain : List ℕ → Found → Bool → StepArchives → StepArchives → Type 0
IsReadAgain arch index true old new = (text : List ℕ) × (index ≡ Some text) × (new ≡ found_also arch (stanzas_of text) old)
IsReadAgain arch index false old new = (index ≡ None) × (new ≡ old)
