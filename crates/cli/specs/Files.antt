-- The files of a host, and what is found of them at the paths of a command line.
use Rattle.std.specs.Prelude.{◌≡◌, ◌≢◌, ◌&&◌, ℕ, Bool, List, Option, Some, Result, Ok, Err, codes, drop, length, nat_eq}
use Rattle.std.specs.List.{starts_with}
use Rattle.std.specs.Option.{option_copied, option_map}
use Rattle.cli.specs.declared.files.Paths.{Paths}
use Rattle.cli.specs.declared.files.TextAt.{TextAt}
use Rattle.cli.specs.declared.files.TextAt.TheVariants as place
use Rattle.document_text.specs.DocumentText.{text_in}
use Rattle.inputs.specs.Texts.{Shelved}
use Rattle.inputs.specs.declared.shelf.WholeText.{WholeText}
use Rattle.inputs.specs.declared.shelf.WholeText.TheVariants as part

-- what there is at a path, and nothing where none can be read
abbrev pub Files : Type 0
Files = List ℕ → Option (List ℕ)

-- what there is of a text: the file at its path, or the text that is given
abbrev pub text_at : Files → TextAt → Option (List ℕ)
text_at files (place.File path) = files path.now
text_at files (place.Given text) = Some text.now

-- the plan or the refutation that there is at a path: the text that the file holds, as it stands or in a JSON document
abbrev pub judged_at : Files → List ℕ → Option (List ℕ)
judged_at files path = option_map text_in (files path)

-- what is found at these paths: each text is the file at its path but for what is judged, which the file holds, and an index is the file
-- that its source names
abbrev pub shelved_at : Files → Paths → Shelved
shelved_at files paths = record {
  status = files paths.status.now;
  sources = files paths.sources.now;
  index = λ number file. files file;
  preferences = option_map files (option_copied paths.preferences);
  request = text_at files paths.request;
  judged = judged_at files paths.judged.now;
}

-- the text of a part that bytes hold: what is judged may stand in a JSON document
abbrev pub held : WholeText → List ℕ → List ℕ
held part.Status bytes = bytes
held part.Sources bytes = bytes
held part.Request bytes = bytes
held part.Judged bytes = text_in bytes

-- the files have this text at this path, and at each other path what there was
pub record HasPut (path text : List ℕ) (old new : Files) : Type 0 where
  pub put : new path ≡ Some text
  pub others : (other : List ℕ) → other ≢ path → new other ≡ old other

-- a text is put at a path all of it, or not at all
abbrev pub Puts : {A E : Type 0} → List ℕ → List ℕ → Files → Result A E → Option Files → Type 0
Puts path text old (Ok done) new = (after : Files) × (new ≡ Some after) × HasPut path text old after
Puts path text old (Err e) new = new ≡ Some old

-- the path begins with that of the folder, and goes on with a slash
abbrev pub is_in_folder : List ℕ → List ℕ → Bool
is_in_folder folder path = starts_with nat_eq path folder && starts_with nat_eq (drop (length folder) path) (codes "/")
