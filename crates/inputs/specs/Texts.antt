-- The texts that a request is answered from, where each may be one that can't be read, and what each is read as.
use Rattle.std.specs.Prelude.{ℕ, List, [], Option, Some, None, Result, Ok, Err}
use Rattle.std.specs.Option.{option_copied}
use Rattle.index.specs.Sources.{SourceText, read_sources}
use Rattle.pins.specs.Prefs.{Preferences, read_preferences}
use Rattle.rules.specs.declared.release.Preference.{Preference}
use Rattle.status_text.specs.Slot.{FileSlot}
use Rattle.status_text.specs.Status.{read_status}
use Rattle.status_text.specs.declared.error.StatusFault.{StatusFault}
use Rattle.status_text.specs.declared.error.StatusFault.TheVariants as from
use Rattle.inputs.specs.Reading.{with_fault}
use Rattle.inputs.specs.declared.refusal.Fault.{Fault}
use Rattle.inputs.specs.declared.refusal.Fault.TheVariants as fault
use Rattle.inputs.specs.declared.settings.Settings.{Settings}
use Rattle.inputs.specs.declared.shelf.WholeText.{WholeText}
use Rattle.inputs.specs.declared.shelf.WholeText.TheVariants as part
use Rattle.inputs.specs.declared.status_refusal.StatusRefusal.{StatusRefusal}
use Rattle.inputs.specs.declared.status_refusal.StatusRefusal.TheVariants as refusal

-- a text, or nothing where it can't be read
abbrev pub Found : Type 0
Found = Option (List ℕ)

-- what is found on a shelf: of each index by its number, counted from 1, and the file that its source names; no preferences
-- where none are asked for; and the plan or the refutation that is judged
pub record Shelved : Type 0 where
  pub status : Found
  pub sources : Found
  pub index : ℕ → List ℕ → Found
  pub preferences : Option Found
  pub request : Found
  pub judged : Found

-- the text that is read whole for this part
abbrev pub part_of : Shelved → WholeText → Found
part_of shelved part.Status = shelved.status
part_of shelved part.Sources = shelved.sources
part_of shelved part.Request = shelved.request
part_of shelved part.Judged = shelved.judged

-- the texts that a request is answered from, for an architecture and beside a target release
pub record Texts : Type 0 where
  pub arch : List ℕ
  pub target : Option (List ℕ)
  pub status : Found
  pub sources : Found
  pub index : ℕ → List ℕ → Found
  pub preferences : Option Found
  pub request : Found

-- what a text is read as, where it is found
abbrev pub read_found : {A : Type 0} → (List ℕ → Result A Fault) → Found → Result A Fault
read_found read None = Err fault.Read
read_found read (Some text) = read text

-- The status file

-- the refusal of a status file, as one of all texts: it has its own copy of the name
abbrev pub status_refusal : StatusFault → StatusRefusal
status_refusal (from.Stanza refused) = refusal.Stanza refused
status_refusal (from.Pkg refused) = refusal.Pkg refused
status_refusal (from.MissingField line field) = refusal.MissingField line field
status_refusal (from.BadStatus line) = refusal.BadStatus line
status_refusal (from.DuplicatePackage name) = refusal.DuplicatePackage name
status_refusal (from.ForeignArchitecture name) = refusal.ForeignArchitecture name
status_refusal from.TooLarge = refusal.TooLarge

-- what a status file is read as for an architecture: its stanzas with their records
abbrev pub status_in : List ℕ → List ℕ → Result (List FileSlot) Fault
status_in arch text = with_fault (λ refused. fault.Status (status_refusal refused)) (read_status arch text)

-- what the status file of these texts is read as
abbrev pub status_file_of : Texts → Result (List FileSlot) Fault
status_file_of texts = read_found (status_in texts.arch) texts.status

-- The sources

-- what the sources are read as
abbrev pub sources_in : List ℕ → Result (List SourceText) Fault
sources_in text = with_fault fault.Sources (read_sources text)

-- what the sources of these texts are read as
abbrev pub sources_of : Texts → Result (List SourceText) Fault
sources_of texts = read_found sources_in texts.sources

-- The preferences

-- the records that are read beside this target release
abbrev pub with_target : Option (List ℕ) → Result (List Preference) Fault → Result Preferences Fault
with_target target (Err refused) = Err refused
with_target target (Ok records) = Ok (record { preferences = records; target = target })

-- the records of preferences: where there are no preferences, there are none
abbrev pub records_in : Option Found → Result (List Preference) Fault
records_in None = Ok []
records_in (Some preferences) = read_found (λ text. with_fault fault.Preferences (read_preferences text)) preferences

-- what the preferences and the target release are read as
abbrev pub preferences_of : Texts → Result Preferences Fault
preferences_of texts = with_target texts.target (records_in texts.preferences)

-- the texts that are found on a shelf, for these settings
abbrev pub texts_of : Settings → Shelved → Texts
texts_of settings shelved = record {
  arch = settings.arch.now;
  target = option_copied settings.target;
  status = shelved.status;
  sources = shelved.sources;
  index = shelved.index;
  preferences = shelved.preferences;
  request = shelved.request;
}
