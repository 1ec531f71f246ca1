-- What is said of a text that is refused: the code, the name and the values of the refusal (docs/FORMATS.md, section 14).
use Rattle.std.specs.Prelude.{ℕ, List, ◌++◌, codes, decimal}
use Rattle.index.specs.declared.error.IndexFault.{IndexFault}
use Rattle.index.specs.declared.error.IndexFault.TheVariants as index
use Rattle.index.specs.declared.error.SourcesFault.{SourcesFault}
use Rattle.index.specs.declared.error.SourcesFault.TheVariants as sources
use Rattle.inputs.specs.declared.refusal.Fault.{Fault}
use Rattle.inputs.specs.declared.refusal.Fault.TheVariants as fault
use Rattle.inputs.specs.declared.refusal.Input.{Input}
use Rattle.inputs.specs.declared.refusal.Input.TheVariants as place
use Rattle.inputs.specs.declared.status_refusal.StatusRefusal.{StatusRefusal}
use Rattle.inputs.specs.declared.status_refusal.StatusRefusal.TheVariants as status
use Rattle.pins.specs.Error.{field_name as pin_field}
use Rattle.pins.specs.declared.error.PrefsFault.{PrefsFault}
use Rattle.pins.specs.declared.error.PrefsFault.TheVariants as pins
use Rattle.plantext.specs.declared.error.PlanFault.{PlanFault}
use Rattle.plantext.specs.declared.error.PlanFault.TheVariants as plan
use Rattle.refutation_text.specs.declared.error.RefutationFault.{RefutationFault}
use Rattle.refutation_text.specs.declared.error.RefutationFault.TheVariants as refutation
use Rattle.relation.specs.Error.{field_name as package_field}
use Rattle.relation.specs.declared.error.PkgFault.{PkgFault}
use Rattle.relation.specs.declared.error.PkgFault.TheVariants as pkg
use Rattle.rules.specs.declared.bad_version.BadVersion.{BadVersion}
use Rattle.rules.specs.declared.bad_version.BadVersion.TheVariants as version
use Rattle.stanza.specs.declared.error.StanzaError.{StanzaError}
use Rattle.stanza.specs.declared.error.StanzaError.TheVariants as stanza
use Rattle.status_text.specs.Error.{field_name as status_field}
use Rattle.universe_request.specs.declared.error.RequestFault.{RequestFault}
use Rattle.universe_request.specs.declared.error.RequestFault.TheVariants as request

-- the code and the name of a refusal, with a value behind them
abbrev pub with_value : List ℕ → List ℕ → List ℕ
with_value code value = code ++ (codes " " ++ value)

-- so with a number
abbrev pub with_number : List ℕ → ℕ → List ℕ
with_number code number = code ++ (codes " " ++ decimal number)

-- so with a number, and a value behind it
abbrev pub with_number_and_value : List ℕ → ℕ → List ℕ → List ℕ
with_number_and_value code number value = code ++ (codes " " ++ (decimal number ++ (codes " " ++ value)))

-- why a text is no version (Policy 5.6.12)
abbrev pub version_kind : BadVersion → List ℕ
version_kind version.Empty = codes "Empty"
version_kind version.BadEpoch = codes "BadEpoch"
version_kind version.EpochTooLarge = codes "EpochTooLarge"
version_kind version.EmptyUpstream = codes "EmptyUpstream"
version_kind version.EmptyRevision = codes "EmptyRevision"
version_kind version.BadByte = codes "BadByte"

-- control text (Policy 5.1)
abbrev pub stanza_words : StanzaError → List ℕ
stanza_words (stanza.BadLine line) = with_number (codes "E2 BadLine") line
stanza_words (stanza.BadFieldName line) = with_number (codes "E3 BadFieldName") line
stanza_words (stanza.DuplicateField line) = with_number (codes "E4 DuplicateField") line

-- the fields of a package
abbrev pub package_words : PkgFault → List ℕ
package_words (pkg.MissingField line field) = with_number_and_value (codes "E9 MissingField") line (package_field field)
package_words (pkg.BadVersion line kind) = with_number_and_value (codes "E6 BadVersion") line (version_kind kind)
package_words (pkg.BadRelation line offset) = with_number_and_value (codes "E7 BadRelation") line (decimal offset)
package_words (pkg.BadName line offset) = with_number_and_value (codes "E8 BadName") line (decimal offset)
package_words pkg.TooLarge = codes "E10 TooLarge"

-- the status file
abbrev pub status_words : StatusRefusal → List ℕ
status_words (status.Stanza refused) = stanza_words refused
status_words (status.Pkg refused) = package_words refused
status_words (status.MissingField line field) = with_number_and_value (codes "E9 MissingField") line (status_field field)
status_words (status.BadStatus line) = with_number (codes "E12 BadStatus") line
status_words (status.DuplicatePackage name) = with_value (codes "E13 DuplicatePackage") name
status_words (status.ForeignArchitecture name) = with_value (codes "E14 ForeignArchitecture") name
status_words status.TooLarge = codes "E10 TooLarge"

-- the sources
abbrev pub sources_words : SourcesFault → List ℕ
sources_words (sources.Stanza refused) = stanza_words refused
sources_words (sources.MissingFile line) = with_number_and_value (codes "E9 MissingField") line (codes "File")
sources_words sources.TooLarge = codes "E10 TooLarge"

-- an index
abbrev pub index_words : IndexFault → List ℕ
index_words (index.Stanza refused) = stanza_words refused
index_words (index.Pkg refused) = package_words refused
index_words (index.MissingArchitecture line) = with_number_and_value (codes "E9 MissingField") line (codes "Architecture")
index_words index.TooLarge = codes "E10 TooLarge"

-- the preferences
abbrev pub preferences_words : PrefsFault → List ℕ
preferences_words (pins.Stanza refused) = stanza_words refused
preferences_words (pins.MissingField line field) = with_number_and_value (codes "E9 MissingField") line (pin_field field)
preferences_words (pins.BadPin line) = with_number (codes "E11 BadPin") line
preferences_words pins.TooLarge = codes "E10 TooLarge"

-- the request
abbrev pub request_words : RequestFault → List ℕ
request_words (request.BadRequest line) = with_number (codes "E16 BadRequest") line
request_words request.TooLarge = codes "E10 TooLarge"

-- the plan
abbrev pub plan_words : PlanFault → List ℕ
plan_words (plan.BadPlan line) = with_number (codes "E18 BadPlan") line
plan_words plan.TooLarge = codes "E10 TooLarge"

-- the refutation
abbrev pub refutation_words : RefutationFault → List ℕ
refutation_words (refutation.BadRefutation line) = with_number (codes "E19 BadRefutation") line
refutation_words refutation.TooLarge = codes "E10 TooLarge"

-- any of the texts
abbrev pub fault_words : Fault → List ℕ
fault_words (fault.Version kind) = with_value (codes "E6 BadVersion") (version_kind kind)
fault_words (fault.Status refused) = status_words refused
fault_words (fault.Sources refused) = sources_words refused
fault_words (fault.Index refused) = index_words refused
fault_words (fault.Preferences refused) = preferences_words refused
fault_words (fault.Request refused) = request_words refused
fault_words (fault.UnknownName line) = with_number (codes "E17 UnknownName") line
fault_words (fault.Plan refused) = plan_words refused
fault_words (fault.Refutation refused) = refutation_words refused
fault_words fault.TooLarge = codes "E10 TooLarge"
fault_words fault.Changed = codes "E28 Changed"
fault_words fault.Read = codes "E5 Read"
fault_words fault.OutOfMemory = codes "E1 OutOfMemory"

-- which text is refused
abbrev pub place_words : Input → List ℕ
place_words (place.Version number) = with_number (codes "version") number
place_words place.Status = codes "status"
place_words place.Sources = codes "sources"
place_words (place.Index number) = with_number (codes "index") number
place_words place.Preferences = codes "preferences"
place_words place.Request = codes "request"
place_words place.Plan = codes "plan"
place_words place.Refutation = codes "refutation"
place_words place.Memory = codes "memory"
