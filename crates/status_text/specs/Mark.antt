-- What the field Status of a stanza says of its package, and whether the stanza counts (dpkg(1), "Package states";
-- Policy 5.6.1 and 5.6.8). The order of the tests is this project's own.
use Rattle.std.specs.Prelude.{ℕ, Bool, true, false, List, Option, Some, None, Result, Ok, Err, codes, if◌then◌else◌}
use Rattle.relation.specs.PackageStanza.{counts_for}
use Rattle.relation.specs.PkgFields.{field_named, fields_of}
use Rattle.relation.specs.PkgText.{pkg_name_fault, value_in}
use Rattle.relation.specs.declared.error.PkgFault.{PkgFault}
use Rattle.rules.specs.State.{is_not_installed_state, is_present_state}
use Rattle.rules.specs.declared.status.State.{State}
use Rattle.stanza.specs.Field.{FieldText, value_named}
use Rattle.stanza.specs.Stanza.{StanzaText}
use Rattle.status_text.specs.Words.{read_words}
use Rattle.status_text.specs.declared.error.StatusField.TheVariants as required
use Rattle.status_text.specs.declared.error.StatusFault.{StatusFault}
use Rattle.status_text.specs.declared.error.StatusFault.TheVariants as fault
use Rattle.status_text.specs.declared.words.Mark.{Mark}

-- the refusal of a package's field, or else what comes after it
abbrev pub unless_fault : {A : Type 0} → Option PkgFault → Result A StatusFault → Result A StatusFault
unless_fault (Some refused) later = Err (fault.Pkg refused)
unless_fault None later = later

-- the name that a stanza gives
abbrev pub name_in : StanzaText → List ℕ
name_in stanza = value_in (fields_of stanza).name

-- what a field Status on this line says, or its refusal where its words say nothing
abbrev pub mark_by : ℕ → Option Mark → Result Mark StatusFault
mark_by line None = Err (fault.BadStatus line)
mark_by line (Some mark) = Ok mark

-- what this field Status says of a stanza's package, or its refusal
abbrev pub mark_in : StanzaText → Option FieldText → Result Mark StatusFault
mark_in stanza None = Err (fault.MissingField stanza.line required.Status)
mark_in stanza (Some field) = mark_by field.line (read_words field.value)

-- what a stanza says of its package, or its first refusal: of Package, then Status
abbrev pub read_mark : StanzaText → Result Mark StatusFault
read_mark stanza = unless_fault (pkg_name_fault (fields_of stanza)) (mark_in stanza (field_named (codes "Status") stanza.fields))

-- whether a stanza with this value of Architecture has a record, or its refusal
-- a package of another architecture has none where it is not-installed, and is refused in any other state
abbrev pub counts_by : List ℕ → StanzaText → State → Option (List ℕ) → Result Bool StatusFault
counts_by arch stanza state None = if is_present_state state then Err (fault.MissingField stanza.line required.Architecture) else Ok true
counts_by arch stanza state (Some value) =
    if counts_for arch value then Ok true
    else if is_not_installed_state state then Ok false
    else Err (fault.ForeignArchitecture (name_in stanza))

-- whether a stanza of a package in this state has a record, or the refusal of its Architecture
abbrev pub counts : List ℕ → StanzaText → State → Result Bool StatusFault
counts arch stanza state = counts_by arch stanza state (value_named (codes "Architecture") stanza.fields)
