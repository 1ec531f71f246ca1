-- A record of a preferences file: a stanza with the fields Package, Pin and Pin-Priority (apt_preferences(5)).
use Rattle.std.specs.Prelude.{ℕ, ℤ, List, Option, Some, None, Result, Ok, Err, codes}
use Rattle.std.specs.List.{find}
use Rattle.rules.specs.declared.release.Pin.{Pin}
use Rattle.rules.specs.declared.release.PinnedNames.{PinnedNames}
use Rattle.rules.specs.declared.release.Preference.{Preference}
use Rattle.stanza.specs.Field.{FieldText, same_name}
use Rattle.stanza.specs.Stanza.{StanzaText}
use Rattle.stanza.specs.declared.error.StanzaError.{StanzaError}
use Rattle.pins.specs.Names.{names_of}
use Rattle.pins.specs.Number.{number_of}
use Rattle.pins.specs.Pin.{pin_of}
use Rattle.pins.specs.declared.error.PrefsField.TheVariants as required
use Rattle.pins.specs.declared.error.PrefsFault.{PrefsFault}
use Rattle.pins.specs.declared.error.PrefsFault.TheVariants as fault

-- the first field of this name, whatever the case of its letters
abbrev pub field_named : List ℕ → List FieldText → Option FieldText
field_named name fields = find (λ field. same_name field.name name) fields

-- what a field writes, or its refusal
abbrev pub or_bad : {A : Type 0} → ℕ → Option A → Result A PrefsFault
or_bad line None = Err (fault.BadPin line)
or_bad line (Some value) = Ok value

-- the record of these names, pin and priority, or the first refusal among them in this order
abbrev pub preference_of : Result PinnedNames PrefsFault → Result Pin PrefsFault → Result ℤ PrefsFault → Result Preference PrefsFault
preference_of (Err refused) pin priority = Err refused
preference_of (Ok names) (Err refused) priority = Err refused
preference_of (Ok names) (Ok pin) (Err refused) = Err refused
preference_of (Ok names) (Ok pin) (Ok priority) = Ok (record { names = names; pin = pin; priority = priority })

-- the record that these fields write, or their first refusal
abbrev pub read_fields : FieldText → FieldText → FieldText → Result Preference PrefsFault
read_fields names pin priority = preference_of (or_bad names.line (names_of names.value))
    (or_bad pin.line (pin_of pin.value)) (or_bad priority.line (number_of priority.value))

-- the record of a stanza on this line with these fields, or the first that is missing, or else their first refusal
abbrev pub read_found : ℕ → Option FieldText → Option FieldText → Option FieldText → Result Preference PrefsFault
read_found line None pin priority = Err (fault.MissingField line required.Package)
read_found line (Some names) None priority = Err (fault.MissingField line required.Pin)
read_found line (Some names) (Some pin) None = Err (fault.MissingField line required.PinPriority)
read_found line (Some names) (Some pin) (Some priority) = read_fields names pin priority

-- the record of a stanza, or its first refusal
abbrev pub read_stanza : StanzaText → Result Preference PrefsFault
read_stanza stanza = read_found stanza.line (field_named (codes "Package") stanza.fields)
    (field_named (codes "Pin") stanza.fields) (field_named (codes "Pin-Priority") stanza.fields)

-- the record of an item of the text, or its first refusal: the lines of a stanza come first
abbrev pub read_item : Result StanzaText StanzaError → Result Preference PrefsFault
read_item (Err refused) = Err (fault.Stanza refused)
read_item (Ok stanza) = read_stanza stanza
