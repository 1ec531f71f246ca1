-- A preferences file (apt_preferences(5)): control text with comments, each stanza of which is a record.
use Rattle.std.specs.Prelude.{ℕ, List, [], ◌∷◌, ◌++◌, length, nat_lt, Option, Result, Ok, Err, if◌then◌else◌}
use Rattle.rules.specs.declared.limits.TheConstants.{TEXT_BYTES}
use Rattle.rules.specs.declared.release.Preference.{Preference}
use Rattle.stanza.specs.declared.form.Form.TheVariants.{Commented}
use Rattle.stanza.specs.Stanza.{StanzaText, items_of}
use Rattle.stanza.specs.declared.error.StanzaError.{StanzaError}
use Rattle.pins.specs.Record.{read_item}
use Rattle.pins.specs.declared.error.PrefsFault.{PrefsFault}
use Rattle.pins.specs.declared.error.PrefsFault.TheVariants as fault

-- what the administrator prefers: the records in order, and the target release, if there is one
pub record Preferences : Type 0 where
  pub preferences : List Preference
  pub target : Option (List ℕ)

-- these records and then the later ones, if those aren't refused
abbrev pub with_records : List Preference → Result (List Preference) PrefsFault → Result (List Preference) PrefsFault
with_records records (Err refused) = Err refused
with_records records (Ok later) = Ok (records ++ later)

-- the record that is read and then the later ones, or the first refusal
abbrev pub record_then : Result Preference PrefsFault → Result (List Preference) PrefsFault → Result (List Preference) PrefsFault
record_then (Err refused) later = Err refused
record_then (Ok preference) later = with_records (preference ∷ []) later

-- the records of these items, or the first refusal
abbrev pub records_in : List (Result StanzaText StanzaError) → Result (List Preference) PrefsFault
records_in [] = Ok []
records_in (item ∷ items) = record_then (read_item item) (records_in items)

-- the records of a preferences file in order, or its first refusal
abbrev pub read_preferences : List ℕ → Result (List Preference) PrefsFault
read_preferences text = if nat_lt TEXT_BYTES (length text) then Err fault.TooLarge else records_in (items_of Commented text)
