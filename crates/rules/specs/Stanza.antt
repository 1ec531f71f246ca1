-- The stanza of a package in the status file, as an action leaves it (Policy 5.1, dpkg(1)).
-- What is written and what is left out is this project's own.
use Rattle.std.specs.Prelude.{ℕ, Bool, not, List, [], ◌∷◌, ◌++◌, ◌&&◌, Option, Some, None, codes, bytes_eq, if◌then◌else◌}
use Rattle.std.specs.List.{filter, list_any, flat_map}
use Rattle.std.specs.Str.{str_eq_ignore_ascii_case}
use Rattle.rules.specs.State.{is_trigger_state}
use Rattle.rules.specs.declared.status.Flag.{Flag}
use Rattle.rules.specs.declared.status.Flag.TheVariants as flags
use Rattle.rules.specs.declared.status.State.{State}
use Rattle.rules.specs.declared.status.State.TheVariants.{NotInstalled, ConfigFiles, HalfInstalled, Unpacked, HalfConfigured, TriggersAwaited, TriggersPending, Installed}
use Rattle.rules.specs.declared.status.Want.{Want}
use Rattle.rules.specs.declared.status.Want.TheVariants.{Unknown, Install, Hold, Deinstall, Purge}

-- a field: its name as spelled, and its value
pub record Field : Type 0 where
  pub name : List ℕ
  pub value : List ℕ

-- a stanza: its fields in order, and its bytes while no action has touched it
pub record Stanza : Type 0 where
  pub fields : List Field
  pub bytes : Option (List ℕ)

-- the field has this name, without regard to ASCII case
abbrev pub is_called : List ℕ → Field → Bool
is_called name field = str_eq_ignore_ascii_case field.name name

-- the field has one of these names
abbrev pub is_called_one_of : List (List ℕ) → Field → Bool
is_called_one_of names field = list_any (λ name. is_called name field) names

-- the fields of this name
abbrev pub fields_called : List ℕ → List Field → List Field
fields_called name fields = filter (is_called name) fields

-- the fields but for those of these names
abbrev pub fields_without : List (List ℕ) → List Field → List Field
fields_without names fields = filter (λ field. not (is_called_one_of names field)) fields

-- a field `Essential: yes`, these very bytes: every package may take the package for granted (Policy 3.8 and 5.6.9)
abbrev pub says_essential : Field → Bool
says_essential field = is_called (codes "Essential") field && bytes_eq field.value (codes "yes")

-- a field `Essential: yes` or `Protected: yes` (Policy 5.6.9; Protected alike is this project's own)
abbrev pub marks_essential : Field → Bool
marks_essential field = is_called_one_of (codes "Essential" ∷ codes "Protected" ∷ []) field && bytes_eq field.value (codes "yes")

-- the word of a want in a status line
abbrev pub want_word : Want → List ℕ
want_word Unknown = codes "unknown"
want_word Install = codes "install"
want_word Hold = codes "hold"
want_word Deinstall = codes "deinstall"
want_word Purge = codes "purge"

-- the word of a flag
abbrev pub flag_word : Flag → List ℕ
flag_word flags.Ok = codes "ok"
flag_word flags.ReinstallRequired = codes "reinstreq"

-- the word of a state
abbrev pub state_word : State → List ℕ
state_word NotInstalled = codes "not-installed"
state_word ConfigFiles = codes "config-files"
state_word HalfInstalled = codes "half-installed"
state_word Unpacked = codes "unpacked"
state_word HalfConfigured = codes "half-configured"
state_word TriggersAwaited = codes "triggers-awaited"
state_word TriggersPending = codes "triggers-pending"
state_word Installed = codes "installed"

-- the field Status of a record
abbrev pub status_field : Want → Flag → State → Field
status_field want flag state =
    record { name = codes "Status"; value = want_word want ++ codes " " ++ flag_word flag ++ codes " " ++ state_word state }

-- the field Config-Version, which is written where there is a config version
abbrev pub config_fields : Option (List ℕ) → List Field
config_fields None = []
config_fields (Some version) = record { name = codes "Config-Version"; value = version } ∷ []

-- the fields that say which triggers are left to be processed: the package's own, and the packages that it awaits
abbrev pub trigger_fields : List (List ℕ)
trigger_fields = codes "Triggers-Pending" ∷ codes "Triggers-Awaited" ∷ []

-- the fields of the stanza of a package in this state that an action writes on: without those of triggers where the
-- state is a trigger state
abbrev pub lasting_fields : State → List Field → List Field
lasting_fields state fields = if is_trigger_state state then fields_without trigger_fields fields else fields

-- a field, with the field Config-Version behind it where it is the field Version
abbrev pub with_config_version : Option (List ℕ) → Field → List Field
with_config_version config_version field =
    field ∷ filter (λ _. is_called (codes "Version") field) (config_fields config_version)

-- the fields of a touched stanza: Package first, Status second, and Config-Version behind Version
abbrev pub touched_fields : Field → Option (List ℕ) → List Field → List Field
touched_fields status config_version fields =
    fields_called (codes "Package") fields ++ status
    ∷ flat_map (with_config_version config_version)
    (fields_without (codes "Package" ∷ codes "Status" ∷ codes "Config-Version" ∷ []) fields)

-- the fields that an index has and a status file doesn't
abbrev pub index_only : List (List ℕ)
index_only = codes "Filename" ∷ codes "Size" ∷ codes "MD5sum" ∷ codes "SHA1" ∷ codes "SHA256"
    ∷ codes "SHA512" ∷ codes "Description-md5" ∷ codes "Conffiles" ∷ []

-- the fields of an unpacked stanza: those of the index stanza, and the old stanza's Conffiles last
abbrev pub unpacked_fields : Field → Option (List ℕ) → List Field → List Field → List Field
unpacked_fields status config_version index_fields old_fields =
    touched_fields status config_version (fields_without index_only index_fields)
    ++ fields_called (codes "Conffiles") old_fields
