-- The states, wants and flags of a package as tests (dpkg(1), "Package states").
use Rattle.std.specs.Prelude.{Bool, true, false}
use Rattle.rules.specs.declared.status.Flag.{Flag}
use Rattle.rules.specs.declared.status.Flag.TheVariants as flags
use Rattle.rules.specs.declared.status.State.{State}
use Rattle.rules.specs.declared.status.State.TheVariants.{NotInstalled, ConfigFiles, HalfInstalled, Unpacked, HalfConfigured, TriggersAwaited, TriggersPending, Installed}
use Rattle.rules.specs.declared.status.Want.{Want}
use Rattle.rules.specs.declared.status.Want.TheVariants.{Unknown, Install, Hold, Deinstall, Purge}

-- the states in which files of the package are there
abbrev pub is_present_state : State → Bool
is_present_state NotInstalled = false
is_present_state ConfigFiles = false
is_present_state HalfInstalled = true
is_present_state Unpacked = true
is_present_state HalfConfigured = true
is_present_state TriggersAwaited = true
is_present_state TriggersPending = true
is_present_state Installed = true

-- the states in which triggers are left to be processed: the package's own, or those of another that it awaits
-- (deb-triggers(5))
abbrev pub is_trigger_state : State → Bool
is_trigger_state NotInstalled = false
is_trigger_state ConfigFiles = false
is_trigger_state HalfInstalled = false
is_trigger_state Unpacked = false
is_trigger_state HalfConfigured = false
is_trigger_state TriggersAwaited = true
is_trigger_state TriggersPending = true
is_trigger_state Installed = false

-- the states in which all files of the package are there, and it isn't configured or triggers are left to be processed
abbrev pub is_unconfigured_state : State → Bool
is_unconfigured_state NotInstalled = false
is_unconfigured_state ConfigFiles = false
is_unconfigured_state HalfInstalled = false
is_unconfigured_state Unpacked = true
is_unconfigured_state HalfConfigured = true
is_unconfigured_state TriggersAwaited = true
is_unconfigured_state TriggersPending = true
is_unconfigured_state Installed = false

-- the states in which an action broke off, or in which something is left to be done
abbrev pub is_unfinished_state : State → Bool
is_unfinished_state NotInstalled = false
is_unfinished_state ConfigFiles = false
is_unfinished_state HalfInstalled = true
is_unfinished_state Unpacked = true
is_unfinished_state HalfConfigured = true
is_unfinished_state TriggersAwaited = true
is_unfinished_state TriggersPending = true
is_unfinished_state Installed = false

-- the state installed
abbrev pub is_installed_state : State → Bool
is_installed_state NotInstalled = false
is_installed_state ConfigFiles = false
is_installed_state HalfInstalled = false
is_installed_state Unpacked = false
is_installed_state HalfConfigured = false
is_installed_state TriggersAwaited = false
is_installed_state TriggersPending = false
is_installed_state Installed = true

-- the states in which the version of the package is the one that was configured last: installed, and the trigger states
abbrev pub has_configured_version : State → Bool
has_configured_version NotInstalled = false
has_configured_version ConfigFiles = false
has_configured_version HalfInstalled = false
has_configured_version Unpacked = false
has_configured_version HalfConfigured = false
has_configured_version TriggersAwaited = true
has_configured_version TriggersPending = true
has_configured_version Installed = true

-- the state of a package of which nothing is there
abbrev pub is_not_installed_state : State → Bool
is_not_installed_state NotInstalled = true
is_not_installed_state ConfigFiles = false
is_not_installed_state HalfInstalled = false
is_not_installed_state Unpacked = false
is_not_installed_state HalfConfigured = false
is_not_installed_state TriggersAwaited = false
is_not_installed_state TriggersPending = false
is_not_installed_state Installed = false

-- the state in which configuration files alone are left
abbrev pub is_config_files_state : State → Bool
is_config_files_state NotInstalled = false
is_config_files_state ConfigFiles = true
is_config_files_state HalfInstalled = false
is_config_files_state Unpacked = false
is_config_files_state HalfConfigured = false
is_config_files_state TriggersAwaited = false
is_config_files_state TriggersPending = false
is_config_files_state Installed = false

-- the flag ok
abbrev pub is_sound_flag : Flag → Bool
is_sound_flag flags.Ok = true
is_sound_flag flags.ReinstallRequired = false

-- the want hold
abbrev pub is_hold : Want → Bool
is_hold Unknown = false
is_hold Install = false
is_hold Hold = true
is_hold Deinstall = false
is_hold Purge = false
