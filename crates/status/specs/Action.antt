-- The actions on a package that is there (dpkg(1)): from which records they start, and what they leave.
use Rattle.std.specs.Prelude.{Bool}
use Rattle.rules.specs.Database.{Record}
use Rattle.rules.specs.Step.{configured, deconfigured, removed}
use Rattle.status.specs.Applicable.{is_configurable, is_deconfigurable, is_removable}
use Rattle.status.specs.declared.action.Action.{Action}
use Rattle.status.specs.declared.action.Action.TheVariants.{Configure, Deconfigure, Remove}

-- the action starts from the record
abbrev pub starts_from : Action → Record → Bool
starts_from Deconfigure = is_deconfigurable
starts_from Configure = is_configurable
starts_from Remove = is_removable

-- what it leaves of a record
abbrev pub left_of : Action → Record → Record
left_of Deconfigure = deconfigured
left_of Configure = configured
left_of Remove = removed
