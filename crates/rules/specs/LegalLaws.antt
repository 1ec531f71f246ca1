-- What follows from the table of actions: a step is allowed or has one first failing rule.
use Rattle.std.specs.Prelude.{◌≡◌, Bool, true, false, List, ◌⊎◌, ◌↔◌}
use Rattle.std.specs.List.{All}
use Rattle.rules.specs.Database.{Record, HasDistinctNames, IsPresent}
use Rattle.rules.specs.Step.{is_among, is_named}
use Rattle.rules.specs.Legal.{Allowed, IsFirstFailing}
use Rattle.rules.specs.Universe.{Universe}
use Rattle.rules.specs.declared.step.Rule.{Rule}
use Rattle.rules.specs.declared.step.Step.{Step}
use Rattle.rules.specs.declared.step.Step.TheVariants as step

-- a step has one first failing rule at most
abbrev pub OneFirstFailing : Type 0
OneFirstFailing = (u : Universe) (db : List Record) (step : Step) (first second : Rule)
    → IsFirstFailing u db step first → IsFirstFailing u db step second → first ≡ second

-- each step is allowed or has a first failing rule
abbrev pub AllowedOrFailing : Type 0
AllowedOrFailing = (u : Universe) (db : List Record) (step : Step)
    → Allowed u db step ⊎ ((rule : Rule) × IsFirstFailing u db step rule)

-- a step is allowed exactly where no rule of its table is the first to fail
abbrev pub AllowedWhereNoneFails : Type 0
AllowedWhereNoneFails = (u : Universe) (db : List Record) (step : Step)
    → Allowed u db step ↔ ((rule : Rule) → ¬ IsFirstFailing u db step rule)

-- the step configures, deconfigures or removes the record's package, as a test
abbrev pub is_acted_on : Step → Record → Bool
is_acted_on (step.Unpack name version) entry = false
is_acted_on (step.Deconfigure name) entry = is_named name entry
is_acted_on (step.Configure names) entry = is_among names entry
is_acted_on (step.Remove name) entry = is_named name entry
is_acted_on (step.Purge name) entry = false

-- what an allowed step configures, deconfigures or removes is present
unfoldable pub ActsOnPresent : Step → List Record → Type 0
ActsOnPresent step db = All (λ entry. is_acted_on step entry ≡ true → IsPresent entry) db

-- what an allowed step configures, deconfigures or removes is present, where names are distinct
abbrev pub AllowedActsOnPresent : Type 0
AllowedActsOnPresent = (u : Universe) (db : List Record) (step : Step) → HasDistinctNames db → Allowed u db step
    → ActsOnPresent step db
