-- Which action is legal when (Policy 7.2, 7.3 and 7.4; dpkg(1)): for each action the rules that it is tested
-- by, in the order of the tests, and what each rule asks of it. What is said of holds and of admitted versions
-- is this project's own.
use Rattle.std.specs.Prelude.{◌≡◌, ℕ, List, [], ◌∷◌, ◌⊎◌, ⊤, IsSome, Option}
use Rattle.std.specs.List.{All}
use Rattle.rules.specs.Configure.{AreConfigurable, ArePreDependsInstalled, AreDependsInstalled, AreUnbroken, IsIndivisible}
use Rattle.rules.specs.Database.{Record, HasRecord, IsPresent, IsInstalled, IsRemoved, HasSoundFlag, IsHeld, IsEssential}
use Rattle.rules.specs.Remove.{IsNotNeeded}
use Rattle.rules.specs.Step.{IndexPackage}
use Rattle.rules.specs.Universe.{Universe, StandsAs, listed_of}
use Rattle.rules.specs.Unpack.{OnListed, HasPreDepends, HasNoConflict, BreaksNone}
use Rattle.rules.specs.declared.step.Rule.{Rule}
use Rattle.rules.specs.declared.step.Rule.TheVariants as rule
use Rattle.rules.specs.declared.step.Step.{Step}
use Rattle.rules.specs.declared.step.Step.TheVariants as step

-- the name isn't held
unfoldable pub IsNotHeld : List Record → List ℕ → Type 0
IsNotHeld db name = ¬ HasRecord IsHeld name db

-- Unpack

-- the rules of an unpacking, in their order
abbrev pub unpack_rules : List Rule
unpack_rules = rule.NotAdmitted ∷ rule.Held ∷ rule.WrongState ∷ rule.PreDepends ∷ rule.Conflict ∷ rule.Breaks ∷ []

-- what each asks of an unpacking of this version of the name from this stanza of an index, if there is one
abbrev pub UnpackAsks : Option IndexPackage → List Record → List ℕ → List ℕ → Rule → Type 0
UnpackAsks listed db name version rule.NotAdmitted = IsSome listed
UnpackAsks listed db name version rule.Held = IsNotHeld db name
UnpackAsks listed db name version rule.WrongState = ¬ StandsAs db name version
UnpackAsks listed db name version rule.PreDepends = OnListed (HasPreDepends db) listed
UnpackAsks listed db name version rule.Conflict = OnListed (HasNoConflict db) listed
UnpackAsks listed db name version rule.Breaks = OnListed (BreaksNone db) listed
UnpackAsks listed db name version other = ⊤

-- Configure

-- the rules of a configuring, in their order
abbrev pub configure_rules : List Rule
configure_rules = rule.WrongState ∷ rule.PreDepends ∷ rule.Depends ∷ rule.Breaks ∷ rule.Group ∷ []

-- what each asks of a configuring of these names together
abbrev pub ConfigureAsks : List Record → List (List ℕ) → Rule → Type 0
ConfigureAsks db names rule.WrongState = AreConfigurable db names
ConfigureAsks db names rule.PreDepends = ArePreDependsInstalled db names
ConfigureAsks db names rule.Depends = AreDependsInstalled db names
ConfigureAsks db names rule.Breaks = AreUnbroken db names
ConfigureAsks db names rule.Group = IsIndivisible db names
ConfigureAsks db names other = ⊤

-- Remove

-- the rules of a removal, in their order
abbrev pub remove_rules : List Rule
remove_rules = rule.WrongState ∷ rule.Held ∷ rule.Essential ∷ rule.NeededBy ∷ []

-- what each asks of a removal of the name
abbrev pub RemoveAsks : List Record → List ℕ → Rule → Type 0
RemoveAsks db name rule.WrongState = HasRecord (λ entry. IsPresent entry × HasSoundFlag entry) name db
RemoveAsks db name rule.Held = IsNotHeld db name
RemoveAsks db name rule.Essential = ¬ HasRecord IsEssential name db
RemoveAsks db name rule.NeededBy = IsNotNeeded db name
RemoveAsks db name other = ⊤

-- Deconfigure and purge

-- the rule of a deconfiguring
abbrev pub deconfigure_rules : List Rule
deconfigure_rules = rule.WrongState ∷ []

-- what it asks of a deconfiguring of the name
abbrev pub DeconfigureAsks : List Record → List ℕ → Rule → Type 0
DeconfigureAsks db name rule.WrongState = HasRecord IsInstalled name db
DeconfigureAsks db name other = ⊤

-- the rules of a purge, in their order
abbrev pub purge_rules : List Rule
purge_rules = rule.WrongState ∷ rule.Held ∷ []

-- what each asks of a purge of the name
abbrev pub PurgeAsks : List Record → List ℕ → Rule → Type 0
PurgeAsks db name rule.WrongState = HasRecord IsRemoved name db
PurgeAsks db name rule.Held = IsNotHeld db name
PurgeAsks db name other = ⊤

-- Every action

-- the rules of a step, in their order
abbrev pub rules_of : Step → List Rule
rules_of (step.Unpack name version) = unpack_rules
rules_of (step.Deconfigure name) = deconfigure_rules
rules_of (step.Configure names) = configure_rules
rules_of (step.Remove name) = remove_rules
rules_of (step.Purge name) = purge_rules

-- what each rule asks of a step
abbrev pub Asks : Universe → List Record → Step → Rule → Type 0
Asks u db (step.Unpack name version) = UnpackAsks (listed_of u name version) db name version
Asks u db (step.Deconfigure name) = DeconfigureAsks db name
Asks u db (step.Configure names) = ConfigureAsks db names
Asks u db (step.Remove name) = RemoveAsks db name
Asks u db (step.Purge name) = PurgeAsks db name

-- allowed: the step keeps each of its rules
unfoldable pub Allowed : Universe → List Record → Step → Type 0
Allowed u db step = All (Asks u db step) (rules_of step)

-- the rule is the first of the list that isn't kept: those before it are
abbrev pub IsFirstUnkept : (Rule → Type 0) → List Rule → Rule → Type 0
IsFirstUnkept IsKept [] unkept = ⊥
IsFirstUnkept IsKept (first ∷ rest) unkept =
    ((unkept ≡ first) × ¬ IsKept first) ⊎ (IsKept first × IsFirstUnkept IsKept rest unkept)

-- the first rule of the step that fails
unfoldable pub IsFirstFailing : Universe → List Record → Step → Rule → Type 0
IsFirstFailing u db step failing = IsFirstUnkept (Asks u db step) (rules_of step) failing
