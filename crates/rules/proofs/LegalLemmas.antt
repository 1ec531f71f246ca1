-- The first rule that fails: there is one where a step isn't allowed, and no second one.
use Rattle.std.proofs.Common.{Option, ◌≡◌, ℕ, List, [], ◌∷◌, ◌⊎◌, refl, sym, ◌∙◌}
use Rattle.std.specs.Prelude.{◌↔◌, is_some}
use Rattle.std.specs.List.{All}
use Rattle.std.proofs.lemmas.List.Elements.{All-nil, All-cons, All-head, All-tail}
use Rattle.rules.specs.Database.{Record, IsPresent, IsInstalled, IsRemoved, HasSoundFlag, IsEssential}
use Rattle.rules.specs.Legal.{UnpackAsks, ConfigureAsks, RemoveAsks, DeconfigureAsks, PurgeAsks, Asks, rules_of, Allowed, IsFirstUnkept, IsFirstFailing}
use Rattle.rules.specs.Step.{IndexPackage}
use Rattle.rules.specs.State.{is_present_state, is_installed_state, is_config_files_state, is_sound_flag}
use Rattle.rules.specs.Universe.{Universe, listed_of}
use Rattle.rules.specs.Unpack.{HasPreDepends, HasNoConflict, BreaksNone}
use Rattle.rules.specs.declared.step.Rule.{Rule}
use Rattle.rules.specs.declared.step.Rule.TheVariants as rule
use Rattle.rules.specs.declared.step.Step.{Step}
use Rattle.rules.specs.declared.step.Step.TheVariants as step
use Rattle.rules.proofs.Decided.{dec_IsTrue, dec_and, dec_not}
use Rattle.rules.proofs.DecidedSteps.{dec_HasRecord, dec_HasPreDepends, dec_HasNoConflict, dec_BreaksNone, dec_OnListed, dec_IsNotHeld, dec_StandsAs, dec_AreConfigurable, dec_ArePreDependsInstalled, dec_AreDependsInstalled, dec_AreUnbroken, dec_IsNotNeeded}
use Rattle.rules.proofs.GroupLemmas.{dec_IsIndivisible}
use mathlib.Core.Logic.{inl, inr}

unfoldable pub dec_UnpackAsks : (listed : Option IndexPackage) (db : List Record) (name version : List ℕ) (asked : Rule) → Dec (UnpackAsks listed db name version asked)
dec_UnpackAsks listed db name version rule.NotAdmitted = dec_IsTrue (is_some listed)
dec_UnpackAsks listed db name version rule.Held = dec_IsNotHeld db name
dec_UnpackAsks listed db name version rule.WrongState = dec_not (dec_StandsAs db name version)
dec_UnpackAsks listed db name version rule.PreDepends = dec_OnListed (HasPreDepends db) (dec_HasPreDepends db) listed
dec_UnpackAsks listed db name version rule.Conflict = dec_OnListed (HasNoConflict db) (dec_HasNoConflict db) listed
dec_UnpackAsks listed db name version rule.Breaks = dec_OnListed (BreaksNone db) (dec_BreaksNone db) listed
dec_UnpackAsks listed db name version other = yes tt

unfoldable pub dec_ConfigureAsks : (db : List Record) (names : List (List ℕ)) (asked : Rule) → Dec (ConfigureAsks db names asked)
dec_ConfigureAsks db names rule.WrongState = dec_AreConfigurable db names
dec_ConfigureAsks db names rule.PreDepends = dec_ArePreDependsInstalled db names
dec_ConfigureAsks db names rule.Depends = dec_AreDependsInstalled db names
dec_ConfigureAsks db names rule.Breaks = dec_AreUnbroken db names
dec_ConfigureAsks db names rule.Group = dec_IsIndivisible db names
dec_ConfigureAsks db names other = yes tt

unfoldable pub dec_RemoveAsks : (db : List Record) (name : List ℕ) (asked : Rule) → Dec (RemoveAsks db name asked)
dec_RemoveAsks db name rule.WrongState = dec_HasRecord (λ entry. IsPresent entry × HasSoundFlag entry)
    (λ entry. dec_and (dec_IsTrue (is_present_state entry.state)) (dec_IsTrue (is_sound_flag entry.flag))) name db
dec_RemoveAsks db name rule.Held = dec_IsNotHeld db name
dec_RemoveAsks db name rule.Essential = dec_not (dec_HasRecord IsEssential (λ entry. dec_IsTrue entry.is_essential) name db)
dec_RemoveAsks db name rule.NeededBy = dec_IsNotNeeded db name
dec_RemoveAsks db name other = yes tt

unfoldable pub dec_DeconfigureAsks : (db : List Record) (name : List ℕ) (asked : Rule) → Dec (DeconfigureAsks db name asked)
dec_DeconfigureAsks db name rule.WrongState = dec_HasRecord IsInstalled (λ entry. dec_IsTrue (is_installed_state entry.state)) name db
dec_DeconfigureAsks db name other = yes tt

unfoldable pub dec_PurgeAsks : (db : List Record) (name : List ℕ) (asked : Rule) → Dec (PurgeAsks db name asked)
dec_PurgeAsks db name rule.WrongState = dec_HasRecord IsRemoved (λ entry. dec_IsTrue (is_config_files_state entry.state)) name db
dec_PurgeAsks db name rule.Held = dec_IsNotHeld db name
dec_PurgeAsks db name other = yes tt

-- whether a step keeps a rule is decided
unfoldable pub dec_Asks : (u : Universe) (db : List Record) (taken : Step) (asked : Rule) → Dec (Asks u db taken asked)
dec_Asks u db (step.Unpack name version) asked = dec_UnpackAsks (listed_of u name version) db name version asked
dec_Asks u db (step.Deconfigure name) asked = dec_DeconfigureAsks db name asked
dec_Asks u db (step.Configure names) asked = dec_ConfigureAsks db names asked
dec_Asks u db (step.Remove name) asked = dec_RemoveAsks db name asked
dec_Asks u db (step.Purge name) asked = dec_PurgeAsks db name asked

-- each list of rules is kept or has a first that isn't
unfoldable pub kept_or_first : (P : Rule → Type 0) → ((asked : Rule) → Dec (P asked)) → (asked : List Rule)
    → All P asked ⊎ ((unkept : Rule) × IsFirstUnkept P asked unkept)
kept_or_first P each [] = inl (All-nil P)
kept_or_first P each (first ∷ rest) = at (each first) (kept_or_first P each rest)
  where
    at : Dec (P first) → All P rest ⊎ ((unkept : Rule) × IsFirstUnkept P rest unkept)
        → All P (first ∷ rest) ⊎ ((unkept : Rule) × IsFirstUnkept P (first ∷ rest) unkept)
    at (no fails) later = inr (first, inl (refl, fails))
    at (yes here) (inl all) = inl (All-cons P first rest here all)
    at (yes here) (inr unkept) = inr (unkept.0, inr (here, unkept.1))

-- where all are kept, none is the first that isn't
none_unkept : (P : Rule → Type 0) (asked : List Rule) (unkept : Rule) → All P asked → IsFirstUnkept P asked unkept → ⊥
none_unkept P [] unkept all is_first = is_first
none_unkept P (first ∷ rest) unkept all (inl here) = here.1 (All-head P first rest all)
none_unkept P (first ∷ rest) unkept all (inr later) = none_unkept P rest unkept (All-tail P first rest all) later.1

-- two that are the first are one
one_unkept : (P : Rule → Type 0) (asked : List Rule) (first second : Rule) → IsFirstUnkept P asked first
    → IsFirstUnkept P asked second → first ≡ second
one_unkept P [] first second is_first other = absurd is_first
one_unkept P (topmost ∷ rest) first second (inl here) (inl there) = here.0 ∙ sym there.0
one_unkept P (topmost ∷ rest) first second (inl here) (inr later) = absurd (here.1 later.0)
one_unkept P (topmost ∷ rest) first second (inr later) (inl there) = absurd (there.1 later.0)
one_unkept P (topmost ∷ rest) first second (inr later) (inr other) = one_unkept P rest first second later.1 other.1

unfoldable pub allowed_or_failing : (u : Universe) (db : List Record) (taken : Step)
    → Allowed u db taken ⊎ ((failing : Rule) × IsFirstFailing u db taken failing)
unfolding Allowed IsFirstFailing
allowed_or_failing u db taken = kept_or_first (Asks u db taken) (dec_Asks u db taken) (rules_of taken)

pub allowed_fails_none : (u : Universe) (db : List Record) (taken : Step) (failing : Rule) → Allowed u db taken
    → ¬ IsFirstFailing u db taken failing
unfolding Allowed IsFirstFailing
allowed_fails_none u db taken failing allowed is_first = none_unkept (Asks u db taken) (rules_of taken) failing allowed is_first

pub one_first_failing : (u : Universe) (db : List Record) (taken : Step) (first second : Rule)
    → IsFirstFailing u db taken first → IsFirstFailing u db taken second → first ≡ second
unfolding IsFirstFailing
one_first_failing u db taken first second is_first other = one_unkept (Asks u db taken) (rules_of taken) first second is_first other

pub allowed_where_none_fails : (u : Universe) (db : List Record) (taken : Step)
    → Allowed u db taken ↔ ((failing : Rule) → ¬ IsFirstFailing u db taken failing)
allowed_where_none_fails u db taken = (
  λ allowed failing. allowed_fails_none u db taken failing allowed,
  λ none. elim (allowed_or_failing u db taken) [ inl allowed ↦ allowed | inr failing ↦ absurd (none failing.0 failing.1) ],
)
