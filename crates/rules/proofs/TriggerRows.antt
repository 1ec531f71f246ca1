-- Packages with triggers left to be processed (dpkg(1), "Package states"; deb-triggers(5)): one may be configured or
-- removed and not deconfigured, and its version counts as configured.
use Rattle.std.proofs.Common.{◌≡◌, ℕ, true, false, List, [], ◌∷◌, ◌⊎◌, Option, Some, None, refl, sym, ap, subst, ◌∙◌, lit<, arith}
use Rattle.std.specs.Prelude.{codes, ◌≢◌, ⊤, MatchOption}
use Rattle.std.specs.List.{All, Contains}
use Rattle.std.specs.declared.cmp.Ordering.TheVariants.{Less, Equal, Greater}
use Rattle.std.proofs.lemmas.List.Elements.{All-cons, All-nil}
use Rattle.rules.specs.Database.{Record, HasDistinctNames, HasNoConflictWith, IsInstalled, IsQuiet, IsUnfinished, Stands, installed_of, is_unfinished, pkg_of}
use Rattle.rules.specs.ElementLaws.{Any-elim, Contains-cons, Contains-nil}
use Rattle.rules.specs.FileRecord.{FileRecord, entries_after}
use Rattle.rules.specs.Legal.{Allowed, IsFirstFailing}
use Rattle.rules.specs.Package.{Pkg, Atom, MatchesSome}
use Rattle.rules.specs.Run.{HasNothingAgainst, IsAgainst, IsFirstAgainst, IsGoodPlan, IsPurged, Run, reason_cmp}
use Rattle.rules.specs.Sound.{Fulfils, HasItsRelations, KeepsEssential, MatchedByNoOther}
use Rattle.rules.specs.Stanza.{Field, Stanza}
use Rattle.rules.specs.Step.{no_relations}
use Rattle.rules.specs.Universe.{Pair, Universe, IsOf, start_of}
use Rattle.rules.specs.Verdict.{HasPair, IsBuiltOn, IsVerdict}
use Rattle.rules.specs.Version.{version_cmp}
use Rattle.rules.specs.declared.goal.Goal.{Goal}
use Rattle.rules.specs.declared.goal.Goal.TheVariants as goal
use Rattle.rules.specs.declared.op.Op.TheVariants.{LaterOrEqual}
use Rattle.rules.specs.declared.status.State.{State}
use Rattle.rules.specs.declared.status.State.TheVariants.{ConfigFiles, Unpacked, TriggersAwaited, TriggersPending, Installed}
use Rattle.rules.specs.declared.status.Want.TheVariants.{Deinstall}
use Rattle.rules.specs.declared.step.Reason.{Reason}
use Rattle.rules.specs.declared.step.Reason.TheVariants as reason
use Rattle.rules.specs.declared.step.Rule.TheVariants as rule
use Rattle.rules.specs.declared.step.Step.{Step}
use Rattle.rules.specs.declared.step.Step.TheVariants as step
use Rattle.rules.specs.declared.step.Verdict.TheVariants as verdict
use Rattle.rules.proofs.Decided.{dec_Decides, dec_IsTrue, dec_IsFalse, dec_and, dec_and3, dec_or, dec_not, dec_implies, dec_like, dec_All, dec_Any, dec_text, dec_Equal, dec_Contains, all_or_some}
use Rattle.rules.proofs.DecidedPackages.{dec_MeetsRestriction, dec_Meets, dec_MeetsAsProvided, dec_FitsByName, dec_FitsProvided, dec_FitsByProvides, dec_Matches, dec_MatchesSome, dec_ConflictsWith, dec_BreaksOther, dec_MeetsClause, dec_MeetsClauses, dec_SameVersion}
use Rattle.rules.proofs.DecidedSteps.{dec_HasRecord, dec_ForOthers, dec_SomeOther, dec_ForMembers, dec_FitsThenAndNow, dec_MatchOption, dec_FitsFromBefore, dec_SatisfiesAtom, dec_IsSatisfied, dec_HasPreDepends, dec_IsCompatible, dec_HasNoConflict, dec_BreaksNone, dec_OnListed, dec_IsNotHeld, dec_StandsAs, dec_AreConfigurable, dec_ArePreDependsInstalled, dec_AreDependsInstalled, dec_IsUnbroken, dec_AreUnbroken, dec_IsMetWithout, dec_NeedsNot, dec_IsNeededByNone, dec_IsNotNeeded}
use Rattle.rules.proofs.GroupLemmas.{dec_named, dec_MemberPasses, greatest_upto, greatest_part, dec_IsIndivisible}
use Rattle.rules.proofs.LegalLemmas.{dec_UnpackAsks, dec_ConfigureAsks, dec_RemoveAsks, dec_DeconfigureAsks, dec_PurgeAsks, dec_Asks, kept_or_first, allowed_or_failing}
use Rattle.rules.proofs.Rows.{says, so, allowed_so, fails_so, some_of, package_of, record_of, indexed, unindexed, universe_of}
use Rattle.rules.proofs.VerdictLemmas.{good_where_nothing_is_against}
use mathlib.Core.Logic.{inl, inr}

abbrev a_1 : Pkg
a_1 = package_of (codes "a") (codes "1") no_relations

-- What an action writes: `a 1`, triggers-pending

-- the stanza of a, with this status, and with these fields behind its Version
abbrev field : List ℕ → List ℕ → Field
field name value = record { name = name; value = value }

abbrev a_fields : List ℕ → List Field → List Field
a_fields status behind =
    field (codes "Package") (codes "a") ∷ field (codes "Status") status ∷ field (codes "Architecture") (codes "all")
    ∷ field (codes "Version") (codes "1") ∷ behind

abbrev a_touched : List ℕ → List Field → Stanza
a_touched status behind = record { fields = a_fields status behind; bytes = None }

-- the entry of a as it was read, whatever its bytes
abbrev a_pending : Option (List ℕ) → FileRecord
a_pending bytes = record {
  status = record_of TriggersPending (Some (codes "1")) a_1;
  stanza = record {
    fields = a_fields (codes "install ok triggers-pending") (field (codes "Triggers-Pending") (codes "ldconfig") ∷ []);
    bytes = bytes;
  };
}

-- configured, it is installed, and nothing says of triggers or of a config version
pub configured_row : (bytes : Option (List ℕ))
    → entries_after None (step.Configure (codes "a" ∷ [])) (a_pending bytes ∷ [])
    ≡ record {
      status = record_of Installed (Some (codes "1")) a_1;
      stanza = a_touched (codes "install ok installed") [];
    } ∷ []
configured_row bytes = refl

-- removed, its config files are left, and its version stands as the config version behind Version
pub removed_row : (bytes : Option (List ℕ)) → entries_after None (step.Remove (codes "a")) (a_pending bytes ∷ [])
    ≡ record {
      status = record (record_of ConfigFiles (Some (codes "1")) a_1) { want = Deinstall };
      stanza = a_touched (codes "deinstall ok config-files") (field (codes "Config-Version") (codes "1") ∷ []);
    } ∷ []
removed_row bytes = refl

-- What is allowed, and what is against an end

-- a alone, in this state; whatever was said of its config version
abbrev a_in : State → Option (List ℕ) → List Record
a_in state said = record_of state said a_1 ∷ []

-- one package alone is quiet
quiet_alone : (entry : Record) → IsQuiet (entry ∷ [])
unfolding IsQuiet HasNoConflictWith
quiet_alone entry = All-cons (λ r. All (HasNoConflictWith r) (entry ∷ [])) entry []
    (All-cons (HasNoConflictWith entry) entry [] (λ present other_present apart. absurd (apart refl))
    (All-nil (HasNoConflictWith entry)))
    (All-nil (λ r. All (HasNoConflictWith r) (entry ∷ [])))

-- whether no member of another name matches an atom, and whether a member is content
unfoldable dec_MatchedByNoOther : (members : List Pkg) (name : List ℕ) (atoms : List Atom)
    → Dec (MatchedByNoOther members name atoms)
unfolding MatchedByNoOther
dec_MatchedByNoOther members name atoms = dec_All (λ other. other.name ≢ name → ¬ MatchesSome other atoms)
    (λ other. dec_implies (dec_not (dec_text other.name name)) (dec_not (dec_MatchesSome other atoms))) members

unfoldable dec_HasItsRelations : (members : List Pkg) (member : Pkg) → Dec (HasItsRelations members member)
dec_HasItsRelations members member = dec_like
    (λ parts. record { pre_depends = parts.0; depends = parts.1.0; conflicts = parts.1.1.0; breaks = parts.1.1.1 })
    (λ content. (content.pre_depends, (content.depends, (content.conflicts, content.breaks))))
    (dec_and (dec_MeetsClauses members member.relations.pre_depends)
    (dec_and (dec_MeetsClauses members member.relations.depends)
    (dec_and (dec_MatchedByNoOther members member.name member.relations.conflicts)
    (dec_MatchedByNoOther members member.name member.relations.breaks))))

-- a with triggers left to be processed is unfinished, and a plan that does nothing is refused for it
abbrev a_alone : Option (List ℕ) → Universe
a_alone said = universe_of (a_in TriggersPending said) (unindexed a_1 ∷ []) []

pub pending_unfinished : (said : Option (List ℕ))
    → IsFirstAgainst (a_alone said) (a_in TriggersPending said) (reason.Unfinished (codes "a"))
pending_unfinished said = record { against = (0, a, lit< tt, refl, (refl, refl)); least = least }
  where
    a : Record
    a = record_of TriggersPending said a_1

    same : (name : List ℕ) (entry : Record) → (a ≡ entry) ⊎ Contains [] entry → entry.name ≡ name
        → reason_cmp (reason.Unfinished name) (reason.Unfinished (codes "a")) ≡ Less → ⊥
    same name entry (inl is_a) named is =
        absurd (let e : Equal ≡ Less = subst P (sym named ∙ ap (λ (r : Record). r.name) (sym is_a)) is in cc)
      where
        P : List ℕ → Type 0
        P n = reason_cmp (reason.Unfinished n) (reason.Unfinished (codes "a")) ≡ Less
    same name entry (inr none) named is = Contains-nil entry none

    least : (other : Reason) → IsAgainst (a_alone said) (a ∷ []) other
        → ¬ (reason_cmp other (reason.Unfinished (codes "a")) ≡ Less)
    least (reason.Unfinished name) against is = Any-elim (λ entry. (entry.name ≡ name) × IsUnfinished entry) (a ∷ []) ⊥
        (λ entry within both. same name entry (Contains-cons a [] entry within) both.0 is) against
    least (reason.Relation name) against is = absurd (let e : Greater ≡ Less = is in cc)
    least (reason.Essential name) against is = absurd (let e : Greater ≡ Less = is in cc)
    least (reason.Goal number) against is = absurd (let e : Greater ≡ Less = is in cc)

pub nothing_done_row : (said : Option (List ℕ))
    → IsVerdict (a_alone said) (a_in TriggersPending said) [] (verdict.End (reason.Unfinished (codes "a")))
nothing_done_row said = (
  quiet_alone (record_of TriggersPending said a_1),
  (a_in TriggersPending said, refl, pending_unfinished said),
)

-- it may be configured and removed, and not deconfigured
pub pending_rows : (said : Option (List ℕ))
    → Allowed (a_alone said) (a_in TriggersPending said) (step.Configure (codes "a" ∷ []))
    × Allowed (a_alone said) (a_in TriggersPending said) (step.Remove (codes "a"))
    × IsFirstFailing (a_alone said) (a_in TriggersPending said) (step.Deconfigure (codes "a")) rule.WrongState
unfolding version_cmp dec_Decides dec_IsTrue dec_IsFalse dec_and dec_and3 dec_or dec_not dec_implies dec_like dec_All dec_Any dec_text dec_Equal dec_Contains all_or_some dec_MeetsRestriction dec_Meets dec_MeetsAsProvided dec_FitsByName dec_FitsProvided dec_FitsByProvides dec_Matches dec_MatchesSome dec_ConflictsWith dec_BreaksOther dec_MeetsClause dec_MeetsClauses dec_SameVersion dec_HasRecord dec_ForOthers dec_SomeOther dec_ForMembers dec_FitsThenAndNow dec_MatchOption dec_FitsFromBefore dec_SatisfiesAtom dec_IsSatisfied dec_HasPreDepends dec_IsCompatible dec_HasNoConflict dec_BreaksNone dec_OnListed dec_IsNotHeld dec_StandsAs dec_AreConfigurable dec_ArePreDependsInstalled dec_AreDependsInstalled dec_IsUnbroken dec_AreUnbroken dec_IsMetWithout dec_NeedsNot dec_IsNeededByNone dec_IsNotNeeded dec_named dec_MemberPasses greatest_upto greatest_part dec_IsIndivisible dec_UnpackAsks dec_ConfigureAsks dec_RemoveAsks dec_DeconfigureAsks dec_PurgeAsks dec_Asks kept_or_first allowed_or_failing
pending_rows said = (
  allowed_so (a_alone said) (a_in TriggersPending said) (step.Configure (codes "a" ∷ [])) refl,
  allowed_so (a_alone said) (a_in TriggersPending said) (step.Remove (codes "a")) refl,
  fails_so (a_alone said) (a_in TriggersPending said) (step.Deconfigure (codes "a")) rule.WrongState refl,
)

-- A plan: `a 1` is triggers-awaited, `b 1; Pre-Depends: a (>= 1)` is in the index, and the request is to install b

abbrev b_1 : Pkg
b_1 = package_of (codes "b") (codes "1")
    (record no_relations { pre_depends = (some_of (codes "a") LaterOrEqual (codes "1") ∷ []) ∷ [] })

abbrev awaiting : Option (List ℕ) → Universe
awaiting said =
    universe_of (a_in TriggersAwaited said) (unindexed a_1 ∷ indexed b_1 ∷ []) (goal.Install (codes "b") None ∷ [])

abbrev unpack_b : Step
unpack_b = step.Unpack (codes "b") (codes "1")

abbrev configure_a : Step
configure_a = step.Configure (codes "a" ∷ [])

abbrev configure_b : Step
configure_b = step.Configure (codes "b" ∷ [])

-- the database with a in this state and with b in this one
abbrev a_and_b : State → Option (List ℕ) → State → Option (List ℕ) → List Record
a_and_b state said b_state b_version = record_of state said a_1 ∷ record_of b_state b_version b_1 ∷ []

abbrev both_installed : List Record
both_installed = a_and_b Installed (Some (codes "1")) Installed (Some (codes "1"))

-- each step is allowed: the version of a counts as configured, whatever its stanza says
awaited_steps : (said : Option (List ℕ))
    → Allowed (awaiting said) (a_in TriggersAwaited said) unpack_b
    × Allowed (awaiting said) (a_and_b TriggersAwaited said Unpacked None) configure_a
    × Allowed (awaiting said) (a_and_b Installed (Some (codes "1")) Unpacked None) configure_b
unfolding version_cmp dec_Decides dec_IsTrue dec_IsFalse dec_and dec_and3 dec_or dec_not dec_implies dec_like dec_All dec_Any dec_text dec_Equal dec_Contains all_or_some dec_MeetsRestriction dec_Meets dec_MeetsAsProvided dec_FitsByName dec_FitsProvided dec_FitsByProvides dec_Matches dec_MatchesSome dec_ConflictsWith dec_BreaksOther dec_MeetsClause dec_MeetsClauses dec_SameVersion dec_HasRecord dec_ForOthers dec_SomeOther dec_ForMembers dec_FitsThenAndNow dec_MatchOption dec_FitsFromBefore dec_SatisfiesAtom dec_IsSatisfied dec_HasPreDepends dec_IsCompatible dec_HasNoConflict dec_BreaksNone dec_OnListed dec_IsNotHeld dec_StandsAs dec_AreConfigurable dec_ArePreDependsInstalled dec_AreDependsInstalled dec_IsUnbroken dec_AreUnbroken dec_IsMetWithout dec_NeedsNot dec_IsNeededByNone dec_IsNotNeeded dec_named dec_MemberPasses greatest_upto greatest_part dec_IsIndivisible dec_UnpackAsks dec_ConfigureAsks dec_RemoveAsks dec_DeconfigureAsks dec_PurgeAsks dec_Asks kept_or_first allowed_or_failing
awaited_steps said = (
  allowed_so (awaiting said) (a_in TriggersAwaited said) unpack_b refl,
  allowed_so (awaiting said) (a_and_b TriggersAwaited said Unpacked None) configure_a refl,
  allowed_so (awaiting said) (a_and_b Installed (Some (codes "1")) Unpacked None) configure_b refl,
)

awaited_run : (said : Option (List ℕ))
    → Run (awaiting said) (a_in TriggersAwaited said) (unpack_b ∷ configure_a ∷ configure_b ∷ []) both_installed
unfolding version_cmp
awaited_run said = let steps = awaited_steps said in (steps.0, (steps.1, (steps.2, refl)))

-- the universe is built on the start
awaiting_built : (said : Option (List ℕ)) → IsBuiltOn (a_in TriggersAwaited said) (awaiting said)
unfolding version_cmp dec_Decides dec_IsTrue dec_IsFalse dec_and dec_and3 dec_or dec_not dec_implies dec_like dec_All dec_Any dec_text dec_Equal dec_Contains all_or_some dec_MeetsRestriction dec_Meets dec_MeetsAsProvided dec_FitsByName dec_FitsProvided dec_FitsByProvides dec_Matches dec_MatchesSome dec_ConflictsWith dec_BreaksOther dec_MeetsClause dec_MeetsClauses dec_SameVersion dec_HasRecord dec_ForOthers dec_SomeOther dec_ForMembers dec_FitsThenAndNow dec_MatchOption dec_FitsFromBefore dec_SatisfiesAtom dec_IsSatisfied dec_HasPreDepends dec_IsCompatible dec_HasNoConflict dec_BreaksNone dec_OnListed dec_IsNotHeld dec_StandsAs dec_AreConfigurable dec_ArePreDependsInstalled dec_AreDependsInstalled dec_IsUnbroken dec_AreUnbroken dec_IsMetWithout dec_NeedsNot dec_IsNeededByNone dec_IsNotNeeded dec_named dec_MemberPasses greatest_upto greatest_part dec_IsIndivisible dec_UnpackAsks dec_ConfigureAsks dec_RemoveAsks dec_DeconfigureAsks dec_PurgeAsks dec_Asks kept_or_first allowed_or_failing HasPair HasDistinctNames
awaiting_built said = record {
  distinct = λ i j d before within. absurd (omega (arith, before, within));
  starts = refl;
  standing = All-cons (λ entry. Stands entry → HasPair (awaiting said) entry.name entry.version)
      (record_of TriggersAwaited said a_1) []
      (λ stands. so (dec_Any (λ pair. IsOf (codes "a") (codes "1") pair.pkg)
      (λ pair. dec_and (dec_text pair.pkg.name (codes "a")) (dec_SameVersion pair.pkg.version (codes "1")))
      (unindexed a_1 ∷ indexed b_1 ∷ [])) refl)
      (All-nil (λ entry. Stands entry → HasPair (awaiting said) entry.name entry.version));
  listed = All-cons IsListed (unindexed a_1) (indexed b_1 ∷ []) tt
      (All-cons IsListed (indexed b_1) [] (refl, refl) (All-nil IsListed));
}
  where
    IsListed : Pair → Type 0
    IsListed pair = MatchOption pair.listed ⊤ (λ listed. IsOf pair.pkg.name pair.pkg.version listed.pkg)

-- a package is content with a and b, where each of its clauses is met by them and nothing is matched
content : (member : Pkg) → says (dec_HasItsRelations (installed_of both_installed) member) ≡ true
    → HasItsRelations (installed_of both_installed) member
content member is = so (dec_HasItsRelations (installed_of both_installed) member) is

-- a and b are content with each other
awaited_content :
    All (λ entry. IsInstalled entry → HasItsRelations (installed_of both_installed) (pkg_of entry)) both_installed
unfolding version_cmp dec_Decides dec_IsTrue dec_IsFalse dec_and dec_and3 dec_or dec_not dec_implies dec_like dec_All dec_Any dec_text dec_Equal dec_Contains all_or_some dec_MeetsRestriction dec_Meets dec_MeetsAsProvided dec_FitsByName dec_FitsProvided dec_FitsByProvides dec_Matches dec_MatchesSome dec_ConflictsWith dec_BreaksOther dec_MeetsClause dec_MeetsClauses dec_SameVersion dec_HasRecord dec_ForOthers dec_SomeOther dec_ForMembers dec_FitsThenAndNow dec_MatchOption dec_FitsFromBefore dec_SatisfiesAtom dec_IsSatisfied dec_HasPreDepends dec_IsCompatible dec_HasNoConflict dec_BreaksNone dec_OnListed dec_IsNotHeld dec_StandsAs dec_AreConfigurable dec_ArePreDependsInstalled dec_AreDependsInstalled dec_IsUnbroken dec_AreUnbroken dec_IsMetWithout dec_NeedsNot dec_IsNeededByNone dec_IsNotNeeded dec_named dec_MemberPasses greatest_upto greatest_part dec_IsIndivisible dec_UnpackAsks dec_ConfigureAsks dec_RemoveAsks dec_DeconfigureAsks dec_PurgeAsks dec_Asks kept_or_first allowed_or_failing MatchedByNoOther dec_MatchedByNoOther dec_HasItsRelations
awaited_content = All-cons IsIn
    (record_of Installed (Some (codes "1")) a_1) (record_of Installed (Some (codes "1")) b_1 ∷ [])
    (λ installed. content a_1 refl)
    (All-cons IsIn (record_of Installed (Some (codes "1")) b_1) [] (λ installed. content b_1 refl) (All-nil IsIn))
  where
    IsIn : Record → Type 0
    IsIn entry = IsInstalled entry → HasItsRelations (installed_of both_installed) (pkg_of entry)

-- nothing is against the end
awaited_end : (said : Option (List ℕ)) → HasNothingAgainst (awaiting said) both_installed
unfolding version_cmp dec_Decides dec_IsTrue dec_IsFalse dec_and dec_and3 dec_or dec_not dec_implies dec_like dec_All dec_Any dec_text dec_Equal dec_Contains all_or_some dec_MeetsRestriction dec_Meets dec_MeetsAsProvided dec_FitsByName dec_FitsProvided dec_FitsByProvides dec_Matches dec_MatchesSome dec_ConflictsWith dec_BreaksOther dec_MeetsClause dec_MeetsClauses dec_SameVersion dec_HasRecord dec_ForOthers dec_SomeOther dec_ForMembers dec_FitsThenAndNow dec_MatchOption dec_FitsFromBefore dec_SatisfiesAtom dec_IsSatisfied dec_HasPreDepends dec_IsCompatible dec_HasNoConflict dec_BreaksNone dec_OnListed dec_IsNotHeld dec_StandsAs dec_AreConfigurable dec_ArePreDependsInstalled dec_AreDependsInstalled dec_IsUnbroken dec_AreUnbroken dec_IsMetWithout dec_NeedsNot dec_IsNeededByNone dec_IsNotNeeded dec_named dec_MemberPasses greatest_upto greatest_part dec_IsIndivisible dec_UnpackAsks dec_ConfigureAsks dec_RemoveAsks dec_DeconfigureAsks dec_PurgeAsks dec_Asks kept_or_first allowed_or_failing KeepsEssential dec_MatchedByNoOther dec_HasItsRelations
awaited_end said = record {
  finished = so (dec_All (λ entry. ¬ IsUnfinished entry) (λ entry. dec_not (dec_IsTrue (is_unfinished entry)))
      both_installed) refl;
  content = awaited_content;
  essential = All-cons (KeepsEssential (installed_of both_installed)) (start_of (record_of TriggersAwaited said a_1)) []
      (λ essential. absurd (let e : false ≡ true = essential in cc))
      (All-nil (KeepsEssential (installed_of both_installed)));
  goals = All-cons IsMet (goal.Install (codes "b") None) [] ((1, b_1, lit< tt, refl, (refl, tt)), tt) (All-nil IsMet);
}
  where
    IsMet : Goal → Type 0
    IsMet asked = Fulfils (awaiting said) (installed_of both_installed) asked × IsPurged both_installed asked

-- the plan that configures a before b is good
pub awaited_plan : (said : Option (List ℕ))
    → IsGoodPlan (awaiting said) (a_in TriggersAwaited said) (unpack_b ∷ configure_a ∷ configure_b ∷ [])
awaited_plan said = record {
  quiet = quiet_alone (record_of TriggersAwaited said a_1);
  finish = both_installed;
  run = awaited_run said;
  good = (good_where_nothing_is_against (awaiting said) (a_in TriggersAwaited said) both_installed
      (unpack_b ∷ configure_a ∷ configure_b ∷ []) (awaiting_built said) (awaited_run said)).1
      (awaited_end said);
}

-- but a isn't deconfigured
pub awaited_row : (said : Option (List ℕ))
    → IsFirstFailing (awaiting said) (a_in TriggersAwaited said) (step.Deconfigure (codes "a")) rule.WrongState
unfolding version_cmp dec_Decides dec_IsTrue dec_IsFalse dec_and dec_and3 dec_or dec_not dec_implies dec_like dec_All dec_Any dec_text dec_Equal dec_Contains all_or_some dec_MeetsRestriction dec_Meets dec_MeetsAsProvided dec_FitsByName dec_FitsProvided dec_FitsByProvides dec_Matches dec_MatchesSome dec_ConflictsWith dec_BreaksOther dec_MeetsClause dec_MeetsClauses dec_SameVersion dec_HasRecord dec_ForOthers dec_SomeOther dec_ForMembers dec_FitsThenAndNow dec_MatchOption dec_FitsFromBefore dec_SatisfiesAtom dec_IsSatisfied dec_HasPreDepends dec_IsCompatible dec_HasNoConflict dec_BreaksNone dec_OnListed dec_IsNotHeld dec_StandsAs dec_AreConfigurable dec_ArePreDependsInstalled dec_AreDependsInstalled dec_IsUnbroken dec_AreUnbroken dec_IsMetWithout dec_NeedsNot dec_IsNeededByNone dec_IsNotNeeded dec_named dec_MemberPasses greatest_upto greatest_part dec_IsIndivisible dec_UnpackAsks dec_ConfigureAsks dec_RemoveAsks dec_DeconfigureAsks dec_PurgeAsks dec_Asks kept_or_first allowed_or_failing
awaited_row said =
    fails_so (awaiting said) (a_in TriggersAwaited said) (step.Deconfigure (codes "a")) rule.WrongState refl
