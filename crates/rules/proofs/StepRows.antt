-- Which steps are allowed in small databases, and which rule the others fail (Policy 7.2 to 7.4).
use Rattle.std.proofs.Common.{◌≡◌, ℕ, List, [], ◌∷◌, ◌⊎◌, Option, Some, None, refl, sym, subst, lit<}
use Rattle.std.specs.Prelude.{codes}
use Rattle.std.specs.List.{Contains}
use Rattle.rules.specs.Configure.{GroupPasses, IsIndivisible, IsGreatestPart, others_of}
use Rattle.rules.specs.Database.{Record}
use Rattle.rules.specs.Legal.{Allowed, IsFirstFailing}
use Rattle.rules.specs.Package.{Pkg}
use Rattle.rules.specs.Step.{no_relations}
use Rattle.rules.specs.Universe.{Universe}
use Rattle.rules.specs.Version.{version_cmp}
use Rattle.rules.specs.declared.op.Op.TheVariants.{LaterOrEqual, StrictlyEarlier}
use Rattle.rules.specs.declared.status.State.{State}
use Rattle.rules.specs.declared.status.State.TheVariants.{Unpacked, HalfConfigured, Installed}
use Rattle.rules.specs.declared.step.Rule.TheVariants as rule
use Rattle.rules.specs.declared.step.Step.{Step}
use Rattle.rules.specs.declared.step.Step.TheVariants as step
use Rattle.rules.proofs.Decided.{dec_Decides, dec_IsTrue, dec_IsFalse, dec_and, dec_and3, dec_or, dec_not, dec_implies, dec_like, dec_All, dec_Any, dec_text, dec_Equal, dec_Contains, all_or_some}
use Rattle.rules.proofs.DecidedPackages.{dec_MeetsRestriction, dec_Meets, dec_MeetsAsProvided, dec_FitsByName, dec_FitsProvided, dec_FitsByProvides, dec_Matches, dec_MatchesSome, dec_ConflictsWith, dec_BreaksOther, dec_MeetsClause, dec_MeetsClauses, dec_SameVersion}
use Rattle.rules.proofs.DecidedSteps.{dec_HasRecord, dec_ForOthers, dec_SomeOther, dec_ForMembers, dec_FitsThenAndNow, dec_MatchOption, dec_FitsFromBefore, dec_SatisfiesAtom, dec_IsSatisfied, dec_HasPreDepends, dec_IsCompatible, dec_HasNoConflict, dec_BreaksNone, dec_OnListed, dec_IsNotHeld, dec_StandsAs, dec_AreConfigurable, dec_ArePreDependsInstalled, dec_AreDependsInstalled, dec_IsUnbroken, dec_AreUnbroken, dec_IsMetWithout, dec_NeedsNot, dec_IsNeededByNone, dec_IsNotNeeded}
use Rattle.rules.proofs.GroupLemmas.{dec_named, dec_MemberPasses, greatest_upto, greatest_part, dec_IsIndivisible}
use Rattle.rules.proofs.LegalLemmas.{dec_UnpackAsks, dec_ConfigureAsks, dec_RemoveAsks, dec_DeconfigureAsks, dec_PurgeAsks, dec_Asks, kept_or_first, allowed_or_failing}
use Rattle.rules.proofs.GroupLemmas.{MemberPasses, empty_from_none, fails_in_part, indivisible_from_others}
use Rattle.rules.specs.ElementLaws.{Contains-cons, Contains-nil}
use Rattle.std.proofs.lemmas.List.Elements.{All-cons, All-nil, All-contains}
use mathlib.Core.Logic.{inl, inr}
use Rattle.rules.proofs.Rows.{so, not_so, allowed_so, fails_so, any_of, some_of, package_of, record_of, indexed, unindexed, universe_of}

-- `lib 2`, unpacked, with this config version, and `app 1; Pre-Depends: lib (>= 1)` in the index
abbrev lib_2 : Pkg
lib_2 = package_of (codes "lib") (codes "2") no_relations

abbrev app_1 : Pkg
app_1 = package_of (codes "app") (codes "1") (record no_relations { pre_depends = (some_of (codes "lib") LaterOrEqual (codes "1") ∷ []) ∷ [] })

abbrev lib_unpacked : Option (List ℕ) → List Record
lib_unpacked config_version = record_of Unpacked config_version lib_2 ∷ []

abbrev app_universe : Option (List ℕ) → Universe
app_universe config_version = universe_of (lib_unpacked config_version) (indexed app_1 ∷ unindexed lib_2 ∷ []) []

-- unpacking app, by the config version of lib
abbrev unpack_app : Step
unpack_app = step.Unpack (codes "app") (codes "1")

-- lib satisfies the Pre-Depends where it was configured in a version that fits
pub pre_depends_rows :
    Allowed (app_universe (Some (codes "1.5"))) (lib_unpacked (Some (codes "1.5"))) unpack_app
    × IsFirstFailing (app_universe (Some (codes "0.9"))) (lib_unpacked (Some (codes "0.9"))) unpack_app rule.PreDepends
    × IsFirstFailing (app_universe None) (lib_unpacked None) unpack_app rule.PreDepends
unfolding version_cmp dec_Decides dec_IsTrue dec_IsFalse dec_and dec_and3 dec_or dec_not dec_implies dec_like dec_All dec_Any dec_text dec_Equal dec_Contains all_or_some dec_MeetsRestriction dec_Meets dec_MeetsAsProvided dec_FitsByName dec_FitsProvided dec_FitsByProvides dec_Matches dec_MatchesSome dec_ConflictsWith dec_BreaksOther dec_MeetsClause dec_MeetsClauses dec_SameVersion dec_HasRecord dec_ForOthers dec_SomeOther dec_ForMembers dec_FitsThenAndNow dec_MatchOption dec_FitsFromBefore dec_SatisfiesAtom dec_IsSatisfied dec_HasPreDepends dec_IsCompatible dec_HasNoConflict dec_BreaksNone dec_OnListed dec_IsNotHeld dec_StandsAs dec_AreConfigurable dec_ArePreDependsInstalled dec_AreDependsInstalled dec_IsUnbroken dec_AreUnbroken dec_IsMetWithout dec_NeedsNot dec_IsNeededByNone dec_IsNotNeeded dec_named dec_MemberPasses greatest_upto greatest_part dec_IsIndivisible dec_UnpackAsks dec_ConfigureAsks dec_RemoveAsks dec_DeconfigureAsks dec_PurgeAsks dec_Asks kept_or_first allowed_or_failing
pre_depends_rows = (
  allowed_so (app_universe (Some (codes "1.5"))) (lib_unpacked (Some (codes "1.5"))) unpack_app refl,
  fails_so (app_universe (Some (codes "0.9"))) (lib_unpacked (Some (codes "0.9"))) unpack_app rule.PreDepends refl,
  fails_so (app_universe None) (lib_unpacked None) unpack_app rule.PreDepends refl,
)

-- `a 1; Conflicts: b` and `b 1`, both in the index
abbrev a_against_b : Pkg
a_against_b = package_of (codes "a") (codes "1") (record no_relations { conflicts = any_of (codes "b") ∷ [] })

abbrev b_1 : Pkg
b_1 = package_of (codes "b") (codes "1") no_relations

abbrev against_universe : Universe
against_universe = universe_of [] (indexed a_against_b ∷ indexed b_1 ∷ []) []

-- of two packages of which one conflicts with the other, neither is unpacked beside the other
pub conflict_rows :
    IsFirstFailing against_universe (record_of Unpacked None a_against_b ∷ []) (step.Unpack (codes "b") (codes "1")) rule.Conflict
    × IsFirstFailing against_universe (record_of Unpacked None b_1 ∷ []) (step.Unpack (codes "a") (codes "1")) rule.Conflict
unfolding version_cmp dec_Decides dec_IsTrue dec_IsFalse dec_and dec_and3 dec_or dec_not dec_implies dec_like dec_All dec_Any dec_text dec_Equal dec_Contains all_or_some dec_MeetsRestriction dec_Meets dec_MeetsAsProvided dec_FitsByName dec_FitsProvided dec_FitsByProvides dec_Matches dec_MatchesSome dec_ConflictsWith dec_BreaksOther dec_MeetsClause dec_MeetsClauses dec_SameVersion dec_HasRecord dec_ForOthers dec_SomeOther dec_ForMembers dec_FitsThenAndNow dec_MatchOption dec_FitsFromBefore dec_SatisfiesAtom dec_IsSatisfied dec_HasPreDepends dec_IsCompatible dec_HasNoConflict dec_BreaksNone dec_OnListed dec_IsNotHeld dec_StandsAs dec_AreConfigurable dec_ArePreDependsInstalled dec_AreDependsInstalled dec_IsUnbroken dec_AreUnbroken dec_IsMetWithout dec_NeedsNot dec_IsNeededByNone dec_IsNotNeeded dec_named dec_MemberPasses greatest_upto greatest_part dec_IsIndivisible dec_UnpackAsks dec_ConfigureAsks dec_RemoveAsks dec_DeconfigureAsks dec_PurgeAsks dec_Asks kept_or_first allowed_or_failing
conflict_rows = (
  fails_so against_universe (record_of Unpacked None a_against_b ∷ []) (step.Unpack (codes "b") (codes "1")) rule.Conflict refl,
  fails_so against_universe (record_of Unpacked None b_1 ∷ []) (step.Unpack (codes "a") (codes "1")) rule.Conflict refl,
)

-- `p 1` and `q 1`, installed, and `p 2; Breaks: q (<< 2)` in the index
abbrev p_1 : Pkg
p_1 = package_of (codes "p") (codes "1") no_relations

abbrev p_2 : Pkg
p_2 = package_of (codes "p") (codes "2") (record no_relations { breaks = some_of (codes "q") StrictlyEarlier (codes "2") ∷ [] })

abbrev q_1 : Pkg
q_1 = package_of (codes "q") (codes "1") no_relations

abbrev p_and_q : State → List Record
p_and_q state = record_of Installed (Some (codes "1")) p_1 ∷ record_of state (Some (codes "1")) q_1 ∷ []

abbrev breaking_universe : Universe
breaking_universe = universe_of (p_and_q Installed) (unindexed p_1 ∷ indexed p_2 ∷ unindexed q_1 ∷ []) []

-- a package that breaks an installed one is unpacked once that is deconfigured
pub breaks_rows :
    IsFirstFailing breaking_universe (p_and_q Installed) (step.Unpack (codes "p") (codes "2")) rule.Breaks
    × Allowed breaking_universe (p_and_q Installed) (step.Deconfigure (codes "q"))
    × Allowed breaking_universe (p_and_q HalfConfigured) (step.Unpack (codes "p") (codes "2"))
unfolding version_cmp dec_Decides dec_IsTrue dec_IsFalse dec_and dec_and3 dec_or dec_not dec_implies dec_like dec_All dec_Any dec_text dec_Equal dec_Contains all_or_some dec_MeetsRestriction dec_Meets dec_MeetsAsProvided dec_FitsByName dec_FitsProvided dec_FitsByProvides dec_Matches dec_MatchesSome dec_ConflictsWith dec_BreaksOther dec_MeetsClause dec_MeetsClauses dec_SameVersion dec_HasRecord dec_ForOthers dec_SomeOther dec_ForMembers dec_FitsThenAndNow dec_MatchOption dec_FitsFromBefore dec_SatisfiesAtom dec_IsSatisfied dec_HasPreDepends dec_IsCompatible dec_HasNoConflict dec_BreaksNone dec_OnListed dec_IsNotHeld dec_StandsAs dec_AreConfigurable dec_ArePreDependsInstalled dec_AreDependsInstalled dec_IsUnbroken dec_AreUnbroken dec_IsMetWithout dec_NeedsNot dec_IsNeededByNone dec_IsNotNeeded dec_named dec_MemberPasses greatest_upto greatest_part dec_IsIndivisible dec_UnpackAsks dec_ConfigureAsks dec_RemoveAsks dec_DeconfigureAsks dec_PurgeAsks dec_Asks kept_or_first allowed_or_failing
breaks_rows = (
  fails_so breaking_universe (p_and_q Installed) (step.Unpack (codes "p") (codes "2")) rule.Breaks refl,
  allowed_so breaking_universe (p_and_q Installed) (step.Deconfigure (codes "q")) refl,
  allowed_so breaking_universe (p_and_q HalfConfigured) (step.Unpack (codes "p") (codes "2")) refl,
)

-- `a 1; Depends: b`, `b 1; Depends: a` and `c 1`
abbrev a_needs_b : Pkg
a_needs_b = package_of (codes "a") (codes "1") (record no_relations { depends = (any_of (codes "b") ∷ []) ∷ [] })

abbrev b_needs_a : Pkg
b_needs_a = package_of (codes "b") (codes "1") (record no_relations { depends = (any_of (codes "a") ∷ []) ∷ [] })

abbrev c_1 : Pkg
c_1 = package_of (codes "c") (codes "1") no_relations

abbrev ring_universe : Universe
ring_universe = universe_of [] (indexed a_needs_b ∷ indexed b_needs_a ∷ indexed c_1 ∷ []) []

abbrev ring_unpacked : List Record
ring_unpacked = record_of Unpacked None a_needs_b ∷ record_of Unpacked None b_needs_a ∷ record_of Unpacked None c_1 ∷ []

-- the names of the ring, and those with the third
abbrev a_b : List (List ℕ)
a_b = codes "a" ∷ codes "b" ∷ []

abbrev a_b_c : List (List ℕ)
a_b_c = codes "a" ∷ codes "b" ∷ codes "c" ∷ []

-- c passes by itself
c_passes : GroupPasses ring_unpacked (codes "c" ∷ [])
unfolding version_cmp dec_Decides dec_IsTrue dec_IsFalse dec_and dec_and3 dec_or dec_not dec_implies dec_like dec_All dec_Any dec_text dec_Equal dec_Contains all_or_some dec_MeetsRestriction dec_Meets dec_MeetsAsProvided dec_FitsByName dec_FitsProvided dec_FitsByProvides dec_Matches dec_MatchesSome dec_ConflictsWith dec_BreaksOther dec_MeetsClause dec_MeetsClauses dec_SameVersion dec_HasRecord dec_ForOthers dec_SomeOther dec_ForMembers dec_FitsThenAndNow dec_MatchOption dec_FitsFromBefore dec_SatisfiesAtom dec_IsSatisfied dec_HasPreDepends dec_IsCompatible dec_HasNoConflict dec_BreaksNone dec_OnListed dec_IsNotHeld dec_StandsAs dec_AreConfigurable dec_ArePreDependsInstalled dec_AreDependsInstalled dec_IsUnbroken dec_AreUnbroken dec_IsMetWithout dec_NeedsNot dec_IsNeededByNone dec_IsNotNeeded dec_named dec_MemberPasses greatest_upto greatest_part dec_IsIndivisible dec_UnpackAsks dec_ConfigureAsks dec_RemoveAsks dec_DeconfigureAsks dec_PurgeAsks dec_Asks kept_or_first allowed_or_failing
c_passes = record {
  configurable = so (dec_AreConfigurable ring_unpacked (codes "c" ∷ [])) refl;
  pre_depends = so (dec_ArePreDependsInstalled ring_unpacked (codes "c" ∷ [])) refl;
  depends = so (dec_AreDependsInstalled ring_unpacked (codes "c" ∷ [])) refl;
  unbroken = so (dec_AreUnbroken ring_unpacked (codes "c" ∷ [])) refl;
}

-- the group with the third can be divided
divisible : ¬ IsIndivisible ring_unpacked a_b_c
unfolding IsIndivisible dec_Decides dec_text dec_Contains dec_All dec_Any dec_like dec_or dec_and dec_not
divisible indivisible = indivisible (codes "c" ∷ []) (record {
  some = lit< tt;
  within = so (dec_All (Contains a_b_c) (dec_Contains a_b_c) (codes "c" ∷ [])) refl;
  proper = so (dec_Any (λ name. ¬ Contains (codes "c" ∷ []) name) (λ name. dec_not (dec_Contains (codes "c" ∷ []) name)) a_b_c) refl;
}) c_passes

-- two packages that need each other aren't configured together with a third one
pub group_rows : IsFirstFailing ring_universe ring_unpacked (step.Configure a_b_c) rule.Group
unfolding version_cmp IsFirstFailing dec_Decides dec_IsTrue dec_IsFalse dec_and dec_and3 dec_or dec_not dec_implies dec_like dec_All dec_Any dec_text dec_Equal dec_Contains all_or_some dec_MeetsRestriction dec_Meets dec_MeetsAsProvided dec_FitsByName dec_FitsProvided dec_FitsByProvides dec_Matches dec_MatchesSome dec_ConflictsWith dec_BreaksOther dec_MeetsClause dec_MeetsClauses dec_SameVersion dec_HasRecord dec_ForOthers dec_SomeOther dec_ForMembers dec_FitsThenAndNow dec_MatchOption dec_FitsFromBefore dec_SatisfiesAtom dec_IsSatisfied dec_HasPreDepends dec_IsCompatible dec_HasNoConflict dec_BreaksNone dec_OnListed dec_IsNotHeld dec_StandsAs dec_AreConfigurable dec_ArePreDependsInstalled dec_AreDependsInstalled dec_IsUnbroken dec_AreUnbroken dec_IsMetWithout dec_NeedsNot dec_IsNeededByNone dec_IsNotNeeded dec_named dec_MemberPasses greatest_upto greatest_part dec_IsIndivisible dec_UnpackAsks dec_ConfigureAsks dec_RemoveAsks dec_DeconfigureAsks dec_PurgeAsks dec_Asks kept_or_first allowed_or_failing
group_rows = inr (
  so (dec_AreConfigurable ring_unpacked a_b_c) refl,
  inr (
    so (dec_ArePreDependsInstalled ring_unpacked a_b_c) refl,
    inr (so (dec_AreDependsInstalled ring_unpacked a_b_c) refl, inr (so (dec_AreUnbroken ring_unpacked a_b_c) refl, inl (refl, divisible))),
  ),
)

-- nor one without the other
pub half_rows : IsFirstFailing ring_universe ring_unpacked (step.Configure (codes "a" ∷ [])) rule.Depends
    × Allowed ring_universe ring_unpacked (step.Configure (codes "c" ∷ []))
unfolding version_cmp dec_Decides dec_IsTrue dec_IsFalse dec_and dec_and3 dec_or dec_not dec_implies dec_like dec_All dec_Any dec_text dec_Equal dec_Contains all_or_some dec_MeetsRestriction dec_Meets dec_MeetsAsProvided dec_FitsByName dec_FitsProvided dec_FitsByProvides dec_Matches dec_MatchesSome dec_ConflictsWith dec_BreaksOther dec_MeetsClause dec_MeetsClauses dec_SameVersion dec_HasRecord dec_ForOthers dec_SomeOther dec_ForMembers dec_FitsThenAndNow dec_MatchOption dec_FitsFromBefore dec_SatisfiesAtom dec_IsSatisfied dec_HasPreDepends dec_IsCompatible dec_HasNoConflict dec_BreaksNone dec_OnListed dec_IsNotHeld dec_StandsAs dec_AreConfigurable dec_ArePreDependsInstalled dec_AreDependsInstalled dec_IsUnbroken dec_AreUnbroken dec_IsMetWithout dec_NeedsNot dec_IsNeededByNone dec_IsNotNeeded dec_named dec_MemberPasses greatest_upto greatest_part dec_IsIndivisible dec_UnpackAsks dec_ConfigureAsks dec_RemoveAsks dec_DeconfigureAsks dec_PurgeAsks dec_Asks kept_or_first allowed_or_failing
half_rows = (
  fails_so ring_universe ring_unpacked (step.Configure (codes "a" ∷ [])) rule.Depends refl,
  allowed_so ring_universe ring_unpacked (step.Configure (codes "c" ∷ [])) refl,
)

-- of one name that doesn't pass alone, no part passes but the empty one
alone : (db : List Record) (name : List ℕ) (part : List (List ℕ)) → ¬ MemberPasses db (name ∷ []) name
    → IsGreatestPart db (name ∷ []) part → part ≡ []
alone db name part fails greatest = empty_from_none part (λ other there. at other there
    (Contains-cons name [] other (All-contains (Contains (name ∷ [])) part other greatest.within there)))
  where
    at : (other : List ℕ) → Contains part other → (name ≡ other) ⊎ Contains [] other → ⊥
    at other there (inl same) = fails_in_part db (name ∷ []) part greatest.within greatest.passes name fails (subst (Contains part) (sym same) there)
    at other there (inr none) = Contains-nil other none

-- but they are together: neither passes alone
pub together_rows : IsIndivisible ring_unpacked a_b × GroupPasses ring_unpacked a_b
unfolding version_cmp dec_Decides dec_IsTrue dec_IsFalse dec_and dec_and3 dec_or dec_not dec_implies dec_like dec_All dec_Any dec_text dec_Equal dec_Contains all_or_some dec_MeetsRestriction dec_Meets dec_MeetsAsProvided dec_FitsByName dec_FitsProvided dec_FitsByProvides dec_Matches dec_MatchesSome dec_ConflictsWith dec_BreaksOther dec_MeetsClause dec_MeetsClauses dec_SameVersion dec_HasRecord dec_ForOthers dec_SomeOther dec_ForMembers dec_FitsThenAndNow dec_MatchOption dec_FitsFromBefore dec_SatisfiesAtom dec_IsSatisfied dec_HasPreDepends dec_IsCompatible dec_HasNoConflict dec_BreaksNone dec_OnListed dec_IsNotHeld dec_StandsAs dec_AreConfigurable dec_ArePreDependsInstalled dec_AreDependsInstalled dec_IsUnbroken dec_AreUnbroken dec_IsMetWithout dec_NeedsNot dec_IsNeededByNone dec_IsNotNeeded dec_named dec_MemberPasses greatest_upto greatest_part dec_IsIndivisible dec_UnpackAsks dec_ConfigureAsks dec_RemoveAsks dec_DeconfigureAsks dec_PurgeAsks dec_Asks kept_or_first allowed_or_failing
together_rows = (
  indivisible_from_others ring_unpacked a_b (All-cons empty (codes "a") (codes "b" ∷ [])
      (λ part. alone ring_unpacked (codes "b") part (not_so (dec_MemberPasses ring_unpacked (codes "b" ∷ []) (codes "b")) refl))
      (All-cons empty (codes "b") []
      (λ part. alone ring_unpacked (codes "a") part (not_so (dec_MemberPasses ring_unpacked (codes "a" ∷ []) (codes "a")) refl))
      (All-nil empty))),
  record {
    configurable = so (dec_AreConfigurable ring_unpacked a_b) refl;
    pre_depends = so (dec_ArePreDependsInstalled ring_unpacked a_b) refl;
    depends = so (dec_AreDependsInstalled ring_unpacked a_b) refl;
    unbroken = so (dec_AreUnbroken ring_unpacked a_b) refl;
  },
)
  where
    empty : List ℕ → Type 0
    empty name = (part : List (List ℕ)) → IsGreatestPart ring_unpacked (others_of name a_b) part → part ≡ []

-- the two of the ring, installed, the first in this state
abbrev ring_installed : State → List Record
ring_installed state = record_of state (Some (codes "1")) a_needs_b ∷ record_of Installed (Some (codes "1")) b_needs_a ∷ []

-- a package that an installed one needs isn't removed, but that one can be deconfigured first
pub needed_rows :
    IsFirstFailing ring_universe (ring_installed Installed) (step.Remove (codes "a")) rule.NeededBy
    × Allowed ring_universe (ring_installed Installed) (step.Deconfigure (codes "a"))
    × Allowed ring_universe (ring_installed HalfConfigured) (step.Remove (codes "b"))
    × Allowed ring_universe (record_of HalfConfigured (Some (codes "1")) a_needs_b ∷ []) (step.Remove (codes "a"))
unfolding version_cmp dec_Decides dec_IsTrue dec_IsFalse dec_and dec_and3 dec_or dec_not dec_implies dec_like dec_All dec_Any dec_text dec_Equal dec_Contains all_or_some dec_MeetsRestriction dec_Meets dec_MeetsAsProvided dec_FitsByName dec_FitsProvided dec_FitsByProvides dec_Matches dec_MatchesSome dec_ConflictsWith dec_BreaksOther dec_MeetsClause dec_MeetsClauses dec_SameVersion dec_HasRecord dec_ForOthers dec_SomeOther dec_ForMembers dec_FitsThenAndNow dec_MatchOption dec_FitsFromBefore dec_SatisfiesAtom dec_IsSatisfied dec_HasPreDepends dec_IsCompatible dec_HasNoConflict dec_BreaksNone dec_OnListed dec_IsNotHeld dec_StandsAs dec_AreConfigurable dec_ArePreDependsInstalled dec_AreDependsInstalled dec_IsUnbroken dec_AreUnbroken dec_IsMetWithout dec_NeedsNot dec_IsNeededByNone dec_IsNotNeeded dec_named dec_MemberPasses greatest_upto greatest_part dec_IsIndivisible dec_UnpackAsks dec_ConfigureAsks dec_RemoveAsks dec_DeconfigureAsks dec_PurgeAsks dec_Asks kept_or_first allowed_or_failing
needed_rows = (
  fails_so ring_universe (ring_installed Installed) (step.Remove (codes "a")) rule.NeededBy refl,
  allowed_so ring_universe (ring_installed Installed) (step.Deconfigure (codes "a")) refl,
  allowed_so ring_universe (ring_installed HalfConfigured) (step.Remove (codes "b")) refl,
  allowed_so ring_universe (record_of HalfConfigured (Some (codes "1")) a_needs_b ∷ []) (step.Remove (codes "a")) refl,
)
