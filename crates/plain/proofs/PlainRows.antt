-- Which small changes are plain, and in which order they are made: a ring of two that is removed, a ring of two that
-- is installed, and changes that aren't plain.
use Rattle.std.proofs.Common.{List, [], ◌∷◌, Some, refl}
use Rattle.std.specs.Prelude.{codes}
use Rattle.rules.specs.Database.{Record}
use Rattle.rules.specs.Package.{Pkg}
use Rattle.rules.specs.Step.{no_relations}
use Rattle.rules.specs.Universe.{Universe}
use Rattle.rules.specs.Version.{version_cmp}
use Rattle.rules.specs.declared.goal.Goal.TheVariants as goal
use Rattle.rules.specs.declared.op.Op.TheVariants.{StrictlyEarlier}
use Rattle.rules.specs.declared.status.State.TheVariants.{Installed}
use Rattle.rules.specs.declared.status.Want.TheVariants.{Hold}
use Rattle.rules.specs.declared.step.Step.TheVariants as step
use Rattle.rules.proofs.Decided.{dec_Decides, dec_IsTrue, dec_IsFalse, dec_and, dec_and3, dec_or, dec_not, dec_implies, dec_like, dec_All, dec_Any, dec_text, dec_Equal, dec_Contains, all_or_some}
use Rattle.rules.proofs.DecidedPackages.{dec_MeetsRestriction, dec_Meets, dec_MeetsAsProvided, dec_FitsByName, dec_FitsProvided, dec_FitsByProvides, dec_Matches, dec_MatchesSome, dec_ConflictsWith, dec_BreaksOther, dec_MeetsClause, dec_MeetsClauses, dec_SameVersion}
use Rattle.rules.proofs.DecidedSteps.{dec_HasRecord, dec_ForOthers, dec_SomeOther, dec_ForMembers, dec_FitsThenAndNow, dec_MatchOption, dec_FitsFromBefore, dec_SatisfiesAtom, dec_IsSatisfied, dec_HasPreDepends, dec_IsCompatible, dec_HasNoConflict, dec_BreaksNone, dec_OnListed, dec_IsNotHeld, dec_StandsAs, dec_AreConfigurable, dec_ArePreDependsInstalled, dec_AreDependsInstalled, dec_IsUnbroken, dec_AreUnbroken, dec_IsMetWithout, dec_NeedsNot, dec_IsNeededByNone, dec_IsNotNeeded}
use Rattle.rules.proofs.GroupLemmas.{dec_named, dec_MemberPasses, greatest_upto, greatest_part, dec_IsIndivisible}
use Rattle.rules.proofs.LegalLemmas.{dec_UnpackAsks, dec_ConfigureAsks, dec_RemoveAsks, dec_DeconfigureAsks, dec_PurgeAsks, dec_Asks, kept_or_first, allowed_or_failing}
use Rattle.rules.proofs.Rows.{so, not_so, any_of, some_of, package_of, record_of, indexed, unindexed, universe_of}
use Rattle.plain.specs.Change.{IsPlain}
use Rattle.plain.specs.Order.{AreRemovals, IsNextRemoval}
use Rattle.plain.proofs.PlainDecided.{dec_Stays, dec_IsMetByStaying, dec_IsReady, dec_HaveNoClash, dec_purges, dec_IsPurgeGoal, dec_unpacked_unheld, dec_each_name, dec_present, dec_IsPlain, dec_Allowed, dec_Less, dec_IsToRemove, dec_MayGo, dec_IsStillInstalled, dec_IsLeastName, dec_none, dec_IsNextRemoval, dec_AreRemovals}
use Rattle.plain.proofs.UnderwayLemmas.{dec_HasMember}

-- `a 1; Depends: b` and `b 1; Depends: a`
abbrev pub a_1 : Pkg
a_1 = package_of (codes "a") (codes "1") (record no_relations { depends = (any_of (codes "b") ∷ []) ∷ [] })

abbrev pub b_1 : Pkg
b_1 = package_of (codes "b") (codes "1") (record no_relations { depends = (any_of (codes "a") ∷ []) ∷ [] })

-- both are installed, and `remove b` leaves neither
abbrev ring : List Record
ring = record_of Installed (Some (codes "1")) a_1 ∷ record_of Installed (Some (codes "1")) b_1 ∷ []

abbrev ring_universe : Universe
ring_universe = universe_of ring (unindexed a_1 ∷ unindexed b_1 ∷ []) (goal.Remove (codes "b") ∷ [])

-- a ring of two is removed by a plain change: first one is deconfigured, and then the other may go
pub ring_rows :
    IsPlain ring_universe ring []
    × AreRemovals ring_universe [] ring
    (step.Deconfigure (codes "a") ∷ step.Remove (codes "b") ∷ step.Remove (codes "a") ∷ [])
    × (¬ IsNextRemoval ring_universe [] ring (step.Deconfigure (codes "b")))
    × (¬ IsNextRemoval ring_universe [] ring (step.Remove (codes "b")))
unfolding version_cmp dec_Decides dec_IsTrue dec_IsFalse dec_and dec_and3 dec_or dec_not dec_implies dec_like dec_All dec_Any dec_text dec_Equal dec_Contains all_or_some dec_MeetsRestriction dec_Meets dec_MeetsAsProvided dec_FitsByName dec_FitsProvided dec_FitsByProvides dec_Matches dec_MatchesSome dec_ConflictsWith dec_BreaksOther dec_MeetsClause dec_MeetsClauses dec_SameVersion dec_HasRecord dec_ForOthers dec_SomeOther dec_ForMembers dec_FitsThenAndNow dec_MatchOption dec_FitsFromBefore dec_SatisfiesAtom dec_IsSatisfied dec_HasPreDepends dec_IsCompatible dec_HasNoConflict dec_BreaksNone dec_OnListed dec_IsNotHeld dec_StandsAs dec_AreConfigurable dec_ArePreDependsInstalled dec_AreDependsInstalled dec_IsUnbroken dec_AreUnbroken dec_IsMetWithout dec_NeedsNot dec_IsNeededByNone dec_IsNotNeeded dec_named dec_MemberPasses greatest_upto greatest_part dec_IsIndivisible dec_UnpackAsks dec_ConfigureAsks dec_RemoveAsks dec_DeconfigureAsks dec_PurgeAsks dec_Asks kept_or_first allowed_or_failing dec_HasMember dec_Stays dec_IsMetByStaying dec_IsReady dec_HaveNoClash dec_purges dec_IsPurgeGoal dec_unpacked_unheld dec_each_name dec_present dec_IsPlain dec_Allowed dec_Less dec_IsToRemove dec_MayGo dec_IsStillInstalled dec_IsLeastName dec_none dec_IsNextRemoval dec_AreRemovals
ring_rows = (
  so (dec_IsPlain ring_universe ring []) refl,
  so (dec_AreRemovals ring_universe [] ring (step.Deconfigure (codes "a") ∷ step.Remove (codes "b") ∷ step.Remove (codes "a") ∷ [])) refl,
  not_so (dec_IsNextRemoval ring_universe [] ring (step.Deconfigure (codes "b"))) refl,
  not_so (dec_IsNextRemoval ring_universe [] ring (step.Remove (codes "b"))) refl,
)

-- `p 1` and `q 1`, installed, and `p 2; Breaks: q (<< 2)`, `q 2` and `r 1; Pre-Depends: q` in the index
abbrev p_1 : Pkg
p_1 = package_of (codes "p") (codes "1") no_relations

abbrev p_2 : Pkg
p_2 = package_of (codes "p") (codes "2") (record no_relations { breaks = some_of (codes "q") StrictlyEarlier (codes "2") ∷ [] })

abbrev q_1 : Pkg
q_1 = package_of (codes "q") (codes "1") no_relations

abbrev q_2 : Pkg
q_2 = package_of (codes "q") (codes "2") no_relations

abbrev r_1 : Pkg
r_1 = package_of (codes "r") (codes "1") (record no_relations { pre_depends = (any_of (codes "q") ∷ []) ∷ [] })

abbrev p_and_q : List Record
p_and_q = record_of Installed (Some (codes "1")) p_1 ∷ record_of Installed (Some (codes "1")) q_1 ∷ []

abbrev p_q_universe : Universe
p_q_universe = universe_of p_and_q (unindexed p_1 ∷ indexed p_2 ∷ unindexed q_1 ∷ indexed q_2 ∷ indexed r_1 ∷ []) []

-- the same with p held
abbrev p_held : List Record
p_held = record (record_of Installed (Some (codes "1")) p_1) { want = Hold } ∷ record_of Installed (Some (codes "1")) q_1 ∷ []

-- a new version that breaks an old one makes the change not plain, though at the end nothing is broken; a Pre-Depends is
-- met by what stays, and not by what is unpacked too; and a held name isn't touched
pub plain_rows :
    (¬ IsPlain p_q_universe p_and_q (p_2 ∷ q_2 ∷ []))
    × IsPlain p_q_universe p_and_q (p_1 ∷ q_2 ∷ [])
    × IsPlain p_q_universe p_and_q (p_1 ∷ q_1 ∷ r_1 ∷ [])
    × (¬ IsPlain p_q_universe p_and_q (p_1 ∷ q_2 ∷ r_1 ∷ []))
    × IsPlain p_q_universe p_and_q (q_1 ∷ [])
    × (¬ IsPlain p_q_universe p_held (q_1 ∷ []))
unfolding version_cmp dec_Decides dec_IsTrue dec_IsFalse dec_and dec_and3 dec_or dec_not dec_implies dec_like dec_All dec_Any dec_text dec_Equal dec_Contains all_or_some dec_MeetsRestriction dec_Meets dec_MeetsAsProvided dec_FitsByName dec_FitsProvided dec_FitsByProvides dec_Matches dec_MatchesSome dec_ConflictsWith dec_BreaksOther dec_MeetsClause dec_MeetsClauses dec_SameVersion dec_HasRecord dec_ForOthers dec_SomeOther dec_ForMembers dec_FitsThenAndNow dec_MatchOption dec_FitsFromBefore dec_SatisfiesAtom dec_IsSatisfied dec_HasPreDepends dec_IsCompatible dec_HasNoConflict dec_BreaksNone dec_OnListed dec_IsNotHeld dec_StandsAs dec_AreConfigurable dec_ArePreDependsInstalled dec_AreDependsInstalled dec_IsUnbroken dec_AreUnbroken dec_IsMetWithout dec_NeedsNot dec_IsNeededByNone dec_IsNotNeeded dec_named dec_MemberPasses greatest_upto greatest_part dec_IsIndivisible dec_UnpackAsks dec_ConfigureAsks dec_RemoveAsks dec_DeconfigureAsks dec_PurgeAsks dec_Asks kept_or_first allowed_or_failing dec_HasMember dec_Stays dec_IsMetByStaying dec_IsReady dec_HaveNoClash dec_purges dec_IsPurgeGoal dec_unpacked_unheld dec_each_name dec_present dec_IsPlain dec_Allowed dec_Less dec_IsToRemove dec_MayGo dec_IsStillInstalled dec_IsLeastName dec_none dec_IsNextRemoval dec_AreRemovals
plain_rows = (
  not_so (dec_IsPlain p_q_universe p_and_q (p_2 ∷ q_2 ∷ [])) refl,
  so (dec_IsPlain p_q_universe p_and_q (p_1 ∷ q_2 ∷ [])) refl,
  so (dec_IsPlain p_q_universe p_and_q (p_1 ∷ q_1 ∷ r_1 ∷ [])) refl,
  not_so (dec_IsPlain p_q_universe p_and_q (p_1 ∷ q_2 ∷ r_1 ∷ [])) refl,
  so (dec_IsPlain p_q_universe p_and_q (q_1 ∷ [])) refl,
  not_so (dec_IsPlain p_q_universe p_held (q_1 ∷ [])) refl,
)
