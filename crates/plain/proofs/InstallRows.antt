-- Two packages that need each other are installed by a plain change: the fixed order unpacks both by name and
-- configures them as one group, since neither passes by itself.
use Rattle.std.proofs.Common.{◌≡◌, ◌≢◌, ℕ, zero, suc, List, [], ◌∷◌, Some, None, refl, sym, subst, arith}
use Rattle.std.specs.Prelude.{codes}
use Rattle.std.specs.List.{AllPairs, Contains}
use Rattle.std.specs.declared.cmp.Ordering.TheVariants.{Less}
use Rattle.std.proofs.lemmas.List.Elements.{All-contains, All-contains_itself}
use Rattle.rules.specs.Configure.{AreDependsInstalled, GroupPasses, IsGreatestPart}
use Rattle.rules.specs.Database.{Record}
use Rattle.rules.specs.ElementLaws.{All-intro, Any-contains, Contains-cons, Contains-head, Contains-nil, Contains-rest}
use Rattle.rules.specs.Name.{name_cmp}
use Rattle.rules.specs.Package.{Pkg}
use Rattle.rules.specs.Universe.{Universe, StandsAs}
use Rattle.rules.specs.Version.{version_cmp}
use Rattle.rules.specs.declared.goal.Goal.TheVariants as goal
use Rattle.rules.specs.declared.status.State.TheVariants.{Unpacked, Installed}
use Rattle.rules.specs.declared.step.Step.TheVariants as step
use Rattle.rules.proofs.Decided.{dec_Decides, dec_IsTrue, dec_IsFalse, dec_and, dec_and3, dec_or, dec_not, dec_implies, dec_like, dec_All, dec_Any, dec_text, dec_Equal, dec_Contains, all_or_some}
use Rattle.rules.proofs.DecidedPackages.{dec_MeetsRestriction, dec_Meets, dec_MeetsAsProvided, dec_FitsByName, dec_FitsProvided, dec_FitsByProvides, dec_Matches, dec_MatchesSome, dec_ConflictsWith, dec_BreaksOther, dec_MeetsClause, dec_MeetsClauses, dec_SameVersion}
use Rattle.rules.proofs.DecidedSteps.{dec_HasRecord, dec_ForOthers, dec_SomeOther, dec_ForMembers, dec_FitsThenAndNow, dec_MatchOption, dec_FitsFromBefore, dec_SatisfiesAtom, dec_IsSatisfied, dec_HasPreDepends, dec_IsCompatible, dec_HasNoConflict, dec_BreaksNone, dec_OnListed, dec_IsNotHeld, dec_StandsAs, dec_AreConfigurable, dec_ArePreDependsInstalled, dec_AreDependsInstalled, dec_IsUnbroken, dec_AreUnbroken, dec_IsMetWithout, dec_NeedsNot, dec_IsNeededByNone, dec_IsNotNeeded}
use Rattle.rules.proofs.GroupLemmas.{dec_named, dec_MemberPasses, greatest_upto, greatest_part, dec_IsIndivisible}
use Rattle.rules.proofs.LegalLemmas.{dec_UnpackAsks, dec_ConfigureAsks, dec_RemoveAsks, dec_DeconfigureAsks, dec_PurgeAsks, dec_Asks, kept_or_first, allowed_or_failing}
use Rattle.plain.proofs.PlainDecided.{dec_Stays, dec_IsMetByStaying, dec_IsReady, dec_HaveNoClash, dec_purges, dec_IsPurgeGoal, dec_unpacked_unheld, dec_each_name, dec_present, dec_IsPlain, dec_Allowed, dec_Less, dec_IsToRemove, dec_MayGo, dec_IsStillInstalled, dec_IsLeastName, dec_none, dec_IsNextRemoval, dec_AreRemovals}
use Rattle.plain.proofs.UnderwayLemmas.{dec_HasMember}
use Rattle.rules.proofs.GroupLemmas.{GroupPasses-from_each, none_of}
use Rattle.rules.proofs.Rows.{so, not_so, record_of, indexed, universe_of}
use Rattle.plain.specs.Change.{IsPlain, IsPurgeGoal, IsToRemove}
use Rattle.plain.specs.Order.{ArePurges, AreUnpacks, IsConfigurableGroup, IsInFixedOrder, IsLeastGroup}
use Rattle.plain.specs.Walk.{IsNextName, IsOnWalk}
use Rattle.plain.proofs.LeastGroupLemmas.{all_of_none, allowed_passes, names_unconfigured, same_names_pass, walk_begins, walk_ends, walk_keeps}
use Rattle.plain.proofs.PlainRows.{a_1, b_1}
use mathlib.Core.Logic.{inl, inr}
use Rattle.std.proofs.Common.{Bool, true, MatchOption}
use Rattle.std.specs.Prelude.{⊤}
use Rattle.std.specs.List.{All, Any}
use Rattle.std.proofs.lemmas.List.Elements.{All-cons, All-nil}
use Rattle.rules.specs.Database.{HasDistinctNames, Stands}
use Rattle.rules.specs.ElementLaws.{Any-intro}
use Rattle.rules.specs.Package.{Atom, MatchesSome, Meets}
use Rattle.rules.specs.Sound.{AgreesWith, Fulfils, FulfilsAll, HasItsRelations, HasOneVersionEach, IsAcceptable, IsAdmittedIn, IsFitting, IsSound, KeepsEssential, KeepsHold, MatchedByNoOther, selected}
use Rattle.rules.specs.Universe.{IsOf, Pair, pair_cmp}
use Rattle.rules.specs.Verdict.{HasPair}
use Rattle.rules.specs.VersionOrderLaws.{SameVersion-refl}
use Rattle.plain.specs.Change.{IsPlainChange}
use Rattle.plain.specs.Counted.{HasItsListed, HasItsPackage}
use Rattle.plain.specs.PhaseLaws.{EndsWell}
use Rattle.plain.proofs.OrderLemmas.{plain_change_is_ordered}

unfoldable dec_MatchedByNoOther : (chosen : List Pkg) (name : List ℕ) (atoms : List Atom) → Dec (MatchedByNoOther chosen name atoms)
unfolding MatchedByNoOther
dec_MatchedByNoOther chosen name atoms = dec_All (λ (other : Pkg). other.name ≢ name → ¬ MatchesSome other atoms)
    (λ other. dec_implies (dec_not (dec_text other.name name)) (dec_not (dec_MatchesSome other atoms))) chosen

abbrev members : List Pkg
members = a_1 ∷ b_1 ∷ []

-- both are in the index, nothing is there, and a is asked for
abbrev u : Universe
u = universe_of [] (indexed a_1 ∷ indexed b_1 ∷ []) (goal.Install (codes "a") None ∷ [])

pub is_plain : IsPlain u [] members
unfolding version_cmp dec_Decides dec_IsTrue dec_IsFalse dec_and dec_and3 dec_or dec_not dec_implies dec_like dec_All dec_Any dec_text dec_Equal dec_Contains all_or_some dec_MeetsRestriction dec_Meets dec_MeetsAsProvided dec_FitsByName dec_FitsProvided dec_FitsByProvides dec_Matches dec_MatchesSome dec_ConflictsWith dec_BreaksOther dec_MeetsClause dec_MeetsClauses dec_SameVersion dec_HasRecord dec_ForOthers dec_SomeOther dec_ForMembers dec_FitsThenAndNow dec_MatchOption dec_FitsFromBefore dec_SatisfiesAtom dec_IsSatisfied dec_HasPreDepends dec_IsCompatible dec_HasNoConflict dec_BreaksNone dec_OnListed dec_IsNotHeld dec_StandsAs dec_AreConfigurable dec_ArePreDependsInstalled dec_AreDependsInstalled dec_IsUnbroken dec_AreUnbroken dec_IsMetWithout dec_NeedsNot dec_IsNeededByNone dec_IsNotNeeded dec_named dec_MemberPasses greatest_upto greatest_part dec_IsIndivisible dec_UnpackAsks dec_ConfigureAsks dec_RemoveAsks dec_DeconfigureAsks dec_PurgeAsks dec_Asks kept_or_first allowed_or_failing dec_HasMember dec_Stays dec_IsMetByStaying dec_IsReady dec_HaveNoClash dec_purges dec_IsPurgeGoal dec_unpacked_unheld dec_each_name dec_present dec_IsPlain dec_Allowed dec_Less dec_IsToRemove dec_MayGo dec_IsStillInstalled dec_IsLeastName dec_none dec_IsNextRemoval dec_AreRemovals
is_plain = so (dec_IsPlain u [] members) refl

-- behind the unpacks, and behind the configure
abbrev unpacked : List Record
unpacked = record_of Unpacked None a_1 ∷ record_of Unpacked None b_1 ∷ []

abbrev a_b : List (List ℕ)
a_b = codes "a" ∷ codes "b" ∷ []

-- both pass together, and neither by itself
both_pass : GroupPasses unpacked a_b
unfolding version_cmp dec_Decides dec_IsTrue dec_IsFalse dec_and dec_and3 dec_or dec_not dec_implies dec_like dec_All dec_Any dec_text dec_Equal dec_Contains all_or_some dec_MeetsRestriction dec_Meets dec_MeetsAsProvided dec_FitsByName dec_FitsProvided dec_FitsByProvides dec_Matches dec_MatchesSome dec_ConflictsWith dec_BreaksOther dec_MeetsClause dec_MeetsClauses dec_SameVersion dec_HasRecord dec_ForOthers dec_SomeOther dec_ForMembers dec_FitsThenAndNow dec_MatchOption dec_FitsFromBefore dec_SatisfiesAtom dec_IsSatisfied dec_HasPreDepends dec_IsCompatible dec_HasNoConflict dec_BreaksNone dec_OnListed dec_IsNotHeld dec_StandsAs dec_AreConfigurable dec_ArePreDependsInstalled dec_AreDependsInstalled dec_IsUnbroken dec_AreUnbroken dec_IsMetWithout dec_NeedsNot dec_IsNeededByNone dec_IsNotNeeded dec_named dec_MemberPasses greatest_upto greatest_part dec_IsIndivisible dec_UnpackAsks dec_ConfigureAsks dec_RemoveAsks dec_DeconfigureAsks dec_PurgeAsks dec_Asks kept_or_first allowed_or_failing dec_HasMember dec_Stays dec_IsMetByStaying dec_IsReady dec_HaveNoClash dec_purges dec_IsPurgeGoal dec_unpacked_unheld dec_each_name dec_present dec_IsPlain dec_Allowed dec_Less dec_IsToRemove dec_MayGo dec_IsStillInstalled dec_IsLeastName dec_none dec_IsNextRemoval dec_AreRemovals
both_pass = record {
  configurable = so (dec_AreConfigurable unpacked a_b) refl;
  pre_depends = so (dec_ArePreDependsInstalled unpacked a_b) refl;
  depends = so (dec_AreDependsInstalled unpacked a_b) refl;
  unbroken = so (dec_AreUnbroken unpacked a_b) refl;
}

a_fails : ¬ AreDependsInstalled unpacked (codes "a" ∷ [])
unfolding version_cmp dec_Decides dec_IsTrue dec_IsFalse dec_and dec_and3 dec_or dec_not dec_implies dec_like dec_All dec_Any dec_text dec_Equal dec_Contains all_or_some dec_MeetsRestriction dec_Meets dec_MeetsAsProvided dec_FitsByName dec_FitsProvided dec_FitsByProvides dec_Matches dec_MatchesSome dec_ConflictsWith dec_BreaksOther dec_MeetsClause dec_MeetsClauses dec_SameVersion dec_HasRecord dec_ForOthers dec_SomeOther dec_ForMembers dec_FitsThenAndNow dec_MatchOption dec_FitsFromBefore dec_SatisfiesAtom dec_IsSatisfied dec_HasPreDepends dec_IsCompatible dec_HasNoConflict dec_BreaksNone dec_OnListed dec_IsNotHeld dec_StandsAs dec_AreConfigurable dec_ArePreDependsInstalled dec_AreDependsInstalled dec_IsUnbroken dec_AreUnbroken dec_IsMetWithout dec_NeedsNot dec_IsNeededByNone dec_IsNotNeeded dec_named dec_MemberPasses greatest_upto greatest_part dec_IsIndivisible dec_UnpackAsks dec_ConfigureAsks dec_RemoveAsks dec_DeconfigureAsks dec_PurgeAsks dec_Asks kept_or_first allowed_or_failing dec_HasMember dec_Stays dec_IsMetByStaying dec_IsReady dec_HaveNoClash dec_purges dec_IsPurgeGoal dec_unpacked_unheld dec_each_name dec_present dec_IsPlain dec_Allowed dec_Less dec_IsToRemove dec_MayGo dec_IsStillInstalled dec_IsLeastName dec_none dec_IsNextRemoval dec_AreRemovals
a_fails = not_so (dec_AreDependsInstalled unpacked (codes "a" ∷ [])) refl

b_fails : ¬ AreDependsInstalled unpacked (codes "b" ∷ [])
unfolding version_cmp dec_Decides dec_IsTrue dec_IsFalse dec_and dec_and3 dec_or dec_not dec_implies dec_like dec_All dec_Any dec_text dec_Equal dec_Contains all_or_some dec_MeetsRestriction dec_Meets dec_MeetsAsProvided dec_FitsByName dec_FitsProvided dec_FitsByProvides dec_Matches dec_MatchesSome dec_ConflictsWith dec_BreaksOther dec_MeetsClause dec_MeetsClauses dec_SameVersion dec_HasRecord dec_ForOthers dec_SomeOther dec_ForMembers dec_FitsThenAndNow dec_MatchOption dec_FitsFromBefore dec_SatisfiesAtom dec_IsSatisfied dec_HasPreDepends dec_IsCompatible dec_HasNoConflict dec_BreaksNone dec_OnListed dec_IsNotHeld dec_StandsAs dec_AreConfigurable dec_ArePreDependsInstalled dec_AreDependsInstalled dec_IsUnbroken dec_AreUnbroken dec_IsMetWithout dec_NeedsNot dec_IsNeededByNone dec_IsNotNeeded dec_named dec_MemberPasses greatest_upto greatest_part dec_IsIndivisible dec_UnpackAsks dec_ConfigureAsks dec_RemoveAsks dec_DeconfigureAsks dec_PurgeAsks dec_Asks kept_or_first allowed_or_failing dec_HasMember dec_Stays dec_IsMetByStaying dec_IsReady dec_HaveNoClash dec_purges dec_IsPurgeGoal dec_unpacked_unheld dec_each_name dec_present dec_IsPlain dec_Allowed dec_Less dec_IsToRemove dec_MayGo dec_IsStillInstalled dec_IsLeastName dec_none dec_IsNextRemoval dec_AreRemovals
b_fails = not_so (dec_AreDependsInstalled unpacked (codes "b" ∷ [])) refl

-- a isn't b
a_not_b : codes "a" ≢ codes "b"
unfolding dec_Decides dec_text
a_not_b = not_so (dec_text (codes "a") (codes "b")) refl

-- an element of a list of one
only : (one_ other : List ℕ) → Contains (one_ ∷ []) other → one_ ≡ other
only one_ other within = elim (Contains-cons one_ [] other within) [ inl same ↦ same | inr none ↦ absurd (Contains-nil other none) ]

-- where a name fails by itself, of it alone nothing passes
nothing_passes : (name : List ℕ) → ¬ AreDependsInstalled unpacked (name ∷ []) → IsGreatestPart unpacked (name ∷ []) []
nothing_passes name fails = record {
  within = all_of_none (Contains (name ∷ []));
  passes = GroupPasses-from_each unpacked [] (λ other none. absurd (Contains-nil other none));
  greatest = λ other inside passes. All-intro (Contains []) other (λ some_name within.
      let same : name ≡ some_name = only name some_name (All-contains (Contains (name ∷ [])) other some_name inside within) in
      absurd (fails (same_names_pass unpacked other (name ∷ [])
      (λ n there. All-contains (Contains (name ∷ [])) other n inside there)
      (λ n there. subst (Contains other) (only name n there) (subst (Contains other) (sym same) within)) passes).depends));
}

-- the walk keeps b, then a
begun : IsOnWalk unpacked [] a_b
begun = walk_begins unpacked a_b
    (record { within = All-contains_itself a_b; passes = both_pass; greatest = λ other within passes. within }) (omega arith)

b_next : IsNextName [] a_b (codes "b")
b_next = record {
  within = Contains-rest (codes "a") (codes "b" ∷ []) (codes "b") (Contains-head (codes "b") []);
  unkept = Contains-nil (codes "b");
  greatest = λ other within unkept differ. elim (Contains-cons (codes "a") (codes "b" ∷ []) other within) [
    | inl same ↦ subst (λ n. name_cmp n (codes "b") ≡ Less) same refl
    | inr last ↦ absurd (differ (sym (only (codes "b") other last)))
  ];
}

a_next : IsNextName (codes "b" ∷ []) a_b (codes "a")
a_next = record {
  within = Contains-head (codes "a") (codes "b" ∷ []);
  unkept = λ within. a_not_b (sym (only (codes "b") (codes "a") within));
  greatest = λ other within unkept differ. elim (Contains-cons (codes "a") (codes "b" ∷ []) other within) [
    | inl same ↦ absurd (differ (sym same))
    | inr last ↦ absurd (unkept last)
  ];
}

ended : IsOnWalk unpacked a_b a_b
ended = walk_keeps unpacked (codes "b" ∷ []) a_b (codes "a")
    (walk_keeps unpacked [] a_b (codes "b") begun b_next (nothing_passes (codes "a") a_fails)) a_next (nothing_passes (codes "b") b_fails)

pub least_group : IsLeastGroup u unpacked a_b
least_group = walk_ends u unpacked a_b a_b ended (All-contains_itself a_b)

-- behind the configure no group is left
abbrev configured : List Record
configured = record_of Installed (Some (codes "1")) a_1 ∷ record_of Installed (Some (codes "1")) b_1 ∷ []

none_left : (names : List (List ℕ)) → ¬ IsConfigurableGroup u configured names
none_left names group = none_of names group.some (names_unconfigured configured names (allowed_passes u configured names group.allowed))

unpacks_are : AreUnpacks [] members members
unfolding StandsAs
unpacks_are = record {
  by_name = by_name;
  each = λ pkg. ((λ within. (within, λ stands. Contains-nil stands.1 (Any-contains _ [] stands))), λ unpack. unpack.0);
}
  where
    by_name : AllPairs (λ (a b : Pkg). name_cmp a.name b.name ≡ Less) members
    by_name zero zero d before within = absurd (omega arith)
    by_name zero (suc zero) d before within = refl
    by_name zero (suc (suc j)) d before within = absurd (omega (arith, within))
    by_name (suc i) zero d before within = absurd (omega (arith, before))
    by_name (suc i) (suc zero) d before within = absurd (omega (arith, before))
    by_name (suc i) (suc (suc j)) d before within = absurd (omega (arith, within))

-- nothing is to be purged
purges_are : ArePurges u configured []
unfolding IsPurgeGoal
purges_are = record {
  by_name = λ i j d before within. absurd (omega arith);
  each = λ name. ((λ none. absurd (Contains-nil name none)), λ purge. absurd (not_asked name purge.0));
}
  where
    not_asked : (name : List ℕ) → ¬ Contains (goal.Install (codes "a") None ∷ []) (goal.Purge name)
    not_asked name within = elim (Contains-cons (goal.Install (codes "a") None) [] (goal.Purge name) within)
        [ inl same ↦ absurd (cc) | inr none ↦ Contains-nil (goal.Purge name) none ]

nothing_to_remove : (name : List ℕ) → ¬ IsToRemove members unpacked name
unfolding version_cmp dec_Decides dec_IsTrue dec_IsFalse dec_and dec_and3 dec_or dec_not dec_implies dec_like dec_All dec_Any dec_text dec_Equal dec_Contains all_or_some dec_MeetsRestriction dec_Meets dec_MeetsAsProvided dec_FitsByName dec_FitsProvided dec_FitsByProvides dec_Matches dec_MatchesSome dec_ConflictsWith dec_BreaksOther dec_MeetsClause dec_MeetsClauses dec_SameVersion dec_HasRecord dec_ForOthers dec_SomeOther dec_ForMembers dec_FitsThenAndNow dec_MatchOption dec_FitsFromBefore dec_SatisfiesAtom dec_IsSatisfied dec_HasPreDepends dec_IsCompatible dec_HasNoConflict dec_BreaksNone dec_OnListed dec_IsNotHeld dec_StandsAs dec_AreConfigurable dec_ArePreDependsInstalled dec_AreDependsInstalled dec_IsUnbroken dec_AreUnbroken dec_IsMetWithout dec_NeedsNot dec_IsNeededByNone dec_IsNotNeeded dec_named dec_MemberPasses greatest_upto greatest_part dec_IsIndivisible dec_UnpackAsks dec_ConfigureAsks dec_RemoveAsks dec_DeconfigureAsks dec_PurgeAsks dec_Asks kept_or_first allowed_or_failing dec_HasMember dec_Stays dec_IsMetByStaying dec_IsReady dec_HaveNoClash dec_purges dec_IsPurgeGoal dec_unpacked_unheld dec_each_name dec_present dec_IsPlain dec_Allowed dec_Less dec_IsToRemove dec_MayGo dec_IsStillInstalled dec_IsLeastName dec_none dec_IsNextRemoval dec_AreRemovals
nothing_to_remove = so (dec_AreRemovals u members unpacked []) refl

-- the fixed order: `unpack a 1`, `unpack b 1`, `configure a b`
pub in_fixed_order : IsInFixedOrder u [] members
    (step.Unpack (codes "a") (codes "1") ∷ step.Unpack (codes "b") (codes "1") ∷ step.Configure a_b ∷ [])
unfolding version_cmp
in_fixed_order = record {
  unpacks = members;
  removals = [];
  configures = step.Configure a_b ∷ [];
  purges = [];
  all_unpacked = unpacked;
  all_removed = unpacked;
  all_configured = configured;
  parts = refl;
  unpacks_are = unpacks_are;
  all_unpacked_is = refl;
  removals_are = nothing_to_remove;
  all_removed_is = refl;
  configures_are = (least_group, none_left);
  all_configured_is = refl;
  purges_are = purges_are;
}

-- all pairs are selected
abbrev all : ℕ → Bool
all number = true

-- a pair in the index is listed as itself
pairs_rise : AllPairs (λ earlier later. pair_cmp earlier later ≡ Less) u.pairs
pairs_rise zero zero d before within = absurd (omega arith)
pairs_rise zero (suc zero) d before within = refl
pairs_rise zero (suc (suc j)) d before within = absurd (omega (arith, within))
pairs_rise (suc i) zero d before within = absurd (omega (arith, before))
pairs_rise (suc i) (suc zero) d before within = absurd (omega (arith, before))
pairs_rise (suc i) (suc (suc j)) d before within = absurd (omega (arith, within))

-- what holds of both holds of all
both_members : (P : Pkg → Type 0) → P a_1 → P b_1 → All P members
both_members P a b = All-cons P a_1 (b_1 ∷ []) a (All-cons P b_1 [] b (All-nil P))

both_pairs : (P : Pair → Type 0) → P (indexed a_1) → P (indexed b_1) → All P u.pairs
both_pairs P a b = All-cons P (indexed a_1) (indexed b_1 ∷ []) a (All-cons P (indexed b_1) [] b (All-nil P))

content_a : HasItsRelations members a_1
unfolding version_cmp dec_Decides dec_IsTrue dec_IsFalse dec_and dec_and3 dec_or dec_not dec_implies dec_like dec_All dec_Any dec_text dec_Equal dec_Contains all_or_some dec_MeetsRestriction dec_Meets dec_MeetsAsProvided dec_FitsByName dec_FitsProvided dec_FitsByProvides dec_Matches dec_MatchesSome dec_ConflictsWith dec_BreaksOther dec_MeetsClause dec_MeetsClauses dec_SameVersion dec_HasRecord dec_ForOthers dec_SomeOther dec_ForMembers dec_FitsThenAndNow dec_MatchOption dec_FitsFromBefore dec_SatisfiesAtom dec_IsSatisfied dec_HasPreDepends dec_IsCompatible dec_HasNoConflict dec_BreaksNone dec_OnListed dec_IsNotHeld dec_StandsAs dec_AreConfigurable dec_ArePreDependsInstalled dec_AreDependsInstalled dec_IsUnbroken dec_AreUnbroken dec_IsMetWithout dec_NeedsNot dec_IsNeededByNone dec_IsNotNeeded dec_named dec_MemberPasses greatest_upto greatest_part dec_IsIndivisible dec_UnpackAsks dec_ConfigureAsks dec_RemoveAsks dec_DeconfigureAsks dec_PurgeAsks dec_Asks kept_or_first allowed_or_failing dec_HasMember dec_Stays dec_IsMetByStaying dec_IsReady dec_HaveNoClash dec_purges dec_IsPurgeGoal dec_unpacked_unheld dec_each_name dec_present dec_IsPlain dec_Allowed dec_Less dec_IsToRemove dec_MayGo dec_IsStillInstalled dec_IsLeastName dec_none dec_IsNextRemoval dec_AreRemovals dec_MatchedByNoOther
content_a = record {
  pre_depends = so (dec_MeetsClauses members a_1.relations.pre_depends) refl;
  depends = so (dec_MeetsClauses members a_1.relations.depends) refl;
  conflicts = so (dec_MatchedByNoOther members a_1.name []) refl;
  breaks = so (dec_MatchedByNoOther members a_1.name []) refl;
}

content_b : HasItsRelations members b_1
unfolding version_cmp dec_Decides dec_IsTrue dec_IsFalse dec_and dec_and3 dec_or dec_not dec_implies dec_like dec_All dec_Any dec_text dec_Equal dec_Contains all_or_some dec_MeetsRestriction dec_Meets dec_MeetsAsProvided dec_FitsByName dec_FitsProvided dec_FitsByProvides dec_Matches dec_MatchesSome dec_ConflictsWith dec_BreaksOther dec_MeetsClause dec_MeetsClauses dec_SameVersion dec_HasRecord dec_ForOthers dec_SomeOther dec_ForMembers dec_FitsThenAndNow dec_MatchOption dec_FitsFromBefore dec_SatisfiesAtom dec_IsSatisfied dec_HasPreDepends dec_IsCompatible dec_HasNoConflict dec_BreaksNone dec_OnListed dec_IsNotHeld dec_StandsAs dec_AreConfigurable dec_ArePreDependsInstalled dec_AreDependsInstalled dec_IsUnbroken dec_AreUnbroken dec_IsMetWithout dec_NeedsNot dec_IsNeededByNone dec_IsNotNeeded dec_named dec_MemberPasses greatest_upto greatest_part dec_IsIndivisible dec_UnpackAsks dec_ConfigureAsks dec_RemoveAsks dec_DeconfigureAsks dec_PurgeAsks dec_Asks kept_or_first allowed_or_failing dec_HasMember dec_Stays dec_IsMetByStaying dec_IsReady dec_HaveNoClash dec_purges dec_IsPurgeGoal dec_unpacked_unheld dec_each_name dec_present dec_IsPlain dec_Allowed dec_Less dec_IsToRemove dec_MayGo dec_IsStillInstalled dec_IsLeastName dec_none dec_IsNextRemoval dec_AreRemovals dec_MatchedByNoOther
content_b = record {
  pre_depends = so (dec_MeetsClauses members b_1.relations.pre_depends) refl;
  depends = so (dec_MeetsClauses members b_1.relations.depends) refl;
  conflicts = so (dec_MatchedByNoOther members b_1.name []) refl;
  breaks = so (dec_MatchedByNoOther members b_1.name []) refl;
}

fitting : IsFitting u members
unfolding IsAdmittedIn HasOneVersionEach AgreesWith IsSound FulfilsAll
fitting = record {
  admitted = both_members (λ m. Any (λ pair. IsOf m.name m.version pair.pkg) u.pairs)
      (Any-intro (λ (pair : Pair). IsOf (codes "a") (codes "1") pair.pkg) u.pairs (indexed a_1)
      (Contains-head (indexed a_1) (indexed b_1 ∷ [])) (refl, SameVersion-refl (codes "1")))
      (Any-intro (λ (pair : Pair). IsOf (codes "b") (codes "1") pair.pkg) u.pairs (indexed b_1)
      (Contains-rest (indexed a_1) (indexed b_1 ∷ []) (indexed b_1) (Contains-head (indexed b_1) [])) (refl, SameVersion-refl (codes "1")));
  one_version = both_members (λ m. All (AgreesWith m) members)
      (both_members (AgreesWith a_1) (λ same. SameVersion-refl (codes "1")) (λ same. SameVersion-refl (codes "1")))
      (both_members (AgreesWith b_1) (λ same. SameVersion-refl (codes "1")) (λ same. SameVersion-refl (codes "1")));
  sound = both_members (HasItsRelations members) content_a content_b;
  goals = All-cons (Fulfils u members) (goal.Install (codes "a") None) []
      (Any-intro (λ (m : Pkg). (m.name ≡ codes "a") × Meets m.version None) members a_1 (Contains-head a_1 (b_1 ∷ [])) (refl, tt))
      (All-nil (Fulfils u members));
  held = All-nil (KeepsHold members);
  essential = All-nil (KeepsEssential members);
}

-- the change is plain, and its universe is built and counted
pub is_change : IsPlainChange u [] all
unfolding HasDistinctNames IsAcceptable selected
is_change = record {
  built = record {
    distinct = λ i j d before within. absurd (omega arith);
    starts = refl;
    standing = All-nil (λ (entry : Record). Stands entry → HasPair u entry.name entry.version);
    listed = both_pairs (λ pair. MatchOption pair.listed ⊤ (λ listed. IsOf pair.pkg.name pair.pkg.version listed.pkg))
        (refl, SameVersion-refl (codes "1")) (refl, SameVersion-refl (codes "1"));
  };
  counted = record {
    ascending = pairs_rise;
    standing = both_pairs (λ pair. All (HasItsPackage pair) []) (All-nil (HasItsPackage (indexed a_1))) (All-nil (HasItsPackage (indexed b_1)));
    listed = both_pairs (HasItsListed []) (λ none. refl) (λ none. refl);
  };
  acceptable = fitting;
  plain = is_plain;
}

-- so these steps are a run to a good end at which just a and b are installed
pub ends_well : (finish : List Record) × EndsWell u [] members
    (step.Unpack (codes "a") (codes "1") ∷ step.Unpack (codes "b") (codes "1") ∷ step.Configure a_b ∷ []) finish
unfolding selected
ends_well = (plain_change_is_ordered u [] all
    (step.Unpack (codes "a") (codes "1") ∷ step.Unpack (codes "b") (codes "1") ∷ step.Configure a_b ∷ []) is_change in_fixed_order).1
