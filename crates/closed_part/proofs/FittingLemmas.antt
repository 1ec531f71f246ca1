-- The part of an acceptable selection within a closed part is acceptable.
use Rattle.std.proofs.Common.{◌≡◌, ◌≢◌, ℕ, Bool, List, Option, Some, None, MatchOption, sym, ap, subst, ◌∙◌}
use Rattle.std.specs.Prelude.{IsTrue, ⊤}
use Rattle.std.specs.List.{All, Any, Contains}
use Rattle.std.proofs.lemmas.List.Elements.{All-contains}
use Rattle.rules.specs.ElementLaws.{All-intro, Any-elim, Any-intro}
use Rattle.rules.specs.Minimal.{IsWanted, Needs, pkg_at}
use Rattle.rules.specs.Package.{Pkg, Atom, Meets, MatchesSome, MeetsClause}
use Rattle.rules.specs.Sound.{AgreesWith, Fulfils, FulfilsAll, HasItsRelations, HasMember, HasOneVersionEach, HasVersion, IsAcceptable, IsFitting, IsKept, IsSound, IsUpgraded, KeepsEssential, KeepsHold, MatchedByNoOther, MeetsClauses, selected}
use Rattle.rules.specs.Universe.{Universe, Pair, Start, IsOf, candidate_of}
use Rattle.rules.specs.declared.goal.Goal.{Goal}
use Rattle.rules.specs.declared.goal.Goal.TheVariants as goal
use Rattle.closed_part.specs.Laws.{AcceptablePartIsAcceptable}
use Rattle.closed_part.specs.Part.{IsClosedPart, IsPart, StandingWerePresent, lowered}
use Rattle.closed_part.proofs.MemberLemmas.{admitted, is_member, picked}
use Rattle.closed_part.proofs.NeededLemmas.{match_both}
use Rattle.closed_part.proofs.OverLemmas.{over, is_over, over_part}
use Rattle.closed_part.proofs.PkgLemmas.{lowered_pair, number_is, pkg_of_pair, raised_pair}
use Rattle.closed_part.proofs.PlaceLemmas.{item_within, numbered}
use Rattle.closed_part.proofs.WantedLemmas.{asked_wanted, depends_need, pre_depends_need, present_wanted}

-- a member of the part, with the number that its pair has in the universe
record IsInPart (u : Universe) (numbers : List ℕ) (members : List Pkg) (pkg : Pkg) : Type 0 where
  pub number : ℕ
  pub there : pkg_at u number ≡ Some pkg
  pub within : Contains numbers number
  pub member : Contains members pkg

module _ (u : Universe) (numbers : List ℕ) (pairs : List Pair) (is : IsPart u numbers (over u pairs)) (closed : IsClosedPart u numbers)
    (standing : StandingWerePresent u) (selection : ℕ → Bool) (fits : IsFitting u (selected u selection)) where
  abbrev part : Universe
  part = over u pairs

  abbrev members : List Pkg
  members = selected u selection

  abbrev kept : List Pkg
  kept = selected part (lowered numbers selection)

  -- what is kept is a member whose number is one of the part's
  of_kept : (pkg : Pkg) → Contains kept pkg → IsInPart u numbers members pkg
  of_kept pkg within =
      let one = picked part (lowered numbers selection) pkg within in
      let at = raised_pair u part numbers is.pairs one.0 one.1 one.2 in
      record {
        number = at.0;
        there = pkg_of_pair u at.0 one.1 at.2 ∙ ap (λ p. Some p) one.4;
        within = item_within numbers one.0 at.0 at.1;
        member = subst (Contains members) one.4 (is_member u selection at.0 one.1 at.2
            (subst (λ n. IsTrue (selection n)) (number_is numbers one.0 at.0 at.1) one.3));
      }

  -- and a member whose number is one of the part's is kept
  is_kept : (pkg : Pkg) → Contains members pkg → ((number : ℕ) → pkg_at u number ≡ Some pkg → Contains numbers number) → Contains kept pkg
  is_kept pkg within inside =
      let one = picked u selection pkg within in
      let place = numbered numbers one.0 (inside one.0 (pkg_of_pair u one.0 one.1 one.2 ∙ ap (λ p. Some p) one.4)) in
      subst (Contains kept) one.4 (is_member part (lowered numbers selection) place.0 one.1
      (lowered_pair u part numbers is.pairs place.0 one.0 one.1 place.1 one.2)
      (subst (λ n. IsTrue (selection n)) (sym (number_is numbers place.0 one.0 place.1)) one.3))

  -- what holds of each member holds of each that is kept
  each_kept : (P : Pkg → Type 0) → All P members → All P kept
  each_kept P all = All-intro P kept (λ pkg within. All-contains P members pkg all (of_kept pkg within).member)

  -- some member that is wanted is kept
  some_kept : (P : Pkg → Type 0) → ((pkg : Pkg) → P pkg → IsWanted u pkg) → Any P members → Any P kept
  some_kept P wanted some = Any-elim P members (Any P kept) (λ pkg within holds. Any-intro P kept pkg
      (is_kept pkg within (λ number there. closed.wanted number pkg there (wanted pkg holds))) holds) some

  -- and some member that one which is kept needs
  needed_kept : (member : Pkg) → Contains kept member → (P : Pkg → Type 0) → ((pkg : Pkg) → P pkg → Needs member pkg) → Any P members → Any P kept
  needed_kept member inside P needs some =
      let one = of_kept member inside in
      Any-elim P members (Any P kept) (λ pkg within holds. Any-intro P kept pkg (is_kept pkg within
      (λ number there. closed.needed one.number number member pkg one.there there one.within (needs pkg holds))) holds) some

  -- what has no member isn't kept
  none_kept : (name : List ℕ) → ¬ HasMember name members → ¬ HasMember name kept
  unfolding HasMember
  none_kept name none has = none (Any-elim (λ (member : Pkg). member.name ≡ name) kept (Any (λ (member : Pkg). member.name ≡ name) members)
      (λ pkg within named. Any-intro (λ (member : Pkg). member.name ≡ name) members pkg (of_kept pkg within).member named) has)

  -- a member of a name that was present is kept
  name_kept : (start : Start) → Contains u.starts start → IsTrue start.is_present → HasMember start.name members → HasMember start.name kept
  unfolding HasMember
  name_kept start within present has = some_kept (λ (member : Pkg). member.name ≡ start.name)
      (λ pkg named. present_wanted u pkg start within (sym named) present) has

  version_kept : (start : Start) → Contains u.starts start → IsTrue start.is_present → (version : List ℕ) → HasVersion start.name version members
      → HasVersion start.name version kept
  unfolding HasVersion
  version_kept start within present version has = some_kept (IsOf start.name version)
      (λ pkg of. present_wanted u pkg start within (sym of.0) present) has

  -- a start that stands was present
  was_present : (start : Start) → Contains u.starts start → MatchOption start.standing ⊤ (λ _. IsTrue start.is_present)
  was_present start within = All-contains (λ (start : Start). MatchOption start.standing ⊤ (λ _. IsTrue start.is_present))
      u.starts start standing within

  one_version : HasOneVersionEach kept
  unfolding HasOneVersionEach
  one_version = All-intro (λ member. All (AgreesWith member) kept) kept (λ member within. each_kept (AgreesWith member)
      (All-contains (λ member. All (AgreesWith member) members) members member fits.one_version (of_kept member within).member))

  -- the clauses of a field are met
  met : (member : Pkg) → Contains kept member → (clauses : List (List Atom))
      → ((needed : Pkg) → Any (MatchesSome needed) clauses → Needs member needed) → MeetsClauses members clauses → MeetsClauses kept clauses
  unfolding MeetsClauses MeetsClause
  met member inside clauses needs meets = All-intro (λ clause. Any (λ member. MatchesSome member clause) kept) clauses (λ clause within.
      needed_kept member inside (λ other. MatchesSome other clause)
      (λ other matches. needs other (Any-intro (MatchesSome other) clauses clause within matches))
      (All-contains (λ clause. Any (λ member. MatchesSome member clause) members) clauses clause meets within))

  sound : IsSound kept
  unfolding IsSound MatchedByNoOther
  sound = All-intro (HasItsRelations kept) kept (λ member within.
      let content = All-contains (HasItsRelations members) members member fits.sound (of_kept member within).member in
      record {
        pre_depends = met member within member.relations.pre_depends (pre_depends_need member) content.pre_depends;
        depends = met member within member.relations.depends (depends_need member) content.depends;
        conflicts = each_kept (λ other. other.name ≢ member.name → ¬ MatchesSome other member.relations.conflicts) content.conflicts;
        breaks = each_kept (λ other. other.name ≢ member.name → ¬ MatchesSome other member.relations.breaks) content.breaks;
      })

  upgraded : (start : Start) → Contains u.starts start → IsUpgraded u members start → IsUpgraded u kept start
  unfolding IsUpgraded
  upgraded start within each free version candidate stands is_candidate lower =
      version_kept start within (at start.standing stands (was_present start within)) candidate
      (each free version candidate stands is_candidate lower)
    where
      at : (o : Option (List ℕ)) → o ≡ Some version → MatchOption o ⊤ (λ _. IsTrue start.is_present) → IsTrue start.is_present
      at None is present = absurd (let e : None ≡ Some version = is in cc)
      at (Some standing) is present = present

  kept_name : (start : Start) → Contains u.starts start → IsKept members start → IsKept kept start
  unfolding IsKept
  kept_name start within keeps = match_both start.standing (λ _. IsTrue start.is_present) (λ _. HasMember start.name members)
      (λ _. HasMember start.name kept) (λ _ present has. name_kept start within present has) (was_present start within) keeps

  fulfils : (asked : Goal) → Contains u.goals asked → Fulfils u members asked → Fulfils u kept asked
  unfolding HasVersion
  fulfils (goal.Install name restriction) within some = some_kept (λ (member : Pkg). (member.name ≡ name) × Meets member.version restriction)
      (λ pkg holds. asked_wanted u pkg (goal.Install name restriction) within (sym holds.0)) some
  fulfils (goal.Remove name) within none = none_kept name none
  fulfils (goal.Purge name) within none = none_kept name none
  fulfils (goal.Upgrade name) within has = at (candidate_of u name) has
    where
      at : (o : Option (List ℕ)) → MatchOption o ⊥ (λ candidate. Any (IsOf name candidate) members)
          → MatchOption o ⊥ (λ candidate. Any (IsOf name candidate) kept)
      at None some = some
      at (Some candidate) some = some_kept (IsOf name candidate)
          (λ pkg of. asked_wanted u pkg (goal.Upgrade name) within (sym of.0)) some
  fulfils goal.UpgradeAll within all = All-intro (IsUpgraded u kept) u.starts (λ start among. upgraded start among
      (All-contains (IsUpgraded u members) u.starts start all among))
  fulfils goal.NoRemove within all = All-intro (IsKept kept) u.starts (λ start among. kept_name start among
      (All-contains (IsKept members) u.starts start all among))

  keeps_hold : (start : Start) → Contains u.starts start → KeepsHold members start → KeepsHold kept start
  unfolding KeepsHold
  keeps_hold start within keeps held = match_both start.standing (λ _. IsTrue start.is_present)
      (λ version. HasVersion start.name version members) (λ version. HasVersion start.name version kept)
      (λ version present has. version_kept start within present version has) (was_present start within) (keeps held)

  keeps_essential : (start : Start) → Contains u.starts start → KeepsEssential members start → KeepsEssential kept start
  unfolding KeepsEssential
  keeps_essential start within keeps essential present = name_kept start within present (keeps essential present)

  fitting : IsFitting part kept
  unfolding FulfilsAll IsUpgraded
  fitting = record {
    admitted = admitted part (lowered numbers selection);
    one_version = one_version;
    sound = sound;
    goals = All-intro (Fulfils u kept) u.goals (λ asked within. fulfils asked within (All-contains (Fulfils u members) u.goals asked
        fits.goals within));
    held = All-intro (KeepsHold kept) u.starts (λ start within. keeps_hold start within (All-contains (KeepsHold members) u.starts start
        fits.held within));
    essential = All-intro (KeepsEssential kept) u.starts (λ start within. keeps_essential start within
        (All-contains (KeepsEssential members) u.starts start fits.essential within));
  }

pub acceptable_part_is_acceptable : AcceptablePartIsAcceptable
unfolding IsAcceptable
acceptable_part_is_acceptable u part numbers selection is closed standing acceptable =
    subst (λ p. IsFitting p (selected p (lowered numbers selection))) (is_over u numbers part is)
    (fitting u numbers part.pairs (over_part u numbers part is) closed standing selection acceptable)
