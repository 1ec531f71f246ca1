-- A selection of which the clause of every premise is true is acceptable.
use Rattle.std.proofs.Common.{◌≡◌, ◌≢◌, ℕ, suc, ◌<◌, Bool, true, false, List, length, ◌⊎◌, Option, Some, None, MatchOption, refl, sym, ap, subst, ◌∙◌}
use Rattle.std.specs.Prelude.{IsTrue, ⊤}
use Rattle.std.specs.List.{All, Any, Contains}
use Rattle.std.proofs.lemmas.Bool.{cases_order}
use Rattle.std.proofs.lemmas.List.Elements.{All-contains}
use Rattle.std.proofs.lemmas.Option.{same_Some, slice_get_read}
use Rattle.rules.specs.ElementLaws.{All-intro, Any-elim, Any-intro}
use Rattle.rules.specs.Package.{Pkg, Atom, MatchesSome, MeetsClause, ConflictsWith, BreaksOther}
use Rattle.rules.specs.PlanLaws.{IsEssentialIn}
use Rattle.rules.specs.Sound.{selected, HasMember, HasVersion, IsAcceptable, IsAdmittedIn, IsFitting, HasItsRelations, IsSound, MeetsClauses, MatchedByNoOther, HasOneVersionEach, AgreesWith, FulfilsAll, Fulfils, IsUpgraded, IsKept, KeepsHold, KeepsEssential}
use Rattle.rules.specs.Universe.{Universe, Pair, Start, IsOf, candidate_of}
use Rattle.rules.specs.Verdict.{HasPair}
use Rattle.rules.specs.Version.{SameVersion}
use Rattle.rules.specs.VersionOrderLaws.{SameVersion-refl}
use Rattle.rules.specs.declared.goal.Goal.{Goal}
use Rattle.rules.specs.declared.goal.Goal.TheVariants as goal
use Rattle.refutation.specs.Clause.{HasAt, IsTrueOf, IsClauseTrue, item_at}
use Rattle.refutation.specs.Laws.{CandidateHasPair, HasNeededPairs, AllPremisesTrue, AcceptableWherePremisesAreTrue}
use Rattle.refutation.specs.Premise.{PairHas, Selects, IsEitherOut, IsAskedBy, IsUpgradeFrom, IsSaidBy}
use Rattle.refutation.specs.declared.line.Premise.TheVariants as premise
use Rattle.refutation.specs.declared.literal.Literal.{Literal}
use Rattle.refutation.specs.declared.literal.Literal.TheVariants as literal
use Rattle.refutation.proofs.FollowLemmas.{item_at-contains}
use Rattle.refutation.proofs.MemberLemmas.{picked, is_member, selected_one, of_some}
use Rattle.refutation.proofs.PremiseLemmas.{premises_are_true}
use mathlib.Core.Logic.{inl, inr}

-- an element has a number
numbered : {X : Type 0} (items : List X) (item : X) → Contains items item → (number : ℕ) × (item_at items number ≡ Some item)
numbered items item within = (suc within.0, slice_get_read items (length items) within.0 item refl within.1 (sym within.2))

-- the literal that a selected pair isn't selected isn't true
not_unselected : (selection : ℕ → Bool) (disjunct : Literal) (number : ℕ) → disjunct ≡ literal.Unselected number → IsTrueOf selection disjunct
    → ¬ IsTrue (selection number)
not_unselected selection disjunct number same is chosen =
    let e : true ≡ false = sym chosen ∙ subst (IsTrueOf selection) same is in absurd (cc)

-- two selected pairs make no clause true that says that one of them isn't
not_out : (selection : ℕ → Bool) (number other : ℕ) → IsTrue (selection number) → IsTrue (selection other)
    → ¬ IsClauseTrue selection (IsEitherOut number other)
not_out selection number other chosen also holds = elim holds.1 [
  | inl one ↦ not_unselected selection holds.0 number one holds.2 chosen
  | inr two ↦ not_unselected selection holds.0 other two holds.2 also
]

module _ (u : Universe) (selection : ℕ → Bool) (needed : HasNeededPairs u) (premises : AllPremisesTrue u selection) where
  abbrev members : List Pkg
  members = selected u selection

  -- a true clause that selects a pair with a property gives a member with it
  one_of : (P : Pkg → Type 0) → IsClauseTrue selection (Selects u P) → (pkg : Pkg) × Contains members pkg × P pkg
  one_of P holds = selected_one u selection P holds.0 holds.1 holds.2

  -- what holds of the package of each selected pair holds of each member
  each_member : (P : Pkg → Type 0)
      → ((number : ℕ) (pair : Pair) → item_at u.pairs number ≡ Some pair → IsTrue (selection number) → P pair.pkg) → All P members
  each_member P each = All-intro P members (λ pkg within.
      let one = picked u selection pkg within in subst P one.same (each one.number one.pair one.there one.chosen))

  admitted : IsAdmittedIn u members
  unfolding IsAdmittedIn
  admitted = each_member (λ member. Any (λ pair. IsOf member.name member.version pair.pkg) u.pairs) (λ number pair there chosen.
      Any-intro (λ (other_pair : Pair). IsOf pair.pkg.name pair.pkg.version other_pair.pkg) u.pairs pair (item_at-contains u.pairs number pair there)
      (refl, SameVersion-refl pair.pkg.version))

  -- two selected pairs of one name are of one version
  agrees : (number other : ℕ) (pair other_pair : Pair) → item_at u.pairs number ≡ Some pair → item_at u.pairs other ≡ Some other_pair
      → IsTrue (selection number) → IsTrue (selection other) → other_pair.pkg.name ≡ pair.pkg.name
      → (number ≡ other) ⊎ ((number < other) ⊎ (other < number)) → SameVersion pair.pkg.version other_pair.pkg.version
  agrees number other pair other_pair there also chosen too named (inr (inl below)) = absurd (not_out selection number other chosen too
      (premises (premise.Same number other) (below, (pair, there, (other_pair, also, named)))))
  agrees number other pair other_pair there also chosen too named (inr (inr above)) = absurd (not_out selection other number too chosen
      (premises (premise.Same other number) (above, (other_pair, also, (pair, there, sym named)))))
  agrees number other pair other_pair there also chosen too named (inl same) =
      let one : pair ≡ other_pair = same_Some pair other_pair (sym there ∙ ap (item_at u.pairs) same ∙ also) in
      subst (λ (p : Pair). SameVersion pair.pkg.version p.pkg.version) one (SameVersion-refl pair.pkg.version)

  one_version : HasOneVersionEach members
  unfolding HasOneVersionEach AgreesWith
  one_version = each_member (λ member. All (AgreesWith member) members) (λ number pair there chosen.
      each_member (AgreesWith pair.pkg) (λ other other_pair also too named.
      agrees number other pair other_pair there also chosen too named (cases_order number other)))

  -- a clause of a field is met
  met : (number : ℕ) (pair : Pair) → item_at u.pairs number ≡ Some pair → IsTrue (selection number) → (field : Pkg → List (List Atom))
      → ((clause : ℕ) → HasAt (field pair.pkg) clause (λ _. ⊤) → IsClauseTrue selection (λ disjunct. (disjunct ≡ literal.Unselected number)
      ⊎ Selects u (λ other. PairHas u number (λ pkg. HasAt (field pkg) clause (MatchesSome other))) disjunct))
      → MeetsClauses members (field pair.pkg)
  unfolding MeetsClauses MeetsClause
  met number pair there chosen field holds =
      All-intro (λ atoms. Any (λ member. MatchesSome member atoms) members) (field pair.pkg) (λ atoms within.
      let place = numbered (field pair.pkg) atoms within in
      let one = holds place.0 (atoms, place.1, tt) in
      elim one.1 [
        | inl out ↦ absurd (not_unselected selection one.0 number out one.2 chosen)
        | inr selects ↦ matching atoms place.0 place.1
            (selected_one u selection (λ other. PairHas u number (λ pkg. HasAt (field pkg) place.0 (MatchesSome other))) one.0 selects one.2)
      ])
    where
      matching : (atoms : List Atom) (clause : ℕ) → item_at (field pair.pkg) clause ≡ Some atoms
          → (member : Pkg) × Contains members member × PairHas u number (λ pkg. HasAt (field pkg) clause (MatchesSome member))
          → Any (λ member. MatchesSome member atoms) members
      matching atoms clause at meeting =
          let has = meeting.2 in
          let one : has.0 ≡ pair = same_Some has.0 pair (sym has.1 ∙ there) in
          let same : has.2.0 ≡ atoms = same_Some has.2.0 atoms
          (sym has.2.1 ∙ ap (λ (p : Pair). item_at (field p.pkg) clause) one ∙ at) in
          Any-intro (λ member. MatchesSome member atoms) members meeting.0 meeting.1 (subst (MatchesSome meeting.0) same has.2.2)

  sound : IsSound members
  unfolding IsSound MatchedByNoOther ConflictsWith BreaksOther
  sound = each_member (HasItsRelations members) (λ number pair there chosen. record {
    pre_depends = met number pair there chosen (λ pkg. pkg.relations.pre_depends)
        (λ clause has. premises (premise.PreDepends number clause) (pair, there, has));
    depends = met number pair there chosen (λ pkg. pkg.relations.depends)
        (λ clause has. premises (premise.Depends number clause) (pair, there, has));
    conflicts = each_member (λ other. other.name ≢ pair.pkg.name → ¬ MatchesSome other pair.pkg.relations.conflicts)
        (λ other other_pair also too differ matches. not_out selection number other chosen too
        (premises (premise.Conflicts number other) (pair, there, (other_pair, also, (differ, matches)))));
    breaks = each_member (λ other. other.name ≢ pair.pkg.name → ¬ MatchesSome other pair.pkg.relations.breaks)
        (λ other other_pair also too differ matches. not_out selection number other chosen too
        (premises (premise.Breaks number other) (pair, there, (other_pair, also, (differ, matches)))));
  })

  -- a name of which a pair is selected has a member
  named : (name : List ℕ) → IsClauseTrue selection (Selects u (λ pkg. pkg.name ≡ name)) → HasMember name members
  unfolding HasMember
  named name holds =
      let one = one_of (λ pkg. pkg.name ≡ name) holds in
      Any-intro (λ (member : Pkg). member.name ≡ name) members one.0 one.1 one.2

  -- a pair that a true clause selects is a member of its name and version
  versioned : (number : ℕ) (pair : Pair) → item_at u.pairs number ≡ Some pair → (name version : List ℕ) → IsOf name version pair.pkg
      → (disjunct : Literal) → disjunct ≡ literal.Selected number → IsTrueOf selection disjunct → HasVersion name version members
  unfolding HasVersion
  versioned number pair there name version of disjunct same is = Any-intro (IsOf name version) members pair.pkg
      (is_member u selection number pair there (subst (IsTrueOf selection) same is)) of

  -- what an install or upgrade goal asks for is a member
  asked_for : (number : ℕ) (asked : Goal) → item_at u.goals number ≡ Some asked
      → IsClauseTrue selection (Selects u (λ pkg. HasAt u.goals number (λ asked. IsAskedBy u asked pkg)))
      → Any (IsAskedBy u asked) members
  asked_for number asked there holds =
      let one = one_of (λ pkg. HasAt u.goals number (λ asked. IsAskedBy u asked pkg)) holds in
      Any-intro (IsAskedBy u asked) members one.0 one.1
      (subst (λ g. IsAskedBy u g one.0) (same_Some one.2.0 asked (sym one.2.1 ∙ there)) one.2.2)

  -- what a goal says of a pair is true
  said : (number other : ℕ) (asked : Goal) → item_at u.goals number ≡ Some asked
      → IsClauseTrue selection (λ disjunct. HasAt u.goals number (λ asked. IsSaidBy asked other disjunct))
      → (disjunct : Literal) × IsSaidBy asked other disjunct × IsTrueOf selection disjunct
  said number other asked there holds = (
    holds.0,
    subst (λ g. IsSaidBy g other holds.0) (same_Some holds.1.0 asked (sym holds.1.1 ∙ there)) holds.1.2,
    holds.2,
  )

  -- a goal whose pairs of a name aren't selected leaves the name without a member
  none_named : (name : List ℕ) → ((number : ℕ) (pair : Pair) → item_at u.pairs number ≡ Some pair → IsTrue (selection number)
      → pair.pkg.name ≢ name) → ¬ HasMember name members
  unfolding HasMember
  none_named name none has = Any-elim (λ (member : Pkg). member.name ≡ name) members ⊥ (λ member within named.
      All-contains (λ (member : Pkg). member.name ≢ name) members member
      (each_member (λ member. member.name ≢ name) none) within named) has

  -- an upgrade of all: each start is upgraded
  upgraded : (number : ℕ) → item_at u.goals number ≡ Some goal.UpgradeAll → (start : Start) → Contains u.starts start → IsUpgraded u members start
  unfolding IsUpgraded HasPair
  upgraded number there start within unheld standing candidate stands is_candidate lower =
      Any-elim (λ (pair : Pair). IsOf start.name candidate pair.pkg) u.pairs (HasVersion start.name candidate members) (λ pair among of.
      let place = numbered u.pairs pair among in
      let one = said number place.0 goal.UpgradeAll there (premises (premise.GoalOn number place.0) (
        goal.UpgradeAll,
        there,
        (
          pair,
          place.1,
          Any-intro (IsUpgradeFrom u pair.pkg) u.starts start within (record {
            name = sym of.0;
            unheld = unheld;
            standing = standing;
            candidate = candidate;
            stands = stands;
            is_candidate = is_candidate;
            lower = lower;
            version = of.1;
          }),
        ),
      )) in
      versioned place.0 pair place.1 start.name candidate of one.0 one.1 one.2)
      (of_some (candidate_of u start.name) ⊤ (HasPair u start.name) candidate is_candidate
      (of_some start.standing ⊤ (λ _. CandidateHasPair u start.name) standing stands
      (All-contains (λ (start : Start). (start.is_held ≡ false) → MatchOption start.standing ⊤ (λ _. CandidateHasPair u start.name))
      u.starts start needed.candidates within unheld)))

  kept : Contains u.goals goal.NoRemove → (start : Start) → Contains u.starts start → IsKept members start
  unfolding IsKept
  kept asked start within = at start.standing refl
    where
      at : (standing : Option (List ℕ)) → start.standing ≡ standing → MatchOption standing (Unit {0}) (λ _. HasMember start.name members)
      at None is = tt
      at (Some version) is = named start.name (premises (premise.Keep start.name) (
        asked,
        Any-intro (λ (fact : Start). (fact.name ≡ start.name) × MatchOption fact.standing ⊥ (λ _. ⊤)) u.starts start within
            (refl, (let Q : Option (List ℕ) → Type 0 = λ o. MatchOption o ⊥ (λ _. ⊤) in subst Q (sym is) tt)),
      ))

  fulfils : (asked : Goal) (number : ℕ) → item_at u.goals number ≡ Some asked → Fulfils u members asked
  unfolding HasVersion
  fulfils (goal.Install name restriction) number there = asked_for number (goal.Install name restriction) there
      (premises (premise.Goal number) (goal.Install name restriction, there, tt))
  fulfils (goal.Remove name) number there = none_named name (λ other pair also chosen named.
      let one = said number other (goal.Remove name) there
      (premises (premise.GoalOn number other) (goal.Remove name, there, (pair, also, named))) in
      not_unselected selection one.0 other one.1 one.2 chosen)
  fulfils (goal.Purge name) number there = none_named name (λ other pair also chosen named.
      let one = said number other (goal.Purge name) there
      (premises (premise.GoalOn number other) (goal.Purge name, there, (pair, also, named))) in
      not_unselected selection one.0 other one.1 one.2 chosen)
  fulfils (goal.Upgrade name) number there =
      at (candidate_of u name) (asked_for number (goal.Upgrade name) there (premises (premise.Goal number) (goal.Upgrade name, there, tt)))
    where
      at : (o : Option (List ℕ)) → Any (λ pkg. MatchOption o ⊥ (λ candidate. IsOf name candidate pkg)) members
          → MatchOption o ⊥ (λ candidate. Any (IsOf name candidate) members)
      at None some = some.4
      at (Some candidate) some = some
  fulfils goal.UpgradeAll number there = All-intro (IsUpgraded u members) u.starts (upgraded number there)
  fulfils goal.NoRemove number there = All-intro (IsKept members) u.starts (kept (item_at-contains u.goals number goal.NoRemove there))

  goals : FulfilsAll u members
  unfolding FulfilsAll
  goals = All-intro (Fulfils u members) u.goals (λ asked within.
      let place = numbered u.goals asked within in fulfils asked place.0 place.1)

  keeps_hold : (start : Start) → Contains u.starts start → KeepsHold members start
  unfolding KeepsHold HasPair
  keeps_hold start within held = at start.standing refl
      (All-contains (λ (start : Start). IsTrue start.is_held → MatchOption start.standing ⊤ (HasPair u start.name))
      u.starts start needed.held within held)
    where
      at : (standing : Option (List ℕ)) → start.standing ≡ standing → MatchOption standing ⊤ (HasPair u start.name)
          → MatchOption standing (Unit {0}) (λ version. HasVersion start.name version members)
      at None is has = tt
      at (Some version) is has = Any-elim (λ (pair : Pair). IsOf start.name version pair.pkg) u.pairs
          (HasVersion start.name version members) (λ pair among of.
          let place = numbered u.pairs pair among in
          let Q : Option (List ℕ) → Type 0 = λ o. MatchOption o ⊥ (SameVersion pair.pkg.version) in
          let one = premises (premise.Hold place.0) (
            pair,
            place.1,
            Any-intro (λ (fact : Start). (fact.name ≡ pair.pkg.name) × IsTrue fact.is_held × MatchOption fact.standing ⊥ (SameVersion pair.pkg.version))
                u.starts start within (sym of.0, held, subst Q (sym is) of.1),
          ) in
          versioned place.0 pair place.1 start.name version of one.0 one.1 one.2) has

  keeps_essential : (start : Start) → Contains u.starts start → KeepsEssential members start
  unfolding KeepsEssential IsEssentialIn
  keeps_essential start within essential present = named start.name (premises (premise.Essential start.name)
      (Any-intro (λ (fact : Start). (fact.name ≡ start.name) × IsTrue fact.is_essential × IsTrue fact.is_present) u.starts start within
      (refl, essential, present)))

  fitting : IsFitting u members
  fitting = record {
    admitted = admitted;
    one_version = one_version;
    sound = sound;
    goals = goals;
    held = All-intro (KeepsHold members) u.starts keeps_hold;
    essential = All-intro (KeepsEssential members) u.starts keeps_essential;
  }

pub acceptable_where_premises_are_true : AcceptableWherePremisesAreTrue
unfolding IsAcceptable
acceptable_where_premises_are_true u selection ascending needed =
    (premises_are_true u selection ascending, fitting u selection needed)
