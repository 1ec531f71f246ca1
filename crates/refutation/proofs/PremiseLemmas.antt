-- The clause of every premise is true of every acceptable selection, kind by kind.
use Rattle.std.proofs.Common.{◌≡◌, ◌≢◌, ℕ, ◌<◌, Bool, true, false, List, ◌⊎◌, Option, Some, MatchOption, refl, sym, subst, ◌∙◌, arith}
use Rattle.std.specs.Prelude.{IsTrue, ⊤}
use Rattle.std.specs.List.{All, Any}
use Rattle.std.proofs.lemmas.List.Elements.{All-contains}
use Rattle.rules.specs.ElementLaws.{Any-contains, Any-elim, Any-intro}
use Rattle.rules.specs.Package.{Pkg, Atom, Meets, MatchesSome, MeetsClause, ConflictsWith, BreaksOther}
use Rattle.rules.specs.PlanLaws.{IsEssentialIn}
use Rattle.rules.specs.Sound.{selected, HasMember, HasVersion, IsAcceptable, IsFitting, HasItsRelations, IsSound, MeetsClauses, MatchedByNoOther, HasOneVersionEach, AgreesWith, FulfilsAll, Fulfils, IsUpgraded, IsKept, KeepsHold, KeepsEssential}
use Rattle.rules.specs.Universe.{Universe, Pair, Start, IsOf, candidate_of}
use Rattle.rules.specs.Version.{SameVersion}
use Rattle.rules.specs.VersionOrderLaws.{SameVersion-symm, SameVersion-trans}
use Rattle.rules.specs.declared.goal.Goal.{Goal}
use Rattle.rules.specs.declared.goal.Goal.TheVariants as goal
use Rattle.refutation.specs.Clause.{HasAt, IsClauseTrue, item_at}
use Rattle.refutation.specs.Laws.{HasAscendingPairs, AllPremisesTrue, PremisesAreTrue, NoneIsAcceptable}
use Rattle.refutation.specs.Premise.{PairHas, PairsAre, Selects, IsEitherOut, AsksForMember, IsAskedBy, IsUpgradeFrom, SpeaksOf, IsSaidBy, StandsAtStart, IsPremise}
use Rattle.refutation.specs.declared.line.Premise.TheVariants as premise
use Rattle.refutation.specs.declared.literal.Literal.{Literal}
use Rattle.refutation.specs.declared.literal.Literal.TheVariants as literal
use Rattle.refutation.proofs.FollowLemmas.{item_at-contains, true_premises_refute_none}
use Rattle.refutation.proofs.MemberLemmas.{IsPicked, picked, is_member, selects, apart, some_of, of_some}
use mathlib.Core.Logic.{inl, inr}

-- of two pairs that aren't selected together, one isn't selected
either_out : (selection : ℕ → Bool) (number other : ℕ) → ¬ (IsTrue (selection number) × IsTrue (selection other))
    → IsClauseTrue selection (IsEitherOut number other)
either_out selection number other never = at (selection number) (selection other) refl refl
  where
    at : (b c : Bool) → selection number ≡ b → selection other ≡ c → IsClauseTrue selection (IsEitherOut number other)
    at false c is also = (literal.Unselected number, inl refl, is)
    at true false is also = (literal.Unselected other, inr refl, also)
    at true true is also = absurd (never (is, also))

-- a pair that makes a clause true where it is selected makes it true with the literal that it isn't
unless_out : (selection : ℕ → Bool) (number : ℕ) (clause : Literal → Type 0)
    → (IsTrue (selection number) → IsClauseTrue selection clause)
    → IsClauseTrue selection (λ disjunct. (disjunct ≡ literal.Unselected number) ⊎ clause disjunct)
unless_out selection number clause gives = at (selection number) refl
  where
    at : (b : Bool) → selection number ≡ b → IsClauseTrue selection (λ disjunct. (disjunct ≡ literal.Unselected number) ⊎ clause disjunct)
    at false is = (literal.Unselected number, inl refl, is)
    at true is = let one = gives is in (one.0, inr one.1, one.2)

-- a pair of a name and version of which some member is, is selected
is_chosen : (u : Universe) (selection : ℕ → Bool) → HasAscendingPairs u → (number : ℕ) (pair : Pair) → item_at u.pairs number ≡ Some pair
    → (name version : List ℕ) → IsOf name version pair.pkg → HasVersion name version (selected u selection) → IsTrue (selection number)
unfolding HasVersion
is_chosen u selection ascending number pair there name version of has =
    Any-elim (IsOf name version) (selected u selection) (IsTrue (selection number)) (λ pkg within is. one pkg is (picked u selection pkg within)) has
  where
    one : (pkg : Pkg) → IsOf name version pkg → IsPicked u selection pkg → IsTrue (selection number)
    one pkg is member =
        let here : IsOf name version member.pair.pkg = subst (IsOf name version) (sym member.same) is in
        let names : member.pair.pkg.name ≡ pair.pkg.name = here.0 ∙ sym of.0 in
        let versions : SameVersion pair.pkg.version member.pair.pkg.version = SameVersion-trans pair.pkg.version version member.pair.pkg.version
        of.1 (SameVersion-symm member.pair.pkg.version version here.1) in
        let same : member.number ≡ number = same_number member.number number
        (apart u ascending member.number number member.pair pair member.there there (sym names)
        (SameVersion-symm pair.pkg.version member.pair.pkg.version versions))
        (apart u ascending number member.number pair member.pair there member.there names versions) in
        subst (λ n. IsTrue (selection n)) same member.chosen
      where
        same_number : (a b : ℕ) → ¬ (a < b) → ¬ (b < a) → a ≡ b
        same_number a b below above = omega (arith, below, above)

module _ (u : Universe) (selection : ℕ → Bool) (ascending : HasAscendingPairs u) (fits : IsFitting u (selected u selection)) where
  -- a selected pair's package is content
  content : (number : ℕ) (pair : Pair) → item_at u.pairs number ≡ Some pair → IsTrue (selection number)
      → HasItsRelations (selected u selection) pair.pkg
  unfolding IsSound
  content number pair there chosen = All-contains (HasItsRelations (selected u selection)) (selected u selection) pair.pkg fits.sound
      (is_member u selection number pair there chosen)

  -- two pairs of one name
  same : (number other : ℕ) → IsPremise u (premise.Same number other) → IsClauseTrue selection (IsEitherOut number other)
  unfolding HasOneVersionEach AgreesWith
  same number other is = either_out selection number other (λ both.
      let pair : Pair = is.1.0 in
      let other_pair : Pair = is.1.2.0 in
      let agrees : AgreesWith pair.pkg other_pair.pkg = All-contains (AgreesWith pair.pkg) (selected u selection) other_pair.pkg
      (All-contains (λ member. All (AgreesWith member) (selected u selection)) (selected u selection) pair.pkg fits.one_version
      (is_member u selection number pair is.1.1 both.0)) (is_member u selection other other_pair is.1.2.1 both.1) in
      apart u ascending number other pair other_pair is.1.1 is.1.2.1 is.1.2.2 (agrees is.1.2.2) is.0)

  -- a clause of a field, which members meet
  met : (number : ℕ) (field : Pkg → List (List Atom)) (clause : ℕ)
      → (is : PairHas u number (λ pkg. HasAt (field pkg) clause (λ _. ⊤)))
      → (IsTrue (selection number) → MeetsClauses (selected u selection) (field is.0.pkg))
      → IsClauseTrue selection (λ disjunct. (disjunct ≡ literal.Unselected number)
      ⊎ Selects u (λ other. PairHas u number (λ pkg. HasAt (field pkg) clause (MatchesSome other))) disjunct)
  unfolding MeetsClauses MeetsClause
  met number field clause is meets = unless_out selection number
      (Selects u (λ other. PairHas u number (λ pkg. HasAt (field pkg) clause (MatchesSome other)))) (λ chosen.
      let atoms : List Atom = is.2.0 in
      let meeting : Any (λ member. MatchesSome member atoms) (selected u selection) =
      All-contains (λ atoms. Any (λ member. MatchesSome member atoms) (selected u selection)) (field is.0.pkg) atoms (meets chosen)
      (item_at-contains (field is.0.pkg) clause atoms is.2.1) in
      selects u selection (λ other. PairHas u number (λ pkg. HasAt (field pkg) clause (MatchesSome other))) meeting.1
      (Any-contains (λ member. MatchesSome member atoms) (selected u selection) meeting)
      (is.0, is.1, (atoms, is.2.1, meeting.4)))

  -- two pairs of which the first has atoms against the second
  against : (number other : ℕ) (atoms : Pkg → List Atom)
      → (is : PairsAre u number other (λ pkg other_pkg. (other_pkg.name ≢ pkg.name) × MatchesSome other_pkg (atoms pkg)))
      → (IsTrue (selection number) → MatchedByNoOther (selected u selection) is.0.pkg.name (atoms is.0.pkg))
      → IsClauseTrue selection (IsEitherOut number other)
  unfolding MatchedByNoOther
  against number other atoms is none = either_out selection number other (λ both.
      All-contains (λ (other_pkg : Pkg). other_pkg.name ≢ is.0.pkg.name → ¬ MatchesSome other_pkg (atoms is.0.pkg)) (selected u selection) is.2.0.pkg
      (none both.0) (is_member u selection other is.2.0 is.2.1 both.1) is.2.2.0 is.2.2.1)

  -- a goal is fulfilled
  fulfilled : (number : ℕ) (asked : Goal) → item_at u.goals number ≡ Some asked → Fulfils u (selected u selection) asked
  unfolding FulfilsAll
  fulfilled number asked there = All-contains (Fulfils u (selected u selection)) u.goals asked fits.goals
      (item_at-contains u.goals number asked there)

  -- an install or upgrade goal
  asks : (number : ℕ) (asked : Goal) → item_at u.goals number ≡ Some asked → AsksForMember asked → Fulfils u (selected u selection) asked
      → IsClauseTrue selection (Selects u (λ pkg. HasAt u.goals number (λ asked. IsAskedBy u asked pkg)))
  unfolding HasVersion
  asks number (goal.Install name restriction) there is fulfils =
      selects u selection (λ pkg. HasAt u.goals number (λ asked. IsAskedBy u asked pkg)) fulfils.1
      (Any-contains (λ (member : Pkg). (member.name ≡ name) × Meets member.version restriction) (selected u selection) fulfils)
      (goal.Install name restriction, there, fulfils.4)
  asks number (goal.Remove name) there is fulfils = absurd is
  asks number (goal.Purge name) there is fulfils = absurd is
  asks number (goal.Upgrade name) there is fulfils =
      let some = some_of (candidate_of u name) (λ candidate. Any (IsOf name candidate) (selected u selection)) fulfils in
      let Q : Pkg → Option (List ℕ) → Type 0 = λ pkg o. MatchOption o ⊥ (λ candidate. IsOf name candidate pkg) in
      selects u selection (λ pkg. HasAt u.goals number (λ asked. IsAskedBy u asked pkg)) some.2.1
      (Any-contains (IsOf name some.0) (selected u selection) some.2)
      (goal.Upgrade name, there, subst (Q some.2.1) (sym some.1) some.2.4)
  asks number goal.UpgradeAll there is fulfils = absurd is
  asks number goal.NoRemove there is fulfils = absurd is

  -- a pair of a name that is to have no member
  unselected : (number : ℕ) (pair : Pair) → item_at u.pairs number ≡ Some pair → (name : List ℕ) → pair.pkg.name ≡ name
      → ¬ HasMember name (selected u selection) → selection number ≡ false
  unfolding HasMember
  unselected number pair there name named none = at (selection number) refl
    where
      at : (b : Bool) → selection number ≡ b → selection number ≡ false
      at false is = is
      at true is = absurd (none (Any-intro (λ (member : Pkg). member.name ≡ name) (selected u selection) pair.pkg
          (is_member u selection number pair there is) named))

  -- a pair that is the upgrade of its name
  upgrade : (number : ℕ) (pair : Pair) → item_at u.pairs number ≡ Some pair → Any (IsUpgradeFrom u pair.pkg) u.starts
      → All (IsUpgraded u (selected u selection)) u.starts → IsTrue (selection number)
  unfolding IsUpgraded
  upgrade number pair there some all = Any-elim (IsUpgradeFrom u pair.pkg) u.starts (IsTrue (selection number)) (λ start within from.
      let has : HasVersion start.name from.candidate (selected u selection) =
      All-contains (IsUpgraded u (selected u selection)) u.starts start all within
      from.unheld from.standing from.candidate from.stands from.is_candidate from.lower in
      is_chosen u selection ascending number pair there start.name from.candidate (sym from.name, from.version) has) some

  -- a remove, purge or upgrade-all goal and a pair
  speaks : (number other : ℕ) (asked : Goal) (pair : Pair) → item_at u.goals number ≡ Some asked → item_at u.pairs other ≡ Some pair
      → SpeaksOf u asked pair.pkg → Fulfils u (selected u selection) asked
      → IsClauseTrue selection (λ disjunct. HasAt u.goals number (λ asked. IsSaidBy asked other disjunct))
  speaks number other (goal.Install name restriction) pair there also of fulfils = absurd of
  speaks number other (goal.Remove name) pair there also of fulfils =
      (literal.Unselected other, (goal.Remove name, there, refl), unselected other pair also name of fulfils)
  speaks number other (goal.Purge name) pair there also of fulfils =
      (literal.Unselected other, (goal.Purge name, there, refl), unselected other pair also name of fulfils)
  speaks number other (goal.Upgrade name) pair there also of fulfils = absurd of
  speaks number other goal.UpgradeAll pair there also of fulfils =
      (literal.Selected other, (goal.UpgradeAll, there, refl), upgrade other pair also of fulfils)
  speaks number other goal.NoRemove pair there also of fulfils = absurd of

  -- the version that stands of a held name
  held : (number : ℕ) → IsPremise u (premise.Hold number) → IsTrue (selection number)
  unfolding KeepsHold
  held number is = Any-elim (λ (start : Start). (start.name ≡ is.0.pkg.name) × IsTrue start.is_held
      × MatchOption start.standing ⊥ (SameVersion is.0.pkg.version)) u.starts (IsTrue (selection number)) (λ start within of.
      let some = some_of start.standing (SameVersion is.0.pkg.version) of.2 in
      let keeps : KeepsHold (selected u selection) start = All-contains (KeepsHold (selected u selection)) u.starts start fits.held within in
      is_chosen u selection ascending number is.0 is.1 start.name some.0 (sym of.0, some.2)
      (of_some start.standing (Unit {0}) (λ version. HasVersion start.name version (selected u selection)) some.0 some.1 (keeps of.1))) is.2

  -- a name that has a member
  named : (name : List ℕ) → HasMember name (selected u selection) → IsClauseTrue selection (Selects u (λ pkg. pkg.name ≡ name))
  unfolding HasMember
  named name has = selects u selection (λ pkg. pkg.name ≡ name) has.1
      (Any-contains (λ (member : Pkg). member.name ≡ name) (selected u selection) has) has.4

  essential : (name : List ℕ) → IsEssentialIn u name → HasMember name (selected u selection)
  unfolding IsEssentialIn KeepsEssential
  essential name is = Any-elim (λ (start : Start). (start.name ≡ name) × IsTrue start.is_essential × IsTrue start.is_present) u.starts
      (HasMember name (selected u selection)) (λ start within of. subst (λ n. HasMember n (selected u selection)) of.0
      (All-contains (KeepsEssential (selected u selection)) u.starts start fits.essential within of.1 of.2)) is

  kept : (name : List ℕ) → Fulfils u (selected u selection) goal.NoRemove → StandsAtStart u name → HasMember name (selected u selection)
  unfolding IsKept
  kept name fulfils is = Any-elim (λ (start : Start). (start.name ≡ name) × MatchOption start.standing ⊥ (λ _. ⊤)) u.starts
      (HasMember name (selected u selection)) (λ start within of.
      let some = some_of start.standing (λ _. ⊤) of.1 in
      subst (λ n. HasMember n (selected u selection)) of.0
      (of_some start.standing (Unit {0}) (λ _. HasMember start.name (selected u selection)) some.0 some.1
      (All-contains (IsKept (selected u selection)) u.starts start fulfils within))) is

  true_premise : AllPremisesTrue u selection
  unfolding FulfilsAll ConflictsWith BreaksOther
  true_premise (premise.Same number other) is = same number other is
  true_premise (premise.PreDepends number clause) is = met number (λ pkg. pkg.relations.pre_depends) clause is
      (λ chosen. (content number is.0 is.1 chosen).pre_depends)
  true_premise (premise.Depends number clause) is = met number (λ pkg. pkg.relations.depends) clause is
      (λ chosen. (content number is.0 is.1 chosen).depends)
  true_premise (premise.Conflicts number other) is = against number other (λ pkg. pkg.relations.conflicts) is
      (λ chosen. (content number is.0 is.1 chosen).conflicts)
  true_premise (premise.Breaks number other) is = against number other (λ pkg. pkg.relations.breaks) is
      (λ chosen. (content number is.0 is.1 chosen).breaks)
  true_premise (premise.Goal number) is = asks number is.0 is.1 is.2 (fulfilled number is.0 is.1)
  true_premise (premise.GoalOn number other) is = speaks number other is.0 is.2.0 is.1 is.2.1 is.2.2 (fulfilled number is.0 is.1)
  true_premise (premise.Hold number) is = (literal.Selected number, refl, held number is)
  true_premise (premise.Essential name) is = named name (essential name is)
  true_premise (premise.Keep name) is = named name (kept name
      (All-contains (Fulfils u (selected u selection)) u.goals goal.NoRemove fits.goals is.0) is.1)

pub premises_are_true : PremisesAreTrue
unfolding IsAcceptable
premises_are_true u selection ascending acceptable = true_premise u selection ascending acceptable

pub none_is_acceptable : NoneIsAcceptable
none_is_acceptable u lines ascending accepted selection acceptable =
    true_premises_refute_none u selection lines (premises_are_true u selection ascending acceptable) accepted
