-- What goals ask for, as premises.
use Rattle.std.proofs.Common.{◌≡◌, ℕ, ◌+◌, ◌<◌, Bool, true, false, List, [], Option, Some, MatchOption, length, refl, sym, ap, subst, ◌∙◌}
use Rattle.std.specs.Prelude.{◌↔◌}
use Rattle.std.specs.List.{Any, Contains}
use Rattle.std.proofs.lemmas.Option.{same_Some}
use Rattle.std.specs.declared.cmp.Ordering.TheVariants.{Less}
use Rattle.rules.specs.ElementLaws.{Any-elim, Any-intro, Contains-nil}
use Rattle.rules.specs.Package.{Meets, Pkg}
use Rattle.rules.specs.Universe.{IsOf, Start, Universe, candidate_of}
use Rattle.rules.specs.Version.{SameVersion, version_cmp}
use Rattle.rules.specs.declared.goal.Goal.{Goal}
use Rattle.rules.specs.declared.goal.Goal.TheVariants as goal
use Rattle.rules.specs.declared.goal.Restriction.{Restriction}
use Rattle.refutation.specs.Clause.{HasAt, IsListOf, item_at}
use Rattle.refutation.specs.Premise.{AsksForMember, IsAskedBy, IsInPremise, IsPremise, IsSaidBy, IsUpgradeFrom, PairHas, Selects, SpeaksOf}
use Rattle.refutation.specs.declared.line.Premise.{Premise}
use Rattle.refutation.specs.declared.line.Premise.TheVariants as premise
use Rattle.refutation.specs.declared.literal.Literal.{Literal}
use Rattle.refutation.specs.declared.literal.Literal.TheVariants as literal
use Rattle.encode.specs.Goals.{IsOnEach, IsRemovalOf, IsUpgradeBy, IsUpgradeOf, said}
use Rattle.encode.specs.Growing.{IsGoalAsked, IsOfFirst, IsOfGoal}
use Rattle.encode.specs.Numbers.{AreNumbersOf}
use Rattle.encode.proofs.PairLemmas.{at_number}
use mathlib.Core.Logic.{inl, inr}

-- what the goal of a number has
pub goal_has : (u : Universe) (number : ℕ) (asked : Goal) (P : Goal → Type 0) → item_at u.goals number ≡ Some asked → HasAt u.goals number P ↔ P asked
goal_has u number asked P is = (
  λ (other, there, holds). subst P (same_Some other asked (sym there ∙ is)) holds,
  λ holds. (asked, is, holds),
)

-- a list that says that one of the pairs with a property is selected is the clause of the goal that asks for these
pub asked_list : (u : Universe) (number : ℕ) (asked : Goal) (P : Pkg → Type 0) → item_at u.goals number ≡ Some asked
    → ((pkg : Pkg) → P pkg ↔ IsAskedBy u asked pkg) → (literals : List Literal) → IsListOf (Selects u P) literals
    → IsListOf (IsInPremise u (premise.Goal number)) literals
asked_list u number asked P is alike literals all item =
    let same = selects item in (λ within. same.0 ((all item).0 within), λ so. (all item).1 (same.1 so))
  where
    selects : (f : Literal) → Selects u P f ↔ Selects u (λ pkg. HasAt u.goals number (λ of. IsAskedBy u of pkg)) f
    selects (literal.Selected pair) = (
      λ (here, there, holds). (here, there, (goal_has u number asked (λ of. IsAskedBy u of here.pkg) is).1 ((alike here.pkg).0 holds)),
      λ (here, there, holds). (here, there, (alike here.pkg).1 ((goal_has u number asked (λ of. IsAskedBy u of here.pkg) is).0 holds)),
    )
    selects (literal.Unselected pair) = (λ no. no, λ no. no)

-- the premise of a goal that asks for a member is the only one of its number
pub asked_only : (u : Universe) (number : ℕ) → HasAt u.goals number AsksForMember → (reason : Premise)
    → (reason ≡ premise.Goal number) ↔ (IsPremise u reason × IsOfGoal number reason)
asked_only u number asks reason = (
  λ same. (subst (IsPremise u) (sym same) asks, subst (IsOfGoal number) (sym same) refl),
  λ both. from reason both.0 both.1,
)
  where
    asks_not : (asked : Goal) → AsksForMember asked → (pair : ℕ) → PairHas u pair (SpeaksOf u asked) → ⊥
    asks_not (goal.Install name restriction) one pair (here, there, speaks) = speaks
    asks_not (goal.Remove name) one pair has = one
    asks_not (goal.Purge name) one pair has = one
    asks_not (goal.Upgrade name) one pair (here, there, speaks) = speaks
    asks_not goal.UpgradeAll one pair has = one
    asks_not goal.NoRemove one pair has = one

    from : (f : Premise) → IsPremise u f → IsOfGoal number f → f ≡ premise.Goal number
    from (premise.Same pair other) so of = absurd of
    from (premise.PreDepends pair clause) so of = absurd of
    from (premise.Depends pair clause) so of = absurd of
    from (premise.Conflicts pair other) so of = absurd of
    from (premise.Breaks pair other) so of = absurd of
    from (premise.Goal asked) so of = let Of : ℕ → Type 0 = λ n. premise.Goal asked ≡ premise.Goal n in subst Of of refl
    from (premise.GoalOn asked pair) so of =
        let On : ℕ → Type 0 = λ n. HasAt u.goals n (λ one. PairHas u pair (SpeaksOf u one)) in
        let (one, there, has) = subst On of so in
        absurd (asks_not one ((goal_has u number one AsksForMember there).0 asks) pair has)
    from (premise.Hold pair) so of = absurd of
    from (premise.Essential name) so of = absurd of
    from (premise.Keep name) so of = absurd of

-- what a goal says of a pair is what the goal at its number says
pub said_list : (u : Universe) (number : ℕ) (asked : Goal) (is_selected : Bool) → item_at u.goals number ≡ Some asked
    → ((pair : ℕ) (item : Literal) → IsSaidBy asked pair item ↔ (item ≡ said is_selected pair))
    → (pair : ℕ) (item : Literal) → IsInPremise u (premise.GoalOn number pair) item ↔ (item ≡ said is_selected pair)
said_list u number asked is_selected is says pair item =
    let has = goal_has u number asked (λ of. IsSaidBy of pair item) is in (
      λ so. (says pair item).0 (has.0 so),
      λ same. has.1 ((says pair item).1 same),
    )

-- the premises of each of a list of pairs
pub on_each : (number : ℕ) (pairs : List ℕ) (reason : Premise)
    → Any (λ pair. reason ≡ premise.GoalOn number pair) pairs ↔ IsOnEach number pairs reason
on_each number pairs reason = (
  λ some. Any-elim (λ pair. reason ≡ premise.GoalOn number pair) pairs (IsOnEach number pairs reason) (λ pair within same. (pair, within, same)) some,
  λ (pair, within, same). Any-intro (λ one. reason ≡ premise.GoalOn number one) pairs pair within same,
)

-- the premises of a goal that speaks of pairs by themselves are those of these pairs
on_only : (u : Universe) (number : ℕ) (asked : Goal) → item_at u.goals number ≡ Some asked → (¬ AsksForMember asked) → (reason : Premise)
    → (IsPremise u reason × IsOfGoal number reason) ↔ ((pair : ℕ) × PairHas u pair (SpeaksOf u asked) × (reason ≡ premise.GoalOn number pair))
on_only u number asked is asks_not reason = (λ both. from reason both.0 both.1, to)
  where
    to : (pair : ℕ) × PairHas u pair (SpeaksOf u asked) × (reason ≡ premise.GoalOn number pair) → IsPremise u reason × IsOfGoal number reason
    to (pair, has, same) = (subst (IsPremise u) (sym same) (asked, is, has), subst (IsOfGoal number) (sym same) refl)

    from : (f : Premise) → IsPremise u f → IsOfGoal number f
        → (pair : ℕ) × PairHas u pair (SpeaksOf u asked) × (f ≡ premise.GoalOn number pair)
    from (premise.Same pair other) so of = absurd of
    from (premise.PreDepends pair clause) so of = absurd of
    from (premise.Depends pair clause) so of = absurd of
    from (premise.Conflicts pair other) so of = absurd of
    from (premise.Breaks pair other) so of = absurd of
    from (premise.Goal one) so of =
        let Of : ℕ → Type 0 = λ n. HasAt u.goals n AsksForMember in
        absurd (asks_not ((goal_has u number asked AsksForMember is).0 (subst Of of so)))
    from (premise.GoalOn one pair) so of =
        let On : ℕ → Type 0 = λ n. HasAt u.goals n (λ it. PairHas u pair (SpeaksOf u it)) in
        let Made : ℕ → Type 0 = λ n. premise.GoalOn one pair ≡ premise.GoalOn n pair in
        (pair, (goal_has u number asked (λ it. PairHas u pair (SpeaksOf u it)) is).0 (subst On of so), subst Made of refl)
    from (premise.Hold pair) so of = absurd of
    from (premise.Essential name) so of = absurd of
    from (premise.Keep name) so of = absurd of

-- a removal's premises are those of the pairs of its name
pub removal_premises : (u : Universe) (number : ℕ) (name : List ℕ) → IsRemovalOf u.goals number name → (pairs slice : List ℕ) → slice ≡ pairs
    → AreNumbersOf u (λ pkg. pkg.name ≡ name) pairs → (reason : Premise)
    → IsOnEach number slice reason ↔ (IsPremise u reason × IsOfGoal number reason)
removal_premises u number name removal pairs slice is are reason =
    let Over : List ℕ → Type 0 = λ xs. IsOnEach number xs reason ↔ (IsPremise u reason × IsOfGoal number reason) in
    subst Over (sym is) (either removal)
  where
    by : (asked : Goal) → item_at u.goals number ≡ Some asked → (¬ AsksForMember asked) → ((pair : ℕ) → PairHas u pair (λ pkg. pkg.name ≡ name) ↔ PairHas u pair (SpeaksOf u asked))
        → IsOnEach number pairs reason ↔ (IsPremise u reason × IsOfGoal number reason)
    by asked there asks_not alike = let only = on_only u number asked there asks_not reason in (
      λ (pair, within, same). only.1 (pair, (alike pair).0 ((are pair).0 within), same),
      λ both. let (pair, has, same) = only.0 both in (pair, (are pair).1 ((alike pair).1 has), same),
    )

    either : IsRemovalOf u.goals number name → IsOnEach number pairs reason ↔ (IsPremise u reason × IsOfGoal number reason)
    either (inl there) = by (goal.Remove name) there (λ no. no) (λ pair. (λ has. has, λ has. has))
    either (inr there) = by (goal.Purge name) there (λ no. no) (λ pair. (λ has. has, λ has. has))

-- what a removal says of each pair of its name
pub removal_says : (u : Universe) (number : ℕ) (name : List ℕ) → IsRemovalOf u.goals number name → (pair : ℕ) (item : Literal)
    → IsInPremise u (premise.GoalOn number pair) item ↔ (item ≡ said false pair)
removal_says u number name (inl there) pair item = said_list u number (goal.Remove name) false there (λ p f. (λ so. so, λ so. so)) pair item
removal_says u number name (inr there) pair item = said_list u number (goal.Purge name) false there (λ p f. (λ so. so, λ so. so)) pair item

-- an upgrade of all says that each pair is selected that it speaks of, and its premises are those of what the start says
pub upgrade_says : (u : Universe) (number : ℕ) → item_at u.goals number ≡ Some goal.UpgradeAll → (pair : ℕ) (item : Literal)
    → IsInPremise u (premise.GoalOn number pair) item ↔ (item ≡ said true pair)
upgrade_says u number there pair item = said_list u number goal.UpgradeAll true there (λ p f. (λ so. so, λ so. so)) pair item

pub upgrade_premises : (u : Universe) (number : ℕ) → item_at u.goals number ≡ Some goal.UpgradeAll → (reason : Premise)
    → Any (λ start. IsUpgradeBy u number start reason) u.starts ↔ (IsPremise u reason × IsOfGoal number reason)
upgrade_premises u number there reason = (to, from)
  where
    only : (IsPremise u reason × IsOfGoal number reason) ↔ ((pair : ℕ) × PairHas u pair (SpeaksOf u goal.UpgradeAll) × (reason ≡ premise.GoalOn number pair))
    only = on_only u number goal.UpgradeAll there (λ no. no) reason

    to : Any (λ start. IsUpgradeBy u number start reason) u.starts → IsPremise u reason × IsOfGoal number reason
    to some = Any-elim (λ start. IsUpgradeBy u number start reason) u.starts (IsPremise u reason × IsOfGoal number reason)
        (λ start within (pair, (here, at, upgrade), same).
        only.1 (pair, (here, at, Any-intro (IsUpgradeFrom u here.pkg) u.starts start within upgrade), same)) some

    from : IsPremise u reason × IsOfGoal number reason → Any (λ start. IsUpgradeBy u number start reason) u.starts
    from both =
        let (pair, (here, at, some), same) = only.0 both in
        Any-elim (IsUpgradeFrom u here.pkg) u.starts (Any (λ start. IsUpgradeBy u number start reason) u.starts)
        (λ start within upgrade. Any-intro (λ s. IsUpgradeBy u number s reason) u.starts start within (pair, (here, at, upgrade), same)) some

-- the pairs of the candidate of a name that is unheld and stands lower are its upgrades
pub upgrades_are : (u : Universe) (start : Start) (candidate : List ℕ) → start.is_held ≡ false
    → ((lower : List ℕ) × (start.standing ≡ Some lower) × (candidate_of u start.name ≡ Some candidate) × (version_cmp lower candidate ≡ Less))
    → (pair : ℕ) → PairHas u pair (IsOf start.name candidate) ↔ IsUpgradeOf u start pair
upgrades_are u start candidate unheld (lower, stands, is, less) pair = (
  λ (here, there, of). (
    here,
    there,
    record {
      name = sym of.0;
      unheld = unheld;
      standing = lower;
      candidate = candidate;
      stands = stands;
      is_candidate = is;
      lower = less;
      version = of.1;
    },
  ),
  λ (here, there, upgrade). (
    here,
    there,
    (
      sym upgrade.name,
      let Same : List ℕ → Type 0 = λ v. SameVersion here.pkg.version v in
          subst Same (same_Some upgrade.candidate candidate (sym upgrade.is_candidate ∙ is)) upgrade.version,
    ),
  ),
)

-- where the start says that a name is held, or what stands isn't lower than the candidate, there is no upgrade
pub held_none : (u : Universe) (start : Start) → start.is_held ≡ true → (pair : ℕ) → ¬ IsUpgradeOf u start pair
held_none u start held pair (here, there, upgrade) = absurd (let e : false ≡ true = sym upgrade.unheld ∙ held in cc)

pub not_higher_none : (u : Universe) (start : Start)
    → ((lower higher : List ℕ) → start.standing ≡ Some lower → candidate_of u start.name ≡ Some higher → ¬ (version_cmp lower higher ≡ Less))
    → (pair : ℕ) → ¬ IsUpgradeOf u start pair
not_higher_none u start not pair (here, there, upgrade) =
    not upgrade.standing upgrade.candidate upgrade.stands upgrade.is_candidate upgrade.lower

-- no number is in the empty list
pub none_within : {P : ℕ → Type 0} (pairs : List ℕ) → pairs ≡ [] → ((pair : ℕ) → ¬ P pair) → (pair : ℕ) → Contains pairs pair ↔ P pair
none_within {P} pairs is not pair = (
  λ within. absurd (Contains-nil pair (subst (λ (xs : List ℕ). Contains xs pair) is within)),
  λ has. absurd (not pair has),
)

-- a goal that nothing be removed has no premise of its own
pub no_remove_none : (u : Universe) (number : ℕ) → item_at u.goals number ≡ Some goal.NoRemove → (reason : Premise)
    → ¬ (IsPremise u reason × IsOfGoal number reason)
no_remove_none u number there reason both =
    let (pair, (here, at, speaks), same) = (on_only u number goal.NoRemove there (λ none. none) reason).0 both in speaks

-- the premises of the goals at all places are those of goals
pub all_goals : (u : Universe) (reason : Premise)
    → IsOfFirst (λ place one. IsPremise u one × IsOfGoal (place + 1) one) (length u.goals) reason ↔ (IsPremise u reason × IsGoalAsked reason)
all_goals u reason = (
  λ (place, within, (so, of)). (so, (place + 1, of)),
  λ (so, (number, of)).
      let (place, next, within) = at number reason so of in
      let Of : ℕ → Type 0 = λ n. IsOfGoal n reason in
      (place, within, (so, subst Of next of)),
)
  where
    place_of_goal : (number : ℕ) (P : Goal → Type 0) → HasAt u.goals number P → (place : ℕ) × (number ≡ place + 1) × (place < length u.goals)
    place_of_goal number P (one, there, holds) = let here = at_number u.goals number one there in (here.0, here.1, here.2)

    at : (number : ℕ) (f : Premise) → IsPremise u f → IsOfGoal number f → (place : ℕ) × (number ≡ place + 1) × (place < length u.goals)
    at number (premise.Same pair other) so of = absurd of
    at number (premise.PreDepends pair clause) so of = absurd of
    at number (premise.Depends pair clause) so of = absurd of
    at number (premise.Conflicts pair other) so of = absurd of
    at number (premise.Breaks pair other) so of = absurd of
    at number (premise.Goal asked) so of = let Has : ℕ → Type 0 = λ n. HasAt u.goals n AsksForMember in place_of_goal number AsksForMember (subst Has of so)
    at number (premise.GoalOn asked pair) so of =
        let On : ℕ → Type 0 = λ n. HasAt u.goals n (λ one. PairHas u pair (SpeaksOf u one)) in
        place_of_goal number (λ one. PairHas u pair (SpeaksOf u one)) (subst On of so)
    at number (premise.Hold pair) so of = absurd of
    at number (premise.Essential name) so of = absurd of
    at number (premise.Keep name) so of = absurd of

-- the literal alone that a goal says of a pair
pub said_alone : (clause : Literal → Type 0) (one made : Literal) (literals slice : List Literal) → slice ≡ literals → made ≡ one
    → IsListOf (λ item. item ≡ made) literals → ((item : Literal) → clause item ↔ (item ≡ one)) → IsListOf clause slice
said_alone clause one made literals slice is same alone says item =
    let Over : List Literal → Type 0 = λ xs. Contains xs item ↔ clause item in
    let Made : Literal → Type 0 = λ l. Contains literals item ↔ (item ≡ l) in
    let here = subst Made same (alone item) in
    subst Over (sym is) (λ within. (says item).1 (here.0 within), λ so. here.1 ((says item).0 so))

-- an install asks for the pairs of its name in a version that meets the restriction, an upgrade for those of the candidate
pub install_list : (u : Universe) (number : ℕ) (asked : Goal) (name called : List ℕ) (restriction : Option Restriction)
    → item_at u.goals number ≡ Some asked → asked ≡ goal.Install name restriction → called ≡ name → (literals slice : List Literal) → slice ≡ literals
    → IsListOf (Selects u (λ pkg. (pkg.name ≡ called) × Meets pkg.version restriction)) literals
    → IsListOf (IsInPremise u (premise.Goal number)) slice
install_list u number asked name called restriction there is same literals slice sliced list =
    let Over : List Literal → Type 0 = λ xs. IsListOf (IsInPremise u (premise.Goal number)) xs in
    let Name : List ℕ → Type 0 = λ n. IsListOf (Selects u (λ pkg. (pkg.name ≡ n) × Meets pkg.version restriction)) literals in
    subst Over (sym sliced) (asked_list u number (goal.Install name restriction) (λ pkg. (pkg.name ≡ name) × Meets pkg.version restriction)
    (there ∙ ap Some is) (λ pkg. (λ so. so, λ so. so)) literals (subst Name same list))

pub upgrade_list : (u : Universe) (number : ℕ) (asked : Goal) (name called : List ℕ)
    → item_at u.goals number ≡ Some asked → asked ≡ goal.Upgrade name → called ≡ name → (literals slice : List Literal) → slice ≡ literals
    → IsListOf (Selects u (λ pkg. MatchOption (candidate_of u called) ⊥ (λ candidate. IsOf called candidate pkg))) literals
    → IsListOf (IsInPremise u (premise.Goal number)) slice
upgrade_list u number asked name called there is same literals slice sliced list =
    let Over : List Literal → Type 0 = λ xs. IsListOf (IsInPremise u (premise.Goal number)) xs in
    let Name : List ℕ → Type 0 = λ n. IsListOf (Selects u (λ pkg. MatchOption (candidate_of u n) ⊥ (λ candidate. IsOf n candidate pkg))) literals in
    subst Over (sym sliced) (asked_list u number (goal.Upgrade name) (λ pkg. MatchOption (candidate_of u name) ⊥ (λ candidate. IsOf name candidate pkg))
    (there ∙ ap Some is) (λ pkg. (λ so. so, λ so. so)) literals (subst Name same list))

-- the premises of the upgrades of what the start says
pub upgrades_by : (u : Universe) (number : ℕ) (start : Start) (pairs slice : List ℕ) → slice ≡ pairs
    → ((pair : ℕ) → Contains pairs pair ↔ IsUpgradeOf u start pair) → (reason : Premise)
    → IsOnEach number slice reason ↔ IsUpgradeBy u number start reason
upgrades_by u number start pairs slice is are reason =
    let Over : List ℕ → Type 0 = λ xs. IsOnEach number xs reason ↔ IsUpgradeBy u number start reason in
    subst Over (sym is) (
      λ (pair, within, same). (pair, (are pair).0 within, same),
      λ (pair, has, same). (pair, (are pair).1 has, same),
    )
