-- The first reason against an end, from the least name of each kind and the first goal: where nothing of the
-- earlier kinds is against the end, the least of a kind is the first.
use Rattle.std.proofs.Common.{◌≡◌, ◌≤◌, ◌<◌, ℕ, Bool, true, false, List, Some, refl, sym, subst, arith}
use Rattle.std.specs.Prelude.{IsTrue}
use Rattle.std.specs.List.{All, Any}
use Rattle.std.specs.Ordering.{ordering_then}
use Rattle.std.specs.declared.cmp.Ordering.{Ordering}
use Rattle.std.specs.declared.cmp.Ordering.TheVariants.{Less, Equal, Greater}
use Rattle.std.proofs.lemmas.Cmp.{ranked}
use Rattle.std.proofs.lemmas.List.Elements.{All-contains}
use Rattle.rules.specs.Database.{Record, HasRecord, IsInstalled, IsUnfinished, installed_of, is_unfinished, pkg_of}
use Rattle.rules.specs.ElementLaws.{Any-elim, Any-weaker}
use Rattle.rules.specs.Name.{name_cmp}
use Rattle.rules.specs.Run.{IsAgainst, IsFirstAgainst, LacksARelation, HasNothingAgainst, reason_cmp}
use Rattle.rules.specs.Sound.{HasItsRelations, KeepsEssential}
use Rattle.rules.specs.State.{is_installed_state}
use Rattle.rules.specs.Universe.{Universe, Start}
use Rattle.rules.specs.declared.step.Reason.{Reason}
use Rattle.rules.specs.declared.step.Reason.TheVariants as reason
use Rattle.plancheck_end.specs.FirstGoal.{IsFulfilled, IsFirstUnfulfilled}
use Rattle.plancheck_end.specs.Least.{IsLeastWithout}

-- the record isn't installed or its package is content
abbrev IsSettled : List Record → Record → Type 0
IsSettled db entry = IsInstalled entry → HasItsRelations (installed_of db) (pkg_of entry)

-- what a test doesn't fail, it passes
not_failed : (b : Bool) → ¬ (¬ IsTrue b) → IsTrue b
not_failed true fails_not = refl
not_failed false fails_not = absurd (fails_not (λ (is : false ≡ true). absurd (let e : false ≡ true = is in cc)))

-- two orders of which the second decides nothing
first_decides : (o : Ordering) → ordering_then o Equal ≡ Less → o ≡ Less
first_decides Less is = refl
first_decides Equal is = is
first_decides Greater is = is

-- no name of an item that lacks the property comes before the least
none_before : {X : Type 0} (P : X → Type 0) (name_of : X → List ℕ) (items : List X) (least other : List ℕ)
    → IsLeastWithout P name_of items (Some least) → Any (λ item. (name_of item ≡ other) × ¬ P item) items
    → ¬ (name_cmp other least ≡ Less)
none_before {X} P name_of items least other is some before = Any-elim (λ item. (name_of item ≡ other) × ¬ P item) items ⊥
    (λ item within both. All-contains (λ (x : X). ¬ P x → ¬ (name_cmp (name_of x) least ≡ Less)) items item is.1 within both.1
    (let Q : List ℕ → Type 0 = λ name. name_cmp name least ≡ Less in subst Q (sym both.0) before)) some

-- where each item has the property, none of a name lacks it
none_lacks : {X : Type 0} (P : X → Type 0) (name_of : X → List ℕ) (items : List X) (name : List ℕ)
    → All P items → ¬ Any (λ item. (name_of item ≡ name) × ¬ P item) items
none_lacks P name_of items name all some = Any-elim (λ item. (name_of item ≡ name) × ¬ P item) items ⊥
    (λ item within both. both.1 (All-contains P items item all within)) some

-- a name is unfinished where its record isn't finished
unfinished_lacks : (db : List Record) (name : List ℕ) → HasRecord IsUnfinished name db
    → Any (λ (entry : Record). (entry.name ≡ name) × ¬ (¬ IsUnfinished entry)) db
unfinished_lacks db name has = Any-weaker (λ (entry : Record). (entry.name ≡ name) × IsUnfinished entry)
    (λ (entry : Record). (entry.name ≡ name) × ¬ (¬ IsUnfinished entry)) db
    (λ entry within both. (both.0, λ finished. finished both.1)) has

lacks_unfinished : (db : List Record) (name : List ℕ)
    → Any (λ (entry : Record). (entry.name ≡ name) × ¬ (¬ IsUnfinished entry)) db → HasRecord IsUnfinished name db
lacks_unfinished db name some = Any-weaker (λ (entry : Record). (entry.name ≡ name) × ¬ (¬ IsUnfinished entry))
    (λ (entry : Record). (entry.name ≡ name) × IsUnfinished entry) db
    (λ entry within both. (both.0, not_failed (is_unfinished entry) both.1)) some

-- a name is discontent where its record isn't settled
discontent_lacks : (db : List Record) (name : List ℕ) → HasRecord (LacksARelation db) name db
    → Any (λ (entry : Record). (entry.name ≡ name) × ¬ IsSettled db entry) db
unfolding LacksARelation
discontent_lacks db name has = Any-weaker
    (λ (entry : Record). (entry.name ≡ name) × (IsInstalled entry × ¬ HasItsRelations (installed_of db) (pkg_of entry)))
    (λ (entry : Record). (entry.name ≡ name) × ¬ IsSettled db entry) db
    (λ entry within both. (both.0, λ settled. both.1.1 (settled both.1.0))) has

lacks_discontent : (db : List Record) (name : List ℕ)
    → Any (λ (entry : Record). (entry.name ≡ name) × ¬ IsSettled db entry) db → HasRecord (LacksARelation db) name db
unfolding LacksARelation
lacks_discontent db name some = Any-weaker (λ (entry : Record). (entry.name ≡ name) × ¬ IsSettled db entry)
    (λ (entry : Record). (entry.name ≡ name) × (IsInstalled entry × ¬ HasItsRelations (installed_of db) (pkg_of entry))) db
    (λ entry within both. (
      both.0,
      (
        not_failed (is_installed_state entry.state) (λ not_installed. both.1 (λ is. absurd (not_installed is))),
        λ content. both.1 (λ is. content),
      ),
    )) some

-- the least unfinished name is the first reason
pub first_unfinished : (u : Universe) (db : List Record) (name : List ℕ)
    → IsLeastWithout (λ (entry : Record). ¬ IsUnfinished entry) (λ (entry : Record). entry.name) db (Some name)
    → IsFirstAgainst u db (reason.Unfinished name)
first_unfinished u db name is = record { against = lacks_unfinished db name is.0; least = least }
  where
    least : (other : Reason) → IsAgainst u db other → ¬ (reason_cmp other (reason.Unfinished name) ≡ Less)
    least (reason.Unfinished other) against before =
        none_before (λ (entry : Record). ¬ IsUnfinished entry) (λ (entry : Record). entry.name) db name other is
        (unfinished_lacks db other against) (first_decides (name_cmp other name) before)
    least (reason.Relation other) against before = absurd (let e : Greater ≡ Less = before in cc)
    least (reason.Essential other) against before = absurd (let e : Greater ≡ Less = before in cc)
    least (reason.Goal number) against before = absurd (let e : Greater ≡ Less = before in cc)

-- the least discontent name is the first reason, where all is finished
pub first_relation : (u : Universe) (db : List Record) (name : List ℕ) → All (λ (entry : Record). ¬ IsUnfinished entry) db
    → IsLeastWithout (IsSettled db) (λ (entry : Record). entry.name) db (Some name) → IsFirstAgainst u db (reason.Relation name)
first_relation u db name finished is = record { against = lacks_discontent db name is.0; least = least }
  where
    least : (other : Reason) → IsAgainst u db other → ¬ (reason_cmp other (reason.Relation name) ≡ Less)
    least (reason.Unfinished other) against before =
        none_lacks (λ (entry : Record). ¬ IsUnfinished entry) (λ (entry : Record). entry.name) db other finished
        (unfinished_lacks db other against)
    least (reason.Relation other) against before = none_before (IsSettled db) (λ (entry : Record). entry.name) db name other is
        (discontent_lacks db other against) (first_decides (name_cmp other name) before)
    least (reason.Essential other) against before = absurd (let e : Greater ≡ Less = before in cc)
    least (reason.Goal number) against before = absurd (let e : Greater ≡ Less = before in cc)

-- the least essential name that was lost is the first reason, where all is finished and settled
pub first_essential : (u : Universe) (db : List Record) (name : List ℕ) → All (λ (entry : Record). ¬ IsUnfinished entry) db
    → All (IsSettled db) db → IsLeastWithout (KeepsEssential (installed_of db)) (λ (start : Start). start.name) u.starts (Some name)
    → IsFirstAgainst u db (reason.Essential name)
first_essential u db name finished settled is = record { against = is.0; least = least }
  where
    least : (other : Reason) → IsAgainst u db other → ¬ (reason_cmp other (reason.Essential name) ≡ Less)
    least (reason.Unfinished other) against before =
        none_lacks (λ (entry : Record). ¬ IsUnfinished entry) (λ (entry : Record). entry.name) db other finished
        (unfinished_lacks db other against)
    least (reason.Relation other) against before = none_lacks (IsSettled db) (λ (entry : Record). entry.name) db other settled
        (discontent_lacks db other against)
    least (reason.Essential other) against before =
        none_before (KeepsEssential (installed_of db)) (λ (start : Start). start.name) u.starts name other is against
        (first_decides (name_cmp other name) before)
    least (reason.Goal number) against before = absurd (let e : Greater ≡ Less = before in cc)

-- the first goal that isn't fulfilled is the first reason, where all is finished and settled, and no essential name was lost
pub first_goal : (u : Universe) (db : List Record) (number : ℕ) → All (λ (entry : Record). ¬ IsUnfinished entry) db
    → All (IsSettled db) db → All (KeepsEssential (installed_of db)) u.starts → IsFirstUnfulfilled u db number
    → IsFirstAgainst u db (reason.Goal number)
first_goal u db number finished settled kept is = record { against = is.0; least = least }
  where
    least : (other : Reason) → IsAgainst u db other → ¬ (reason_cmp other (reason.Goal number) ≡ Less)
    least (reason.Unfinished other) against before =
        none_lacks (λ (entry : Record). ¬ IsUnfinished entry) (λ (entry : Record). entry.name) db other finished
        (unfinished_lacks db other against)
    least (reason.Relation other) against before = none_lacks (IsSettled db) (λ (entry : Record). entry.name) db other settled
        (discontent_lacks db other against)
    least (reason.Essential other) against before =
        none_lacks (KeepsEssential (installed_of db)) (λ (start : Start). start.name) u.starts other kept against
    least (reason.Goal other) against before = let below : other < number = ranked other number Less (sym before) in
        let above : number ≤ other = is.1 other against in omega arith

-- where all is finished and settled, no essential name was lost and each goal is fulfilled, nothing is against the end
pub nothing_against : (u : Universe) (db : List Record) → All (λ (entry : Record). ¬ IsUnfinished entry) db
    → All (IsSettled db) db → All (KeepsEssential (installed_of db)) u.starts → All (IsFulfilled u db) u.goals
    → HasNothingAgainst u db
nothing_against u db finished settled kept fulfilled = record {
  finished = finished;
  content = settled;
  essential = kept;
  goals = fulfilled;
}
