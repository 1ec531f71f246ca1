-- Which names are to be removed, the least of names with a property, the next of the removals, and the names that it leaves.
use Rattle.std.proofs.Common.{◌≡◌, ◌≢◌, ◌↔◌, ℕ, ◌<◌, Bool, true, false, not, ◌&&◌, List, Option, Some, None, MatchOption, get_or, length, map, take, bytes_eq, refl, sym, ap, subst, ◌∙◌, arith, ◌⊎◌}
use Rattle.std.specs.Prelude.{is_some}
use Rattle.std.specs.List.{All, Any, Contains, filter}
use Rattle.std.specs.declared.cmp.Ordering.TheVariants.{Less}
use Rattle.std.proofs.lemmas.Bool.{cases_order}
use Rattle.std.proofs.lemmas.List.{get_or-take, get_or_default, length-take-le}
use Rattle.std.proofs.lemmas.List.Elements.{All-contains}
use Rattle.std.proofs.lemmas.List.Kept.{AllPairs-filter}
use Rattle.rules.specs.Database.{Record, HasDistinctNames, HasRecord, IsInstalled, IsPresent}
use Rattle.rules.specs.ElementLaws.{Any-elim, Any-intro, Any-from_list_any, list_any-from_contains, Contains-filter, Contains-filter_intro, Contains-map, Contains-map_intro}
use Rattle.rules.specs.Legal.{Allowed, IsFirstFailing, IsFirstUnkept, RemoveAsks, remove_rules}
use Rattle.rules.specs.declared.step.Rule.{Rule}
use Rattle.rules.proofs.LegalLemmas.{allowed_where_none_fails}
use Rattle.rules.specs.Name.{IsAscending, name_cmp}
use Rattle.rules.specs.NamedLaws.{bytes_eq-true, bytes_eq-same}
use Rattle.rules.specs.Package.{Pkg}
use Rattle.rules.specs.Sound.{HasMember}
use Rattle.rules.specs.Run.{after}
use Rattle.rules.specs.State.{is_present_state}
use Rattle.rules.specs.Universe.{Universe, listed_for}
use Rattle.rules.specs.declared.step.Step.{Step}
use Rattle.rules.specs.declared.step.Step.TheVariants as step
use Rattle.rules.proofs.EndLemmas.{both_true}
use Rattle.plain.specs.Change.{HasNothingToRemove, IsToRemove}
use Rattle.plain.specs.Order.{IsNextRemoval, IsStillInstalled, MayGo}
use Rattle.plain.specs.Underway.{is_member, is_to_remove}
use Rattle.plain.proofs.RemovalLemmas.{deconfigure_leaves, removal_leaves}
use Rattle.plain.proofs.SortedLemmas.{not_below_itself, not_both}
use Rattle.fixed_order.specs.Names.{AreAllWith}
use Rattle.fixed_order.specs.Removal.{IsLeastOf, is_other, left_by}
use mathlib.Core.Logic.{inl, inr}

-- the test of a member's name
pub member_test : (members : List Pkg) (name : List ℕ) → (is_member members name ≡ true) ↔ HasMember name members
unfolding HasMember
member_test members name = (
  λ is. Any-elim (λ (m : Pkg). bytes_eq m.name name ≡ true) members (Any (λ (m : Pkg). m.name ≡ name) members)
      (λ m within same. Any-intro (λ (m : Pkg). m.name ≡ name) members m within (bytes_eq-true m.name name same))
      (Any-from_list_any (λ (m : Pkg). bytes_eq m.name name) members is),
  λ some. Any-elim (λ (m : Pkg). m.name ≡ name) members (is_member members name ≡ true)
      (λ m within same. list_any-from_contains (λ (m : Pkg). bytes_eq m.name name) members m within (bytes_eq-same m.name name same)) some,
)

-- two tests of one fact have one answer
pub same_answer : (P : Type 0) (one other : Bool) → (one ≡ true) ↔ P → (other ≡ true) ↔ P → one ≡ other
same_answer P true other is so = sym (so.1 (is.0 refl))
same_answer P false true is so = is.1 (so.0 refl)
same_answer P false false is so = refl

-- a name is among those that pass the test exactly where it is to be removed
pub leaving_each : (members : List Pkg) (db : List Record) (name : List ℕ)
    → Contains (map (λ (entry : Record). entry.name) (filter (is_to_remove members) db)) name ↔ IsToRemove members db name
leaving_each members db name = (
  λ within.
      let from = Contains-map (λ (entry : Record). entry.name) (filter (is_to_remove members) db) name within in
      let kept = Contains-filter (is_to_remove members) db from.0 from.1 in
      let both = both_true (is_present_state from.0.state) (not (is_member members from.0.name)) kept.1 in (
        Any-intro (λ (r : Record). (r.name ≡ name) × IsPresent r) db from.0 kept.0 (from.2, both.0),
        λ has. not_both_tests (is_member members from.0.name) both.1
            ((member_test members from.0.name).1 (subst (λ (n : List ℕ). HasMember n members) (sym from.2) has)),
      ),
  λ goes. Any-elim (λ (r : Record). (r.name ≡ name) × IsPresent r) db
      (Contains (map (λ (entry : Record). entry.name) (filter (is_to_remove members) db)) name)
      (λ entry there is. subst (Contains (map (λ (r : Record). r.name) (filter (is_to_remove members) db))) is.0
      (Contains-map_intro (λ (r : Record). r.name) (filter (is_to_remove members) db) entry
      (Contains-filter_intro (is_to_remove members) db entry there (both (is_present_state entry.state) (is_member members entry.name) is.1
      (λ member. goes.1 (subst (λ (n : List ℕ). HasMember n members) is.0 ((member_test members entry.name).0 member))))))) goes.0,
)
  where
    not_both_tests : (b : Bool) → not b ≡ true → b ≡ true → ⊥
    not_both_tests true is so = let e : false ≡ true = is in cc
    not_both_tests false is so = let e : false ≡ true = so in cc

    both : (b c : Bool) → b ≡ true → ¬ (c ≡ true) → (b && not c) ≡ true
    both b true is none = absurd (none refl)
    both b false is none = rw is refl

-- names of one property are those of another
pub all_with : (P Q : List ℕ → Type 0) (names : List (List ℕ)) → ((name : List ℕ) → P name ↔ Q name) → AreAllWith P names → AreAllWith Q names
all_with P Q names same are = record {
  ascending = are.ascending;
  each = λ name. ((λ within. (same name).0 ((are.each name).0 within)), (λ has. (are.each name).1 ((same name).1 has)));
}

-- the first of ascending names with a property is the least
pub least_at : (P : List ℕ → Type 0) (names : List (List ℕ)) (place : ℕ) (name : List ℕ) → IsAscending names → place < length names
    → name ≡ get_or names place name → All (λ n. ¬ P n) (take place names) → P name → IsLeastOf P names name
least_at P names place name rises within is refused has = record {
  within = (place, within, sym is);
  has = has;
  least = λ other there holds below. at other there.0 there.1 there.2 holds below (cases_order there.0 place);
}
  where
    at : (other : List ℕ) (i : ℕ) → i < length names → get_or names i other ≡ other → P other → name_cmp other name ≡ Less
        → (i ≡ place) ⊎ ((i < place) ⊎ (place < i)) → ⊥
    at other i inside same holds below (inl here) =
        let alike : other ≡ name = sym same ∙ ap (λ (k : ℕ). get_or names k other) here ∙ get_or_default names place other name within ∙ sym is in
        not_below_itself name (subst (λ n. name_cmp n name ≡ Less) alike below)
    at other i inside same holds below (inr (inl before)) =
        let short : length (take place names) ≡ place = length-take-le place names (omega (arith, within)) in
        All-contains (λ n. ¬ P n) (take place names) other refused (i, omega (arith, short), get_or-take place names i other before ∙ same) holds
    at other i inside same holds below (inr (inr behind)) =
        let rise = rises place i other behind inside in
        not_both other name below (subst (λ n. name_cmp n other ≡ Less) (get_or_default names place other name within ∙ sym is)
        (subst (λ n. name_cmp (get_or names place other) n ≡ Less) same rise))

-- The next of the removals

module _ (u : Universe) (members : List Pkg) (db : List Record) (names : List (List ℕ)) (are : AreAllWith (IsToRemove members db) names) where
  pub next_remove : (name : List ℕ) → IsLeastOf (λ n. Allowed u db (step.Remove n)) names name → IsNextRemoval u members db (step.Remove name)
  next_remove name least = record {
    has = ((are.each name).0 least.within, least.has);
    least = λ other may. least.least other ((are.each other).1 may.0) may.1;
  }

  none_may_go : All (λ n. ¬ Allowed u db (step.Remove n)) names → (other : List ℕ) → ¬ MayGo u members db other
  none_may_go refused other may = All-contains (λ n. ¬ Allowed u db (step.Remove n)) names other refused ((are.each other).1 may.0) may.1

  pub next_deconfigure : (name : List ℕ) → All (λ n. ¬ Allowed u db (step.Remove n)) names
      → IsLeastOf (λ n. HasRecord IsInstalled n db) names name → IsNextRemoval u members db (step.Deconfigure name)
  next_deconfigure name refused least = (
    none_may_go refused,
    record {
      has = ((are.each name).0 least.within, least.has);
      least = λ other still. least.least other ((are.each other).1 still.0) still.1;
    },
  )

  -- where none may go and none is installed, there is none
  pub nothing_left : ((name : List ℕ) → IsToRemove members db name
      → ((other : List ℕ) × MayGo u members db other) ⊎ ((other : List ℕ) × IsStillInstalled members db other))
      → All (λ n. ¬ Allowed u db (step.Remove n)) names → All (λ n. ¬ HasRecord IsInstalled n db) names → HasNothingToRemove members db
  nothing_left goes_on refused uninstalled name goes = elim (goes_on name goes) [
    | inl may ↦ none_may_go refused may.0 may.1
    | inr still ↦ All-contains (λ n. ¬ HasRecord IsInstalled n db) names still.0 uninstalled ((are.each still.0).1 still.1.0) still.1.1
  ]

-- a removal or a deconfigure unpacks no stanza, nor does a configure
pub removal_unlisted : (u : Universe) (members : List Pkg) (db : List Record) (taken : Step) → IsNextRemoval u members db taken
    → None ≡ listed_for u taken
removal_unlisted u members db (step.Unpack name version) next = absurd next
removal_unlisted u members db (step.Deconfigure name) next = refl
removal_unlisted u members db (step.Configure names) next = refl
removal_unlisted u members db (step.Remove name) next = refl
removal_unlisted u members db (step.Purge name) next = refl

-- Tests

-- a removal that fails no rule is allowed, and only such a one
pub removable : (u : Universe) (db : List Record) (name : List ℕ) (failing : Option Rule)
    → MatchOption failing (All (RemoveAsks db name) remove_rules) (λ rule. IsFirstUnkept (RemoveAsks db name) remove_rules rule)
    → (answer : Bool) → is_some failing ≡ not answer → (answer ≡ true) ↔ Allowed u db (step.Remove name)
unfolding Allowed IsFirstFailing
removable u db name None kept true is = ((λ so. kept), (λ allowed. refl))
removable u db name None kept false is = absurd (let e : false ≡ true = is in cc)
removable u db name (Some rule) unkept true is = absurd (let e : true ≡ false = is in cc)
removable u db name (Some rule) unkept false is = (
  (λ so. absurd (let e : false ≡ true = so in cc)),
  (λ allowed. absurd ((allowed_where_none_fails u db (step.Remove name)).0 allowed rule unkept)),
)

-- the test of a record that is present
pub to_remove_test : (members : List Pkg) (entry : Record) (answer : Bool) → is_present_state entry.state ≡ true
    → (answer ≡ true) ↔ HasMember entry.name members → not answer ≡ is_to_remove members entry
to_remove_test members entry answer present so =
    ap not (same_answer (HasMember entry.name members) answer (is_member members entry.name) so (member_test members entry.name))
    ∙ sym (rw present refl)

-- what passes the test is present
pub to_remove_present : (members : List Pkg) (entry : Record) → is_to_remove members entry ≡ true → IsPresent entry
to_remove_present members entry is = (both_true (is_present_state entry.state) (not (is_member members entry.name)) is).0

-- The names that are left

-- a name passes the test exactly where it is another one
other_test : (name other : List ℕ) → (is_other name other ≡ true) ↔ (other ≢ name)
other_test name other = at (bytes_eq other name) refl
  where
    at : (b : Bool) → bytes_eq other name ≡ b → (not b ≡ true) ↔ (other ≢ name)
    at true is = (
      (λ so. absurd (let e : false ≡ true = so in cc)),
      (λ differ. absurd (differ (bytes_eq-true other name is))),
    )
    at false is = (
      (λ so same. absurd (let e : true ≡ false = sym (bytes_eq-same other name same) ∙ is in cc)),
      (λ differ. refl),
    )

-- behind the next of the removals just the names that it leaves are to be removed
pub names_left : (u : Universe) (members : List Pkg) (db : List Record) (taken : Step) (names : List (List ℕ)) → HasDistinctNames db
    → IsNextRemoval u members db taken → AreAllWith (IsToRemove members db) names
    → AreAllWith (IsToRemove members (after u db taken)) (left_by taken names)
names_left u members db (step.Unpack name version) names distinct next are = absurd next
names_left u members db (step.Configure group) names distinct next are = absurd next
names_left u members db (step.Purge name) names distinct next are = absurd next
names_left u members db (step.Deconfigure name) names distinct next are =
    all_with (IsToRemove members db) (IsToRemove members (after u db (step.Deconfigure name))) names
    (λ other. let both = (deconfigure_leaves u members db name other distinct next.1.has.1).0 in (both.1, both.0)) are
names_left u members db (step.Remove name) names distinct next are = record {
  ascending = AllPairs-filter (λ earlier later. name_cmp earlier later ≡ Less) (is_other name) names are.ascending;
  each = λ other. (
    (λ within. let kept = Contains-filter (is_other name) names other within in
        (removal_leaves u members db name other).1 ((are.each other).0 kept.0, (other_test name other).0 kept.1)),
    (λ goes. let was = (removal_leaves u members db name other).0 goes in
        Contains-filter_intro (is_other name) names other ((are.each other).1 was.0) ((other_test name other).1 was.1)),
  );
}
