-- A group passes where each of its names is ready and supplied, and what that says of its greatest part.
use Rattle.std.proofs.Common.{◌≡◌, ℕ, ◌+◌, ◌<◌, ◌≤◌, true, List, [], ◌∷◌, ◌++◌, length, get_or, take, sym, ap, subst, arith, ◌∙◌}
use Rattle.std.specs.Prelude.{◌↔◌, ◌==◌}
use Rattle.std.specs.List.{All, Contains}
use Rattle.std.proofs.lemmas.List.Elements.{All-contains, All-weaker, All-contains_itself, Contains-append_left, Contains-append_right, Contains-append_cases}
use Rattle.std.proofs.lemmas.List.{nil_from_length, take_all, take_more}
use Rattle.std.proofs.lemmas.Bool.{eq-eqb, eqb-true}
use Rattle.rules.specs.Configure.{AreConfigurable, HasConfigurable, ArePreDependsInstalled, IsConfigurable, IsUnbroken, AreUnbroken, GroupPasses, members_of}
use Rattle.rules.specs.Database.{Record, HasRecord, ForMembers, installed_of}
use Rattle.rules.specs.ElementLaws.{All-intro, Contains-cons, Contains-head, Contains-nil}
use Rattle.rules.specs.Sound.{MeetsClauses}
use Rattle.rules.proofs.GroupLemmas.{MemberPasses, MemberPasses-more, ForMembers-each, GroupPasses-each, GroupPasses-from_each}
use Rattle.plancheck_group.specs.Part.{AreSupplied, HasWhatPasses, IsNarrowed, IsPartWith, IsReady, IsSupplied}
use mathlib.Core.Logic.{inl, inr}

-- the name of a list of one is in it
pub alone : (name : List ℕ) → Contains (name ∷ []) name
alone name = Contains-head name []

-- a name of a list of one is that one
pub only : (name other : List ℕ) → Contains (name ∷ []) other → name ≡ other
only name other within = elim (Contains-cons name [] other within)
    [ inl same ↦ same | inr none ↦ absurd (Contains-nil other none) ]

-- what holds of each record of a name holds of those of a list of it alone
pub of_alone : (P : Record → Type 0) (name : List ℕ) (db : List Record) → All (λ member. member.name ≡ name → P member) db
    → ForMembers P (name ∷ []) db
of_alone P name db holds = All-weaker (λ member. member.name ≡ name → P member) (λ member. Contains (name ∷ []) member.name → P member)
    (λ member here within. here (sym (only name member.name within))) db holds

-- a name that passes in a group is ready, and supplied there
pub ready_from : (db : List Record) (group : List (List ℕ)) (name : List ℕ) → MemberPasses db group name → IsReady db name
unfolding IsReady AreConfigurable HasConfigurable ArePreDependsInstalled AreUnbroken
ready_from db group name passes = (
  All-intro (λ n. HasRecord IsConfigurable n db) (name ∷ []) (λ n within.
      let P : List ℕ → Type 0 = λ m. HasRecord IsConfigurable m db in subst P (only name n within) passes.configurable),
  of_alone (λ member. MeetsClauses (installed_of db) member.relations.pre_depends) name db passes.pre_depends,
  of_alone (IsUnbroken db) name db passes.unbroken,
)

pub supplied_from : (db : List Record) (group : List (List ℕ)) (name : List ℕ) → MemberPasses db group name → IsSupplied db group name
unfolding AreSupplied
supplied_from db group name passes =
    of_alone (λ member. MeetsClauses (installed_of db ++ members_of group db) member.relations.depends) name db passes.depends

-- a name that is ready, and supplied in a group, passes in it
pub passes_from : (db : List Record) (group : List (List ℕ)) (name : List ℕ) → IsReady db name → IsSupplied db group name
    → MemberPasses db group name
unfolding IsReady AreSupplied AreConfigurable HasConfigurable ArePreDependsInstalled AreUnbroken
passes_from db group name ready supplied = record {
  configurable = All-contains (λ n. HasRecord IsConfigurable n db) (name ∷ []) name ready.0 (alone name);
  pre_depends = ForMembers-each (λ member. MeetsClauses (installed_of db) member.relations.pre_depends) (name ∷ []) db ready.1 name (alone name);
  depends = ForMembers-each (λ member. MeetsClauses (installed_of db ++ members_of group db) member.relations.depends) (name ∷ []) db supplied name (alone name);
  unbroken = ForMembers-each (IsUnbroken db) (name ∷ []) db ready.2 name (alone name);
}

-- each name of a group that passes is ready
pub ready_in : (db : List Record) (group : List (List ℕ)) → GroupPasses db group → (name : List ℕ) → Contains group name → IsReady db name
ready_in db group passes name within = ready_from db group name (GroupPasses-each db group passes name within)

-- a group passes where each of its names is ready and supplied
pub group_from : (db : List Record) (group : List (List ℕ)) → All (IsReady db) group → All (IsSupplied db group) group → GroupPasses db group
group_from db group ready supplied = GroupPasses-from_each db group (λ name within. passes_from db group name
    (All-contains (IsReady db) group name ready within) (All-contains (IsSupplied db group) group name supplied within))

-- all names of a part with a property have it
pub part_has : (P : List ℕ → Type 0) (names part : List (List ℕ)) → IsPartWith P names part → All P part
part_has P names part is = All-intro P part (λ name within. ((is name).0 within).1)

-- a part with one more name of the group, which has the property
pub part_push : (P : List ℕ → Type 0) (names part : List (List ℕ)) (last : List ℕ) → P last → IsPartWith P names part
    → IsPartWith P (names ++ last ∷ []) (part ++ last ∷ [])
part_push P names part last has is name = (down, up)
  where
    down : Contains (part ++ last ∷ []) name → Contains (names ++ last ∷ []) name × P name
    down within = elim (Contains-append_cases part (last ∷ []) name within) [
      | inl here ↦ (Contains-append_left names (last ∷ []) name ((is name).0 here).0, ((is name).0 here).1)
      | inr there ↦ (Contains-append_right names (last ∷ []) name there, subst P (only last name there) has)
    ]

    up : Contains (names ++ last ∷ []) name × P name → Contains (part ++ last ∷ []) name
    up both = elim (Contains-append_cases names (last ∷ []) name both.0) [
      | inl here ↦ Contains-append_left part (last ∷ []) name ((is name).1 (here, both.1))
      | inr there ↦ Contains-append_right part (last ∷ []) name there
    ]

-- a part with one more name of the group, which lacks it
pub part_skip : (P : List ℕ → Type 0) (names part : List (List ℕ)) (last : List ℕ) → ¬ P last → IsPartWith P names part
    → IsPartWith P (names ++ last ∷ []) part
part_skip P names part last lacks is name = (
  λ within. (Contains-append_left names (last ∷ []) name ((is name).0 within).0, ((is name).0 within).1),
  λ both. elim (Contains-append_cases names (last ∷ []) name both.0) [
    | inl here ↦ (is name).1 (here, both.1)
    | inr there ↦ absurd (lacks (subst P (sym (only last name there)) both.1))
  ],
)

-- a copy of a name that was added to a part is that name
pub part_pushed : (P : List ℕ → Type 0) (names part more : List (List ℕ)) (last copied : List ℕ) → more ≡ part ++ copied ∷ []
    → copied ≡ last → P last → IsPartWith P names part → IsPartWith P (names ++ last ∷ []) more
part_pushed P names part more last copied pushed same has is =
    let Q : List (List ℕ) → Type 0 = λ group. IsPartWith P (names ++ last ∷ []) group in
    let R : List ℕ → Type 0 = λ n. Q (part ++ n ∷ []) in
    subst Q (sym pushed) (subst R (sym same) (part_push P names part last has is))

-- all of a group have what passes in it
pub whole_has : (db : List Record) (names : List (List ℕ)) → HasWhatPasses db names names
whole_has db names = record { within = All-contains_itself names; greatest = λ other within passes. within }

-- what a part has of a group that has what passes of another, it has of that one
pub has_through : (db : List Record) (names group part : List (List ℕ)) → HasWhatPasses db names group → HasWhatPasses db group part
    → HasWhatPasses db names part
has_through db names group part first second = record {
  within = All-weaker (Contains group) (Contains names) (λ name there. All-contains (Contains names) group name first.within there) part second.within;
  greatest = λ other within passes. second.greatest other (first.greatest other within passes) passes;
}

-- the ready names have what passes
pub ready_has : (db : List Record) (names ready : List (List ℕ)) → IsPartWith (IsReady db) names ready → HasWhatPasses db names ready
ready_has db names ready is = record {
  within = All-intro (Contains names) ready (λ name there. ((is name).0 there).0);
  greatest = λ other within passes. All-intro (Contains ready) other (λ name there.
      (is name).1 (All-contains (Contains names) other name within there, ready_in db other passes name there));
}

-- all names are narrowed to themselves
pub whole_narrowed : (db : List Record) (names : List (List ℕ)) → IsNarrowed db names names
whole_narrowed db names = record { has = whole_has db names; no_longer = omega arith }

-- a name that isn't supplied in a group is in no part of it that passes
pub unsupplied_in : (db : List Record) (group other : List (List ℕ)) (name : List ℕ) → ¬ IsSupplied db group name
    → All (Contains group) other → GroupPasses db other → ¬ Contains other name
unsupplied_in db group other name lacks within passes there = lacks (supplied_from db group name (MemberPasses-more db other group
    (λ n inside. All-contains (Contains group) other n within inside) name (GroupPasses-each db other passes name there)))

-- what holds of the names before a place and the one there holds of those before the next
pub up_to_next : (P : List (List ℕ) → Type 0) (names : List (List ℕ)) (place : ℕ) (name : List ℕ) → place < length names
    → name ≡ get_or names place name → P (take place names ++ name ∷ []) → P (take (place + 1) names)
up_to_next P names place name within is holds =
    let Q : List ℕ → Type 0 = λ last. P (take place names ++ last ∷ []) in
    subst P (sym (take_more names place name within)) (subst Q is holds)

-- what holds of the names before the end holds of all
pub up_to_end : (P : List (List ℕ) → Type 0) (names : List (List ℕ)) (place : ℕ) → length names ≤ place → P (take place names) → P names
up_to_end P names place past holds = subst P (take_all place names past) holds

-- a list is empty where its length is 0, as a test
pub empty_test : {X : Type 0} (xs : List X) (len : ℕ) → len ≡ length xs → (len == 0) ≡ true ↔ (xs ≡ [])
empty_test {X} xs len is = (
  λ passes. nil_from_length xs (sym is ∙ eqb-true len 0 passes),
  λ empty. eq-eqb len 0 (is ∙ ap (λ (ys : List X). length ys) empty),
)
