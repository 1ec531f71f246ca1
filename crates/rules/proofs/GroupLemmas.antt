-- Groups that pass the tests of a configuring: their union, their greatest part, and when none is proper.
use Rattle.std.proofs.Common.{◌&&◌, ◌≡◌, ◌≢◌, ℕ, zero, suc, ◌<◌, ◌≤◌, Bool, true, false, not, cond, List, [], ◌∷◌, ◌++◌, length, ◌⊎◌, refl, sym, ap, subst, ◌∙◌, arith, bytes_eq}
use Rattle.std.specs.Prelude.{◌↔◌}
use Rattle.std.specs.List.{All, Any, Contains, filter}
use Rattle.std.proofs.lemmas.List.Elements.{All-contains, All-weaker, All-contains_itself, Contains-append_left, Contains-append_right, Contains-append_cases, All-head}
use Rattle.rules.specs.Configure.{is_present_among, HasConfigurable, IsConfigurable, AreConfigurable, ArePreDependsInstalled, AreDependsInstalled, IsUnbroken, AreUnbroken, GroupPasses, members_of, others_of, IsGreatestPart, IsProperPart, IsIndivisible}
use Rattle.rules.specs.Database.{Record, HasRecord, ForMembers, pkg_of, installed_of}
use Rattle.rules.specs.Package.{Pkg, Atom, MatchesSome, MeetsClause}
use Rattle.rules.specs.Sound.{MeetsClauses}
use Rattle.rules.specs.State.{is_present_state, is_unconfigured_state, is_sound_flag}
use Rattle.rules.specs.Step.{is_among}
use Rattle.rules.proofs.Decided.{dec_IsTrue, dec_and, dec_implies, dec_text, dec_All, dec_like, all_or_some}
use Rattle.rules.proofs.DecidedPackages.{dec_MeetsClauses}
use Rattle.rules.proofs.DecidedSteps.{dec_HasRecord, dec_IsUnbroken}
use Rattle.rules.specs.NamedLaws.{bytes_eq-true, bytes_eq-same, is_among-contains, contains-is_among}
use Rattle.rules.specs.ElementLaws.{All-intro, Any-intro, Any-elim, Any-contains, Contains-head, Contains-cons, Contains-nil, Contains-map, Contains-map_intro, Contains-filter, Contains-filter_intro}
use mathlib.Core.Logic.{inl, inr}

-- what more members meet
pub MeetsClause-more : (members more : List Pkg) → ((member : Pkg) → Contains members member → Contains more member)
    → (clause : List Atom) → MeetsClause members clause → MeetsClause more clause
unfolding MeetsClause
MeetsClause-more members more within clause met = Any-elim (λ member. MatchesSome member clause) members
    (Any (λ member. MatchesSome member clause) more)
    (λ member there matches. Any-intro (λ other. MatchesSome other clause) more member (within member there) matches) met

pub MeetsClauses-more : (members more : List Pkg) → ((member : Pkg) → Contains members member → Contains more member)
    → (clauses : List (List Atom)) → MeetsClauses members clauses → MeetsClauses more clauses
unfolding MeetsClauses
MeetsClauses-more members more within clauses met =
    All-weaker (MeetsClause members) (MeetsClause more) (MeetsClause-more members more within) clauses met

-- both parts of a test that passes
and_parts : (x y : Bool) → (x && y) ≡ true → (x ≡ true) × (y ≡ true)
and_parts true y passes = (refl, passes)
and_parts false y passes = absurd (let e : false ≡ true = passes in cc)

-- the packages of more names are more packages
pub members_of-more : (db : List Record) (names more : List (List ℕ)) → ((name : List ℕ) → Contains names name → Contains more name)
    → (member : Pkg) → Contains (members_of names db) member → Contains (members_of more db) member
members_of-more db names more within member there =
    let from = Contains-map pkg_of (filter (is_present_among names) db) member there in
    let kept = Contains-filter (is_present_among names) db from.0 from.1 in
    let both = and_parts (is_present_state from.0.state) (is_among names from.0) kept.1 in
    let among : is_among more from.0 ≡ true = is_among-contains more from.0 (within from.0.name (contains-is_among names from.0 both.1)) in
    let passes : is_present_among more from.0 ≡ true = rw (both.0, among) refl in
    subst (Contains (members_of more db)) from.2
    (Contains-map_intro pkg_of (filter (is_present_among more) db) from.0 (Contains-filter_intro (is_present_among more) db from.0 kept.0 passes))

-- the members of a group and the installed packages, of more names
pub available-more : (db : List Record) (names more : List (List ℕ)) → ((name : List ℕ) → Contains names name → Contains more name)
    → (member : Pkg) → Contains (installed_of db ++ members_of names db) member
    → Contains (installed_of db ++ members_of more db) member
available-more db names more within member there = elim (Contains-append_cases (installed_of db) (members_of names db) member there) [
  | inl installed ↦ Contains-append_left (installed_of db) (members_of more db) member installed
  | inr grouped ↦ Contains-append_right (installed_of db) (members_of more db) member (members_of-more db names more within member grouped)
]

-- what the tests ask of one name of a group
pub record MemberPasses (db : List Record) (group : List (List ℕ)) (name : List ℕ) : Type 0 where
  pub configurable : HasRecord IsConfigurable name db
  pub pre_depends : All (λ member. member.name ≡ name → MeetsClauses (installed_of db) member.relations.pre_depends) db
  pub depends : All (λ member. member.name ≡ name → MeetsClauses (installed_of db ++ members_of group db) member.relations.depends) db
  pub unbroken : All (λ member. member.name ≡ name → IsUnbroken db member) db

-- what holds of the records of a group's names holds of those of each
pub ForMembers-each : (P : Record → Type 0) (group : List (List ℕ)) (db : List Record) → ForMembers P group db
    → (name : List ℕ) → Contains group name → All (λ member. member.name ≡ name → P member) db
ForMembers-each P group db holds name within = All-weaker (λ member. Contains group member.name → P member)
    (λ member. member.name ≡ name → P member)
    (λ member here same. here (subst (Contains group) (sym same) within)) db holds

pub ForMembers-from_each : (P : Record → Type 0) (group : List (List ℕ)) (db : List Record)
    → ((name : List ℕ) → Contains group name → All (λ member. member.name ≡ name → P member) db) → ForMembers P group db
ForMembers-from_each P group db each = All-intro (λ member. Contains group member.name → P member) db
    (λ member there within. All-contains (λ other. other.name ≡ member.name → P other) db member (each member.name within) there refl)

-- a group passes where each of its names does
pub GroupPasses-each : (db : List Record) (group : List (List ℕ)) → GroupPasses db group → (name : List ℕ) → Contains group name
    → MemberPasses db group name
unfolding AreConfigurable HasConfigurable ArePreDependsInstalled AreDependsInstalled AreUnbroken
GroupPasses-each db group passes name within = record {
  configurable = All-contains (λ n. HasRecord IsConfigurable n db) group name passes.configurable within;
  pre_depends = ForMembers-each (λ member. MeetsClauses (installed_of db) member.relations.pre_depends) group db passes.pre_depends name within;
  depends = ForMembers-each (λ member. MeetsClauses (installed_of db ++ members_of group db) member.relations.depends) group db passes.depends name within;
  unbroken = ForMembers-each (IsUnbroken db) group db passes.unbroken name within;
}

pub GroupPasses-from_each : (db : List Record) (group : List (List ℕ)) → ((name : List ℕ) → Contains group name → MemberPasses db group name)
    → GroupPasses db group
unfolding AreConfigurable HasConfigurable ArePreDependsInstalled AreDependsInstalled AreUnbroken
GroupPasses-from_each db group each = record {
  configurable = All-intro (λ n. HasRecord IsConfigurable n db) group (λ name within. (each name within).configurable);
  pre_depends = ForMembers-from_each (λ member. MeetsClauses (installed_of db) member.relations.pre_depends) group db (λ name within. (each name within).pre_depends);
  depends = ForMembers-from_each (λ member. MeetsClauses (installed_of db ++ members_of group db) member.relations.depends) group db (λ name within. (each name within).depends);
  unbroken = ForMembers-from_each (IsUnbroken db) group db (λ name within. (each name within).unbroken);
}

-- a name that passes in a group passes in one of more names
pub MemberPasses-more : (db : List Record) (names more : List (List ℕ)) → ((name : List ℕ) → Contains names name → Contains more name)
    → (name : List ℕ) → MemberPasses db names name → MemberPasses db more name
MemberPasses-more db names more within name passes = record {
  configurable = passes.configurable;
  pre_depends = passes.pre_depends;
  depends = All-weaker (λ member. member.name ≡ name → MeetsClauses (installed_of db ++ members_of names db) member.relations.depends)
      (λ member. member.name ≡ name → MeetsClauses (installed_of db ++ members_of more db) member.relations.depends)
      (λ member holds same. MeetsClauses-more (installed_of db ++ members_of names db) (installed_of db ++ members_of more db)
      (available-more db names more within) member.relations.depends (holds same)) db passes.depends;
  unbroken = passes.unbroken;
}

-- two groups that pass do so together
pub GroupPasses-append : (db : List Record) (names others : List (List ℕ)) → GroupPasses db names → GroupPasses db others
    → GroupPasses db (names ++ others)
GroupPasses-append db names others first second = GroupPasses-from_each db (names ++ others) (λ name within.
    elim (Contains-append_cases names others name within) [
      | inl here ↦ MemberPasses-more db names (names ++ others) (λ n there. Contains-append_left names others n there) name
          (GroupPasses-each db names first name here)
      | inr there ↦ MemberPasses-more db others (names ++ others) (λ n there. Contains-append_right names others n there) name
          (GroupPasses-each db others second name there)
    ])

-- of a record of a name, where it is decided of each record
unfoldable pub dec_named : (P : Record → Type 0) → ((member : Record) → Dec (P member)) → (name : List ℕ) (db : List Record)
    → Dec (All (λ member. member.name ≡ name → P member) db)
dec_named P each name db = dec_All (λ member. member.name ≡ name → P member)
    (λ member. dec_implies (dec_text member.name name) (each member)) db

unfoldable pub dec_MemberPasses : (db : List Record) (group : List (List ℕ)) (name : List ℕ) → Dec (MemberPasses db group name)
dec_MemberPasses db group name = dec_like
    (λ all. record { configurable = all.0.0; pre_depends = all.0.1; depends = all.1.0; unbroken = all.1.1 })
    (λ passes. ((passes.configurable, passes.pre_depends), (passes.depends, passes.unbroken)))
    (dec_and
    (dec_and
    (dec_HasRecord IsConfigurable (λ entry. dec_and (dec_IsTrue (is_unconfigured_state entry.state)) (dec_IsTrue (is_sound_flag entry.flag))) name db)
    (dec_named (λ member. MeetsClauses (installed_of db) member.relations.pre_depends)
    (λ member. dec_MeetsClauses (installed_of db) member.relations.pre_depends) name db))
    (dec_and
    (dec_named (λ member. MeetsClauses (installed_of db ++ members_of group db) member.relations.depends)
    (λ member. dec_MeetsClauses (installed_of db ++ members_of group db) member.relations.depends) name db)
    (dec_named (IsUnbroken db) (dec_IsUnbroken db) name db)))

-- the others of a group are names of it, and not this one
pub others_of-contains : (name : List ℕ) (names : List (List ℕ)) (other : List ℕ) → Contains (others_of name names) other
    → Contains names other × (other ≢ name)
others_of-contains name names other within =
    let kept = Contains-filter (λ n. not (bytes_eq n name)) names other within in
    (kept.0, λ same. absurd (let e : not true ≡ true = (let P : Bool → Type 0 = λ b. not b ≡ true in subst P (bytes_eq-same other name same) kept.1) in cc))

pub contains-others_of : (name : List ℕ) (names : List (List ℕ)) (other : List ℕ) → Contains names other → other ≢ name
    → Contains (others_of name names) other
contains-others_of name names other within differs = Contains-filter_intro (λ n. not (bytes_eq n name)) names other within
    (fails (bytes_eq other name) refl)
  where
    fails : (b : Bool) → bytes_eq other name ≡ b → not b ≡ true
    fails false is = refl
    fails true is = absurd (differs (bytes_eq-true other name is))

-- a list is no shorter than what a test keeps of it
pub length-filter_le : {X : Type 0} (p : X → Bool) (xs : List X) → length (filter p xs) ≤ length xs
length-filter_le p [] = omega arith
length-filter_le p (x ∷ xs) = at (p x) (length-filter_le p xs)
  where
    at : (b : Bool) → length (filter p xs) ≤ length xs → length (cond b (x ∷ filter p xs) (filter p xs)) ≤ suc (length xs)
    at true shorter = omega arith
    at false shorter = omega arith

-- and longer where an element fails
pub length-filter_lt : {X : Type 0} (p : X → Bool) (xs : List X) (x : X) → Contains xs x → p x ≡ false
    → length (filter p xs) < length xs
length-filter_lt p [] x within fails = absurd (Contains-nil x within)
length-filter_lt {X} p (y ∷ ys) x within fails = at (Contains-cons y ys x within) (p y) refl (length-filter_le p ys)
    (λ later. length-filter_lt p ys x later fails)
  where
    at : (y ≡ x) ⊎ Contains ys x → (b : Bool) → p y ≡ b → length (filter p ys) ≤ length ys
        → (Contains ys x → length (filter p ys) < length ys)
        → length (cond b (y ∷ filter p ys) (filter p ys)) < suc (length ys)
    at (inl same) true is shorter later = absurd (let e : true ≡ false = sym is ∙ ap p same ∙ fails in cc)
    at (inl same) false is shorter later = omega arith
    at (inr there) true is shorter later = let below = later there in omega arith
    at (inr there) false is shorter later = let below = later there in omega arith

-- a name that fails isn't in a part that passes
pub fails_in_part : (db : List Record) (names part : List (List ℕ)) → All (Contains names) part → GroupPasses db part
    → (name : List ℕ) → ¬ MemberPasses db names name → ¬ Contains part name
fails_in_part db names part within passes name fails there = fails (MemberPasses-more db part names
    (λ n inside. All-contains (Contains names) part n within inside) name (GroupPasses-each db part passes name there))

-- each group of at most this many names has a greatest part that passes: leave out a name that fails, and go on
unfoldable pub greatest_upto : (most : ℕ) (db : List Record) (names : List (List ℕ)) → length names ≤ most
    → (part : List (List ℕ)) × IsGreatestPart db names part
greatest_upto zero db names short = (names, whole)
  where
    empty : (name : List ℕ) → ¬ Contains names name
    empty name within = absurd (let h = within.1 in omega arith)

    whole : IsGreatestPart db names names
    whole = record {
      within = All-contains_itself names;
      passes = GroupPasses-from_each db names (λ name within. absurd (empty name within));
      greatest = λ other within passes. within;
    }
greatest_upto (suc most) db names short =
    at (all_or_some (MemberPasses db names) (dec_MemberPasses db names) names) (λ fewer below. greatest_upto most db fewer below)
  where
    fewer_names : (name : List ℕ) → Contains names name → length (others_of name names) ≤ most
    fewer_names name within = let fewer = length-filter_lt (λ other. not (bytes_eq other name)) names name within
        (ap not (bytes_eq-same name name refl)) in omega arith

    without : (name : List ℕ) → Contains names name → ¬ MemberPasses db names name
        → (part : List (List ℕ)) → IsGreatestPart db (others_of name names) part → IsGreatestPart db names part
    without name within fails part greatest = record {
      within = All-weaker (Contains (others_of name names)) (Contains names)
          (λ other there. (others_of-contains name names other there).0) part greatest.within;
      passes = greatest.passes;
      greatest = λ other inside passes. greatest.greatest other
          (All-intro (Contains (others_of name names)) other (λ n there. contains-others_of name names n
          (All-contains (Contains names) other n inside there)
          (λ same. fails_in_part db names other inside passes name fails (subst (Contains other) same there)))) passes;
    }

    at : All (MemberPasses db names) names ⊎ Any (λ name. ¬ MemberPasses db names name) names
        → ((fewer : List (List ℕ)) → length fewer ≤ most → (part : List (List ℕ)) × IsGreatestPart db fewer part)
        → (part : List (List ℕ)) × IsGreatestPart db names part
    at (inl all) go_on = (
      names,
      record {
        within = All-contains_itself names;
        passes = GroupPasses-from_each db names (λ name within. All-contains (MemberPasses db names) names name all within);
        greatest = λ other within passes. within;
      },
    )
    at (inr some) go_on =
        let within = Any-contains (λ name. ¬ MemberPasses db names name) names some in
        let greatest = go_on (others_of some.1 names) (fewer_names some.1 within) in
        (greatest.0, without some.1 within some.4 greatest.0 greatest.1)

-- each group has a greatest part that passes
unfoldable pub greatest_part : (db : List Record) (names : List (List ℕ)) → (part : List (List ℕ)) × IsGreatestPart db names part
greatest_part db names = greatest_upto (length names) db names (omega arith)

-- a list that has no element is empty
pub empty_from_none : {X : Type 0} (xs : List X) → ((x : X) → ¬ Contains xs x) → xs ≡ []
empty_from_none [] none = refl
empty_from_none (x ∷ xs) none = absurd (none x (Contains-head x xs))

-- an indivisible group: of the others of a member, no part passes but the empty one
pub others_empty : (db : List Record) (names : List (List ℕ)) → IsIndivisible db names
    → All (λ name. (part : List (List ℕ)) → IsGreatestPart db (others_of name names) part → part ≡ []) names
unfolding IsIndivisible
others_empty db names indivisible = All-intro _ names each
  where
    proper : (name : List ℕ) → Contains names name → (part : List (List ℕ)) → IsGreatestPart db (others_of name names) part
        → (first : List ℕ) → Contains part first → IsProperPart part names
    proper name within part greatest first there = record {
      some = let h = there.1 in omega arith;
      within = All-weaker (Contains (others_of name names)) (Contains names)
          (λ other inside. (others_of-contains name names other inside).0) part greatest.within;
      proper = Any-intro (λ n. ¬ Contains part n) names name within
          (λ inside. (others_of-contains name names name (All-contains (Contains (others_of name names)) part name greatest.within inside)).1 refl);
    }

    each : (name : List ℕ) → Contains names name → (part : List (List ℕ)) → IsGreatestPart db (others_of name names) part → part ≡ []
    each name within part greatest = empty_from_none part
        (λ first there. indivisible part (proper name within part greatest first there) greatest.passes)

-- a list with an element isn't within the empty list
pub none_of : (part : List (List ℕ)) → 0 < length part → All (Contains []) part → ⊥
none_of [] some all = absurd (omega arith)
none_of (first ∷ rest) some all = Contains-nil first (All-head (Contains []) first rest all)

pub indivisible_from_others : (db : List Record) (names : List (List ℕ))
    → All (λ name. (part : List (List ℕ)) → IsGreatestPart db (others_of name names) part → part ≡ []) names
    → IsIndivisible db names
unfolding IsIndivisible
indivisible_from_others db names empty part proper passes =
    Any-elim (λ name. ¬ Contains part name) names ⊥ missing proper.proper
  where
    missing : (name : List ℕ) → Contains names name → ¬ Contains part name → ⊥
    missing name within outside =
        let greatest = greatest_part db (others_of name names) in
        let nothing : greatest.0 ≡ [] = All-contains (λ n. (other : List (List ℕ)) → IsGreatestPart db (others_of n names) other → other ≡ [])
        names name empty within greatest.0 greatest.1 in
        let inside : All (Contains (others_of name names)) part = All-intro (Contains (others_of name names)) part
        (λ n there. contains-others_of name names n (All-contains (Contains names) part n proper.within there)
        (λ same. outside (subst (Contains part) same there))) in
        none_of part proper.some (let P : List (List ℕ) → Type 0 = λ other. All (Contains other) part in
        subst P nothing (greatest.1.greatest part inside passes))

-- whether a group is indivisible is decided
unfoldable pub dec_IsIndivisible : (db : List Record) (names : List (List ℕ)) → Dec (IsIndivisible db names)
dec_IsIndivisible db names = dec_like (indivisible_from_others db names) (others_empty db names)
    (dec_All (λ name. (part : List (List ℕ)) → IsGreatestPart db (others_of name names) part → part ≡ []) each names)
  where
    each : (name : List ℕ) → Dec ((part : List (List ℕ)) → IsGreatestPart db (others_of name names) part → part ≡ [])
    each name = at (greatest_part db (others_of name names))
      where
        at : (part : List (List ℕ)) × IsGreatestPart db (others_of name names) part
            → Dec ((part : List (List ℕ)) → IsGreatestPart db (others_of name names) part → part ≡ [])
        at ([], greatest) = yes (λ part other. empty_from_none part (λ n there.
            Contains-nil n (All-contains (Contains []) part n (greatest.greatest part other.within other.passes) there)))
        at (first ∷ rest, greatest) = no (λ empty. absurd (let e : first ∷ rest ≡ [] = empty (first ∷ rest) greatest in cc))

pub indivisible_by_others : (db : List Record) (names : List (List ℕ)) → IsIndivisible db names
    ↔ All (λ name. (part : List (List ℕ)) → IsGreatestPart db (others_of name names) part → part ≡ []) names
indivisible_by_others db names = (others_empty db names, indivisible_from_others db names)
