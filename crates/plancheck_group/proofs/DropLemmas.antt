-- What is left of a group while names are dropped that are lacking.
use Rattle.std.proofs.Common.{◌≡◌, ◌≢◌, ℕ, ◌+◌, ◌<◌, ◌≤◌, Bool, true, false, not, refl, Bor, List, [], ◌∷◌, ◌++◌, length, ap, sym, subst, arith, ◌∙◌}
use Rattle.std.specs.Prelude.{◌↔◌, ◌==◌}
use Rattle.std.specs.List.{All, Any, Contains}
use Rattle.std.proofs.lemmas.List.Elements.{All-contains, All-push, All-weaker}
use Rattle.std.proofs.lemmas.Bool.{eq-eqb, eqb-true}
use Rattle.std.proofs.lemmas.List.{length-append}
use Rattle.rules.proofs.GroupLemmas.{ForMembers-each, MemberPasses-more, GroupPasses-each, GroupPasses-from_each, contains-others_of, empty_from_none, greatest_part, others_of-contains}
use Rattle.rules.specs.Configure.{GroupPasses, IsGreatestPart, members_of, others_of}
use Rattle.rules.specs.Database.{Record, installed_of}
use Rattle.rules.specs.Sound.{MeetsClauses}
use Rattle.rules.specs.ElementLaws.{All-intro, Any-elim, Any-intro, Contains-nil}
use Rattle.plancheck_group.specs.Part.{AreSupplied, HasNoPartWithout, HasWhatPasses, HaveSameNames, IsDroppedTo, IsLookedAt, IsNarrowed, IsPartWith, IsReady, IsSupplied, IsSuppliedPart, IsWalked, NothingWithout}
use Rattle.plancheck_group.proofs.PartLemmas.{alone, group_from, has_through, of_alone, ready_has, unsupplied_in, whole_narrowed}

-- what holds of no names
pub of_none : (P : List ℕ → Type 0) → All P []
of_none P = All-intro P [] (λ n there. absurd (Contains-nil n there))

-- a list with one more element has one more
pub one_longer : {X : Type 0} (xs ys : List X) (x : X) → ys ≡ xs ++ x ∷ [] → length ys ≡ length xs + 1
one_longer {X} xs ys x pushed = ap (λ (zs : List X). length zs) pushed ∙ length-append xs (x ∷ [])

-- a test whose opposite fails passes
pub not_not : (b : Bool) → not b ≡ false → b ≡ true
not_not true none = refl
not_not false none = absurd (let e : true ≡ false = none in cc)

-- a list of which a test says that it isn't empty has some, and else none
pub some_left : {X : Type 0} (xs : List X) (len : ℕ) (answer : Bool) → len ≡ length xs → answer ≡ (len == 0) → answer ≡ false → 0 < length xs
some_left [] len answer is says none = absurd (let e : true ≡ false = sym (eq-eqb len 0 is) ∙ sym says ∙ none in cc)
some_left (x ∷ xs) len answer is says none = omega arith

pub none_left : {X : Type 0} (xs : List X) (len : ℕ) (answer : Bool) → len ≡ length xs → answer ≡ (len == 0) → answer ≡ true → length xs ≡ 0
none_left xs len answer is says all = sym is ∙ eqb-true len 0 (sym says ∙ all)

-- where a name that went is a lost one and isn't left, one of the lost ones isn't
pub lost_is_gone : (lost left : List (List ℕ)) (gone : List (Bor (List ℕ)))
    → Any (λ name. Contains lost name.now × (¬ Contains left name.now)) gone → Any (λ n. ¬ Contains left n) lost
lost_is_gone lost left gone some = Any-elim (λ name. Contains lost name.now × (¬ Contains left name.now)) gone (Any (λ n. ¬ Contains left n) lost)
    (λ name within both. Any-intro (λ n. ¬ Contains left n) lost name.now both.0 both.1) some

-- the Depends of a name's package are met where those of each record of the name are
pub supplied_alone : (db : List Record) (part : List (List ℕ)) (name : List ℕ)
    → All (λ member. member.name ≡ name → MeetsClauses (installed_of db ++ members_of part db) member.relations.depends) db ↔ IsSupplied db part name
unfolding AreSupplied
supplied_alone db part name =
    let P : Record → Type 0 = λ member. MeetsClauses (installed_of db ++ members_of part db) member.relations.depends in (
      λ all. of_alone P name db all,
      λ supplied. ForMembers-each P (name ∷ []) db supplied name (alone name),
    )

-- a part without a name that is in no part of it that passes still has what passes
pub has_less : (db : List Record) (part less : List (List ℕ)) (name : List ℕ) → IsPartWith (λ other. other ≢ name) part less
    → ((other : List (List ℕ)) → All (Contains part) other → GroupPasses db other → ¬ Contains other name) → HasWhatPasses db part less
has_less db part less name is fails = record {
  within = All-intro (Contains part) less (λ n there. ((is n).0 there).0);
  greatest = λ other within passes. All-intro (Contains less) other (λ n there.
      (is n).1 (All-contains (Contains part) other n within there, λ same. fails other within passes (subst (Contains other) same there)));
}

-- a part without a name that isn't supplied is narrowed
pub narrowed_less : (db : List Record) (part less : List (List ℕ)) (name : List ℕ) → IsPartWith (λ other. other ≢ name) part less
    → length less ≤ length part → ¬ IsSupplied db part name → IsNarrowed db part less
narrowed_less db part less name is short lacks = record {
  has = has_less db part less name is (λ other within passes. unsupplied_in db part other name lacks within passes);
  no_longer = short;
}

-- a part narrowed twice is narrowed
pub narrowed_through : (db : List Record) (names group part : List (List ℕ)) → IsNarrowed db names group → IsNarrowed db group part
    → IsNarrowed db names part
narrowed_through db names group part first second = record {
  has = has_through db names group part first.has second.has;
  no_longer = let one = first.no_longer in let two = second.no_longer in omega arith;
}

-- the part is narrowed to what it is
pub narrowed_same : (db : List Record) (names part : List (List ℕ)) → part ≡ names → IsNarrowed db names part
narrowed_same db names part same = subst (IsNarrowed db names) (sym same) (whole_narrowed db names)

-- Walks

-- at first a walk has left all
pub walk_begins : (db : List Record) (names : List (List ℕ)) → IsWalked db [] names names 0
walk_begins db names = record { narrowed = whole_narrowed db names; shorter = omega arith; settled = λ none. of_none (λ name. Contains names name → IsSupplied db names name) }

-- one name more
pub walk_on : (db : List Record) (names before part left : List (List ℕ)) (name : List ℕ) (count next : ℕ) → IsWalked db names before part count
    → IsLookedAt db name part left count next → IsWalked db (names ++ name ∷ []) before left next
walk_on db names before part left name count next walked looked = record {
  narrowed = narrowed_through db before part left walked.narrowed looked.dropped.narrowed;
  shorter = let so_far = walked.shorter in let more = looked.dropped.shorter in omega arith;
  settled = λ none. all_settled (omega (arith, none, looked.grown)) (omega (arith, none, looked.grown));
}
  where
    all_settled : next ≡ count → count ≡ 0 → All (λ n. Contains left n → IsSupplied db left n) (names ++ name ∷ [])
    all_settled same none =
        let both = looked.settled same in
        let P : List (List ℕ) → List ℕ → Type 0 = λ group n. Contains group n → IsSupplied db group n in
        All-push (P left) names name (subst (λ (group : List (List ℕ)). All (P group) names) (sym both.0) (walked.settled none)) both.1

-- Drops after drops

pub drops_begin : (db : List Record) (names : List (List ℕ)) (count : ℕ) → IsDroppedTo db names names count count
drops_begin db names count = record { narrowed = whole_narrowed db names; shorter = omega arith }

pub drops_through : (db : List Record) (before part left : List (List ℕ)) (first second third : ℕ) → IsDroppedTo db before part first second
    → IsDroppedTo db part left second third → IsDroppedTo db before left first third
drops_through db before part left first second third one two = record {
  narrowed = narrowed_through db before part left one.narrowed two.narrowed;
  shorter = let a = one.shorter in let b = two.shorter in omega arith;
}

-- a name that isn't lacking is looked at
pub looked_kept : (db : List Record) (name : List ℕ) (before left : List (List ℕ)) (count : ℕ) → left ≡ before
    → (Contains left name → IsSupplied db left name) → IsLookedAt db name before left count count
looked_kept db name before left count same supplied = record {
  dropped = subst (λ (group : List (List ℕ)). IsDroppedTo db before group count count) (sym same) (drops_begin db before count);
  grown = omega arith;
  settled = λ _. (same, supplied);
}

-- a name that is dropped is looked at
pub looked_dropped : (db : List Record) (name : List ℕ) (before left : List (List ℕ)) (count next : ℕ) → IsNarrowed db before left
    → length left < length before → next ≡ count + 1 → IsLookedAt db name before left count next
looked_dropped db name before left count next narrowed fewer counted = record {
  dropped = record { narrowed = narrowed; shorter = omega arith };
  grown = omega arith;
  settled = λ none. absurd (omega arith);
}

-- where a walk over names that have all of a part drops nothing, what is left is supplied
pub settled_part : (db : List Record) (names whole part : List (List ℕ)) → All (Contains names) whole → IsNarrowed db whole part
    → All (λ n. Contains part n → IsSupplied db part n) names → IsSuppliedPart db whole part
settled_part db names whole part within narrowed settled = record {
  has = narrowed.has;
  supplied = All-intro (IsSupplied db part) part (λ n there. All-contains (λ m. Contains part m → IsSupplied db part m) names n settled
      (All-contains (Contains names) whole n within (All-contains (Contains whole) part n narrowed.has.within there)) there);
}

-- The greatest part

-- of what is left and was ready before one more name is looked at
pub ready_more : (db : List Record) (names part left : List (List ℕ)) (name : List ℕ) → HasWhatPasses db part left
    → (Contains left name → IsReady db name) → All (λ n. Contains part n → IsReady db n) names
    → All (λ n. Contains left n → IsReady db n) (names ++ name ∷ [])
ready_more db names part left name has ready so_far = All-push (λ n. Contains left n → IsReady db n) names name
    (All-weaker (λ n. Contains part n → IsReady db n) (λ n. Contains left n → IsReady db n)
    (λ n was there. was (All-contains (Contains part) left n has.within there)) names so_far) ready

-- what is left of a list's names is among them
pub within_same : (part names : List (List ℕ)) → HaveSameNames part names → All (Contains names) part
within_same part names same = All-intro (Contains names) part (λ n there. (same n).0 there)

-- a set of a list's names has what passes of them
pub same_has : (db : List Record) (names part : List (List ℕ)) → HaveSameNames part names → HasWhatPasses db names part
same_has db names part same = record {
  within = within_same part names same;
  greatest = λ other within passes. All-weaker (Contains names) (Contains part) (λ n there. (same n).1 there) other within;
}

-- names with the same names as a part that is the greatest are the greatest
pub greatest_alike : (db : List Record) (names part left : List (List ℕ)) → IsPartWith (Contains part) names left → HasWhatPasses db names part
    → All (IsReady db) part → All (IsSupplied db part) part → IsGreatestPart db names left
greatest_alike db names part left is has ready supplied = record {
  within = All-intro (Contains names) left (λ n there. ((is n).0 there).0);
  passes = GroupPasses-from_each db left (λ n there. MemberPasses-more db part left
      (λ m inside. (is m).1 (All-contains (Contains names) part m has.within inside, inside)) n
      (GroupPasses-each db part (group_from db part ready supplied) n ((is n).0 there).1));
  greatest = λ other within passes. All-intro (Contains left) other (λ n there.
      (is n).1 (All-contains (Contains names) other n within there, All-contains (Contains part) other n (has.greatest other within passes) there));
}

-- what is left of what is left of names is among them
pub within_left : (db : List Record) (names whole part left : List (List ℕ)) → All (Contains names) whole → HasWhatPasses db whole part
    → HasWhatPasses db part left → All (Contains names) left
within_left db names whole part left within first second = All-intro (Contains names) left (λ n there.
    All-contains (Contains names) whole n within (All-contains (Contains whole) part n first.within (All-contains (Contains part) left n second.within there)))

-- so they are after what is supplied was kept, then what is ready, and then what is supplied
pub greatest_left : (db : List Record) (names whole supplied ready part left : List (List ℕ)) → HaveSameNames whole names
    → IsSuppliedPart db whole supplied → HasWhatPasses db supplied ready → All (λ n. Contains ready n → IsReady db n) names
    → IsSuppliedPart db ready part → IsPartWith (Contains part) names left → IsGreatestPart db names left
greatest_left db names whole supplied ready part left same first second are_ready third is =
    let to_ready : HasWhatPasses db names ready = has_through db names supplied ready
    (has_through db names whole supplied (same_has db names whole same) first.has) second in
    let has : HasWhatPasses db names part = has_through db names ready part to_ready third.has in
    greatest_alike db names part left is has
    (All-intro (IsReady db) part (λ n there. All-contains (λ m. Contains ready m → IsReady db m) names n are_ready
    (All-contains (Contains names) part n has.within there) (All-contains (Contains ready) part n third.has.within there)))
    third.supplied

-- Nothing passes without a name

-- a set of names without one of them has the others
pub others_same : (names whole others : List (List ℕ)) (name : List ℕ) → HaveSameNames whole names → IsPartWith (λ other. other ≢ name) whole others
    → IsPartWith (λ other. other ≢ name) names others
others_same names whole others name same is other = (
  λ there. ((same other).0 ((is other).0 there).0, ((is other).0 there).1),
  λ both. (is other).1 ((same other).1 both.0, both.1),
)

-- what is left of the others is among the names
pub within_others : (db : List Record) (names others left : List (List ℕ)) (name : List ℕ) → IsPartWith (λ other. other ≢ name) names others
    → HasWhatPasses db others left → All (Contains names) left
within_others db names others left name is has = All-intro (Contains names) left (λ n there.
    ((is n).0 (All-contains (Contains others) left n has.within there)).0)

-- a part without the name is among the others
among_others : (ready others other : List (List ℕ)) (name : List ℕ) → IsPartWith (λ other. other ≢ name) ready others
    → All (Contains ready) other → ¬ Contains other name → All (Contains others) other
among_others ready others other name is inside without = All-intro (Contains others) other (λ n there.
    (is n).1 (All-contains (Contains ready) other n inside there, λ same. without (subst (Contains other) same there)))

-- where a lost name isn't supplied in the others of a name, nothing passes without that name either
pub nothing_where_stranded : (db : List Record) (ready others lost : List (List ℕ)) (name : List ℕ) → IsPartWith (λ other. other ≢ name) ready others
    → All (NothingWithout db ready) lost → Any (λ n. ¬ IsSupplied db others n) lost → NothingWithout db ready name
nothing_where_stranded db ready others lost name is all some part within passes lacks = Any-elim (λ n. ¬ IsSupplied db others n) lost (part ≡ [])
    (λ n there stranded. All-contains (NothingWithout db ready) lost n all there part within passes
    (unsupplied_in db others part n stranded (among_others ready others part name is within lacks) passes)) some

-- where a lost name that asks is stranded, one of the lost names isn't supplied
pub stranded_lost : (db : List Record) (lost others : List (List ℕ)) (asking : List (Bor (List ℕ)))
    → Any (λ name. Contains lost name.now × (¬ IsSupplied db others name.now)) asking → Any (λ n. ¬ IsSupplied db others n) lost
stranded_lost db lost others asking some = Any-elim (λ name. Contains lost name.now × (¬ IsSupplied db others name.now)) asking
    (Any (λ n. ¬ IsSupplied db others n) lost) (λ name within both. Any-intro (λ n. ¬ IsSupplied db others n) lost name.now both.0 both.1) some

-- where a lost name is gone from what is left of the others of a name, nothing passes without that name either
pub nothing_where_lost : (db : List Record) (ready others left lost : List (List ℕ)) (name : List ℕ) → IsPartWith (λ other. other ≢ name) ready others
    → HasWhatPasses db others left → All (NothingWithout db ready) lost → Any (λ n. ¬ Contains left n) lost → NothingWithout db ready name
nothing_where_lost db ready others left lost name is has all gone part within passes lacks = Any-elim (λ n. ¬ Contains left n) lost (part ≡ [])
    (λ n there missing. All-contains (NothingWithout db ready) lost n all there part within passes
    (λ inside. missing (All-contains (Contains left) part n (has.greatest part (among_others ready others part name is within lacks) passes) inside))) gone

-- where nothing is left of the others of a name nothing passes without it, and only there
pub nothing_where_empty : (db : List Record) (ready others left : List (List ℕ)) (name : List ℕ) → All (IsReady db) ready
    → IsPartWith (λ other. other ≢ name) ready others → HasWhatPasses db others left → All (IsSupplied db left) left
    → (left ≡ []) ↔ NothingWithout db ready name
nothing_where_empty db ready others left name are_ready is has supplied = (
  λ empty part within passes lacks. empty_from_none part (λ n there. Contains-nil n
      (let P : List (List ℕ) → Type 0 = λ group. Contains group n in
      subst P empty (All-contains (Contains left) part n (has.greatest part (among_others ready others part name is within lacks) passes) there))),
  λ nothing. nothing left (All-intro (Contains ready) left (λ n there. (from n there).0))
      (group_from db left (All-intro (IsReady db) left (λ n there. All-contains (IsReady db) ready n are_ready (from n there).0)) supplied)
      (λ there. (from name there).1 refl),
)
  where
    from : (n : List ℕ) → Contains left n → Contains ready n × (n ≢ name)
    from n there = (is n).0 (All-contains (Contains others) left n has.within there)

-- the ready names stand for all
ready_for_all : (db : List Record) (names ready : List (List ℕ)) (name : List ℕ) → IsPartWith (IsReady db) names ready
    → NothingWithout db ready name → HasNoPartWithout db names name
ready_for_all db names ready name is nothing part greatest = nothing part
    ((ready_has db names ready is).greatest part (All-intro (Contains names) part (λ n there. (at n there).0)) greatest.passes) greatest.passes
    (λ there. (at name there).1 refl)
  where
    at : (n : List ℕ) → Contains part n → Contains names n × (n ≢ name)
    at n there = others_of-contains name names n (All-contains (Contains (others_of name names)) part n greatest.within there)

all_for_ready : (db : List Record) (names ready : List (List ℕ)) (name : List ℕ) → IsPartWith (IsReady db) names ready
    → HasNoPartWithout db names name → NothingWithout db ready name
all_for_ready db names ready name is none part within passes lacks =
    let greatest = greatest_part db (others_of name names) in
    let empty : greatest.0 ≡ [] = none greatest.0 greatest.1 in
    let P : List ℕ → List (List ℕ) → Type 0 = λ n group. Contains group n in
    empty_from_none part (λ n there. Contains-nil n (subst (P n) empty (All-contains (Contains greatest.0) part n
    (greatest.1.greatest part (All-intro (Contains (others_of name names)) part (λ m inside.
    contains-others_of name names m ((is m).0 (All-contains (Contains ready) part m within inside)).0
    (λ same. lacks (subst (Contains part) same inside)))) passes) there)))

-- without each of these names nothing passes where the greatest part of the others is empty
pub nothing_without_each : (db : List Record) (names ready : List (List ℕ)) → IsPartWith (IsReady db) names ready
    → All (NothingWithout db ready) names ↔ All (HasNoPartWithout db names) names
nothing_without_each db names ready is = (
  λ all. All-weaker (NothingWithout db ready) (HasNoPartWithout db names) (λ name nothing. ready_for_all db names ready name is nothing) names all,
  λ all. All-weaker (HasNoPartWithout db names) (NothingWithout db ready) (λ name none. all_for_ready db names ready name is none) names all,
)
