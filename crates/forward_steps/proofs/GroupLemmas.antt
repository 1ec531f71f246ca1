-- Groups that are narrowed until no part of them passes, and their order.
use Rattle.std.proofs.Common.{◌≡◌, ℕ, ◌<◌, true, List, [], ◌∷◌, ◌++◌, length, refl, sym, ap, subst, ◌∙◌, arith}
use Rattle.std.specs.Cmp.{eq_by_cmp_equiv}
use Rattle.std.specs.Cmp.Lexicographic.{nat_list_cmp_total}
use Rattle.std.specs.List.{All, Contains, dedup}
use Rattle.std.specs.List.Sorted.{IsPermutation, IsSorted}
use Rattle.std.specs.Ordering.{eq_by_cmp}
use Rattle.std.proofs.lemmas.List.Elements.{All-contains, All-push, All-weaker}
use Rattle.std.proofs.lemmas.List.Kept.{Contains-dedup, Contains-from_dedup, IsStrictlySortedBy-dedup}
use Rattle.std.proofs.lemmas.List.Sorted.{Contains-permutation, IsPermutation-sym}
use Rattle.std.proofs.lemmas.Map.Text.{is_eq-slice_cmp}
use Rattle.rules.specs.Configure.{GroupPasses, IsGreatestPart, IsIndivisible}
use Rattle.rules.specs.Database.{Record}
use Rattle.rules.specs.ElementLaws.{All-intro, Any-elim, Contains-head, Contains-nil}
use Rattle.rules.specs.Name.{name_cmp}
use Rattle.rules.specs.NamedLaws.{bytes_eq-true}
use Rattle.rules.proofs.GroupLemmas.{GroupPasses-each, GroupPasses-from_each, MemberPasses-more}
use Rattle.rules.proofs.Rising.{AllPairs-rising}
use Rattle.forward_steps.specs.PartialPlan.{NoPartPasses}
use Rattle.forward_steps.specs.Group.{AreOthersOf, IsGroupOf, IsInOrder, IsNarrowed, IsNarrowedBy, NonePassesWithout}

-- a list with an element isn't empty
pub some_from : {X : Type 0} (xs : List X) → ¬ (xs ≡ []) → 0 < length xs
some_from [] not_empty = absurd (not_empty refl)
some_from (x ∷ xs) not_empty = omega arith

pub none_from : {X : Type 0} (xs : List X) → ((x : X) → Contains xs x → ⊥) → xs ≡ []
none_from [] none = refl
none_from (x ∷ xs) none = absurd (none x (Contains-head x xs))

-- Narrowing

-- the others of the others' greatest part
pub narrowed_part : (db : List Record) (name : List ℕ) (group others part : List (List ℕ)) → AreOthersOf group name others
    → IsGreatestPart db others part → 0 < length part → IsNarrowed db name group part
narrowed_part db name group others part are greatest some = record {
  within = All-weaker (Contains others) (Contains group) (λ other within. ((are other).0 within).0) part greatest.within;
  some = some;
  passes = greatest.passes;
  settled = λ there. absurd (((are name).0 (All-contains (Contains others) part name greatest.within there)).1 refl);
}

-- where it is empty the group is settled by the name
pub narrowed_whole : (db : List Record) (name : List ℕ) (group others part : List (List ℕ)) → AreOthersOf group name others
    → IsGreatestPart db others part → part ≡ [] → 0 < length group → GroupPasses db group → IsNarrowed db name group group
unfolding NonePassesWithout
narrowed_whole db name group others part are greatest empty some passes = record {
  within = All-intro (Contains group) group (λ other within. within);
  some = some;
  passes = passes;
  settled = λ there other within apart good. none_from other (λ n inside. Contains-nil n
      (subst (λ (ns : List (List ℕ)). Contains ns n) empty
      (All-contains (Contains part) other n (greatest.greatest other
      (All-intro (Contains others) other (λ m m_inside. (are m).1
      (All-contains (Contains group) other m within m_inside, λ same. apart (subst (Contains other) same m_inside)))) good) inside)));
}

-- what settles a group settles each part of it
settled_part : (db : List Record) (group part : List (List ℕ)) → All (Contains group) part → (name : List ℕ)
    → (Contains group name → NonePassesWithout db group name) → Contains part name → NonePassesWithout db part name
unfolding NonePassesWithout
settled_part db group part within name settled there other inside apart good =
    settled (All-contains (Contains group) part name within there) other
    (All-weaker (Contains part) (Contains group) (λ n n_inside. All-contains (Contains group) part n within n_inside) other inside) apart good

-- one name more
pub narrowed_more : (db : List Record) (names by group part : List (List ℕ)) (name : List ℕ) → IsNarrowedBy db names by group
    → IsNarrowed db name group part → IsNarrowedBy db names (by ++ name ∷ []) part
narrowed_more db names by group part name so_far now = record {
  within = All-weaker (Contains group) (Contains names) (λ n inside. All-contains (Contains names) group n so_far.within inside) part now.within;
  some = now.some;
  passes = now.passes;
  settled = All-push (λ n. Contains part n → NonePassesWithout db part n) by name
      (All-weaker (λ n. Contains group n → NonePassesWithout db group n) (λ n. Contains part n → NonePassesWithout db part n)
      (λ n settled. settled_part db group part now.within n settled) by so_far.settled) now.settled;
}

-- Order

same_keys : (one other : List ℕ) → eq_by_cmp name_cmp one other ≡ true → one ≡ other
same_keys one other same = bytes_eq-true one other (sym (is_eq-slice_cmp one other) ∙ same)

pub in_order_from_sort : (names sorted ordered : List (List ℕ)) → IsSorted name_cmp sorted → IsPermutation names sorted
    → ordered ≡ dedup (eq_by_cmp name_cmp) sorted → IsInOrder names ordered
in_order_from_sort names sorted ordered up moved same = subst (IsInOrder names) (sym same) (record {
  ascending = AllPairs-rising name_cmp (dedup (eq_by_cmp name_cmp) sorted) (IsStrictlySortedBy-dedup nat_list_cmp_total (λ x y. refl) sorted up);
  drawn = All-intro (Contains names) (dedup (eq_by_cmp name_cmp) sorted) (λ name within.
      Contains-permutation sorted names name (IsPermutation-sym names sorted moved)
      (Contains-from_dedup (eq_by_cmp name_cmp) sorted name within));
  covered = All-intro (Contains (dedup (eq_by_cmp name_cmp) sorted)) names (λ name within.
      Contains-dedup (eq_by_cmp_equiv nat_list_cmp_total) same_keys sorted name (Contains-permutation names sorted name moved within));
})

-- a list of the same elements isn't empty either
pub some_in_order : (names ordered : List (List ℕ)) → IsInOrder names ordered → 0 < length names → 0 < length ordered
some_in_order [] ordered are some = absurd (omega arith)
some_in_order (name ∷ names) ordered are some = some_from ordered (λ empty. Contains-nil name
    (subst (λ (ns : List (List ℕ)). Contains ns name) empty
    (All-contains (Contains ordered) (name ∷ names) name are.covered (Contains-head name names))))

-- the names that pass do so in their order
passes_in_order : (db : List Record) (names ordered : List (List ℕ)) → IsInOrder names ordered → GroupPasses db names → GroupPasses db ordered
passes_in_order db names ordered are passes = GroupPasses-from_each db ordered (λ name within.
    MemberPasses-more db names ordered (λ n inside. All-contains (Contains ordered) names n are.covered inside) name
    (GroupPasses-each db names passes name (All-contains (Contains names) ordered name are.drawn within)))

-- a group that each of its names settles is one of which no part passes
pub group_in_order : (db : List Record) (names narrow ordered : List (List ℕ)) → IsNarrowedBy db names names narrow
    → IsInOrder narrow ordered → IsGroupOf db names ordered
unfolding IsIndivisible NonePassesWithout
group_in_order db names narrow ordered narrowed are = record {
  within = All-weaker (Contains narrow) (Contains names) (λ n inside. All-contains (Contains names) narrow n narrowed.within inside) ordered are.drawn;
  some = some_in_order narrow ordered are narrowed.some;
  passes = passes_in_order db narrow ordered are narrowed.passes;
  indivisible = λ part proper good. Any-elim (λ name. ¬ Contains part name) ordered ⊥ (λ name there apart.
      let inside : Contains narrow name = All-contains (Contains narrow) ordered name are.drawn there in
      let empty : part ≡ [] = All-contains (λ n. Contains narrow n → NonePassesWithout db narrow n) names name narrowed.settled
      (All-contains (Contains names) narrow name narrowed.within inside) inside part
      (All-weaker (Contains ordered) (Contains narrow) (λ n n_there. All-contains (Contains narrow) ordered n are.drawn n_there) part proper.within)
      apart good in
      let long = proper.some in
      let e : length part ≡ 0 = ap (λ (ns : List (List ℕ)). length ns) empty in omega arith) proper.proper;
}

-- where the greatest part is empty, no part passes
pub none_passes : (db : List Record) (names part : List (List ℕ)) → IsGreatestPart db names part → part ≡ [] → NoPartPasses db names
unfolding NoPartPasses
none_passes db names part greatest empty other within good = none_from other (λ n inside. Contains-nil n
    (subst (λ (ns : List (List ℕ)). Contains ns n) empty (All-contains (Contains part) other n (greatest.greatest other within good) inside)))
