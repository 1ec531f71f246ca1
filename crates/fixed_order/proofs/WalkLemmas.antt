-- The walk to the least group: how far it has come, behind each name that is looked at.
use Rattle.std.proofs.Common.{◌≡◌, ℕ, ◌-◌, ◌<◌, List, [], ◌∷◌, get_or, length, refl, sym, subst, arith}
use Rattle.std.specs.List.{AllPairs, Contains, ReversedBelow}
use Rattle.std.specs.List.Sorted.{IsPermutation}
use Rattle.std.specs.declared.cmp.Ordering.TheVariants.{Less}
use Rattle.std.proofs.lemmas.List.Elements.{All-contains}
use Rattle.std.proofs.lemmas.List.Sorted.{Contains-permutation}
use Rattle.rules.specs.Configure.{IsGreatestPart, IsIndivisible, others_of}
use Rattle.rules.specs.Database.{Record}
use Rattle.rules.specs.ElementLaws.{All-intro, Any-intro, Contains-cons, Contains-head, Contains-nil, Contains-rest}
use Rattle.rules.specs.Name.{IsAscending, name_cmp}
use Rattle.rules.specs.Universe.{Universe}
use Rattle.rules.proofs.GroupLemmas.{GroupPasses-from_each, others_of-contains}
use Rattle.rules.proofs.Rising.{pairs_head, pairs_tail}
use Rattle.plain.specs.Order.{IsLeastGroup}
use Rattle.plain.specs.Walk.{IsNextName, IsOnWalk}
use Rattle.plain.proofs.LeastGroupLemmas.{walk_ends, walk_keeps, walk_leaves_out}
use Rattle.plain.proofs.SortedLemmas.{not_below_itself}
use Rattle.fixed_order.specs.Names.{AreAllWith}
use Rattle.fixed_order.specs.Walked.{IsFalling, IsWalkedTo}
use Rattle.fixed_order.proofs.BeginningLemmas.{some_from}
use mathlib.Core.Logic.{inl, inr}

-- what is behind the name in falling names is below it
behind_below : (name : List ℕ) (left : List (List ℕ)) → AllPairs (λ earlier later. name_cmp later earlier ≡ Less) (name ∷ left)
    → (low : List ℕ) → Contains left low → name_cmp low name ≡ Less
behind_below name left falls low within = All-contains (λ b. name_cmp b name ≡ Less) left low
    (pairs_head (λ (a b : List ℕ). name_cmp b a ≡ Less) name left falls) within

module _ (db : List Record) (name : List ℕ) (left kept group : List (List ℕ)) (walked : IsWalkedTo db (name ∷ left) kept group) where
  lower : AllPairs (λ earlier later. name_cmp later earlier ≡ Less) left
  lower = pairs_tail (λ (a b : List ℕ). name_cmp b a ≡ Less) name left walked.falls

  -- a name that is left isn't kept
  unkept : (low : List ℕ) → Contains (name ∷ left) low → ¬ Contains kept low
  unkept low there among = not_below_itself low (walked.above low low among there)

  -- the name is the next one, if it is of the group
  next : Contains group name → IsNextName kept group name
  next within = record {
    within = within;
    unkept = unkept name (Contains-head name left);
    greatest = λ other there alone differ. elim (walked.known other there) [
      | inl among ↦ absurd (alone among)
      | inr left_ ↦ elim (Contains-cons name left other left_) [
        | inl same ↦ absurd (differ (sym same))
        | inr behind ↦ behind_below name left walked.falls other behind
      ]
    ];
  }

  above_rest : (high low : List ℕ) → Contains kept high → Contains left low → name_cmp low high ≡ Less
  above_rest high low among there = walked.above high low among (Contains-rest name left low there)

  -- the name isn't of the group: the walk goes on without it
  pub walk_passes : ¬ Contains group name → IsWalkedTo db left kept group
  walk_passes without = record {
    walk = walked.walk;
    falls = lower;
    known = λ other there. elim (walked.known other there) [
      | inl among ↦ inl among
      | inr left_ ↦ elim (Contains-cons name left other left_) [
        | inl same ↦ absurd (without (subst (Contains group) (sym same) there))
        | inr behind ↦ inr behind
      ]
    ];
    above = above_rest;
  }

  -- none of the others pass: the name is kept
  pub walk_has : Contains group name → IsGreatestPart db (others_of name group) [] → IsWalkedTo db left (name ∷ kept) group
  walk_has within greatest = record {
    walk = walk_keeps db kept group name walked.walk (next within) greatest;
    falls = lower;
    known = λ other there. elim (walked.known other there) [
      | inl among ↦ inl (Contains-rest name kept other among)
      | inr left_ ↦ elim (Contains-cons name left other left_) [
        | inl same ↦ inl (subst (Contains (name ∷ kept)) same (Contains-head name kept))
        | inr behind ↦ inr behind
      ]
    ];
    above = λ high low among there. elim (Contains-cons name kept high among) [
      | inl same ↦ subst (λ h. name_cmp low h ≡ Less) same (behind_below name left walked.falls low there)
      | inr before ↦ above_rest high low before there
    ];
  }

  -- some of the others pass: the walk goes on with them
  pub walk_without : (part : List (List ℕ)) → Contains group name → IsGreatestPart db (others_of name group) part → 0 < length part
      → IsWalkedTo db left kept part
  walk_without part within greatest some = record {
    walk = walk_leaves_out db kept group part name walked.walk (next within) greatest some;
    falls = lower;
    known = λ other there.
        let both = others_of-contains name group other (All-contains (Contains (others_of name group)) part other greatest.within there) in
        elim (walked.known other both.0) [
          | inl among ↦ inl among
          | inr left_ ↦ elim (Contains-cons name left other left_) [
            | inl same ↦ absurd (both.1 (sym same))
            | inr behind ↦ inr behind
          ]
        ];
    above = above_rest;
  }

-- the beginning of the walk
pub walk_starts : (db : List Record) (down group : List (List ℕ)) → IsFalling group down → IsOnWalk db [] group
    → IsWalkedTo db down [] group
walk_starts db down group falling walk = record {
  walk = walk;
  falls = falling.falls;
  known = λ name within. inr (falling.all name within);
  above = λ high low among there. absurd (Contains-nil high among);
}

-- the end of the walk
pub walk_is_over : (u : Universe) (db : List Record) (kept group : List (List ℕ)) → IsWalkedTo db [] kept group → IsLeastGroup u db kept
walk_is_over u db kept group walked = walk_ends u db kept group walked.walk (All-intro (Contains kept) group (λ name within.
    elim (walked.known name within) [ inl among ↦ among | inr none ↦ absurd (Contains-nil name none) ]))

-- a least group has a name
pub least_some : (u : Universe) (db : List Record) (kept group : List (List ℕ)) → IsWalkedTo db [] kept group → 0 < length kept
least_some u db kept group walked = (walk_is_over u db kept group walked).group.some

-- ascending names reversed fall
pub falling_reversed : (up down : List (List ℕ)) → IsAscending up → ReversedBelow up down (length up)
    → length down ≡ length up → IsPermutation up down → IsFalling up down
falling_reversed up down rises places long moved = record {
  falls = λ i j d before within.
      let i_is = places i d (omega arith) in
      let j_is = places j d (omega arith) in
      let rise = rises (length up - 1 - j) (length up - 1 - i) d (omega arith) (omega arith) in
      subst (λ a. name_cmp a (get_or down i d) ≡ Less) (sym j_is)
      (subst (λ b. name_cmp (get_or up (length up - 1 - j) d) b ≡ Less) (sym i_is) rise);
  all = λ name within. Contains-permutation up down name moved within;
}

-- what falls with all names of a list falls with those of another that it has
pub falling_of : (names up down : List (List ℕ)) → AreAllWith (Contains names) up → IsFalling up down → IsFalling names down
falling_of names up down are falling = record {
  falls = falling.falls;
  all = λ name within. falling.all name ((are.each name).1 within);
}

-- of a group no part of which passes nothing does without one of its names
pub nothing_without : (db : List Record) (group : List (List ℕ)) (name : List ℕ) → Contains group name → IsIndivisible db group
    → IsGreatestPart db (others_of name group) []
unfolding IsIndivisible
nothing_without db group name here indivisible = record {
  within = All-intro (Contains (others_of name group)) [] (λ n there. absurd (Contains-nil n there));
  passes = GroupPasses-from_each db [] (λ n there. absurd (Contains-nil n there));
  greatest = λ other within passes. All-intro (Contains []) other (λ n there. absurd (indivisible other (record {
    some = some_from other (λ empty. Contains-nil n (subst (λ (ns : List (List ℕ)). Contains ns n) empty there));
    within = All-intro (Contains group) other (λ m inside. (others_of-contains name group m (All-contains (Contains (others_of name group)) other m within inside)).0);
    proper = Any-intro (λ m. ¬ Contains other m) group name here (λ inside.
        (others_of-contains name group name (All-contains (Contains (others_of name group)) other name within inside)).1 refl);
  }) passes));
}
