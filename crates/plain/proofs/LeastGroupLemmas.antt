-- The walk from a group that passes to the least group that may be configured, which there is where some group passes.
use Rattle.std.proofs.Common.{◌≡◌, ◌≢◌, ℕ, ◌<◌, List, [], ◌∷◌, length, ◌⊎◌, refl, sym, subst, arith}
use Rattle.std.specs.List.{All, Contains}
use Rattle.std.specs.declared.cmp.Ordering.TheVariants.{Less}
use Rattle.std.proofs.lemmas.List.Elements.{All-contains, All-contains_itself, All-cons, All-weaker}
use Rattle.std.proofs.lemmas.List.Kept.{AllPairs-cons}
use Rattle.rules.specs.Configure.{GroupPasses, HasConfigurable, IsConfigurable, AreConfigurable, IsGreatestPart, IsIndivisible, others_of}
use Rattle.rules.specs.Database.{Record, HasRecord}
use Rattle.rules.specs.ElementLaws.{All-intro, Any-elim, Contains-cons, Contains-head, Contains-nil, Contains-rest}
use Rattle.rules.specs.Legal.{Allowed, ConfigureAsks}
use Rattle.rules.specs.Name.{name_cmp}
use Rattle.rules.specs.Universe.{Universe}
use Rattle.rules.specs.declared.step.Rule.{Rule}
use Rattle.rules.specs.declared.step.Rule.TheVariants as rule
use Rattle.rules.specs.declared.step.Step.TheVariants as step
use Rattle.rules.proofs.Decided.{dec_Contains}
use Rattle.rules.proofs.GroupLemmas.{GroupPasses-each, GroupPasses-from_each, MemberPasses-more, contains-others_of, others_of-contains, greatest_part, none_of}
use Rattle.plain.specs.WalkLaws.{NoGroupIsLeft, LeastGroupIsThere, WalkBegins, WalkEnds, WalkKeeps, WalkLeavesOut}
use Rattle.plain.specs.Order.{IsLeastGroup, IsLesserGroup}
use Rattle.plain.specs.Underway.{unconfigured_of}
use Rattle.plain.specs.Walk.{IsInOrAbove, IsNextName, IsOnWalk, IsPassing}
use Rattle.plain.proofs.ConfigureLemmas.{allowed_configure, record_unconfigured, some_name}
use Rattle.rules.proofs.Rising.{pairs_head, pairs_tail}
use Rattle.plain.proofs.SortedLemmas.{IsDescending, sorted}
use mathlib.Core.Logic.{inl, inr}

abbrev Name : Type 0
Name = List ℕ

-- a group of the same names passes too
pub same_names_pass : (db : List Record) (group other : List Name) → ((name : Name) → Contains group name → Contains other name)
    → ((name : Name) → Contains other name → Contains group name) → GroupPasses db group → GroupPasses db other
same_names_pass db group other to from passes = GroupPasses-from_each db other
    (λ name within. MemberPasses-more db group other to name (GroupPasses-each db group passes name (from name within)))

-- a list with an element has a length
pub some_length : (names : List Name) (name : Name) → Contains names name → 0 < length names
some_length names name within = let h = within.1 in omega arith

-- the names of a group that passes aren't configured
pub names_unconfigured : (db : List Record) (group : List Name) → GroupPasses db group → All (Contains (unconfigured_of db)) group
unfolding AreConfigurable HasConfigurable
names_unconfigured db group passes = All-intro (Contains (unconfigured_of db)) group (λ name within.
    Any-elim (λ (r : Record). (r.name ≡ name) × IsConfigurable r) db (Contains (unconfigured_of db) name)
    (λ entry there is. subst (Contains (unconfigured_of db)) is.0 (record_unconfigured db entry there is.1.0))
    (All-contains (λ n. HasRecord IsConfigurable n db) group name passes.configurable within))

-- nothing is kept of nothing
pub all_of_none : (P : Name → Type 0) → All P []
all_of_none P = All-intro P [] (λ name none. absurd (Contains-nil name none))

pub walk_begins : WalkBegins
walk_begins db group greatest some = record {
  passing = record { some = some; passes = greatest.passes };
  ascending = λ i j d before within. absurd (omega arith);
  within = all_of_none (Contains group);
  below = λ low there unkept. all_of_none (λ high. name_cmp low high ≡ Less);
  whole = λ other passing inside. all_of_none (Contains other);
  least = λ other passing. inl (greatest.greatest other (names_unconfigured db other passing.passes) passing.passes);
}

module _ (db : List Record) (kept group part : List Name) (name : Name) (walk : IsOnWalk db kept group)
    (next : IsNextName kept group name) (greatest : IsGreatestPart db (others_of name group) part) where
  -- what is of the part is of the group, and isn't the name
  part_within : (other : Name) → Contains part other → Contains group other × (other ≢ name)
  part_within other within = others_of-contains name group other (All-contains (Contains (others_of name group)) part other greatest.within within)

  in_group : (other : List Name) → All (Contains part) other → All (Contains group) other
  in_group other inside = All-weaker (Contains part) (Contains group) (λ one_ within. (part_within one_ within).0) other inside

  -- a group of these names that passes without the name is of the part
  in_part : (other : List Name) → IsPassing db other → All (Contains group) other → ¬ Contains other name → All (Contains part) other
  in_part other passing inside without = greatest.greatest other (All-intro (Contains (others_of name group)) other (λ one_ within.
      contains-others_of name group one_ (All-contains (Contains group) other one_ inside within)
      (λ same. without (subst (Contains other) same within)))) passing.passes

  -- a group with the name is no lesser one than a part without it
  not_lesser : (other : List Name) → IsPassing db other → All (Contains group) other → Contains other name
      → (some_group : List Name) → All (Contains part) some_group → ¬ IsLesserGroup other some_group
  not_lesser other passing inside has some_group of_part lesser =
      let there = part_within lesser.name (All-contains (Contains part) some_group lesser.name of_part lesser.within) in
      let unkept : ¬ Contains kept lesser.name = λ among. lesser.without
      (All-contains (Contains other) kept lesser.name (walk.whole other passing inside) among) in
      let lower = next.greatest lesser.name there.0 unkept (λ same. lesser.without (subst (Contains other) (sym same) has)) in
      (part_within name (All-contains (Contains part) some_group name of_part ((lesser.above name lower).0 has))).1 refl

  leaves_out : 0 < length part → IsOnWalk db kept part
  leaves_out some = record {
    passing = record { some = some; passes = greatest.passes };
    ascending = walk.ascending;
    within = walk.whole part (record { some = some; passes = greatest.passes }) (in_group part (All-contains_itself part));
    below = λ low there unkept. walk.below low (part_within low there).0 unkept;
    whole = λ other passing inside. walk.whole other passing (in_group other inside);
    least = λ other passing. elim (walk.least other passing) [
      | inl inside ↦ decided other passing inside (dec_Contains other name)
      | inr above ↦ inr (λ some_group of_part. above some_group (in_group some_group of_part))
    ];
  }
    where
      decided : (other : List Name) → IsPassing db other → All (Contains group) other → Dec (Contains other name)
          → IsInOrAbove kept part other
      decided other passing inside (yes has) = inr (λ some_group of_part has_kept. not_lesser other passing inside has some_group of_part)
      decided other passing inside (no without) = inl (in_part other passing inside without)

pub walk_leaves_out : WalkLeavesOut
walk_leaves_out db kept group part name walk next greatest some = leaves_out db kept group part name walk next greatest some

pub walk_keeps : WalkKeeps
walk_keeps db kept group name walk next greatest = record {
  passing = walk.passing;
  ascending = AllPairs-cons (λ (a b : Name). name_cmp a b ≡ Less) name kept (walk.below name next.within next.unkept) walk.ascending;
  within = kept_and (Contains group) next.within walk.within;
  below = λ low there unkept. kept_and (λ high. name_cmp low high ≡ Less)
      (next.greatest low there (λ among. unkept (Contains-rest name kept low among))
      (λ same. unkept (subst (Contains (name ∷ kept)) (sym same) (Contains-head name kept))))
      (walk.below low there (λ among. unkept (Contains-rest name kept low among)));
  whole = λ other passing inside. kept_and (Contains other) (has_name other passing inside (dec_Contains other name))
      (walk.whole other passing inside);
  least = λ other passing. elim (walk.least other passing) [
    | inl inside ↦ inl inside
    | inr above ↦ inr (λ some_group of_group has. above some_group of_group
        (All-intro (Contains some_group) kept (λ one_ among. All-contains (Contains some_group) (name ∷ kept) one_ has (Contains-rest name kept one_ among))))
  ];
}
  where
    kept_and : (P : Name → Type 0) → P name → All P kept → All P (name ∷ kept)
    kept_and P here all = All-cons P name kept here all

    has_name : (other : List Name) → IsPassing db other → All (Contains group) other → Dec (Contains other name) → Contains other name
    has_name other passing inside (yes has) = has
    has_name other passing inside (no without) =
        absurd (none_of other passing.some (in_part db kept group [] name walk next greatest other passing inside without))

-- what is allowed to be configured passes
pub allowed_passes : (u : Universe) (db : List Record) (names : List Name) → Allowed u db (step.Configure names) → GroupPasses db names
unfolding Allowed
allowed_passes u db names allowed = record {
  configurable = All-contains (ConfigureAsks db names) asked rule.WrongState allowed (0, omega arith, refl);
  pre_depends = All-contains (ConfigureAsks db names) asked rule.PreDepends allowed (1, omega arith, refl);
  depends = All-contains (ConfigureAsks db names) asked rule.Depends allowed (2, omega arith, refl);
  unbroken = All-contains (ConfigureAsks db names) asked rule.Breaks allowed (3, omega arith, refl);
}
  where
    asked : List Rule
    asked = rule.WrongState ∷ rule.PreDepends ∷ rule.Depends ∷ rule.Breaks ∷ rule.Group ∷ []

pub no_group_is_left : NoGroupIsLeft
no_group_is_left u db greatest names group =
    let passes = allowed_passes u db names group.allowed in
    none_of names group.some (greatest.greatest names (names_unconfigured db names passes) passes)

pub walk_ends : WalkEnds
unfolding IsIndivisible
walk_ends u db kept group walk all = record {
  ascending = walk.ascending;
  group = record { some = some; allowed = allowed_configure u db kept passes indivisible };
  least = λ other may. at other (record { some = may.some; passes = allowed_passes u db other may.allowed })
      (walk.least other (record { some = may.some; passes = allowed_passes u db other may.allowed }));
}
  where
    some : 0 < length kept
    some = let first = some_name group walk.passing.some in some_length kept first.0 (All-contains (Contains kept) group first.0 all first.1)

    passes : GroupPasses db kept
    passes = same_names_pass db group kept (λ name within. All-contains (Contains kept) group name all within)
        (λ name within. All-contains (Contains group) kept name walk.within within) walk.passing.passes

    indivisible : IsIndivisible db kept
    indivisible part proper passes =
        let inside : All (Contains group) part = All-weaker (Contains kept) (Contains group)
        (λ name among. All-contains (Contains group) kept name walk.within among) part proper.within in
        let has = walk.whole part (record { some = proper.some; passes = passes }) inside in
        Any-elim (λ name. ¬ Contains part name) kept ⊥ (λ name among without. without (All-contains (Contains part) kept name has among)) proper.proper

    at : (other : List Name) → IsPassing db other → IsInOrAbove kept group other → ¬ IsLesserGroup other kept
    at other passing (inl inside) lesser = lesser.without (All-contains (Contains other) kept lesser.name (walk.whole other passing inside) lesser.within)
    at other passing (inr above) lesser = above kept walk.within (All-contains_itself kept) lesser

-- the walk comes to its end: each name is kept or among those to look at, of which each is above all that follow it
walks : (u : Universe) (db : List Record) (left kept group : List Name) → IsDescending left → IsOnWalk db kept group
    → ((name : Name) → Contains group name → Contains kept name ⊎ Contains left name)
    → (some_group : List Name) × IsLeastGroup u db some_group
walks u db [] kept group falls walk known = (
  kept,
  walk_ends u db kept group walk (All-intro (Contains kept) group (λ name within.
      elim (known name within) [ inl among ↦ among | inr none ↦ absurd (Contains-nil name none) ])),
)
walks u db (name ∷ left) kept group falls walk known = look (dec_Contains group name) (dec_Contains kept name)
    (walks u db left kept group lower walk) (λ part. walks u db left kept part lower) (walks u db left (name ∷ kept) group lower)
  where
    lower : IsDescending left
    lower = pairs_tail (λ (a b : Name). name_cmp b a ≡ Less) name left falls

    -- what is known without the name
    narrowed : ((other : Name) → Contains group other → (name ≡ other) → Contains kept other) → (other : Name) → Contains group other
        → Contains kept other ⊎ Contains left other
    narrowed here other within = elim (known other within) [
      | inl among ↦ inl among
      | inr there ↦ elim (Contains-cons name left other there) [ inl same ↦ inl (here other within same) | inr behind ↦ inr behind ]
    ]

    next : Contains group name → ¬ Contains kept name → IsNextName kept group name
    next within unkept = record {
      within = within;
      unkept = unkept;
      greatest = λ other there alone differ. elim (known other there) [
        | inl among ↦ absurd (alone among)
        | inr left_ ↦ elim (Contains-cons name left other left_) [
          | inl same ↦ absurd (differ (sym same))
          | inr behind ↦ All-contains (λ b. name_cmp b name ≡ Less) left other
              (pairs_head (λ (a b : Name). name_cmp b a ≡ Less) name left falls) behind
        ]
      ];
    }

    looked : (part : List Name) → IsGreatestPart db (others_of name group) part → IsNextName kept group name
        → ((more : List Name) → IsOnWalk db kept more → ((other : Name) → Contains more other → Contains kept other ⊎ Contains left other)
        → (some_group : List Name) × IsLeastGroup u db some_group)
        → (IsOnWalk db (name ∷ kept) group → ((other : Name) → Contains group other → Contains (name ∷ kept) other ⊎ Contains left other)
        → (some_group : List Name) × IsLeastGroup u db some_group)
        → (some_group : List Name) × IsLeastGroup u db some_group
    looked [] greatest is without with_it = with_it (walk_keeps db kept group name walk is greatest) (λ other within. elim (known other within) [
      | inl among ↦ inl (Contains-rest name kept other among)
      | inr there ↦ elim (Contains-cons name left other there) [
        | inl same ↦ inl (subst (Contains (name ∷ kept)) same (Contains-head name kept))
        | inr behind ↦ inr behind
      ]
    ])
    looked (first ∷ rest) greatest is without with_it = without (first ∷ rest)
        (walk_leaves_out db kept group (first ∷ rest) name walk is greatest (omega arith)) (λ other within.
        let there = part_within db kept group (first ∷ rest) name walk is greatest other within in
        elim (known other there.0) [
          | inl among ↦ inl among
          | inr left_ ↦ elim (Contains-cons name left other left_) [ inl same ↦ absurd (there.1 (sym same)) | inr behind ↦ inr behind ]
        ])

    look : Dec (Contains group name) → Dec (Contains kept name)
        → (((other : Name) → Contains group other → Contains kept other ⊎ Contains left other) → (some_group : List Name) × IsLeastGroup u db some_group)
        → ((more : List Name) → IsOnWalk db kept more → ((other : Name) → Contains more other → Contains kept other ⊎ Contains left other)
        → (some_group : List Name) × IsLeastGroup u db some_group)
        → (IsOnWalk db (name ∷ kept) group → ((other : Name) → Contains group other → Contains (name ∷ kept) other ⊎ Contains left other)
        → (some_group : List Name) × IsLeastGroup u db some_group)
        → (some_group : List Name) × IsLeastGroup u db some_group
    look (no outside) kept_too past without with_it = past (narrowed (λ other within same. absurd (outside (subst (Contains group) (sym same) within))))
    look (yes within) (yes among) past without with_it = past (narrowed (λ other there same. subst (Contains kept) same among))
    look (yes within) (no unkept) past without with_it =
        let part = greatest_part db (others_of name group) in looked part.0 part.1 (next within unkept) without with_it

pub least_group_is_there : LeastGroupIsThere
least_group_is_there u db names some passes =
    let whole = greatest_part db (unconfigured_of db) in
    let first = some_name names some in
    let there = All-contains (Contains whole.0) names first.0
    (whole.1.greatest names (names_unconfigured db names passes) passes) first.1 in
    let all = sorted whole.0 in
    walks u db all.0 [] whole.0 all.1 (walk_begins db whole.0 whole.1 (some_length whole.0 first.0 there))
    (λ name within. inr (all.2 name within))
