-- A plain change to an acceptable selection has steps in the fixed order.
use Rattle.std.proofs.Common.{◌≡◌, ℕ, zero, suc, ◌<◌, ◌≤◌, Bool, List, [], ◌∷◌, ◌++◌, map, length, ◌⊎◌, refl, sym, ap, subst, arith}
use Rattle.std.specs.Prelude.{◌↔◌}
use Rattle.std.specs.List.{All, Any, Contains}
use Rattle.rules.specs.Database.{Record, IsPresent, IsRemoved}
use Rattle.rules.specs.ElementLaws.{Any-intro, Any-elim, Any-contains, Contains-cons, Contains-head, Contains-nil, Contains-rest}
use Rattle.rules.specs.Name.{IsAscending}
use Rattle.rules.specs.Package.{Pkg}
use Rattle.rules.specs.Run.{after}
use Rattle.rules.specs.Sound.{selected}
use Rattle.rules.specs.State.{is_config_files_state}
use Rattle.rules.specs.Universe.{Universe}
use Rattle.rules.specs.declared.step.Step.{Step}
use Rattle.rules.specs.declared.step.Step.TheVariants as step
use Rattle.rules.proofs.Decided.{dec_Any, dec_IsTrue, dec_and}
use Rattle.rules.proofs.GroupLemmas.{none_of}
use Rattle.plain.specs.Change.{IsPlainChange, IsPurgeGoal, IsToPurge, IsToRemove}
use Rattle.plain.specs.Laws.{PlainChangeHasOrder}
use Rattle.plain.specs.Order.{AreConfigures, ArePurges, AreRemovals, AreUnpacks, IsConfigurableGroup, IsInFixedOrder, IsLeastName, IsNextRemoval, IsStillInstalled, MayGo, after_all, to_unpack, unpack_of}
use Rattle.plain.specs.Underway.{IsUnderway, removals_left, unconfigured_of}
use Rattle.plain.proofs.ConfigureLemmas.{configure_leaves, configures_keep, unconfigured_pass}
use Rattle.plain.proofs.LeastGroupLemmas.{allowed_passes, least_group_is_there, names_unconfigured}
use Rattle.plain.proofs.OrderLemmas.{removals_run}
use Rattle.plain.proofs.PlainDecided.{dec_IsPurgeGoal, dec_IsStillInstalled, dec_IsToRemove, dec_MayGo, has_name}
use Rattle.plain.proofs.RemovalLemmas.{removals_are_allowed, removals_go_on}
use Rattle.plain.proofs.SelectedLemmas.{members_are_by_name}
use Rattle.plain.proofs.SortedLemmas.{Name, least_of, put_up}
use Rattle.plain.proofs.UnpackLemmas.{unpacks_are_allowed}
use mathlib.Core.Logic.{inl, inr}

-- the least name with a property that only listed names have
least_name : (P : Name → Type 0) → ((name : Name) → Dec (P name)) → (names : List Name) → ((name : Name) → P name → Contains names name)
    → (name : Name) → P name → (least : Name) × IsLeastName P least
least_name P each names known name has =
    let lowest = least_of P each names (Any-intro P names name (known name has) has) in
    (lowest.0, record { has = lowest.1; least = λ other holds. lowest.2 other (known other holds) holds })

-- the names to be purged, in their order
purges_among : (u : Universe) (db : List Record) → (names : List Name) × IsAscending names
    × ((name : Name) → Contains names name ↔ Any (λ (r : Record). (r.name ≡ name) × (IsPurgeGoal u r.name × IsRemoved r)) db)
purges_among u [] = (
  [],
  (λ i j d before within. absurd (omega arith)),
  λ name. (
    (λ none. absurd (Contains-nil name none)),
    (λ none. absurd (Contains-nil none.1 (Any-contains (λ (r : Record). (r.name ≡ name) × (IsPurgeGoal u r.name × IsRemoved r)) [] none))),
  ),
)
purges_among u (first ∷ rest) = at (dec_and (dec_IsPurgeGoal u first.name) (dec_IsTrue (is_config_files_state first.state))) (purges_among u rest)
  where
    behind : (name : Name) → Any (λ (r : Record). (r.name ≡ name) × (IsPurgeGoal u r.name × IsRemoved r)) rest
        → Any (λ (r : Record). (r.name ≡ name) × (IsPurgeGoal u r.name × IsRemoved r)) (first ∷ rest)
    behind name some = Any-elim (λ (r : Record). (r.name ≡ name) × (IsPurgeGoal u r.name × IsRemoved r)) rest
        (Any (λ (r : Record). (r.name ≡ name) × (IsPurgeGoal u r.name × IsRemoved r)) (first ∷ rest))
        (λ entry within is. Any-intro (λ (r : Record). (r.name ≡ name) × (IsPurgeGoal u r.name × IsRemoved r)) (first ∷ rest) entry
        (Contains-rest first rest entry within) is) some

    split : (name : Name) → Any (λ (r : Record). (r.name ≡ name) × (IsPurgeGoal u r.name × IsRemoved r)) (first ∷ rest)
        → ((first.name ≡ name) × (IsPurgeGoal u first.name × IsRemoved first))
        ⊎ Any (λ (r : Record). (r.name ≡ name) × (IsPurgeGoal u r.name × IsRemoved r)) rest
    split name some = Any-elim (λ (r : Record). (r.name ≡ name) × (IsPurgeGoal u r.name × IsRemoved r)) (first ∷ rest)
        (((first.name ≡ name) × (IsPurgeGoal u first.name × IsRemoved first))
        ⊎ Any (λ (r : Record). (r.name ≡ name) × (IsPurgeGoal u r.name × IsRemoved r)) rest)
        (λ entry within is. elim (Contains-cons first rest entry within) [
          | inl same ↦ inl (subst (λ (r : Record). (r.name ≡ name) × (IsPurgeGoal u r.name × IsRemoved r)) (sym same) is)
          | inr further ↦ inr (Any-intro (λ (r : Record). (r.name ≡ name) × (IsPurgeGoal u r.name × IsRemoved r)) rest entry further is)
        ]) some

    at : Dec (IsPurgeGoal u first.name × IsRemoved first)
        → (names : List Name) × IsAscending names
        × ((name : Name) → Contains names name ↔ Any (λ (r : Record). (r.name ≡ name) × (IsPurgeGoal u r.name × IsRemoved r)) rest)
        → (names : List Name) × IsAscending names
        × ((name : Name) → Contains names name ↔ Any (λ (r : Record). (r.name ≡ name) × (IsPurgeGoal u r.name × IsRemoved r)) (first ∷ rest))
    at (no fails) later = (
      later.0,
      later.1,
      λ name. (
        (λ within. behind name ((later.2 name).0 within)),
        (λ some. elim (split name some) [ inl here ↦ absurd (fails here.1) | inr further ↦ (later.2 name).1 further ]),
      ),
    )
    at (yes is) later =
        let more = put_up first.name later.0 later.1 in (
          more.0,
          more.1,
          λ name. (
            (λ within. elim ((more.2 name).0 within) [
              | inl same ↦ Any-intro (λ (r : Record). (r.name ≡ name) × (IsPurgeGoal u r.name × IsRemoved r)) (first ∷ rest) first (Contains-head first rest) (same, is)
              | inr further ↦ behind name ((later.2 name).0 further)
            ]),
            (λ some. (more.2 name).1 (elim (split name some) [ inl here ↦ inl here.0 | inr further ↦ inr ((later.2 name).1 further) ])),
          ),
        )

purges_there : (u : Universe) (db : List Record) → (names : List Name) × ArePurges u db names
purges_there u db =
    let purges = purges_among u db in (
      purges.0,
      record {
        by_name = purges.1;
        each = λ name. (
          (λ within. Any-elim (λ (r : Record). (r.name ≡ name) × (IsPurgeGoal u r.name × IsRemoved r)) db (IsToPurge u db name)
              (λ r there is. (subst (IsPurgeGoal u) is.0 is.1.0, Any-intro (λ (r : Record). (r.name ≡ name) × IsRemoved r) db r there (is.0, is.1.1)))
              ((purges.2 name).0 within)),
          (λ purge. (purges.2 name).1 (Any-elim (λ (r : Record). (r.name ≡ name) × IsRemoved r) db
              (Any (λ (r : Record). (r.name ≡ name) × (IsPurgeGoal u r.name × IsRemoved r)) db)
              (λ r there is. Any-intro (λ (r : Record). (r.name ≡ name) × (IsPurgeGoal u r.name × IsRemoved r)) db r there
              (is.0, (subst (IsPurgeGoal u) (sym is.0) purge.0, is.1))) purge.1)),
        );
      },
    )

module _ (u : Universe) (start : List Record) (selection : ℕ → Bool) (change : IsPlainChange u start selection) where
  abbrev members : List Pkg
  members = selected u selection

  abbrev names_in : List Record → List Name
  names_in db = map (λ (r : Record). r.name) db

  -- where a name is to be removed there is a next removal
  next_removal : (db : List Record) → IsUnderway u start members db → (name : Name) → IsToRemove members db name
      → (taken : Step) × IsNextRemoval u members db taken
  next_removal db underway name goes = at (dec_Any (MayGo u members db) (dec_MayGo u members db) (names_in db))
    where
      may_known : (other : Name) → MayGo u members db other → Contains (names_in db) other
      may_known other may = has_name IsPresent db other may.0.0

      still_known : (other : Name) → IsStillInstalled members db other → Contains (names_in db) other
      still_known other still = has_name IsPresent db other still.0.0

      removed : (other : Name) → MayGo u members db other → (taken : Step) × IsNextRemoval u members db taken
      removed other may =
          let least = least_name (MayGo u members db) (dec_MayGo u members db) (names_in db) may_known other may in
          (step.Remove least.0, least.1)

      deconfigured : ((other : Name) → ¬ MayGo u members db other) → (other : Name) → IsStillInstalled members db other
          → (taken : Step) × IsNextRemoval u members db taken
      deconfigured none other still =
          let least = least_name (IsStillInstalled members db) (dec_IsStillInstalled members db) (names_in db) still_known other still in
          (step.Deconfigure least.0, (none, least.1))

      at : Dec (Any (MayGo u members db) (names_in db)) → (taken : Step) × IsNextRemoval u members db taken
      at (yes some) = Any-elim (MayGo u members db) (names_in db) ((taken : Step) × IsNextRemoval u members db taken)
          (λ other within may. removed other may) some
      at (no none) =
          let refused : (other : Name) → ¬ MayGo u members db other =
          λ other may. none (Any-intro (MayGo u members db) (names_in db) other (may_known other may) may) in
          elim (removals_go_on u start db selection name change underway goes) [
            | inl may ↦ absurd (refused may.0 may.1)
            | inr still ↦ deconfigured refused still.0 still.1
          ]

  -- the removals that are left
  removals_there : (most : ℕ) (db : List Record) → removals_left members db ≤ most → IsUnderway u start members db
      → (steps : List Step) × AreRemovals u members db steps
  removals_there zero db few underway = (
    [],
    λ name goes.
        let next = next_removal db underway name goes in
        let less = (removals_are_allowed u start db members next.0 underway next.1).2 in absurd (omega arith),
  )
  removals_there (suc fewer) db few underway = at (dec_Any (IsToRemove members db) (dec_IsToRemove members db) (names_in db))
      (λ next below under. removals_there fewer next below under)
    where
      one_more : (taken : Step) → IsNextRemoval u members db taken
          → ((next : List Record) → removals_left members next ≤ fewer → IsUnderway u start members next
          → (steps : List Step) × AreRemovals u members next steps)
          → (steps : List Step) × AreRemovals u members db steps
      one_more taken next go_on =
          let is = removals_are_allowed u start db members taken underway next in
          let less = is.2 in
          let later = go_on (after u db taken) (omega arith) is.1 in
          (taken ∷ later.0, (next, later.1))

      at : Dec (Any (IsToRemove members db) (names_in db))
          → ((next : List Record) → removals_left members next ≤ fewer → IsUnderway u start members next
          → (steps : List Step) × AreRemovals u members next steps)
          → (steps : List Step) × AreRemovals u members db steps
      at (no none) go_on = ([], λ name goes. none (Any-intro (IsToRemove members db) (names_in db) name (has_name IsPresent db name goes.0) goes))
      at (yes some) go_on = Any-elim (IsToRemove members db) (names_in db) ((steps : List Step) × AreRemovals u members db steps)
          (λ name within goes. let next = next_removal db underway name goes in one_more next.0 next.1 go_on) some

  -- the configures that are left
  none_to_configure : (db : List Record) → length (unconfigured_of db) ≤ 0 → (group : List Name) → ¬ IsConfigurableGroup u db group
  none_to_configure db few group may = empty (unconfigured_of db) few group may.some (names_unconfigured db group (allowed_passes u db group may.allowed))
    where
      empty : (names : List Name) → length names ≤ 0 → (part : List Name) → 0 < length part → ¬ All (Contains names) part
      empty [] short part some inside = none_of part some inside
      empty (first ∷ rest) short part some inside = absurd (omega arith)

  configures_there : (most : ℕ) (db : List Record) → length (unconfigured_of db) ≤ most → IsUnderway u start members db
      → ((name : Name) → ¬ IsToRemove members db name) → (steps : List Step) × AreConfigures u db steps
  configures_there zero db few underway none = ([], none_to_configure db few)
  configures_there (suc fewer) db few underway none = at (unconfigured_of db) refl
      (λ next below under gone. configures_there fewer next below under gone)
    where
      one_more : 0 < length (unconfigured_of db)
          → ((next : List Record) → length (unconfigured_of next) ≤ fewer → IsUnderway u start members next
          → ((name : Name) → ¬ IsToRemove members next name) → (steps : List Step) × AreConfigures u next steps)
          → (steps : List Step) × AreConfigures u db steps
      one_more some go_on =
          let least = least_group_is_there u db (unconfigured_of db) some (unconfigured_pass u start db selection change underway none) in
          let kept = configures_keep u start db members least.0 underway none least.1.group.allowed in
          let less = (configure_leaves u db least.0 underway.distinct least.1.group.allowed).1 least.1.group.some in
          let later = go_on (after u db (step.Configure least.0)) (omega arith) kept.0 kept.1 in
          (step.Configure least.0 ∷ later.0, (least.1, later.1))

      at : (names : List Name) → unconfigured_of db ≡ names
          → ((next : List Record) → length (unconfigured_of next) ≤ fewer → IsUnderway u start members next
          → ((name : Name) → ¬ IsToRemove members next name) → (steps : List Step) × AreConfigures u next steps)
          → (steps : List Step) × AreConfigures u db steps
      at [] is go_on = ([], none_to_configure db (omega (arith, ap length is)))
      at (first ∷ rest) is go_on = one_more (omega (arith, ap length is)) go_on

-- the four phases, each begun where those before have led, are in the fixed order
in_order : (u : Universe) (start : List Record) (chosen unpacks : List Pkg) (removals configures : List Step) (purges : List Name)
    (all_unpacked all_removed all_configured : List Record) → AreUnpacks start chosen unpacks
    → all_unpacked ≡ after_all u start (map unpack_of unpacks) → AreRemovals u chosen all_unpacked removals
    → all_removed ≡ after_all u all_unpacked removals → AreConfigures u all_removed configures
    → all_configured ≡ after_all u all_removed configures → ArePurges u all_configured purges
    → IsInFixedOrder u start chosen (map unpack_of unpacks ++ (removals ++ (configures ++ map step.Purge purges)))
in_order u start chosen unpacks removals configures purges all_unpacked all_removed all_configured one_ first two second three third four = record {
  unpacks = unpacks;
  removals = removals;
  configures = configures;
  purges = purges;
  all_unpacked = all_unpacked;
  all_removed = all_removed;
  all_configured = all_configured;
  parts = refl;
  unpacks_are = one_;
  all_unpacked_is = first;
  removals_are = two;
  all_removed_is = second;
  configures_are = three;
  all_configured_is = third;
  purges_are = four;
}

-- the phases behind the unpacks, which end where those led
behind_unpacks : (u : Universe) (start : List Record) (selection : ℕ → Bool) → IsPlainChange u start selection → (unpacks : List Pkg)
    → AreUnpacks start (selected u selection) unpacks → (all_unpacked : List Record)
    → all_unpacked ≡ after_all u start (map unpack_of unpacks) → IsUnderway u start (selected u selection) all_unpacked
    → (steps : List Step) × IsInFixedOrder u start (selected u selection) steps
behind_unpacks u start selection change unpacks are all_unpacked is underway =
    let members = selected u selection in
    let removals = removals_there u start selection change (removals_left members all_unpacked) all_unpacked (omega arith) underway in
    let removed = removals_run u start members removals.0 all_unpacked underway removals.1 in
    let configures = configures_there u start selection change (length (unconfigured_of (after_all u all_unpacked removals.0)))
    (after_all u all_unpacked removals.0) (omega arith) removed.underway removed.none in
    let purges = purges_there u (after_all u (after_all u all_unpacked removals.0) configures.0) in (
      map unpack_of unpacks ++ (removals.0 ++ (configures.0 ++ map step.Purge purges.0)),
      in_order u start members unpacks removals.0 configures.0 purges.0 all_unpacked (after_all u all_unpacked removals.0)
          (after_all u (after_all u all_unpacked removals.0) configures.0) are is removals.1 refl configures.1 refl purges.1,
    )

pub plain_change_has_order : PlainChangeHasOrder
plain_change_has_order u start selection change =
    let unpacks = to_unpack start (selected u selection) in
    let by_name = members_are_by_name u start selection change in
    behind_unpacks u start selection change unpacks by_name (after_all u start (map unpack_of unpacks)) refl
    (unpacks_are_allowed u start selection unpacks change by_name).underway
