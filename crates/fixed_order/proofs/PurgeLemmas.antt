-- The names that goals ask to purge.
use Rattle.std.proofs.Common.{◌≡◌, ℕ, List, [], ◌∷◌, ◌++◌, ◌+◌, ◌<◌, ◌≤◌, length, get_or, take, sym, ap, subst, ◌∙◌}
use Rattle.std.specs.List.{Contains}
use Rattle.std.proofs.lemmas.List.{take_all, take_more}
use Rattle.std.proofs.lemmas.List.Elements.{Contains-append_cases, Contains-append_left, Contains-append_right}
use Rattle.rules.specs.Database.{Record, HasRecord, IsRemoved}
use Rattle.rules.specs.ElementLaws.{Contains-cons, Contains-head, Contains-nil}
use Rattle.rules.specs.Universe.{Universe}
use Rattle.rules.specs.declared.goal.Goal.{Goal}
use Rattle.rules.specs.declared.goal.Goal.TheVariants as goal
use Rattle.plain.specs.Change.{IsPurgeGoal}
use Rattle.plain.specs.Order.{ArePurges}
use Rattle.fixed_order.specs.Names.{AreAllWith}
use Rattle.fixed_order.specs.Purge.{ArePurgesIn, IsToPurgeBy}
use mathlib.Core.Logic.{inl, inr}

-- one goal more, which asks for the purge of this name
pub purges_more : (db : List Record) (goals : List Goal) (names : List (List ℕ)) (asked : Goal) (name : List ℕ)
    → ArePurgesIn db goals names → IsToPurgeBy db asked name → ArePurgesIn db (goals ++ asked ∷ []) (names ++ name ∷ [])
purges_more db goals names asked name are is other = (
  λ within. elim (Contains-append_cases names (name ∷ []) other within) [
    | inl before ↦ let both = (are other).0 before in (Contains-append_left goals (asked ∷ []) (goal.Purge other) both.0, both.1)
    | inr last ↦ elim (Contains-cons name [] other last) [
      | inl same ↦ (
        Contains-append_right goals (asked ∷ []) (goal.Purge other)
            (subst (λ (n : List ℕ). Contains (asked ∷ []) (goal.Purge n)) same
            (subst (λ (g : Goal). Contains (asked ∷ []) g) is.0 (Contains-head asked []))),
        subst (λ (n : List ℕ). HasRecord IsRemoved n db) same is.1,
      )
      | inr none ↦ absurd (Contains-nil other none)
    ]
  ],
  λ both. elim (Contains-append_cases goals (asked ∷ []) (goal.Purge other) both.0) [
    | inl before ↦ Contains-append_left names (name ∷ []) other ((are other).1 (before, both.1))
    | inr last ↦ elim (Contains-cons asked [] (goal.Purge other) last) [
      | inl same ↦
          let e : goal.Purge name ≡ goal.Purge other = sym is.0 ∙ same in
          let alike : name ≡ other = cc in
          Contains-append_right names (name ∷ []) other (subst (Contains (name ∷ [])) alike (Contains-head name []))
      | inr none ↦ absurd (Contains-nil (goal.Purge other) none)
    ]
  ],
)

-- one goal more, which asks for no purge of a name that is to be purged
pub purges_skip : (db : List Record) (goals : List Goal) (names : List (List ℕ)) (asked : Goal)
    → ArePurgesIn db goals names → ((name : List ℕ) → ¬ IsToPurgeBy db asked name) → ArePurgesIn db (goals ++ asked ∷ []) names
purges_skip db goals names asked are none other = (
  λ within. let both = (are other).0 within in (Contains-append_left goals (asked ∷ []) (goal.Purge other) both.0, both.1),
  λ both. elim (Contains-append_cases goals (asked ∷ []) (goal.Purge other) both.0) [
    | inl before ↦ (are other).1 (before, both.1)
    | inr last ↦ elim (Contains-cons asked [] (goal.Purge other) last) [
      | inl same ↦ absurd (none other (same, both.1))
      | inr nothing ↦ absurd (Contains-nil (goal.Purge other) nothing)
    ]
  ],
)

-- no goals ask for none
pub no_purges : (db : List Record) → ArePurgesIn db [] []
no_purges db other = ((λ within. absurd (Contains-nil other within)), (λ both. absurd (Contains-nil (goal.Purge other) both.0)))

-- in their order they are the purges
pub are_purges : (u : Universe) (db : List Record) (keys names : List (List ℕ)) → ArePurgesIn db u.goals keys
    → AreAllWith (Contains keys) names → ArePurges u db names
unfolding IsPurgeGoal
are_purges u db keys names are all = record {
  by_name = all.ascending;
  each = λ name. ((λ within. (are name).0 ((all.each name).0 within)), (λ goes. (all.each name).1 ((are name).1 goes)));
}

-- one goal more, at a place
pub purges_at_more : (db : List Record) (goals : List Goal) (names more : List (List ℕ)) (asked : Goal) (name : List ℕ) (place : ℕ)
    → place < length goals → asked ≡ get_or goals place asked → ArePurgesIn db (take place goals) names → IsToPurgeBy db asked name
    → more ≡ names ++ name ∷ [] → ArePurgesIn db (take (place + 1) goals) more
purges_at_more db goals names more asked name place within at are is same = subst (λ (ns : List (List ℕ)). ArePurgesIn db (take (place + 1) goals) ns) (sym same)
    (subst (λ (gs : List Goal). ArePurgesIn db gs (names ++ name ∷ [])) (sym (take_more goals place asked within ∙ ap (λ (g : Goal). take place goals ++ g ∷ []) (sym at)))
    (purges_more db (take place goals) names asked name are is))

pub purges_at_skip : (db : List Record) (goals : List Goal) (names more : List (List ℕ)) (asked : Goal) (place : ℕ)
    → place < length goals → asked ≡ get_or goals place asked → ArePurgesIn db (take place goals) names
    → ((name : List ℕ) → ¬ IsToPurgeBy db asked name) → more ≡ names → ArePurgesIn db (take (place + 1) goals) more
purges_at_skip db goals names more asked place within at are none same = subst (λ (ns : List (List ℕ)). ArePurgesIn db (take (place + 1) goals) ns) (sym same)
    (subst (λ (gs : List Goal). ArePurgesIn db gs names) (sym (take_more goals place asked within ∙ ap (λ (g : Goal). take place goals ++ g ∷ []) (sym at)))
    (purges_skip db (take place goals) names asked are none))

-- all goals
pub purges_all : (db : List Record) (goals : List Goal) (names : List (List ℕ)) (place : ℕ) → length goals ≤ place
    → ArePurgesIn db (take place goals) names → ArePurgesIn db goals names
purges_all db goals names place past are = subst (λ (gs : List Goal). ArePurgesIn db gs names) (take_all place goals past) are
