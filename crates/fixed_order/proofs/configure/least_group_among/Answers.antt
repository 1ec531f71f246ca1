-- The walk begins with all names left, and comes to its end with none.
use Rattle.std.proofs.Common.{◌≡◌, ℕ, ◌+◌, ◌<◌, ◌≤◌, List, [], ◌∷◌, drop, get_or, length, sym, ap, subst, ◌∙◌}
use Rattle.std.proofs.Math.ListN.{drop_of_length-le}
use Rattle.std.proofs.lemmas.List.{drop_more}
use Rattle.rules.specs.Configure.{IsIndivisible}
use Rattle.rules.specs.Database.{Record}
use Rattle.plain.specs.Order.{IsLeastGroup}
use Rattle.plain.specs.Walk.{IsOnWalk}
use Rattle.fixed_order.specs.Walked.{IsFalling, IsWalkedTo}
use Rattle.fixed_order.proofs.WalkLemmas.{least_some, walk_is_over, walk_starts}
use Rattle.fixed_order.proofs.configure.least_group_among.Goals as goal

-- the name at the place is the next that is left
next_left : (db : List Record) (down kept group : List (List ℕ)) (place : ℕ) (name : List ℕ) → place < length down
    → name ≡ get_or down place name → IsWalkedTo db (drop place down) kept group
    → IsWalkedTo db (name ∷ drop (place + 1) down) kept group
next_left db down kept group place name within is walked = subst (λ (left : List (List ℕ)). IsWalkedTo db left kept group)
    (drop_more down place name within ∙ ap (λ (n : List ℕ). n ∷ drop (place + 1) down) (sym is)) walked

-- behind the last one none is left
none_left : (db : List Record) (down kept group : List (List ℕ)) (place : ℕ) → length down ≤ place
    → IsWalkedTo db (drop place down) kept group → IsWalkedTo db [] kept group
none_left db down kept group place past walked = subst (λ (left : List (List ℕ)). IsWalkedTo db left kept group)
    (drop_of_length-le down past) walked

pub loop-key-preserved : goal.loop-key-preserved
loop-key-preserved c = record {
  walked = c.in_ok-walk_on.ensures.walked (drop (c.loop-key.key-index + 1) c.args.down.now)
      (next_left c.args.db.now c.args.down.now c.loop-key.walk.kept.items c.loop-key.walk.group.items c.loop-key.key-index c.key-item.result
      c.loop-key-test.true c.key-item.is c.loop-key.invariant.walked);
  whole = c.in_ok-walk_on.ensures.whole;
}

pub loop-key-init : goal.loop-key-init
loop-key-init c = record {
  walked = subst (λ (kept : List (List ℕ)). IsWalkedTo c.args.db.now c.args.down.now kept c.in_ok-copied.copied.items) (sym c.new.ensures.items)
      (walk_starts c.args.db.now c.args.down.now c.in_ok-copied.copied.items
      (subst (λ (group : List (List ℕ)). IsFalling group c.args.down.now) (sym c.in_ok-copied.ensures) c.requires.falls)
      (subst (IsOnWalk c.args.db.now []) (sym c.in_ok-copied.ensures) c.requires.walk));
  whole = λ so. subst (IsIndivisible c.args.db.now) (sym c.in_ok-copied.ensures) (c.requires.whole so);
}

pub new-requires-2-clause-some : goal.new-requires-2-clause-some
new-requires-2-clause-some c = least_some c.args.problem.now.universe.now c.args.db.now c.loop-key.walk.kept.items c.loop-key.walk.group.items
    (none_left c.args.db.now c.args.down.now c.loop-key.walk.kept.items c.loop-key.walk.group.items c.loop-key.key-index
    c.loop-key-test.false c.loop-key.invariant.walked)

pub returns : goal.returns
returns c = subst (λ (names : List (List ℕ)). IsLeastGroup c.args.problem.now.universe.now c.args.db.now names) (sym c.new-2.ensures)
    (walk_is_over c.args.problem.now.universe.now c.args.db.now c.loop-key.walk.kept.items c.loop-key.walk.group.items
    (none_left c.args.db.now c.args.down.now c.loop-key.walk.kept.items c.loop-key.walk.group.items c.loop-key.key-index
    c.loop-key-test.false c.loop-key.invariant.walked))
