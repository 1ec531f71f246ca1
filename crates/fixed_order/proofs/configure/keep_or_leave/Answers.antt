-- The name is kept where none of the others pass, and else left out.
use Rattle.std.proofs.Common.{rules, ◌≡◌, false, true, ℕ, List, sym, subst, ◌∙◌}
use Rattle.std.specs.List.{Contains}
use Rattle.rules.specs.Configure.{IsGreatestPart, IsIndivisible, others_of}
use Rattle.plancheck_group.proofs.PartLemmas.{empty_test}
use Rattle.fixed_order.specs.Walked.{IsWalkedTo}
use Rattle.fixed_order.proofs.BeginningLemmas.{some_from}
use Rattle.fixed_order.proofs.WalkLemmas.{walk_has, walk_without}
use Rattle.fixed_order.proofs.configure.keep_or_leave.Goals as goal

pub part_without-requires-clause-within : goal.part_without-requires-clause-within
part_without-requires-clause-within c = subst (λ (names : List (List ℕ)). Contains names c.args.key.now) (sym c.as_slice.ensures.value) c.requires.within

pub part_without-requires-clause-whole : goal.part_without-requires-clause-whole
part_without-requires-clause-whole c = λ so. subst (IsIndivisible c.args.db.now) (sym c.as_slice.ensures.value) (c.requires.whole so)

pub returns-then-is_empty-clause-walked : goal.returns-then-is_empty-clause-walked
returns-then-is_empty-clause-walked c = λ left walked. subst (λ (kept : List (List ℕ)). IsWalkedTo c.args.db.now left kept c.args.walk.now.group.items)
    (search rules)
    (walk_has c.args.db.now c.args.key.now left c.args.walk.now.kept.items c.args.walk.now.group.items walked c.requires.within
    (subst (IsGreatestPart c.args.db.now (others_of c.args.key.now c.args.walk.now.group.items))
    ((empty_test c.in_ok-part.part.items c.in_ok-part.part.len (search rules)).0 (sym c.is_empty.ensures ∙ c.if-is_empty.true))
    (subst (λ (names : List (List ℕ)). IsGreatestPart c.args.db.now (others_of c.args.key.now names) c.in_ok-part.part.items)
    c.as_slice.ensures.value c.in_ok-part.ensures.part)))

pub returns-then-is_empty-clause-whole : goal.returns-then-is_empty-clause-whole
returns-then-is_empty-clause-whole c = c.requires.whole

pub returns-clause-walked : goal.returns-clause-walked
returns-clause-walked c = λ left walked. walk_without c.args.db.now c.args.key.now left c.args.walk.now.kept.items c.args.walk.now.group.items walked
    c.in_ok-part.part.items c.requires.within
    (subst (λ (names : List (List ℕ)). IsGreatestPart c.args.db.now (others_of c.args.key.now names) c.in_ok-part.part.items)
    c.as_slice.ensures.value c.in_ok-part.ensures.part)
    (some_from c.in_ok-part.part.items (λ empty. absurd (let e : false ≡ true = sym c.if-is_empty.false ∙ c.is_empty.ensures
    ∙ (empty_test c.in_ok-part.part.items c.in_ok-part.part.len (search rules)).1 empty in cc)))

pub returns-clause-whole : goal.returns-clause-whole
returns-clause-whole c = λ so. absurd (let e : false ≡ true = sym c.if-is_empty.false ∙ c.is_empty.ensures
    ∙ (empty_test c.in_ok-part.part.items c.in_ok-part.part.len (search rules)).1 (c.in_ok-part.ensures.none so) in cc)
