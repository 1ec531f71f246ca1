-- The greatest part without the name, or where it is empty the group.
use Rattle.std.proofs.Common.{rules, ◌≡◌, true, false, sym, ◌∙◌}
use Rattle.plancheck_group.proofs.PartLemmas.{empty_test}
use Rattle.rules.specs.Configure.{IsGreatestPart}
use Rattle.std.proofs.Common.{List, ℕ, subst}
use Rattle.forward_steps.proofs.GroupLemmas.{narrowed_part, narrowed_whole, some_from}
use Rattle.forward_steps.specs.Group.{AreOthersOf}
use Rattle.forward_steps.proofs.group.part_without.Goals as goal

pub returns-then-is_empty : goal.returns-then-is_empty
returns-then-is_empty c = narrowed_whole c.args.db.now c.args.name.now c.args.group.items c.in_ok-others.others.items c.in_ok-part.part.items
    (subst (λ (names : List (List ℕ)). AreOthersOf names c.args.name.now c.in_ok-others.others.items) c.as_slice.ensures.value c.in_ok-others.ensures)
    (subst (λ (names : List (List ℕ)). IsGreatestPart c.args.db.now names c.in_ok-part.part.items) c.as_slice-2.ensures.value c.in_ok-part.ensures)
    ((empty_test c.in_ok-part.part.items c.in_ok-part.part.len (search rules)).0 (sym c.is_empty.ensures ∙ c.if-is_empty.true))
    c.requires.some c.requires.passes

pub returns-else-is_empty : goal.returns-else-is_empty
returns-else-is_empty c = narrowed_part c.args.db.now c.args.name.now c.args.group.items c.in_ok-others.others.items c.in_ok-part.part.items
    (subst (λ (names : List (List ℕ)). AreOthersOf names c.args.name.now c.in_ok-others.others.items) c.as_slice.ensures.value c.in_ok-others.ensures)
    (subst (λ (names : List (List ℕ)). IsGreatestPart c.args.db.now names c.in_ok-part.part.items) c.as_slice-2.ensures.value c.in_ok-part.ensures)
    (some_from c.in_ok-part.part.items (λ empty. absurd (let e : false ≡ true = sym c.if-is_empty.false ∙ c.is_empty.ensures
    ∙ (empty_test c.in_ok-part.part.items c.in_ok-part.part.len (search rules)).1 empty in cc)))
