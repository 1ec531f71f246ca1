-- Of a group no part of which passes nothing does without one of its names.
use Rattle.std.proofs.Common.{◌≡◌, true, false, ℕ, List, sym, ap, subst, ◌∙◌}
use Rattle.rules.specs.Configure.{IsGreatestPart, others_of}
use Rattle.fixed_order.proofs.WalkLemmas.{nothing_without}
use Rattle.fixed_order.proofs.configure.part_without.Goals as goal

pub returns-then-whole-clause-part : goal.returns-then-whole-clause-part
returns-then-whole-clause-part c = subst (IsGreatestPart c.args.db.now (others_of c.args.key.now c.args.group.now)) (sym c.new.ensures.items)
    (nothing_without c.args.db.now c.args.group.now c.args.key.now c.requires.within (c.requires.whole c.if-whole.true))

pub returns-clause-part : goal.returns-clause-part
returns-clause-part c = subst (λ (names : List (List ℕ)). IsGreatestPart c.args.db.now names c.in_ok-part.part.items)
    (c.as_slice.ensures.value ∙ c.in_ok-others.ensures ∙ ap (λ (n : List ℕ). others_of n c.args.group.now) c.name.ensures) c.in_ok-part.ensures

pub returns-clause-none : goal.returns-clause-none
returns-clause-none c = λ so. absurd (let e : true ≡ false = sym so ∙ c.if-whole.false in cc)
