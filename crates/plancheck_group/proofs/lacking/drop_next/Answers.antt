-- For each name that went what asks for it is looked at.
use Rattle.std.proofs.Common.{ℕ, List, Bor, length, subst, sym}
use Rattle.plancheck_group.specs.Part.{IsDroppedTo}
use Rattle.plancheck_group.proofs.DropLemmas.{drops_begin, drops_through}
use Rattle.plancheck_group.proofs.lacking.drop_next.Goals as goal

pub loop-name-init : goal.loop-name-init
loop-name-init c = subst (λ (items : List (Bor (List ℕ))). IsDroppedTo c.args.db.now c.args.part.now c.args.part.now 0 (length items))
    (sym c.new-next.ensures.items) (drops_begin c.args.db.now c.args.part.now 0)

pub loop-name-preserved : goal.loop-name-preserved
loop-name-preserved c = drops_through c.args.db.now c.args.part.now c.loop-name.part c.drop_asking.new.part 0
    (length c.loop-name.next.items) (length c.drop_asking.new.next.items) c.loop-name.invariant c.in_ok-drop_asking.ensures
