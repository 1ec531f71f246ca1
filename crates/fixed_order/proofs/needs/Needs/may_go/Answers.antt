-- What is needed still may not go.
use Rattle.std.proofs.Common.{◌≡◌, true, false}
use Rattle.fixed_order.proofs.NeedLemmas.{allowed_unneeded}
use Rattle.fixed_order.proofs.needs.Needs.may_go.Goals as goal

pub returns-then-is_still_needed : goal.returns-then-is_still_needed
returns-then-is_still_needed c = (
  (λ so. absurd (let e : false ≡ true = so in cc)),
  (λ allowed. absurd (c.is_still_needed.ensures c.if-is_still_needed.true
      (allowed_unneeded c.args.universe.now c.args.db.now c.args.name.now allowed))),
)
