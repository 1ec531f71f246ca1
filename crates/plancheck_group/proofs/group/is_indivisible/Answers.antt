-- A group of one name has no proper part, and of another the law says where it has one.
use Rattle.std.proofs.Common.{◌↔◌, IsTrue, refl, sym, subst}
use Rattle.std.specs.List.{All}
use Rattle.std.proofs.lemmas.Result.{IfOk-weaker}
use Rattle.rules.specs.Configure.{IsIndivisible}
use Rattle.plancheck_group.specs.Part.{HasNoPartWithout, IsPartWith, IsReady}
use Rattle.plancheck_group.proofs.SingleLemmas.{single_is_indivisible}
use Rattle.plancheck_group.proofs.group.is_indivisible.Goals as goal

pub returns-then-names-eq1 : goal.returns-then-names-eq1
returns-then-names-eq1 c = (λ is. single_is_indivisible c.args.db.now c.args.names.now c.if-names-eq1.true, λ whole. refl)

pub has_no_part-requires : goal.has_no_part-requires
has_no_part-requires c = subst (λ ready. IsPartWith (IsReady c.args.db.now) c.args.names.now ready) (sym c.as_slice.ensures.value)
    c.in_ok-ready.ensures

pub returns : goal.returns
returns c = IfOk-weaker c.has_no_part.result
    (λ answer. IsTrue answer ↔ All (HasNoPartWithout c.args.db.now c.args.names.now) c.args.names.now)
    (λ answer. IsTrue answer ↔ IsIndivisible c.args.db.now c.args.names.now)
    (λ answer says. (
      λ passes. (c.indivisible_by_others.ensures c.args.db.now c.args.names.now).1 (says.0 passes),
      λ whole. says.1 ((c.indivisible_by_others.ensures c.args.db.now c.args.names.now).0 whole),
    )) c.has_no_part.ensures
