-- The clause at the place is the one that is told.
use Rattle.std.proofs.Common.{◌≡◌, arith, subst}
use Rattle.std.proofs.lemmas.Grind.{common_steps}
use Rattle.std.proofs.lemmas.Option.{get_or_from_slice_get}
use Rattle.std.proofs.lemmas.Result.{IfOk-weaker}
use Rattle.plan_sentences.specs.No.{IsUnmetTold}
use Rattle.plan_sentences.proofs.shown.unmet.Goals as goal

pub returns-in-Some : goal.returns-in-Some
returns-in-Some c = λ distinct. IfOk-weaker c.unmet_clause.result _ _ (λ text told atoms is.
    let same : c.as_slice.result.now ≡ atoms = grind (arith, common_steps, get_or_from_slice_get) in
    subst (λ clause. IsUnmetTold c.args.db.now c.args.pkg.now c.args.field c.args.behind.now clause text.items) same told)
    (c.unmet_clause.ensures distinct)
