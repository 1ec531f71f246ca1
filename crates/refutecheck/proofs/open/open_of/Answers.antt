-- One literal more.
use Rattle.std.proofs.Common.{List, sym, subst, take}
use Rattle.std.specs.List.{Contains}
use Rattle.std.proofs.lemmas.List.{take_more, take_all}
use Rattle.refutation.specs.declared.literal.Literal.{Literal}
use Rattle.refutation.specs.declared.literal.Literal.TheVariants as literal
use Rattle.refutecheck.specs.Falses.{IsFalse}
use Rattle.refutecheck.specs.Open.{IsOpenOf}
use Rattle.refutecheck.proofs.open.open_of.Goals as goal

pub loop-literal-preserved : goal.loop-literal-preserved
loop-literal-preserved c =
    let Of : List Literal → Type 0 = λ items. IsOpenOf (IsFalse c.args.falses.now) (Contains items) c.open_with-so_far.result in
    subst Of (sym (take_more c.args.clause.now c.loop-literal.literal-index (literal.Selected 0) c.loop-literal-test.true))
    (c.open_with-so_far.ensures (take c.loop-literal.literal-index c.args.clause.now) c.loop-literal.invariant)

pub returns : goal.returns
returns c =
    let Of : List Literal → Type 0 = λ items. IsOpenOf (IsFalse c.args.falses.now) (Contains items) c.loop-literal.so_far in
    subst Of (take_all c.loop-literal.literal-index c.args.clause.now c.loop-literal-test.false) c.loop-literal.invariant
