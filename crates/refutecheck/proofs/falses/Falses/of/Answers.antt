-- One literal more is false.
use Rattle.refutation.specs.declared.literal.Literal.TheVariants as literal
use Rattle.refutecheck.specs.Falses.{IsFalse}
use Rattle.refutecheck.proofs.FalsesLemmas.{all_in, one_more}
use Rattle.refutecheck.proofs.falses.Falses.of.Goals as goal

pub loop-literal-preserved : goal.loop-literal-preserved
loop-literal-preserved c = one_more (IsFalse c.loop-literal.falses) (IsFalse c.insert.new.self) c.args.literals.now
    c.loop-literal.literal-index (literal.Selected 0) c.loop-literal-test.true c.loop-literal.invariant c.in_ok-insert.ensures

pub returns : goal.returns
returns c = all_in (IsFalse c.loop-literal.falses) c.args.literals.now c.loop-literal.literal-index c.loop-literal-test.false
    c.loop-literal.invariant
