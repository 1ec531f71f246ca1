-- The loop stops at the first clause that isn't matched.
use Rattle.std.proofs.Common.{List, subst, ◌∙◌}
use Rattle.std.specs.Prelude.{◌↔◌, IsTrue}
use Rattle.rules.specs.Package.{Atom}
use Rattle.plainness.specs.Parts.{IsMatchedByOther}
use Rattle.plainness.proofs.LoopLemmas.{answers_all, answers_one, passed_more}
use Rattle.plainness.proofs.ready.are_matched.Goals as goal

pub returns-then-not-met : goal.returns-then-not-met
returns-then-not-met c =
    let Tells : List Atom → Type 0 = λ clause. IsTrue c.in_ok-met.met ↔ IsMatchedByOther c.args.packages.now c.args.name.now clause in
    answers_one (IsMatchedByOther c.args.packages.now c.args.name.now) c.args.clauses.now c.loop-clause.clause-index c.clause-item.result
    c.in_ok-met.met c.loop-clause-test.true (subst Tells (c.as_slice.ensures ∙ c.clause-item.is) c.in_ok-met.ensures) (cc c.if-not-met.true)

pub loop-clause-preserved : goal.loop-clause-preserved
loop-clause-preserved c =
    let Tells : List Atom → Type 0 = λ clause. IsTrue c.in_ok-met.met ↔ IsMatchedByOther c.args.packages.now c.args.name.now clause in
    passed_more (IsMatchedByOther c.args.packages.now c.args.name.now) c.args.clauses.now c.loop-clause.clause-index c.clause-item.result
    c.in_ok-met.met c.loop-clause-test.true (subst Tells (c.as_slice.ensures ∙ c.clause-item.is) c.in_ok-met.ensures) (cc c.if-not-met.false)
    c.loop-clause.invariant

pub returns : goal.returns
returns c = answers_all (IsMatchedByOther c.args.packages.now c.args.name.now) c.args.clauses.now c.loop-clause.clause-index
    c.loop-clause-test.false c.loop-clause.invariant
