-- The loop stops at the first member that isn't ready.
use Rattle.std.proofs.Common.{Bor, subst}
use Rattle.std.specs.Prelude.{◌↔◌, IsTrue}
use Rattle.rules.specs.Package.{Pkg}
use Rattle.plainness.specs.Parts.{IsReadyBy}
use Rattle.plainness.proofs.LoopLemmas.{answers_all, answers_one, passed_more}
use Rattle.plainness.proofs.ready.all_are_ready.Goals as goal

pub returns-then-not-ready : goal.returns-then-not-ready
returns-then-not-ready c =
    let P : Bor Pkg → Type 0 = λ member. IsReadyBy c.args.start.now c.args.staying.now member.now in
    let Tells : Bor Pkg → Type 0 = λ member. IsTrue c.in_ok-ready.ready ↔ P member in
    answers_one P c.args.members.now c.loop-member.member-index c.member-item.result c.in_ok-ready.ready c.loop-member-test.true
    (subst Tells c.member-item.is c.in_ok-ready.ensures) (cc c.if-not-ready.true)

pub loop-member-preserved : goal.loop-member-preserved
loop-member-preserved c =
    let P : Bor Pkg → Type 0 = λ member. IsReadyBy c.args.start.now c.args.staying.now member.now in
    let Tells : Bor Pkg → Type 0 = λ member. IsTrue c.in_ok-ready.ready ↔ P member in
    passed_more P c.args.members.now c.loop-member.member-index c.member-item.result c.in_ok-ready.ready c.loop-member-test.true
    (subst Tells c.member-item.is c.in_ok-ready.ensures) (cc c.if-not-ready.false) c.loop-member.invariant

pub returns : goal.returns
returns c = answers_all (λ (member : Bor Pkg). IsReadyBy c.args.start.now c.args.staying.now member.now) c.args.members.now
    c.loop-member.member-index c.loop-member-test.false c.loop-member.invariant
