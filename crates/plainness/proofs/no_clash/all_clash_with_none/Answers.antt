-- The loop stops at the first package that clashes.
use Rattle.std.proofs.Common.{Bor, subst}
use Rattle.std.specs.Prelude.{◌↔◌, IsTrue}
use Rattle.rules.specs.Package.{Pkg}
use Rattle.plainness.specs.Parts.{ClashesWithNone}
use Rattle.plainness.proofs.LoopLemmas.{answers_all, answers_one, passed_more}
use Rattle.plainness.proofs.no_clash.all_clash_with_none.Goals as goal

pub returns-then-not-free : goal.returns-then-not-free
returns-then-not-free c =
    let P : Bor Pkg → Type 0 = λ pkg. ClashesWithNone c.args.packages.now pkg.now in
    let Tells : Bor Pkg → Type 0 = λ pkg. IsTrue c.in_ok-free.free ↔ P pkg in
    answers_one P c.args.each.now c.loop-pkg.pkg-index c.pkg-item.result c.in_ok-free.free c.loop-pkg-test.true
    (subst Tells c.pkg-item.is c.in_ok-free.ensures) (cc c.if-not-free.true)

pub loop-pkg-preserved : goal.loop-pkg-preserved
loop-pkg-preserved c =
    let P : Bor Pkg → Type 0 = λ pkg. ClashesWithNone c.args.packages.now pkg.now in
    let Tells : Bor Pkg → Type 0 = λ pkg. IsTrue c.in_ok-free.free ↔ P pkg in
    passed_more P c.args.each.now c.loop-pkg.pkg-index c.pkg-item.result c.in_ok-free.free c.loop-pkg-test.true
    (subst Tells c.pkg-item.is c.in_ok-free.ensures) (cc c.if-not-free.false) c.loop-pkg.invariant

pub returns : goal.returns
returns c = answers_all (λ (pkg : Bor Pkg). ClashesWithNone c.args.packages.now pkg.now) c.args.each.now c.loop-pkg.pkg-index
    c.loop-pkg-test.false c.loop-pkg.invariant
