-- The loop stops at the first atom that is matched.
use Rattle.std.proofs.Common.{refl, subst}
use Rattle.std.specs.List.{Any}
use Rattle.plainness.specs.Parts.{IsMatchedByOther}
use Rattle.std.proofs.lemmas.List.Elements.{All-more}
use Rattle.plainness.proofs.LoopLemmas.{answers_no, fails, passed_all}
use Rattle.plainness.proofs.PackageLemmas.{IsOtherMatch, IsUnmatched, matched_here, matched_nowhere}
use Rattle.plainness.proofs.packages.Packages.have_match.Goals as goal

pub returns-then-matched : goal.returns-then-matched
returns-then-matched c = (
  λ _. matched_here c.args.self.now c.args.name.now c.args.atoms.now c.loop-atom.atom-index c.atom-item.result c.loop-atom-test.true
      c.atom-item.is (c.in_ok-matched.ensures.0 c.if-matched.true),
  λ _. refl,
)

pub loop-atom-preserved : goal.loop-atom-preserved
loop-atom-preserved c = All-more (IsUnmatched c.args.self.now c.args.name.now) c.args.atoms.now c.loop-atom.atom-index c.atom-item.result
    c.loop-atom-test.true c.loop-atom.invariant (subst (IsUnmatched c.args.self.now c.args.name.now) c.atom-item.is
    (fails (Any (IsOtherMatch c.args.name.now c.atom-item.result) c.args.self.now) c.in_ok-matched.matched c.in_ok-matched.ensures c.if-matched.false))

pub returns : goal.returns
returns c = answers_no (IsMatchedByOther c.args.self.now c.args.name.now c.args.atoms.now)
    (matched_nowhere c.args.self.now c.args.name.now c.args.atoms.now
    (passed_all (IsUnmatched c.args.self.now c.args.name.now) c.args.atoms.now c.loop-atom.atom-index c.loop-atom-test.false c.loop-atom.invariant))
