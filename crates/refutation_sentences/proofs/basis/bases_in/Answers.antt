-- One line more, and in the end all.
use Rattle.std.proofs.Common.{List, subst, sym}
use Rattle.std.specs.List.{All, Contains}
use Rattle.std.proofs.lemmas.List.{take_all}
use Rattle.refutation.specs.Premise.{IsPremise}
use Rattle.refutation.specs.declared.line.Line.{Line}
use Rattle.refutation.specs.declared.line.Line.TheVariants as variant
use Rattle.refutation.specs.declared.line.Premise.{Premise}
use Rattle.refutation_sentences.specs.Sentences.{HasBasis, IsBasis}
use Rattle.refutation_sentences.proofs.LineLemmas.{bases_more, no_lines}
use Rattle.refutation_sentences.proofs.basis.bases_in.Goals as goal

pub loop-line-preserved : goal.loop-line-preserved
loop-line-preserved c = (
  c.in_ok-push_basis.ensures.bases c.args.lines.now (c.loop-line.line-index, c.loop-line-test.true, sym c.line-item.is) c.loop-line.invariant.0,
  bases_more c.args.premises.now c.args.lines.now c.loop-line.line-index c.line-item.result c.loop-line.bases.items c.push_basis.new.bases.items
      c.loop-line-test.true c.line-item.is c.in_ok-push_basis.ensures.kept c.in_ok-push_basis.ensures.added c.loop-line.invariant.1,
)

pub returns-clause-all : goal.returns-clause-all
returns-clause-all c = subst (λ (all : List Line). (claim : Premise) → Contains all (variant.Premise claim) → IsPremise c.args.premises.now claim
    → HasBasis claim c.loop-line.bases.items) (take_all c.loop-line.line-index c.args.lines.now c.loop-line-test.false) c.loop-line.invariant.1
