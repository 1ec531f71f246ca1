-- The lines are those of the refutation.
use Rattle.std.proofs.Common.{List, subst}
use Rattle.std.specs.Prelude.{IfOk}
use Rattle.std.specs.List.{All}
use Rattle.refutation.specs.declared.line.Line.{Line}
use Rattle.refutation_sentences.specs.Sentences.{IsBasis}
use Rattle.refutation_sentences.proofs.basis.bases_of.Goals as goal

pub returns-clause-bases : goal.returns-clause-bases
returns-clause-bases c = subst (λ (lines : List Line). IfOk c.bases_in.result (λ bases. All (IsBasis c.args.premises.now lines) bases.items))
    c.as_slice.ensures c.bases_in.ensures.bases
