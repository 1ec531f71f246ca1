-- Those so far are premises of the lines with their clauses, and each premise so far has its own.
use Rattle.std.proofs.Common.{take}
use Rattle.std.specs.List.{All, Contains}
use Rattle.refutation.specs.Premise.{IsPremise}
use Rattle.refutation.specs.declared.line.Line.TheVariants as variant
use Rattle.refutation.specs.declared.line.Premise.{Premise}
use Rattle.refutation_sentences.specs.Sentences.{HasBasis, IsBasis}
use Rattle.refutation_sentences.proofs.basis.bases_in.Given as goal

abbrev pub invariant-loop-line : goal.invariant-loop-line
invariant-loop-line l = All (IsBasis l.premises l.lines) l.bases.items
    × ((claim : Premise) → Contains (take l.line-index l.lines) (variant.Premise claim) → IsPremise l.premises claim → HasBasis claim l.bases.items)
