-- The lines so far are truthful, where those before are and the atoms are alternatives.
use Rattle.std.proofs.Common.{map}
use Rattle.std.specs.List.{All}
use Rattle.refutation_sentences.specs.Sentences.{HasAlternative, StaysTruthful}
use Rattle.refutation_sentences.proofs.instead.tell_atoms.Given as goal

abbrev pub invariant-loop-atom : goal.invariant-loop-atom
invariant-loop-atom l = StaysTruthful l.context.premises.now l.context.indices.now
    (λ told. All (HasAlternative l.context.premises.now told) l.atoms)
    (map (λ key. key.items) l.initial.lines.keys) (map (λ key. key.items) l.lines.keys)
