-- The words are those of the pairs so far.
use Rattle.std.proofs.Common.{◌≡◌, map, take}
use Rattle.refutation_sentences.specs.Words.{pair_words}
use Rattle.refutation_sentences.proofs.context.Context.each_pair.Given as goal

abbrev pub invariant-loop-number : goal.invariant-loop-number
invariant-loop-number l =
    map (λ item. item.items) l.items.items ≡ map (pair_words l.self.premises.now) (take l.number-index l.numbers)
