-- There are no pairs, or there are some.
use Rattle.std.proofs.Common.{◌≡◌, ◌∙◌, false, sym, true}
use Rattle.refutation_sentences.proofs.ToldLemmas.{only_if_none}
use Rattle.refutation_sentences.proofs.needs.causes_where_none.Goals as goal
use Rattle.refutation_sentences.specs.Causes.{AreCausesTold}

pub returns-then-is_none : goal.returns-then-is_none
returns-then-is_none c = only_if_none c.causes_of.result (c.args.numbers.now)
    (λ text. AreCausesTold c.args.context.now.premises.now c.args.context.now.indices.now c.args.atoms.now text.items) c.causes_of.ensures

pub returns-else-is_none : goal.returns-else-is_none
returns-else-is_none c = λ none. absurd (let e : true ≡ false = sym (c.is_none.ensures.1 none) ∙ c.if-is_none.false in cc)
