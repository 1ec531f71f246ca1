-- There are no pairs, or there are some.
use Rattle.std.proofs.Common.{◌≡◌, ◌∙◌, false, sym, true}
use Rattle.refutation_sentences.specs.GoalCauses.{IsInstallCauseTold}
use Rattle.refutation_sentences.proofs.ToldLemmas.{only_if_none}
use Rattle.refutation_sentences.proofs.goals.cause_where_none.Goals as goal

pub returns-then-is_none : goal.returns-then-is_none
returns-then-is_none c = only_if_none c.goal_cause.result c.args.numbers.now
    (λ text. IsInstallCauseTold c.args.context.now.premises.now c.args.context.now.indices.now c.args.wanted.now text.items) c.goal_cause.ensures

pub returns-else-is_none : goal.returns-else-is_none
returns-else-is_none c = λ none. absurd (let e : true ≡ false = sym (c.is_none.ensures.1 none) ∙ c.if-is_none.false in cc)
