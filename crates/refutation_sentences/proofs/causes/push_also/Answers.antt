-- There is a pair.
use Rattle.std.proofs.Common.{◌≡◌, ◌++◌, List, ℕ, subst, sym}
use Rattle.std.specs.Prelude.{OnOk}
use Rattle.refutation_sentences.proofs.CauseLemmas.{also_some}
use Rattle.refutation_sentences.proofs.causes.push_also.Goals as goal

pub returns-in-len1-up : goal.returns-in-len1-up
returns-in-len1-up c = subst (λ (words : List ℕ). OnOk c.push_further.result (c.push_further.new.text.items ≡ c.args.text.now.items ++ words))
    (sym (also_some c.args.context.now.premises.now c.args.name.now c.args.numbers.now c.in-len1-up.len_at_least)) c.push_further.ensures
