-- The words are those of the goal and of what satisfies it.
use Rattle.std.proofs.Common.{◌≡◌, ◌++◌, ◌∙◌, ℕ, List, ap, refl, subst}
use Rattle.std.specs.Prelude.{codes}
use Rattle.refutation_sentences.specs.GoalCauses.{IsUpgradeCauseTold}
use Rattle.refutation_sentences.specs.Words.{satisfying}
use Rattle.refutation_sentences.proofs.GrowLemmas.{by_three}
use Rattle.refutation_sentences.proofs.goals.push_upgrade.Goals as goal

pub returns : goal.returns
returns c =
    let u = c.args.context.now.premises.now in
    let why = c.in_ok-why.why.items in
    let asked = codes "You ask to upgrade " in
    let first : c.extend_from_slice.new.self.items ≡ c.args.text.now.items ++ asked = cc c.in_ok-extend_from_slice.ensures.items in
    let second : c.extend_from_slice-2.new.self.items ≡ c.extend_from_slice.new.self.items ++ c.args.name.now =
    c.in_ok-extend_from_slice-2.ensures.items ∙ ap (λ name. c.extend_from_slice.new.self.items ++ name) c.as_bytes-2.ensures.bytes in
    let third : c.push_satisfying.new.text.items ≡ c.extend_from_slice-2.new.self.items ++ satisfying u c.args.numbers.now why =
    c.in_ok-push_satisfying.ensures ∙ ap (λ said. c.extend_from_slice-2.new.self.items ++ satisfying u c.args.numbers.now said) c.as_slice.ensures.value in (
      asked ++ (c.args.name.now ++ satisfying u c.args.numbers.now why),
      by_three c.args.text.now.items asked (c.args.name.now) (satisfying u c.args.numbers.now why) _ _ _ first second third,
      (why, refl, λ none. subst (λ (name : List ℕ). IsUpgradeCauseTold u c.args.context.now.indices.now name why) c.as_bytes.ensures.bytes (c.in_ok-why.ensures none)),
    )
