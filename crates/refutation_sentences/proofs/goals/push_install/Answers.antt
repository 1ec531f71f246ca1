-- The words are those of the goal and of what satisfies it.
use Rattle.std.proofs.Common.{◌≡◌, ◌++◌, ◌∙◌, ap, refl, subst}
use Rattle.std.specs.Prelude.{codes}
use Rattle.phrases.specs.Phrases.{wanted_words}
use Rattle.refutation_sentences.specs.GoalCauses.{IsInstallCauseTold}
use Rattle.refutation_sentences.specs.Sentences.{install_of}
use Rattle.refutation_sentences.specs.Words.{satisfying}
use Rattle.rules.specs.Package.{Atom}
use Rattle.refutation_sentences.proofs.GrowLemmas.{by_three}
use Rattle.refutation_sentences.proofs.goals.push_install.Goals as goal

pub returns : goal.returns
returns c =
    let u = c.args.context.now.premises.now in
    let why = c.in_ok-why.why.items in
    let asked = codes "You ask for " in
    let wanted : c.by_goal-wanted.result ≡ install_of c.args.name.now c.args.restriction.now =
    c.by_goal-wanted.ensures ∙ ap (λ name. install_of name c.args.restriction.now) c.as_bytes.ensures.bytes in
    let first : c.extend_from_slice.new.self.items ≡ c.args.text.now.items ++ asked = cc c.in_ok-extend_from_slice.ensures.items in
    let second : c.push_to.new.text.items ≡ c.extend_from_slice.new.self.items ++ wanted_words c.args.name.now c.args.restriction.now =
    c.in_ok-push_to.ensures
    ∙ ap (λ wanted. c.extend_from_slice.new.self.items ++ wanted_words wanted.name wanted.restriction) c.by_goal-wanted.ensures
    ∙ ap (λ name. c.extend_from_slice.new.self.items ++ wanted_words name c.args.restriction.now) c.as_bytes.ensures.bytes in
    let third : c.push_satisfying.new.text.items ≡ c.push_to.new.text.items ++ satisfying u c.args.numbers.now why =
    c.in_ok-push_satisfying.ensures ∙ ap (λ said. c.push_to.new.text.items ++ satisfying u c.args.numbers.now said) c.as_slice.ensures.value in (
      asked ++ (wanted_words c.args.name.now c.args.restriction.now ++ satisfying u c.args.numbers.now why),
      by_three c.args.text.now.items asked (wanted_words c.args.name.now c.args.restriction.now) (satisfying u c.args.numbers.now why) _ _ _ first second third,
      (why, refl, λ none. subst (λ (asked : Atom). IsInstallCauseTold u c.args.context.now.indices.now asked why) wanted (c.in_ok-why.ensures none)),
    )
