-- The pieces stand one behind another.
use Rattle.std.proofs.Common.{◌≡◌, ◌++◌, ◌∙◌, ap}
use Rattle.std.specs.Prelude.{codes}
use Rattle.plan_sentences.specs.No.{reason_word}
use Rattle.plan_sentences.proofs.GrowLemmas.{by_five, from_nothing}
use Rattle.plan_sentences.proofs.end.end_text.Goals as goal

pub returns : goal.returns
returns c = λ distinct.
    let word = reason_word c.args.reason.now in
    let said = c.in_ok-said.said.items in
    let first : c.extend_from_slice.new.self.items ≡ c.new-text.result.items ++ codes "The end isn't good (F11 " =
    cc c.in_ok-extend_from_slice.ensures.items in
    let second : c.extend_from_slice-2.new.self.items ≡ c.extend_from_slice.new.self.items ++ word =
    c.in_ok-extend_from_slice-2.ensures.items ∙ ap (λ more. c.extend_from_slice.new.self.items ++ more) c.word_of.ensures in
    let third : c.extend_from_slice-3.new.self.items ≡ c.extend_from_slice-2.new.self.items ++ codes "): " =
    cc c.in_ok-extend_from_slice-3.ensures.items in
    let fourth : c.extend_from_slice-4.new.self.items ≡ c.extend_from_slice-3.new.self.items ++ said =
    c.in_ok-extend_from_slice-4.ensures.items ∙ ap (λ more. c.extend_from_slice-3.new.self.items ++ more) c.as_slice.ensures.value in
    let last : c.extend_from_slice-5.new.self.items ≡ c.extend_from_slice-4.new.self.items ++ codes ".\n" =
    cc c.in_ok-extend_from_slice-5.ensures.items in (
      said,
      c.in_ok-said.ensures distinct,
      from_nothing c.new-text.result.items _ c.extend_from_slice-5.new.self.items c.new-text.ensures.items
          (by_five c.new-text.result.items (codes "The end isn't good (F11 ") word (codes "): ") said (codes ".\n")
          c.extend_from_slice.new.self.items c.extend_from_slice-2.new.self.items c.extend_from_slice-3.new.self.items
          c.extend_from_slice-4.new.self.items c.extend_from_slice-5.new.self.items first second third fourth last),
    )
