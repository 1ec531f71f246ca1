-- The words are those of the causes of the alternatives.
use Rattle.std.proofs.Common.{◌≡◌, ◌++◌, ◌∙◌, List, ℕ, ap, map}
use Rattle.refutation_sentences.specs.Causes.{causes_words}
use Rattle.refutation_sentences.proofs.needs.causes_of.Goals as goal

pub returns : goal.returns
returns c =
    let causes = map (λ why. why.items) c.in_ok-causes.causes.items in
    let lent = map (λ why. why.items) c.as_slice.result.now in
    let first : c.push_causes.new.text.items ≡ causes_words lent =
    c.in_ok-push_causes.ensures ∙ ap (λ text. text ++ causes_words lent) c.new-text.ensures.items in (
      causes,
      c.in_ok-causes.ensures,
      first ∙ ap (λ items. causes_words (map (λ why. why.items) items)) c.as_slice.ensures.value,
    )
