-- The words are those of the cause behind a word.
use Rattle.std.proofs.Common.{◌≡◌, ◌++◌, ◌∙◌, ap}
use Rattle.std.specs.Prelude.{codes}
use Rattle.refutation_sentences.proofs.goals.upgrade_cause.Goals as goal

pub returns : goal.returns
returns c =
    let grown = c.in_ok-push_upgrade_cause.ensures in
    let first : c.extend_from_slice.new.self.items ≡ codes ", but " = cc (c.in_ok-extend_from_slice.ensures.items, c.new-text.ensures.items) in (
      grown.0,
      grown.1 ∙ ap (λ text. text ++ grown.0) first,
      grown.2,
    )
