-- What is told are the changes.
use Rattle.std.proofs.Common.{◌∙◌, List, ap}
use Rattle.plan_sentences.specs.Told.{Told, text_of}
use Rattle.plan_sentences.proofs.changes.changes_between.Goals as goal

pub returns : goal.returns
returns c = (
  c.in_ok-told.told.items,
  c.in_ok-further.further,
  c.in_ok-told.ensures,
  c.in_ok-text.ensures
      ∙ ap (λ (told : List Told). text_of told c.in_ok-further.further) c.as_slice-4.ensures.value,
)
