-- The text of a version isn't empty.
use Rattle.std.proofs.Common.{sym, ap, ◌∙◌}
use Rattle.std.specs.Option.{option_copied}
use Rattle.providers.proofs.OfferLemmas.{version_in-text}
use Rattle.providers.proofs.offer.text_of.Goals as goal

pub returns-in-Some-clause-value : goal.returns-in-Some-clause-value
returns-in-Some-clause-value c = version_in-text c.text.result.now c.in-Some.version.now c.text.ensures.value c.text.ensures.faultless
    ∙ ap option_copied (sym c.in-Some.is)
