-- All pairs that have the name and all that provide it.
use Rattle.std.proofs.Common.{List, ℕ, subst}
use Rattle.refutation_sentences.specs.Offers.{AreNumbersOf, IsBy}
use Rattle.refutation_sentences.specs.declared.offers.By.TheVariants as by
use Rattle.refutation_sentences.proofs.causes.cause_of_named.Goals as goal

pub returns : goal.returns
returns c = (
  c.requires,
  subst (λ (name : List ℕ). AreNumbersOf c.args.context.now.premises.now (IsBy by.Provides name) c.in_ok-providing.providing.items) c.name-name.ensures
      c.in_ok-providing.ensures,
)
