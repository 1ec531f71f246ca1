-- The higher one of the stanza and the one before, or the one before.
use Rattle.std.proofs.Common.{◌≡◌, ◌++◌, ◌∷◌, [], ◌∙◌, Some, true, false, subst, sym}
use Rattle.std.specs.Option.{option_copied}
use Rattle.rules.specs.Step.{IndexPackage}
use Rattle.refutation_sentences.specs.Offers.{IsCounted, IsHighestIn}
use Rattle.refutation_sentences.proofs.FoundLemmas.{highest_with, highest_without}
use Rattle.refutation_sentences.proofs.context.Context.highest_with.Goals as goal

pub returns-then-is_counted : goal.returns-then-is_counted
returns-then-is_counted c = λ earlier so_far. subst
    (λ (one : IndexPackage). IsHighestIn (IsCounted c.args.self.now.premises.now c.args.among c.args.wanted.now) (earlier ++ c.args.stanza.now ∷ []) (Some one))
    (sym c.higher_of.ensures)
    (highest_with (IsCounted c.args.self.now.premises.now c.args.among c.args.wanted.now) earlier c.args.stanza.now (option_copied c.args.before)
    (c.is_counted.ensures.0 c.if-is_counted.true) so_far)

pub returns-else-is_counted : goal.returns-else-is_counted
returns-else-is_counted c = λ earlier so_far. highest_without (IsCounted c.args.self.now.premises.now c.args.among c.args.wanted.now) earlier
    c.args.stanza.now (option_copied c.args.before)
    (λ holds. let e : true ≡ false = sym (c.is_counted.ensures.1 holds) ∙ c.if-is_counted.false in cc) so_far
