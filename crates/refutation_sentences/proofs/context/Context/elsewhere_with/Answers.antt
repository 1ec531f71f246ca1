-- The stanza, or the one before.
use Rattle.std.proofs.Common.{◌≡◌, ◌∙◌, true, false, sym}
use Rattle.std.specs.Option.{option_copied}
use Rattle.refutation_sentences.specs.Offers.{IsLeftOutProvider}
use Rattle.refutation_sentences.proofs.FoundLemmas.{found_with, found_without}
use Rattle.refutation_sentences.proofs.context.Context.elsewhere_with.Goals as goal

pub returns-then-here : goal.returns-then-here
returns-then-here c = λ earlier so_far. found_with (IsLeftOutProvider c.args.self.now.premises.now c.args.wanted.now) earlier c.args.stanza.now
    c.first_of.result.now (option_copied c.args.before) (c.in_ok-here.ensures.0 c.if-here.true) c.first_of.ensures so_far

pub returns-else-here : goal.returns-else-here
returns-else-here c = λ earlier so_far. found_without (IsLeftOutProvider c.args.self.now.premises.now c.args.wanted.now) earlier c.args.stanza.now
    (option_copied c.args.before) (λ holds. let e : true ≡ false = sym (c.in_ok-here.ensures.1 holds) ∙ c.if-here.false in cc) so_far
