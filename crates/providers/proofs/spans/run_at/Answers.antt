-- What stands from the one place up to the other are the name's offers; a name that isn't there has none.
use Rattle.std.proofs.Common.{sym, ◌∙◌}
use Rattle.providers.proofs.SpanLemmas.{none_found}
use Rattle.providers.proofs.spans.run_at.Goals as goal

pub between-requires : goal.between-requires
between-requires c =
    let span = c.requires.right c.args.name.now c.in-Some.start c.in-Some.end (sym c.get.ensures.value ∙ sym c.copied.ensures ∙ c.in-Some.is) in
    record { before = span.before; within = span.within }

pub returns-in-Some : goal.returns-in-Some
returns-in-Some c =
    let span = c.requires.right c.args.name.now c.in-Some.start c.in-Some.end (sym c.get.ensures.value ∙ sym c.copied.ensures ∙ c.in-Some.is) in
    c.between.ensures ∙ span.same

pub returns-in-None : goal.returns-in-None
returns-in-None c = none_found c.args.name.now c.args.offers.now c.args.spans.now.entries c.requires.whole
    (sym c.get.ensures.value ∙ sym c.copied.ensures ∙ c.in-None.is)
