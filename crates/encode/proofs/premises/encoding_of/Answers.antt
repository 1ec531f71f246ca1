-- All premises of the universe.
use Rattle.std.proofs.Common.{◌∙◌, subst, sym}
use Rattle.refutation.specs.Premise.{IsPremise}
use Rattle.encode.specs.Encoding.{Encoding}
use Rattle.encode.specs.Growing.{Grows}
use Rattle.encode.proofs.GrowLemmas.{all_grown}
use Rattle.encode.proofs.premises.encoding_of.Goals as goal

pub returns : goal.returns
returns c =
    let Whole : Encoding → Type 0 = λ encoding. Grows c.args.facts.now c.new-encoding.result encoding (IsPremise c.args.facts.now) in
    all_grown c.args.facts.now c.new-encoding.result c.add_wishes.new.encoding c.new-encoding.ensures.premises c.new-encoding.ensures.clauses
    c.new-encoding.ensures.opened (c.new-encoding.ensures.numbers ∙ c.in_ok-count.ensures)
    (subst Whole (sym c.in_ok-add_wishes.ensures) c.in_ok-add_premises.ensures)
