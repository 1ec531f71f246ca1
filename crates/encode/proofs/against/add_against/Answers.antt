-- The premises of the others.
use Rattle.refutation.specs.Premise.{IsPremise}
use Rattle.encode.specs.Against.{IsAgainstBy, IsAgainstEach}
use Rattle.encode.proofs.AgainstLemmas.{each_premise}
use Rattle.encode.proofs.GrowLemmas.{in_words}
use Rattle.encode.proofs.against.add_against.Goals as goal

pub returns : goal.returns
returns c = in_words c.args.facts.now c.args.encoding.now c.add_each.new.encoding (IsAgainstEach c.args.against c.args.number c.as_slice.result.now)
    (λ reason. IsPremise c.args.facts.now reason × IsAgainstBy c.args.against c.args.number reason)
    (each_premise c.args.facts.now c.args.against c.args.number c.in_ok-others.others.items c.as_slice.result.now c.as_slice.ensures.value c.in_ok-others.ensures)
    c.in_ok-add_each.ensures
