-- The premises of the three kinds.
use Rattle.std.proofs.Common.{◌⊎◌}
use Rattle.refutation.specs.Premise.{IsPremise}
use Rattle.refutation.specs.declared.line.Premise.{Premise}
use Rattle.encode.specs.Against.{IsAgainstBy}
use Rattle.encode.specs.Growing.{IsAgainstOf}
use Rattle.encode.specs.declared.against.Against.{Against}
use Rattle.encode.specs.declared.against.Against.TheVariants as against
use Rattle.encode.proofs.AgainstLemmas.{three_kinds}
use Rattle.encode.proofs.GrowLemmas.{and_then, in_words}
use Rattle.encode.proofs.against.add_against_of.Goals as goal

pub returns : goal.returns
returns c =
    let By : Against → Premise → Type 0 = λ why reason. IsPremise c.args.facts.now reason × IsAgainstBy why c.args.number reason in
    in_words c.args.facts.now c.args.encoding.now c.add_against-3.new.encoding
    (λ reason. (By against.Same reason ⊎ By against.Conflicts reason) ⊎ By against.Breaks reason)
    (λ reason. IsPremise c.args.facts.now reason × IsAgainstOf c.args.number reason) (three_kinds c.args.facts.now c.args.number)
    (and_then c.args.facts.now c.args.encoding.now c.add_against-2.new.encoding c.add_against-3.new.encoding
    (λ reason. By against.Same reason ⊎ By against.Conflicts reason) (By against.Breaks)
    (and_then c.args.facts.now c.args.encoding.now c.add_against.new.encoding c.add_against-2.new.encoding (By against.Same) (By against.Conflicts)
    c.in_ok-add_against.ensures c.in_ok-add_against-2.ensures) c.in_ok-add_against-3.ensures)
