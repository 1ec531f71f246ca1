-- One premise, with its clause.
use Rattle.std.proofs.Common.{◌≡◌, subst}
use Rattle.refutation.specs.declared.line.Premise.{Premise}
use Rattle.encode.specs.Basis.{premise_of}
use Rattle.encode.specs.Growing.{Grows}
use Rattle.encode.proofs.AgainstLemmas.{either_list}
use Rattle.encode.proofs.against.add_one.Goals as goal

pub add-requires : goal.add-requires
add-requires c = either_list c.args.facts.now c.args.against c.args.number c.args.other c.in_ok-literals.literals.items c.as_slice.result.now
    (premise_of c.basis_of-basis.result) c.basis_of-basis.ensures c.as_slice.ensures.value c.in_ok-literals.ensures

pub returns : goal.returns
returns c =
    let Of : Premise → Type 0 = λ made. Grows c.args.facts.now c.args.encoding.now c.add.new.self (λ reason. reason ≡ made) in
    subst Of c.basis_of-basis.ensures c.in_ok-add.ensures
