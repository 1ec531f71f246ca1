-- The literals are those of the clause at the place.
use Rattle.std.proofs.Common.{◌≡◌, ℕ, List, subst}
use Rattle.rules.specs.Package.{Atom}
use Rattle.refutation.specs.Clause.{IsListOf}
use Rattle.refutation.specs.Premise.{IsInPremise}
use Rattle.refutation.specs.declared.line.Premise.TheVariants as premise
use Rattle.encode.specs.Growing.{Grows}
use Rattle.encode.specs.Numbers.{IsOutOrMatching}
use Rattle.encode.proofs.LiteralLemmas.{slice_list}
use Rattle.encode.proofs.NeedLemmas.{need_list}
use Rattle.encode.proofs.needs.add_pre_depends_at.Goals as goal

pub add-requires : goal.add-requires
add-requires c =
    let Over : List Atom → Type 0 = λ atoms. IsListOf (IsOutOrMatching c.args.facts.now c.args.number atoms) c.in_ok-literals.literals.items in
    slice_list (IsInPremise c.args.facts.now (premise.PreDepends c.args.number c.in_ok-clause_number.clause_number)) c.in_ok-literals.literals.items
    c.as_slice.result.now c.as_slice.ensures.value
    (need_list c.args.facts.now (λ pkg. pkg.relations.pre_depends) c.args.number c.args.place c.in_ok-clause_number.clause_number c.args.pkg.now
    c.args.clause.now c.in_ok-literals.literals.items c.requires.pkg c.requires.clause c.in_ok-clause_number.ensures
    (subst Over c.as_slice-atoms.ensures c.in_ok-literals.ensures))

pub returns : goal.returns
returns c =
    let Of : ℕ → Type 0 = λ n. Grows c.args.facts.now c.args.encoding.now c.add.new.self (λ reason. reason ≡ premise.PreDepends c.args.number n) in
    subst Of c.in_ok-clause_number.ensures c.in_ok-add.ensures
