-- The clauses of both fields.
use Rattle.std.proofs.Common.{◌⊎◌, subst, sym}
use Rattle.refutation.specs.Premise.{IsPremise}
use Rattle.refutation.specs.declared.line.Premise.{Premise}
use Rattle.encode.specs.Encoding.{Encoding}
use Rattle.encode.specs.Growing.{Grows, IsDependsOf, IsNeedOf, IsPreDependsOf}
use Rattle.encode.proofs.GrowLemmas.{and_then, in_words}
use Rattle.encode.proofs.NeedLemmas.{both_fields}
use Rattle.encode.proofs.needs.add_needs_of.Goals as goal

pub returns : goal.returns
returns c =
    let Before : Premise → Type 0 = λ reason. IsPremise c.args.facts.now reason × IsPreDependsOf c.args.number reason in
    let Then : Premise → Type 0 = λ reason. IsPremise c.args.facts.now reason × IsDependsOf c.args.number reason in
    let Both : Premise → Type 0 = λ reason. IsPremise c.args.facts.now reason × IsNeedOf c.args.number reason in
    let End : Encoding → Type 0 = λ encoding. Grows c.args.facts.now c.args.encoding.now encoding Both in
    subst End (sym c.end_needs.ensures)
    (in_words c.args.facts.now c.args.encoding.now c.add_depends.new.encoding (λ reason. Before reason ⊎ Then reason) Both
    (both_fields c.args.facts.now c.args.number)
    (and_then c.args.facts.now c.args.encoding.now c.add_pre_depends.new.encoding c.add_depends.new.encoding Before Then
    c.in_ok-add_pre_depends.ensures c.in_ok-add_depends.ensures))
