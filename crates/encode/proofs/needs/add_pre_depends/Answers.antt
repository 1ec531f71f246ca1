-- One clause more.
use Rattle.std.proofs.Common.{◌≡◌, ◌∙◌, ◌+◌, ℕ, List, Some, ap, length, subst, arith}
use Rattle.std.specs.Prelude.{slice_get}
use Rattle.rules.specs.Package.{Atom}
use Rattle.refutation.specs.Premise.{IsPremise}
use Rattle.refutation.specs.declared.line.Premise.{Premise}
use Rattle.refutation.specs.declared.line.Premise.TheVariants as premise
use Rattle.encode.specs.Growing.{Grows, IsPreDependsOf, IsOfFirst}
use Rattle.encode.proofs.GrowLemmas.{by_first_none, in_words, one_kind_more}
use Rattle.encode.proofs.NeedLemmas.{all_needs}
use Rattle.encode.proofs.NumberLemmas.{there_at}
use Rattle.encode.proofs.needs.add_pre_depends.Goals as goal

pub loop-place-init : goal.loop-place-init
loop-place-init c = by_first_none c.args.facts.now c.args.encoding.now (λ place reason. reason ≡ premise.PreDepends c.args.number (place + 1))

pub loop-place-preserved : goal.loop-place-preserved
loop-place-preserved c = one_kind_more c.args.facts.now c.args.encoding.now c.loop-place.encoding c.add_pre_depends_at.new.encoding
    (λ place reason. reason ≡ premise.PreDepends c.args.number (place + 1)) c.loop-place.place c.loop-place.invariant c.in_ok-add_pre_depends_at.ensures

pub add_pre_depends_at-requires-clause-clause : goal.add_pre_depends_at-requires-clause-clause
add_pre_depends_at-requires-clause-clause c =
    let Of : List (List Atom) → Type 0 = λ xs. slice_get xs c.loop-place.place ≡ Some c.clause-item.result in
    subst Of c.pre_depends-clause-items.ensures (there_at c.pre_depends-clause-items.result.now c.loop-place.place c.clause-item.result c.loop-place-test.true c.clause-item.is)

pub returns : goal.returns
returns c =
    let Kind : ℕ → Premise → Type 0 = λ place reason. reason ≡ premise.PreDepends c.args.number (place + 1) in
    let Over : ℕ → Type 0 = λ count. Grows c.args.facts.now c.args.encoding.now c.loop-place.encoding (IsOfFirst Kind count) in
    in_words c.args.facts.now c.args.encoding.now c.loop-place.encoding (IsOfFirst Kind (length c.args.pkg.now.relations.pre_depends))
    (λ reason. IsPremise c.args.facts.now reason × IsPreDependsOf c.args.number reason)
    (all_needs c.args.facts.now (λ pkg. pkg.relations.pre_depends) (premise.PreDepends c.args.number) c.args.number c.args.pkg.now c.requires
    (λ clause. (λ so. so, λ so. so)))
    (let end : c.loop-place.place ≡ length c.pre_depends-clause-items.result.now = omega arith in
    let count : c.loop-place.place ≡ length c.args.pkg.now.relations.pre_depends = end ∙ ap length c.pre_depends-clause-items.ensures in subst Over count c.loop-place.invariant)
