-- One alternative more.
use Rattle.std.proofs.Common.{List, map, subst, sym, take}
use Rattle.std.specs.List.{AllZip}
use Rattle.std.proofs.lemmas.List.{take_all, take_more}
use Rattle.rules.specs.Package.{Atom}
use Rattle.refutation_sentences.specs.Causes.{IsCauseTold}
use Rattle.refutation_sentences.proofs.CauseLemmas.{cause_more}
use Rattle.refutation_sentences.proofs.needs.each_cause.Goals as goal

pub loop-atom-preserved : goal.loop-atom-preserved
loop-atom-preserved c = cause_more (λ why. why.items) (IsCauseTold c.args.context.now.premises.now c.args.context.now.indices.now) c.args.atoms.now
    c.loop-atom.atom-index c.atom-item.result c.loop-atom.causes.items c.push.new.self.items c.in_ok-atom_cause.field-0
    c.loop-atom-test.true c.atom-item.is c.in_ok-push.ensures.items c.in_ok-atom_cause.ensures c.loop-atom.invariant

pub returns : goal.returns
returns c = subst (λ (atoms : List Atom). AllZip (IsCauseTold c.args.context.now.premises.now c.args.context.now.indices.now) atoms
    (map (λ why. why.items) c.loop-atom.causes.items))
    (take_all c.loop-atom.atom-index c.args.atoms.now c.loop-atom-test.false) c.loop-atom.invariant
