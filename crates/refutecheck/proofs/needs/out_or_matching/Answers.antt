-- One atom more.
use Rattle.std.proofs.Common.{◌≡◌, ◌⊎◌, List, [], ◌∷◌, rules, subst, sym}
use Rattle.std.specs.Prelude.{◌↔◌}
use Rattle.std.specs.List.{Contains}
use Rattle.std.proofs.lemmas.List.{take_all}
use Rattle.rules.specs.Package.{Atom, Matches}
use Rattle.refutation.specs.Clause.{IsListOf}
use Rattle.refutation.specs.Premise.{Selects}
use Rattle.refutation.specs.declared.literal.Literal.{Literal}
use Rattle.refutation.specs.declared.literal.Literal.TheVariants as literal
use Rattle.refutecheck.specs.Answer.{IsOutOrMatching}
use Rattle.refutecheck.proofs.AnswerLemmas.{no_atoms, one_atom_more}
use Rattle.refutecheck.proofs.needs.out_or_matching.Goals as goal

pub loop-atom-init : goal.loop-atom-init
loop-atom-init c = λ disjunct.
    let With : List Literal → Type 0 = λ items. Contains items disjunct ↔ IsOutOrMatching c.args.premises.now c.args.number [] disjunct in
    let one : c.push.new.self.items ≡ literal.Unselected c.args.number ∷ [] = search rules in
    subst With (sym one) (no_atoms c.args.premises.now c.args.number disjunct)

pub loop-atom-preserved : goal.loop-atom-preserved
loop-atom-preserved c =
    let Adds : Atom → Type 0 = λ atom. (disjunct : Literal) → Contains c.push_matching.new.literals.items disjunct
    ↔ (Contains c.loop-atom.literals.items disjunct ⊎ Selects c.args.premises.now (λ pkg. Matches pkg atom) disjunct) in
    one_atom_more c.args.premises.now c.args.number c.args.atoms.now c.loop-atom.atom-index c.atom-item.result c.loop-atom-test.true
    (Contains c.loop-atom.literals.items) (Contains c.push_matching.new.literals.items) c.loop-atom.invariant
    (subst Adds c.atom-item.is c.in_ok-push_matching.ensures)

pub returns : goal.returns
returns c =
    let Over : List Atom → Type 0 = λ atoms. IsListOf (IsOutOrMatching c.args.premises.now c.args.number atoms) c.loop-atom.literals.items in
    let All : List Literal → Type 0 = λ literals. IsListOf (IsOutOrMatching c.args.premises.now c.args.number c.args.atoms.now) literals in
    subst All (sym c.new.ensures) (subst Over (take_all c.loop-atom.atom-index c.args.atoms.now c.loop-atom-test.false) c.loop-atom.invariant)
