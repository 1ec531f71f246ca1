-- One atom more.
use Rattle.std.proofs.Common.{ℕ, ◌+◌, ◌⊎◌, List, get_or, rules, subst, take}
use Rattle.std.specs.Prelude.{◌↔◌}
use Rattle.std.specs.List.{Contains}
use Rattle.std.proofs.lemmas.List.{take_all}
use Rattle.rules.specs.Package.{Atom, Matches, MatchesSome}
use Rattle.refutation.specs.Premise.{PairHas}
use Rattle.encode.specs.Numbers.{AreNumbersOf}
use Rattle.encode.proofs.NumberLemmas.{matches_none, numbers_more, numbers_none, matches_more}
use Rattle.encode.proofs.facts.Facts.matching.Goals as goal

pub loop-atom-init : goal.loop-atom-init
loop-atom-init c = numbers_none c.args.self.now (λ pkg. MatchesSome pkg (take 0 c.args.atoms.now))
    (λ pkg. matches_none pkg c.args.atoms.now) _ (search rules)

pub loop-atom-preserved : goal.loop-atom-preserved
loop-atom-preserved c =
    let Adds : Atom → Type 0 = λ atom. (number : ℕ) → Contains c.insert_matching.new.numbers.keys number
    ↔ (Contains c.loop-atom.numbers.keys number ⊎ PairHas c.args.self.now number (λ pkg. Matches pkg atom)) in
    numbers_more c.args.self.now (λ pkg. MatchesSome pkg (take c.loop-atom.atom-index c.args.atoms.now))
    (λ pkg. Matches pkg (get_or c.args.atoms.now c.loop-atom.atom-index c.atom-item.result))
    (λ pkg. MatchesSome pkg (take (c.loop-atom.atom-index + 1) c.args.atoms.now))
    (λ pkg. matches_more pkg c.args.atoms.now c.loop-atom.atom-index c.atom-item.result c.loop-atom-test.true)
    c.loop-atom.numbers.keys c.insert_matching.new.numbers.keys c.loop-atom.invariant (subst Adds c.atom-item.is c.in_ok-insert_matching.ensures)

pub returns : goal.returns
returns c =
    let Over : List Atom → Type 0 = λ atoms. AreNumbersOf c.args.self.now (λ pkg. MatchesSome pkg atoms) c.loop-atom.numbers.keys in
    subst Over (take_all c.loop-atom.atom-index c.args.atoms.now c.loop-atom-test.false) c.loop-atom.invariant
