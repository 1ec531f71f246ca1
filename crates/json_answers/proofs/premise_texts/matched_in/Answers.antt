-- The atoms before the first one that is matched, and those behind it.
use Rattle.std.proofs.Common.{arith, drop, subst, suc, take}
use Rattle.std.proofs.lemmas.List.{take_all}
use Rattle.std.specs.List.{All}
use Rattle.json_answers.proofs.ListLemmas.{cut_at}
use Rattle.json_answers.proofs.premise_texts.matched_in.Goals as goal
use Rattle.rules.specs.Package.{Matches}

pub returns-then-matched_by : goal.returns-then-matched_by
returns-then-matched_by c =
    let atoms = c.args.atoms.now in
    let place = c.loop-atom.atom-index in (
      take place atoms,
      drop (suc place) atoms,
      cut_at atoms place c.atom-item.result c.loop-atom-test.true c.atom-item.is,
      c.loop-atom.invariant,
      c.matched_by.ensures.0 c.if-matched_by.true,
    )

pub returns : goal.returns
returns c = subst (All (λ atom. ¬ Matches c.args.pkg.now atom)) (take_all c.loop-atom.atom-index c.args.atoms.now (omega arith))
    c.loop-atom.invariant
