-- The alternatives of the clauses have good versions, since all atoms of the value have.
use Rattle.std.proofs.lemmas.Grind.{common_steps}
use Rattle.std.proofs.Common.{arith}
use Rattle.relation.proofs.GoodVersions.{good_alternatives}
use Rattle.relation.proofs.parse.clauses_of.Goals as goal

pub loop-left-init : goal.loop-left-init
loop-left-init c = record {
  same = grind (arith, common_steps);
  good = good_alternatives c.args.value.now c.requires;
}
