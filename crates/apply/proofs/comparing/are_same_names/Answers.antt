use Rattle.std.proofs.Common.{◌≡◌, length, rules}
use Rattle.apply.proofs.PlanLemmas.{same_more}
use Rattle.apply.proofs.comparing.are_same_names.Goals as goal

pub loop-i-preserved : goal.loop-i-preserved
loop-i-preserved c =
    let same : c.index-left-i.result ≡ c.index-right-i.result = search rules in
    let long : length c.args.left.now ≡ length c.args.right.now = search rules in
    same_more c.args.left.now c.args.right.now c.loop-i.i c.index-left-i.result c.index-right-i.result c.loop-i-test.true long c.index-left-i.is c.index-right-i.is
    same c.loop-i.invariant
