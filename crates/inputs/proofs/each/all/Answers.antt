-- Each request is one more.
use Rattle.std.proofs.Common.{arith}
use Rattle.inputs.specs.Each.{further, still}
use Rattle.inputs.proofs.EachLemmas.{all_said, more_said, none_said}
use Rattle.inputs.proofs.each.all.Goals as goal

pub loop-request-init : goal.loop-request-init
loop-request-init g c = record {
  said = λ texts read. none_said _ _ _ c.new-results.ensures.items;
  kept = still;
}

pub returns-in_err-push-clause-kept : goal.returns-in_err-push-clause-kept
returns-in_err-push-clause-kept g c = further c.one-result.result c.loop-request.invariant.kept c.one-result.ensures.kept

pub loop-request-preserved : goal.loop-request-preserved
loop-request-preserved g c = record {
  said = λ texts read. more_said _ c.args.requests.now c.loop-request.request-index _ _ _ _ _ _ _ c.loop-request-test.true c.in_ok-push.ensures.items
      (c.loop-request.invariant.said texts read) (c.one-result.ensures.said texts read);
  kept = further c.one-result.result c.loop-request.invariant.kept c.one-result.ensures.kept;
}

pub returns-clause-said : goal.returns-clause-said
returns-clause-said g c = λ texts read. all_said _ c.args.requests.now c.loop-request.request-index _ _ _ (omega arith) (c.loop-request.invariant.said texts read)
